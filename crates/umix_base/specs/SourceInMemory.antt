-- A source in memory, and what a call does to it.
use Rattle.std.specs.Prelude.{if◌then◌else◌, ℕ, Bool, List, drop}
use Rattle.umix_base.specs.Calls.{one_more, counted, is_failing}

-- the bytes still to come, the numbers of the calls that fail, the next call's number, and how often one has failed
pub record SourceInMemory : Type 0 where
  pub rest : List ℕ
  pub fails : List ℕ
  pub calls : ℕ
  pub faults : ℕ

-- the next call fails
abbrev pub fails_next : SourceInMemory → Bool
fails_next s = is_failing s.fails s.calls

-- the source after a call
abbrev pub after_next : SourceInMemory → SourceInMemory
after_next s = record s {
  rest = if fails_next s then s.rest else drop 1 s.rest;
  calls = one_more s.calls;
  faults = counted (fails_next s) s.faults;
}
