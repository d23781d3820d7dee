-- A sink in memory, and what a call does to it.
use Rattle.std.specs.Prelude.{if◌then◌else◌, ℕ, ◌+◌, Bool, ◌||◌, List, length, ◌++◌, nat_lt}
use Rattle.umix_base.specs.Calls.{one_more, counted, is_failing}

-- the bytes written, how many there may be, the numbers of the calls that fail, the next call's
-- number, and how often one has failed
pub record SinkInMemory : Type 0 where
  pub bytes : List ℕ
  pub room : ℕ
  pub fails : List ℕ
  pub calls : ℕ
  pub faults : ℕ

-- the next call fails: its number says so, or the piece doesn't fit
abbrev pub fails_put : SinkInMemory → List ℕ → Bool
fails_put s piece = is_failing s.fails s.calls || nat_lt s.room (length s.bytes + length piece)

-- the sink after a call
abbrev pub after_put : SinkInMemory → List ℕ → SinkInMemory
after_put s piece = record s {
  bytes = if fails_put s piece then s.bytes else s.bytes ++ piece;
  calls = one_more s.calls;
  faults = counted (fails_put s piece) s.faults;
}
