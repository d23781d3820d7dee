-- A sink for a short text, and what a call does to it.
use Rattle.std.specs.Prelude.{ℕ, ◌+◌, Bool, List, length, ◌++◌, nat_lt, take}
use Rattle.umix_base.specs.Calls.{counted}

-- the most bytes that such a sink holds
abbrev pub most_text : ℕ
most_text = 280

-- the bytes written, and how often a call has failed
pub record TextInMemory : Type 0 where
  pub bytes : List ℕ
  pub faults : ℕ

-- the next call fails: the piece doesn't fit
abbrev pub overflows : TextInMemory → List ℕ → Bool
overflows s piece = nat_lt most_text (length s.bytes + length piece)

-- the sink after a call, which appends what fits
abbrev pub after_text : TextInMemory → List ℕ → TextInMemory
after_text s piece = record {
  bytes = take most_text (s.bytes ++ piece);
  faults = counted (overflows s piece) s.faults;
}
