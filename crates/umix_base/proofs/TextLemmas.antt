-- What a text is after a piece.
use Rattle.std.proofs.Common.{◌≡◌, ℕ, ◌+◌, ◌-◌, ◌<◌, ◌≤◌, true, false, List, ◌++◌, length, take, refl, ap, sym, ◌∙◌, arith}
use Rattle.std.proofs.lemmas.Bool.{le-ltb, lt-ltb}
use Rattle.std.proofs.lemmas.List.{take_all, length-append}
use Rattle.std.proofs.Math.Seq.{take-append-add}
use Rattle.umix_base.specs.Calls.{one_more}
use Rattle.umix_base.specs.TextInMemory.{TextInMemory, overflows, after_text}

abbrev pub shown : List ℕ → ℕ → TextInMemory
shown bytes faults = record { bytes = bytes; faults = faults }

-- a piece that fits is appended
pub text-fits : (bytes piece : List ℕ) (faults : ℕ) → length bytes + length piece ≤ 280 → shown (bytes ++ piece) faults ≡ after_text (shown bytes faults) piece
text-fits bytes piece faults le =
    rw (le-ltb 280 (length bytes + length piece) le, take_all 280 (bytes ++ piece) (omega (arith, length-append bytes piece))) refl

-- of another one, what fits
pub text-overflows : (bytes piece : List ℕ) (faults room : ℕ) → length bytes + room ≡ 280 → room < length piece → shown (bytes ++ take room piece) (one_more faults) ≡ after_text (shown bytes faults) piece
text-overflows bytes piece faults room e lt =
    rw (lt-ltb 280 (length bytes + length piece) (omega arith)) (ap (λ b. shown b (one_more faults)) (sym (take-append-add bytes piece room) ∙ ap (λ n. take n (bytes ++ piece)) e))
