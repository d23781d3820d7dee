-- The places so far follow the code.
use Rattle.std.specs.Prelude.{◌≡◌, ◌+◌, ◌++◌, map, take}
use Rattle.lower_link.proofs.printer.printer.Given as goal

abbrev pub invariant-loop-place : goal.invariant-loop-place
invariant-loop-place l = l.draft.words.items ≡ l.initial.draft.words.items ++ map (λ place. l.first + place) (take l.place-index l.place-items)
