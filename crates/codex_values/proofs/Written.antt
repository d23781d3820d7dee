-- What a sink has received of texts that are written one after another.
use Rattle.std.specs.Prelude.{◌≡◌, ◌<◌, ℕ, suc, List, [], ◌++◌, length, take, drop, Option}
use Rattle.std.specs.List.{flat_map}
use Rattle.std.proofs.Common.{sym, ap, ◌∙◌, get_or}
use Rattle.std.proofs.lemmas.Grind.{flat_map-append}
use Rattle.std.proofs.lemmas.List.{append_assoc, append-nil, take-append-drop}
use Rattle.std.proofs.Math.Seq.{drop-cons}
use Rattle.codex_values.specs.Writing.{HasWritten, HasWrittenPart}
use Rattle.codex_values.proofs.PieceLemmas.{written-append, written_part}

-- a prefix of a text in the middle, behind what goes before it
pub part_between : (old mid new : Option (List ℕ)) (before piece rest all : List ℕ) → before ++ (piece ++ rest) ≡ all →
    HasWritten before old mid → HasWrittenPart piece mid new → HasWrittenPart all old new
part_between old mid new before piece rest all is e (k, within, f) =
    written_part all (before ++ take k piece) (drop k piece ++ rest) old new whole (written-append old mid new before (take k piece) e f)
  where
    whole : (before ++ take k piece) ++ (drop k piece ++ rest) ≡ all
    whole = append_assoc before (take k piece) (drop k piece ++ rest)
        ∙ (ap (λ l. before ++ l) (sym (append_assoc (take k piece) (drop k piece) rest) ∙ ap (λ l. l ++ rest) (take-append-drop k piece)) ∙ is)

-- a prefix of the last of two texts
pub part_behind : (old mid new : Option (List ℕ)) (before piece : List ℕ) → HasWritten before old mid → HasWrittenPart piece mid new → HasWrittenPart (before ++ piece) old new
part_behind old mid new before piece e f = part_between old mid new before piece [] (before ++ piece) (ap (λ l. before ++ l) (append-nil piece)) e f

-- the pieces before one of them, it, and those after it are all
pub pieces_around : {X : Type 0} (text : X → List ℕ) (pieces : List X) (i : ℕ) (d : X) → i < length pieces →
    flat_map text (take i pieces) ++ (text (get_or pieces i d) ++ flat_map text (drop (suc i) pieces)) ≡ flat_map text pieces
pieces_around text pieces i d lt =
    ap (λ xs. flat_map text (take i pieces) ++ flat_map text xs) (sym (drop-cons pieces i d lt))
    ∙ sym (flat_map-append text (take i pieces) (drop i pieces))
    ∙ ap (flat_map text) (take-append-drop i pieces)
