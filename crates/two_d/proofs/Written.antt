-- What a sink has received of lines that are written from the last to the first.
use Rattle.std.specs.Prelude.{◌≡◌, ◌<◌, ℕ, suc, List, [], ◌∷◌, ◌++◌, length, take, drop, Option, All, reverse}
use Rattle.std.specs.List.{flat_map}
use Rattle.std.proofs.Common.{refl, sym, ap, ◌∙◌, arith, get_or}
use Rattle.std.proofs.lemmas.Grind.{flat_map-append}
use Rattle.std.proofs.lemmas.List.{append_assoc, append-nil, take-append-drop, reverse-append}
use Rattle.std.proofs.Math.Seq.{drop-cons}
use Rattle.codex_values.specs.Writing.{HasWritten, HasWrittenPart}
use Rattle.codex_values.proofs.Written.{part_between}
use Rattle.codex_values.proofs.PieceLemmas.{written-append, written_part, written_nothing}

-- The lines of callers that are written from the last of a list to its first: those of the rest are left.
pub record IsWriting {X : Type 0} (text : X → List ℕ) (all rest : List X) (old new : Option (List ℕ)) : Type 0 where
  pub done : List ℕ
  pub whole : done ++ flat_map text (reverse rest) ≡ flat_map text (reverse all)
  pub written : HasWritten done old new

pub reverse_last : {X : Type 0} (all rest : List X) (x : X) → all ≡ rest ++ x ∷ [] → reverse all ≡ x ∷ reverse rest
reverse_last all rest x is = ap reverse is ∙ reverse-append rest (x ∷ [])

module _ {X : Type 0} (text : X → List ℕ) (all before rest : List X) (x : X) (is : before ≡ rest ++ x ∷ []) (old mid new : Option (List ℕ)) (h : IsWriting text all before old mid) where
  next : h.done ++ (text x ++ flat_map text (reverse rest)) ≡ flat_map text (reverse all)
  next = ap (λ l. h.done ++ flat_map text l) (sym (reverse_last before rest x is)) ∙ h.whole

  pub writing_more : HasWritten (text x) mid new → IsWriting text all rest old new
  writing_more f = record {
    done = h.done ++ text x;
    whole = append_assoc h.done (text x) (flat_map text (reverse rest)) ∙ next;
    written = written-append old mid new h.done (text x) h.written f;
  }

  pub writing_part : HasWrittenPart (text x) mid new → HasWrittenPart (flat_map text (reverse all)) old new
  writing_part f = part_between old mid new h.done (text x) (flat_map text (reverse rest)) (flat_map text (reverse all)) next h.written f

pub writing_begun : {X : Type 0} (text : X → List ℕ) (all : List X) (t : Option (List ℕ)) → IsWriting text all all t t
writing_begun text all t = record { done = []; whole = refl; written = written_nothing t }

pub writing_done : {X : Type 0} (text : X → List ℕ) (all : List X) (old new : Option (List ℕ)) → IsWriting text all [] old new → HasWritten (flat_map text (reverse all)) old new
writing_done text all old new h = rw (← h.whole, append-nil) h.written

-- what holds of each of a list holds of each but the last
pub All-rest : {X : Type 0} (P : X → Type 0) (before rest : List X) (x : X) → before ≡ rest ++ x ∷ [] → All P (reverse before) → All P (reverse rest)
All-rest P before rest x is all =
    let turned : All P (x ∷ reverse rest) = rw (reverse_last before rest x is) at all in
    λ k d lt. turned (suc k) d (omega arith)
