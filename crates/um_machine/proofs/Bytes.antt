-- What a sink may be taken to hold after a byte.
use Rattle.std.proofs.Common.{◌≡◌, ◌≤◌, ℕ, zero, suc, List, [], ◌∷◌, ◌++◌, Option, Some, None, refl, ap, ◌∙◌, ◌⊎◌, inl, inr, length, take}
use Rattle.std.specs.Prelude.{option_map}
use Rattle.std.proofs.lemmas.List.{append-nil}
use Rattle.um_machine.specs.Outside.{MayHold}

pub held_more : (now before : Option (List ℕ)) (held piece : List ℕ) → MayHold before held → now ≡ option_map (λ b. b ++ piece) before → MayHold now (held ++ piece)
held_more None before held piece t e = tt
held_more (Some x) None held piece t e = cc
held_more (Some x) (Some y) held piece t e = let h : x ≡ y ++ piece = cc in h ∙ ap (λ b. b ++ piece) t

none_more : (o : Option (List ℕ)) → option_map (λ b. b ++ []) o ≡ o
none_more None = refl
none_more (Some x) = ap Some (append-nil x)

-- of one byte, it went out or it didn't
pub held_one : (before now : Option (List ℕ)) (held : List ℕ) (c : ℕ) → MayHold before held →
    (k : ℕ) × (k ≤ length (c ∷ [])) × (now ≡ option_map (λ b. b ++ take k (c ∷ [])) before) → (now ≡ before) ⊎ MayHold now (held ++ c ∷ [])
held_one before now held c t (zero, _, e) = inl (e ∙ none_more before)
held_one before now held c t (suc zero, _, e) = inr (held_more now before held (c ∷ []) t e)
held_one before now held c t (suc (suc k), _, e) = inr (held_more now before held (c ∷ []) t e)
