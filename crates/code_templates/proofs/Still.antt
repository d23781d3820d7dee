-- Arrays that stand still.
use Rattle.std.proofs.Common.{◌≡◌, ◌≢◌, ℕ, zero, suc, List, [], ◌∷◌, Some, None, Contains, refl, sym, ap, subst, ◌∙◌, arith}
use Rattle.std.specs.FinMap as map
use Rattle.um_word.specs.State.{Arrays}
use Rattle.um_word.specs.Leads.{IsNew}
use Rattle.um_word.proofs.Arrays.{get-insert_other}
use Rattle.code_templates.specs.Lines.{StandStill}

-- of these, those that stand there are among more
abbrev pub Covers : (more : List ℕ) → Arrays → (but : List ℕ) → Type 0
Covers more m but = (id : ℕ) (words : List ℕ) → map.get m id ≡ Some words → Contains but id → Contains more id

pub covers_same : (but : List ℕ) (m : Arrays) → Covers but m but
covers_same but m id words there c = c

pub covers_none : (more : List ℕ) (m : Arrays) → Covers more m []
covers_none more m id words there c = absurd (omega (arith, c.1))

-- what doesn't stand there need not be named
pub covers_new : (more : List ℕ) (m : Arrays) (id : ℕ) (but : List ℕ) → IsNew m id → Covers more m but → Covers more m (id ∷ but)
covers_new more m id but new h q words there (zero, lt, e) = let none : Some words ≡ None = sym there ∙ ap (map.get m) (sym e) ∙ new.absent in cc
covers_new more m id but new h q words there (suc k, lt, e) = h q words there (k, omega (arith, lt), e)

pub still : (but : List ℕ) (m : Arrays) → StandStill but m m
still but m id words out there = there

pub still_join : (more but : List ℕ) (m n o : Arrays) → Covers more m but → StandStill more m n → StandStill but n o → StandStill more m o
still_join more but m n o covers first second id words out there = second id words (λ c. out (covers id words there c)) (first id words out there)

pub still_wider : (more but : List ℕ) (m n : Arrays) → Covers more m but → StandStill but m n → StandStill more m n
still_wider more but m n covers h = still_join more but m m n covers (still more m) h

-- the array may be amended: it is not array 0, and if it stood there, it is named
pub record MayAmend (but : List ℕ) (m : Arrays) (id : ℕ) : Type 0 where
  pub not_zero : id ≢ 0
  pub is_named : (words : List ℕ) → map.get m id ≡ Some words → Contains but id

pub named : {id : ℕ} {but : List ℕ} {m : Arrays} → id ≢ 0 → MayAmend (id ∷ but) m id
named not_zero = record { not_zero = not_zero; is_named = λ words e. (0, omega arith, refl) }

pub fresh : {id : ℕ} {but : List ℕ} {m : Arrays} → IsNew m id → MayAmend but m id
fresh {id = id} {but = but} {m = m} new = record {
  not_zero = new.not_zero;
  is_named = λ words e. let none : Some words ≡ None = sym e ∙ new.absent in cc;
}

pub still_amended : (but : List ℕ) (m n : Arrays) (id : ℕ) (words : List ℕ) → MayAmend but m id → StandStill but m n → StandStill but m (map.insert n id words)
still_amended but m n id words may h q ws out there =
    get-insert_other n id words q (λ e. out (subst (Contains but) (sym e) (may.is_named ws (subst (λ k. map.get m k ≡ Some ws) e there)))) ∙ h q ws out there

pub still_allocated : (but : List ℕ) (m n : Arrays) (id : ℕ) (words : List ℕ) → IsNew n id → StandStill but m n → StandStill but m (map.insert n id words)
still_allocated but m n id words new h q ws out there =
    let same = h q ws out there in
    get-insert_other n id words q (λ e. let none : Some ws ≡ None = sym same ∙ ap (map.get n) e ∙ new.absent in cc) ∙ same
