-- Legal identifiers of n + m cycles.
use Rattle.std.proofs.Common.{◌≡◌, ℕ, zero, suc, ◌+◌, Bool, true, false, List, refl, sym, ◌∙◌, arith}
use Rattle.std.specs.Prelude.{◌↔◌, if◌then◌else◌}
use Rattle.std.proofs.lemmas.Bool.{true≢false}
use Rattle.umix_base.specs.declared.limits.Limits.{Limits}
use Rattle.um_word.specs.State.{State}
use Rattle.um_word.specs.Table.{Next, Goes, Stops, cycle}
use Rattle.um_word.specs.Run.{Standing, Stands, run_after, run, first_of, ids_left, OnGoes, TakesLegal, AreLegal}
use Rattle.um_word.specs.EveryRun.{WhereStands, LegalSplits}

module _ (L : Limits) where
  -- what is left after n cycles is legal for m
  abbrev Later : ℕ → Standing (List ℕ) → Type 0
  Later m standing = WhereStands standing (λ t left. AreLegal L m left t)

  abbrev Splits : (n m : ℕ) → List ℕ → State → Type 0
  Splits n m ids s = AreLegal L (n + m) ids s ↔ (AreLegal L n ids s × Later m (run L n ids s))

  abbrev Next_ : ℕ → List ℕ → State → Next → Type 0
  Next_ n ids s next = OnGoes next (λ t. TakesLegal ids s × AreLegal L n (ids_left s ids) t)

  halted_legal : (n : ℕ) (ids : List ℕ) (s : State) → s.halted ≡ true → AreLegal L n ids s
  halted_legal zero ids s e = tt
  halted_legal (suc n) ids s e = λ running. absurd (true≢false (sym e ∙ running))

  by_next : (n m : ℕ) (ids : List ℕ) (s : State) (next : Next) → ((t : State) → Splits n m (ids_left s ids) t) →
      Next_ (n + m) ids s next ↔ (Next_ n ids s next × Later m (run_after next s ids (run L n (ids_left s ids))))
  by_next n m ids s (Goes t) again =
      let h = again t in (λ p. let q = h.0 p.1 in ((p.0, q.0), q.1), λ p. (p.0.0, h.1 (p.0.1, p.1)))
  by_next n m ids s (Stops fault) again = (λ p. (tt, tt), λ p. tt)

  by_halt : (n m : ℕ) (ids : List ℕ) (s : State) (b : Bool) → s.halted ≡ b → ((t : State) → Splits n m (ids_left s ids) t) →
      (s.halted ≡ false → Next_ (n + m) ids s (cycle s L (first_of ids)))
      ↔ ((s.halted ≡ false → Next_ n ids s (cycle s L (first_of ids)))
      × Later m (if b then Stands s ids else run_after (cycle s L (first_of ids)) s ids (run L n (ids_left s ids))))
  by_halt n m ids s true e again =
      (λ h. (λ running. absurd (true≢false (sym e ∙ running)), halted_legal m ids s e), λ p running. absurd (true≢false (sym e ∙ running)))
  by_halt n m ids s false e again =
      let next = by_next n m ids s (cycle s L (first_of ids)) again in
      (λ h. let p = next.0 (h e) in (λ running. p.0, p.1), λ p running. next.1 (p.0 running, p.1))

  splits : (n m : ℕ) (ids : List ℕ) (s : State) → Splits n m ids s
  splits zero m ids s = let e : 0 + m ≡ m = omega arith in rw e (λ h. (tt, h), λ p. p.1)
  splits (suc n) m ids s =
      let e : suc n + m ≡ suc (n + m) = omega arith in
      rw e (by_halt n m ids s s.halted refl (λ t. splits n m (ids_left s ids) t))

pub legal_splits : LegalSplits
legal_splits L n m ids s = splits L n m ids s
