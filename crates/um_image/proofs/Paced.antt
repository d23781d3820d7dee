-- A run takes no more bytes than it makes cycles.
use Rattle.std.proofs.Common.{◌≡◌, ℕ, zero, suc, ◌+◌, ◌≤◌, List, [], ◌∷◌, length, Bool, true, false, Option, Some, None, refl, sym, ap, subst, ◌∙◌, inl, inr, arith}
use Rattle.std.specs.Prelude.{if◌then◌else◌, nat_lt}
use Rattle.std.proofs.lemmas.Bool.{cases_Bool}
use Rattle.std.proofs.lemmas.List.{length-append}
use Rattle.umix_base.specs.declared.limits.Limits.{Limits}
use Rattle.um_word.specs.declared.op.Op.{Op}
use Rattle.um_word.specs.declared.op.Op.TheVariants.{Input}
use Rattle.um_word.specs.Operators.{decode_word}
use Rattle.um_word.specs.State.{State, platter}
use Rattle.um_word.specs.Table.{FingerOutside, BadOperator, Next, Goes, Stops, with_some, with_byte, row, moved, cycle}
use Rattle.um_word.specs.Run.{OnGoes, Stands, Failed, run_after}
use Rattle.um_word.specs.Rule.{Identifiers, next_identifier, identifiers_left, ruled}
use Rattle.um_machine.proofs.Cycles.{next, stays}
use Rattle.um_image.specs.Counting.{TakesBytes, bytes_in}
use Rattle.um_image.proofs.Taking.{Keeps, row_keeps, same_goes}

-- the cycles made and the bytes left, together, never get fewer
abbrev pub IsPaced : State → State → Type 0
IsPaced s t = s.cycles + length s.rest ≤ t.cycles + length t.rest

same_paced : (s t : State) → s ≡ t → IsPaced s t
same_paced s t e = let a = ap (λ (v : State). v.cycles) e in let b = ap (λ (v : State). length v.rest) e in omega (arith, a, b)

byte_paced : (c : ℕ) (rest : List ℕ) (s t u : State) → s.rest ≡ rest → u.rest ≡ s.rest → u.cycles + 1 ≡ s.cycles → t ≡ with_byte c rest s → IsPaced u t
byte_paced c [] s t u e r n is =
    let a = ap (λ (v : State). v.cycles) is in let b = ap (λ (v : State). length v.rest) is in let d = ap length r in omega (arith, a, b, d, n)
byte_paced c (x ∷ rest) s t u e r n is =
    let a = ap (λ (v : State). v.cycles) is in let b = ap (λ (v : State). length v.rest) is in
    let d = ap length r in let f = ap length e in omega (arith, a, b, d, f, n)

op_paced : (L : Limits) (id : ℕ) (op : Op) (u t : State) → row op L id (moved u) ≡ Goes t → IsPaced u t
op_paced L id (Input c) u t e = byte_paced c u.rest (moved u) t u refl refl refl (sym (same_goes (with_byte c u.rest (moved u)) t e))
op_paced L id op u t e =
    let k = subst (λ r. OnGoes r (Keeps op (moved u))) e (row_keeps L id op (moved u)) in
    let a = ap length k.0 in let b = k.1 in omega (arith, a, b)

cycle_paced : (L : Limits) (id : ℕ) (u t : State) → cycle u L id ≡ Goes t → IsPaced u t
cycle_paced L id u t e = by_platter (platter u) e
  where
    by_op : (o : Option Op) → with_some o BadOperator (λ op. row op L id (moved u)) ≡ Goes t → IsPaced u t
    by_op None e = absurd (let h : Stops BadOperator ≡ Goes t = e in cc)
    by_op (Some op) e = op_paced L id op u t e

    by_platter : (o : Option ℕ) → with_some o FingerOutside (λ word. with_some (decode_word word) BadOperator (λ op. row op L id (moved u))) ≡ Goes t → IsPaced u t
    by_platter None e = absurd (let h : Stops FingerOutside ≡ Goes t = e in cc)
    by_platter (Some word) e = by_op (decode_word word) e

one_paced : (L : Limits) (n : ℕ) (i : Identifiers) (s t : State) (j : Identifiers) →
    ((k : Identifiers) (u : State) → ruled L n k u ≡ Stands t j → IsPaced u t) →
    (r : Next) → cycle s L (next_identifier i) ≡ r → run_after r s i (ruled L n (identifiers_left s i)) ≡ Stands t j → IsPaced s t
one_paced L n i s t j again (Goes u) q x =
    let a = cycle_paced L (next_identifier i) s u q in let b = again (identifiers_left s i) u x in omega (arith, a, b)
one_paced L n i s t j again (Stops fault) q x = absurd (let h : Failed s i fault ≡ Stands t j = x in cc)

stood : (s t : State) (i j : Identifiers) → Stands s i ≡ Stands t j → s ≡ t
stood s t i j e = let h : Stands s i ≡ Stands t j = e in cc

pub run_paced : (L : Limits) (n : ℕ) (i : Identifiers) (s t : State) (j : Identifiers) → ruled L n i s ≡ Stands t j → IsPaced s t
run_paced L zero i s t j e = same_paced s t (stood s t i j e)
run_paced L (suc n) i s t j e =
    let again : (k : Identifiers) (u : State) → ruled L n k u ≡ Stands t j → IsPaced u t = λ k u x. run_paced L n k u t j x in
    elim (cases_Bool s.halted) as (λ _. IsPaced s t) [
      | inl halted ↦ same_paced s t (stood s t i j (sym (stays L (suc n) i s halted) ∙ e))
      | inr running ↦
          one_paced L n i s t j again (cycle s L (next_identifier i)) refl
          (sym (next L n i s (cycle s L (next_identifier i)) running refl) ∙ e)
    ]

at_most_one : (x : Bool) → ◌≤◌ (if x then 1 else 0) 1
at_most_one true = omega arith
at_most_one false = omega arith

few_bytes : (xs : List ℕ) → bytes_in xs ≤ length xs
few_bytes [] = omega arith
few_bytes (x ∷ xs) = let a = few_bytes xs in let b = at_most_one (nat_lt x 256) in omega (arith, a, b)

-- each byte that was taken took a cycle
pub bytes_took_cycles : (s t : State) (count : ℕ) → IsPaced s t → TakesBytes s t count → s.cycles + count ≤ t.cycles
bytes_took_cycles s t count paced takes =
    let a = ap length takes.split in let b = length-append takes.gone t.rest in let c = takes.given in let d = few_bytes takes.gone in
    omega (arith, paced, a, b, c, d)
