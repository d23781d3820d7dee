-- What one cycle takes from the input.
use Rattle.std.proofs.Common.{◌≡◌, ◌≢◌, ℕ, ◌+◌, ◌-◌, ◌^◌, ◌<◌, ◌≤◌, List, [], ◌∷◌, ◌++◌, length, Bool, true, false, Option, Some, None, refl, sym, ap, subst, ◌∙◌, inl, inr, arith, get_or-set_same}
use Rattle.std.specs.Prelude.{if◌then◌else◌, nat_lt, nat_le, ◌==◌, slice_index, slice_get, IfSome, Err}
use Rattle.std.specs.FinMap as map
use Rattle.std.proofs.lemmas.List.{append_assoc}
use Rattle.umix_base.specs.declared.limits.Limits.{Limits}
use Rattle.um_word.specs.declared.op.Op.{Op}
use Rattle.um_word.specs.declared.op.Op.TheVariants.{Move, Index, Amend, Add, Mul, Div, Nand, Halt, Alloc, Abandon, Out, Input, Load, Set}
use Rattle.um_word.specs.Operators.{decode_word}
use Rattle.um_word.specs.State.{State, reg, with_reg, platter}
use Rattle.um_word.specs.Table.{Fault, FingerOutside, BadOperator, Next, Goes, Stops, with_some, within, with_byte, row, moved, cycle, op_under, op_of, quotient}
use Rattle.um_word.specs.Run.{OnGoes, Stands, run_after}
use Rattle.um_word.specs.Rule.{Identifiers, next_identifier, identifiers_left, ruled}
use Rattle.um_machine.specs.declared.stop.Stop.{Stop}
use Rattle.um_machine.specs.declared.stop.Stop.TheVariants.{Halted, Budget, ReadFault, WriteFault, Memory}
use Rattle.um_machine.specs.MachineView.{MachineView}
use Rattle.um_machine.specs.Stops.{unfailed_end, stop_of}
use Rattle.um_machine.specs.Runs.{EndsAs, EndsEarly, Remains, RunEnds, CycleEnds}
use Rattle.um_machine.proofs.Cycles.{next}
use Rattle.um_image.specs.Counting.{bytes_in}
use Rattle.um_image.specs.inner.Inputs.{asked_by, given_by}

-- `TakesBytes`, where each byte took a cycle
pub record Takes (s t : State) (count : ℕ) : Type 0 where
  pub gone : List ℕ
  pub split : s.rest ≡ gone ++ t.rest
  pub given : count ≡ bytes_in gone
  pub cycles : s.cycles + count ≤ t.cycles

-- what the row of an operator keeps of the input and of the cycles
abbrev pub Keeps : Op → State → State → Type 0
Keeps (Input c) s t = t ≡ with_byte c s.rest s
Keeps op s t = (t.rest ≡ s.rest) × (t.cycles ≡ s.cycles)

on_some : {A : Type 0} (o : Option A) (fault : Fault) (go : A → Next) (P : State → Type 0) → ((x : A) → OnGoes (go x) P) → OnGoes (with_some o fault go) P
on_some None fault go P h = tt
on_some (Some x) fault go P h = h x

on_if : (b : Bool) (x y : Next) (P : State → Type 0) → OnGoes x P → OnGoes y P → OnGoes (if b then x else y) P
on_if true x y P f g = f
on_if false x y P f g = g

if_keeps : (b : Bool) (s t u : State) → (s.rest ≡ u.rest) × (s.cycles ≡ u.cycles) → (t.rest ≡ u.rest) × (t.cycles ≡ u.cycles) →
    ((if b then s else t).rest ≡ u.rest) × ((if b then s else t).cycles ≡ u.cycles)
if_keeps true s t u f g = f
if_keeps false s t u f g = g

module _ (L : Limits) (id : ℕ) where
  pub row_keeps : (op : Op) (s : State) → OnGoes (row op L id s) (Keeps op s)
  row_keeps (Move a b c) s = if_keeps (reg s c == 0) s (with_reg s a (reg s b)) s (refl, refl) (refl, refl)
  row_keeps (Index a b c) s = on_some (map.get s.arrays (reg s b)) _ _ (Keeps (Index a b c) s) (λ words. on_some (slice_get words (reg s c)) _ _ (Keeps (Index a b c) s) (λ word. (refl, refl)))
  row_keeps (Amend a b c) s = on_some (map.get s.arrays (reg s a)) _ _ (Keeps (Amend a b c) s) (λ words. on_some (slice_get words (reg s b)) _ _ (Keeps (Amend a b c) s) (λ word. (refl, refl)))
  row_keeps (Add a b c) s = (refl, refl)
  row_keeps (Mul a b c) s = (refl, refl)
  row_keeps (Div a b c) s = on_some (quotient (reg s b) (reg s c)) _ _ (Keeps (Div a b c) s) (λ q. (refl, refl))
  row_keeps (Nand a b c) s = (refl, refl)
  row_keeps Halt s = (refl, refl)
  row_keeps (Alloc b c) s = on_if (nat_le _ L.arrays) _ _ (Keeps (Alloc b c) s) (on_if (nat_le _ L.words) _ _ (Keeps (Alloc b c) s) (refl, refl) tt) tt
  row_keeps (Abandon c) s = on_if (reg s c == 0) _ _ (Keeps (Abandon c) s) tt (on_some (map.get s.arrays (reg s c)) _ _ (Keeps (Abandon c) s) (λ words. (refl, refl)))
  row_keeps (Out c) s = on_if (nat_lt (reg s c) 256) _ _ (Keeps (Out c) s) (refl, refl) tt
  row_keeps (Input c) s = refl
  row_keeps (Load b c) s = on_if (reg s b == 0) _ _ (Keeps (Load b c) s) (refl, refl)
      (on_some (map.get s.arrays (reg s b)) _ _ (Keeps (Load b c) s) (λ words. on_if (nat_le _ L.words) _ _ (Keeps (Load b c) s) (refl, refl) tt))
  row_keeps (Set a value) s = (refl, refl)

-- what an Input takes
byte_takes : (c : ℕ) (rest : List ℕ) (s t u : State) → c < length s.registers → s.rest ≡ rest → u.rest ≡ s.rest → u.cycles + 1 ≡ s.cycles → t ≡ with_byte c rest s →
    Takes u t (given_by (Some c) t.registers)
byte_takes c [] s t u within e r n is =
    let at : slice_index t.registers c ≡ 2 ^ 32 - 1 = ap (λ (v : State). slice_index v.registers c) is ∙ get_or-set_same s.registers c (2 ^ 32 - 1) 0 within in
    record {
      gone = [];
      split = r ∙ e ∙ sym (ap (λ (v : State). v.rest) is ∙ e);
      given = ap (λ x. if nat_lt x 256 then 1 else 0) at;
      cycles = (let a = ap (λ (v : State). v.cycles) is in let b = ap {B = ℕ} (λ x. if nat_lt x 256 then 1 else 0) at in omega (arith, a, b, n));
    }
byte_takes c (b ∷ rest) s t u within e r n is =
    let at : slice_index t.registers c ≡ b = ap (λ (v : State). slice_index v.registers c) is ∙ get_or-set_same s.registers c b 0 within in
    record {
      gone = b ∷ [];
      split = r ∙ e ∙ ap (λ xs. b ∷ xs) (sym (ap (λ (v : State). v.rest) is));
      given = ap (λ x. if nat_lt x 256 then 1 else 0) at ∙ (let z : (if nat_lt b 256 then 1 else 0) ≡ (if nat_lt b 256 then 1 else 0) + 0 = omega arith in z);
      cycles = (let a = ap (λ (v : State). v.cycles) is in let k = small (nat_lt (slice_index t.registers c) 256) in omega (arith, a, k, n));
    }
  where
    small : (x : Bool) → ◌≤◌ (if x then 1 else 0) 1
    small true = omega arith
    small false = omega arith

pub same_goes : (s t : State) → Goes s ≡ Goes t → s ≡ t
same_goes s t e = let h : Goes s ≡ Goes t = e in cc

op_takes : (L : Limits) (id : ℕ) (op : Op) (u t : State) → row op L id (moved u) ≡ Goes t →
    IfSome (asked_by (Some op)) (λ c. c < length u.registers) → Takes u t (given_by (asked_by (Some op)) t.registers)
op_takes L id (Input c) u t e within =
    byte_takes c u.rest (moved u) t u within refl refl refl (sym (same_goes (with_byte c u.rest (moved u)) t e))
op_takes L id op u t e within =
    let k = subst (λ r. OnGoes r (Keeps op (moved u))) e (row_keeps L id op (moved u)) in
    record { gone = []; split = sym k.0; given = refl; cycles = (let n = k.1 in omega (arith, n)) }

pub cycle_takes : (L : Limits) (id : ℕ) (u t : State) → cycle u L id ≡ Goes t →
    IfSome (asked_by (op_under u)) (λ c. c < length u.registers) → Takes u t (given_by (asked_by (op_under u)) t.registers)
cycle_takes L id u t e within = by_platter (platter u) e within
  where
    by_op : (o : Option Op) → with_some o BadOperator (λ op. row op L id (moved u)) ≡ Goes t → IfSome (asked_by o) (λ c. c < length u.registers) →
        Takes u t (given_by (asked_by o) t.registers)
    by_op None e within = absurd (let h : Stops BadOperator ≡ Goes t = e in cc)
    by_op (Some op) e within = op_takes L id op u t e within

    by_platter : (o : Option ℕ) → with_some o FingerOutside (λ word. with_some (decode_word word) BadOperator (λ op. row op L id (moved u))) ≡ Goes t →
        IfSome (asked_by (op_of o)) (λ c. c < length u.registers) → Takes u t (given_by (asked_by (op_of o)) t.registers)
    by_platter None e within = absurd (let h : Stops FingerOutside ≡ Goes t = e in cc)
    by_platter (Some word) e within = by_op (decode_word word) e within

pub not_budget : (fault : Fault) → Budget ≡ stop_of fault → ⊥
not_budget FingerOutside e = cc
not_budget _ e = cc

pub not_halted : (fault : Fault) → Halted ≡ stop_of fault → ⊥
not_halted FingerOutside e = cc
not_halted _ e = cc

-- a cycle that ended without a fault went on by the table
pub one_goes : (L : Limits) (i : Identifiers) (s t : State) (new : MachineView) (stop : Stop) → s.halted ≡ false →
    ((fault : Fault) → stop ≡ stop_of fault → ⊥) → EndsAs (ruled L 1 i s) new t stop → cycle s L (next_identifier i) ≡ Goes t
one_goes L i s t new stop running sound e =
    go (cycle s L (next_identifier i)) refl (subst (λ x. EndsAs x new t stop) (next L 0 i s (cycle s L (next_identifier i)) running refl) e)
  where
    go : (r : Next) → cycle s L (next_identifier i) ≡ r → EndsAs (run_after r s i (ruled L 0 (identifiers_left s i))) new t stop → cycle s L (next_identifier i) ≡ Goes t
    go (Goes u) q x = q ∙ ap Goes x.0
    go (Stops fault) q x = absurd (sound fault x.2)

pub none_taken : (s t : State) → t.rest ≡ s.rest → t.cycles ≡ s.cycles → Takes s t 0
none_taken s t r n = record { gone = []; split = sym r; given = refl; cycles = omega (arith, n) }

pub bytes_in-append : (xs ys : List ℕ) → bytes_in (xs ++ ys) ≡ bytes_in xs + bytes_in ys
bytes_in-append [] ys = let e : bytes_in ys ≡ 0 + bytes_in ys = omega arith in e
bytes_in-append (x ∷ xs) ys =
    ap (λ n. (if nat_lt x 256 then 1 else 0) + n) (bytes_in-append xs ys) ∙ grouped (if nat_lt x 256 then 1 else 0) (bytes_in xs) (bytes_in ys)
  where
    grouped : (a b c : ℕ) → a + (b + c) ≡ (a + b) + c
    grouped a b c = omega arith

-- what is taken one after the other
pub takes_more : (s u t : State) (n m : ℕ) → Takes s u n → Takes u t m → Takes s t (n + m)
takes_more s u t n m a b = record {
  gone = a.gone ++ b.gone;
  split = a.split ∙ ap (λ xs. a.gone ++ xs) b.split ∙ sym (append_assoc a.gone b.gone t.rest);
  given = (λ i. a.given i + b.given i) ∙ sym (bytes_in-append a.gone b.gone);
  cycles = (let x = a.cycles in let y = b.cycles in omega (arith, x, y));
}

early_rest : (stop : Stop) (u next t : State) → Remains stop u next t → (t.rest ≡ u.rest) × (t.cycles ≡ u.cycles)
early_rest WriteFault u next t (inl e) = (ap (λ (s : State). s.rest) e, ap (λ (s : State). s.cycles) e)
early_rest WriteFault u next t (inr e) = (ap (λ (s : State). s.rest) e, ap (λ (s : State). s.cycles) e)
early_rest _ u next t e = (ap (λ (s : State). s.rest) e, ap (λ (s : State). s.cycles) e)

early_takes : (old new : MachineView) (s t : State) (stop : Stop) → EndsEarly 1 old new s t stop → Takes s t 0
early_takes old new s t stop e =
    let few = e.fewer in
    let none : e.made ≡ 0 = omega (arith, few) in
    let stands : Stands s old.identifiers ≡ Stands e.at new.identifiers = ap (λ k. ruled old.limits k old.identifiers s) (sym none) ∙ e.stands in
    let same : s ≡ e.at = cc in
    let r = early_rest stop e.at e.next t e.remains in
    none_taken s t (r.0 ∙ ap (λ (v : State). v.rest) (sym same)) (r.1 ∙ ap (λ (v : State). v.cycles) (sym same))

-- a cycle that met a fault of the table took nothing
fault_takes : (L : Limits) (i : Identifiers) (s t : State) (new : MachineView) (stop : Stop) → s.halted ≡ false → stop ≢ Halted → stop ≢ Budget →
    EndsAs (ruled L 1 i s) new t stop → Takes s t 0
fault_takes L i s t new stop running a b e =
    go (cycle s L (next_identifier i)) (subst (λ x. EndsAs x new t stop) (next L 0 i s (cycle s L (next_identifier i)) running refl) e)
  where
    neither : (h : Bool) → stop ≡ unfailed_end h → ⊥
    neither true q = a q
    neither false q = b q

    go : (r : Next) → EndsAs (run_after r s i (ruled L 0 (identifiers_left s i))) new t stop → Takes s t 0
    go (Goes u) x = absurd (neither t.halted x.2)
    go (Stops fault) x = none_taken s t (ap (λ (v : State). v.rest) (sym x.0)) (ap (λ (v : State). v.cycles) (sym x.0))

-- how a cycle that failed ended
pub failed_takes : (old new : MachineView) (s t : State) (stop : Stop) → s.halted ≡ false → CycleEnds old new s t (Err stop) → Takes s t 0
failed_takes old new s t Halted running e = absurd e
failed_takes old new s t Budget running e = absurd e
failed_takes old new s t ReadFault running e = early_takes old new s t ReadFault e
failed_takes old new s t WriteFault running e = early_takes old new s t WriteFault e
failed_takes old new s t Memory running e = early_takes old new s t Memory e
failed_takes old new s t stop running e = fault_takes old.limits old.identifiers s t new stop running (λ q. let h = q in cc) (λ q. let h = q in cc) e

pub failed_ends : (old new : MachineView) (s t : State) (stop : Stop) → CycleEnds old new s t (Err stop) → RunEnds 1 old new s t stop × (stop ≢ Budget)
failed_ends old new s t Halted e = absurd e
failed_ends old new s t Budget e = absurd e
failed_ends old new s t stop e = (e, λ q. let h = q in cc)
