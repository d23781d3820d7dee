-- States stay well formed.
use Rattle.std.proofs.Common.{◌≡◌, ◌≢◌, ℕ, zero, suc, ◌+◌, ◌-◌, ◌*◌, ◌/◌, ◌%◌, ◌^◌, ◌<◌, ◌≤◌, Bool, true, false, List, [], ◌∷◌, ◌++◌, replicate, Some, refl, sym, ap, subst, ◌∙◌, inl, inr, arith}
use Rattle.std.specs.Prelude.{if◌then◌else◌, nat_lt, ◌==◌, unwrap_or, slice_get, slice_index, slice_set, bit_and}
use Rattle.std.specs.Ordering.{nat_cmp}
use Rattle.std.specs.FinMap as map
use Rattle.std.proofs.lemmas.Bool.{cases_eq}
use Rattle.std.proofs.lemmas.List.{length-set, length-replicate}
use Rattle.umix_base.specs.declared.limits.Limits.{Limits}
use Rattle.um_word.specs.declared.op.Op.{Op}
use Rattle.um_word.specs.declared.op.Op.TheVariants.{Move, Index, Amend, Add, Mul, Div, Nand, Halt, Alloc, Abandon, Out, Input, Load, Set}
use Rattle.um_word.specs.Operators.{operators, decode_word}
use Rattle.um_word.specs.State.{State, Arrays, array_at, reg, with_reg, with_array, platter, IsWellFormed}
use Rattle.um_word.specs.Table.{FingerOutside, BadOperator, IndexInactive, IndexOutside, AmendInactive, AmendOutside, AbandonInactive, AbandonZero, LoadInactive, DivideByZero, OutputTooLarge, ArraysFull, WordsFull, Next, Goes, Stops, with_some, within, with_byte, row, moved, cycle, quotient, arrays_after_allocation, words_after_allocation, words_after_load}
use Rattle.um_word.specs.Run.{OnGoes}
use Rattle.um_word.specs.EveryRun.{AreWords, StartsAreFormed, CyclesKeepForm}
use Rattle.um_word.proofs.Arrays.{get-insert_same, get-insert_other}
use Rattle.um_word.proofs.Live.{get-remove_same, get-remove_other}
use Rattle.um_word.proofs.Rules.{on_some, on_if, on_within}

set_words : (xs : List ℕ) (k v : ℕ) → AreWords xs → v < 2 ^ 32 → AreWords (slice_set xs k v)
set_words [] k v all fits j = all j
set_words (x ∷ xs) zero v all fits zero = fits
set_words (x ∷ xs) zero v all fits (suc j) = all (suc j)
set_words (x ∷ xs) (suc k) v all fits zero = all zero
set_words (x ∷ xs) (suc k) v all fits (suc j) = set_words xs k v (λ i. all (suc i)) fits j

zeros : (n k : ℕ) → slice_index (replicate n 0) k ≡ 0
zeros zero k = refl
zeros (suc n) zero = refl
zeros (suc n) (suc k) = zeros n k

zero_words : (n : ℕ) → AreWords (replicate n 0)
zero_words n k = let e = zeros n k in omega (arith, e)

no_words : AreWords []
no_words k = omega arith

at_word : (words : List ℕ) (k word : ℕ) → AreWords words → slice_get words k ≡ Some word → word < 2 ^ 32
at_word [] k word all e = cc
at_word (x ∷ xs) zero word all e = let same : x ≡ word = cc in subst (λ n. n < 2 ^ 32) same (all zero)
at_word (x ∷ xs) (suc k) word all e = at_word xs k word (λ i. all (suc i)) e

-- platters of 32 bits in every array
abbrev AreArrays : Arrays → Type 0
AreArrays arrays = (id : ℕ) → AreWords (array_at arrays id)

put_words : (arrays : Arrays) (id : ℕ) (words : List ℕ) → AreArrays arrays → AreWords words → AreArrays (map.insert arrays id words)
put_words arrays id words all fits q = elim (cases_eq q id) as (λ _. AreWords (array_at (map.insert arrays id words) q)) [
  | inl same ↦ subst AreWords (sym (ap (array_at (map.insert arrays id words)) same ∙ ap (λ o. unwrap_or o []) (get-insert_same arrays id words))) fits
  | inr ne ↦ subst AreWords (sym (ap (λ o. unwrap_or o []) (get-insert_other arrays id words q ne))) (all q)
]

drop_words : (arrays : Arrays) (id : ℕ) → AreArrays arrays → AreArrays (map.remove arrays id)
drop_words arrays id all q = elim (cases_eq q id) as (λ _. AreWords (array_at (map.remove arrays id) q)) [
  | inl same ↦ subst AreWords (sym (ap (array_at (map.remove arrays id)) same ∙ ap (λ o. unwrap_or o []) (get-remove_same arrays id))) no_words
  | inr ne ↦ subst AreWords (sym (ap (λ o. unwrap_or o []) (get-remove_other arrays id q ne))) (all q)
]

there : (arrays : Arrays) (id : ℕ) (words : List ℕ) → AreArrays arrays → map.get arrays id ≡ Some words → AreWords words
there arrays id words all e = subst AreWords (ap (λ o. unwrap_or o []) e) (all id)

abbrev HasZero : Arrays → Type 0
HasZero arrays = (words : List ℕ) × (map.get arrays 0 ≡ Some words)

put_zero : (arrays : Arrays) (id : ℕ) (words : List ℕ) → HasZero arrays → HasZero (map.insert arrays id words)
put_zero arrays id words z = elim (cases_eq 0 id) as (λ _. HasZero (map.insert arrays id words)) [
  | inl same ↦ (words, ap (map.get (map.insert arrays id words)) same ∙ get-insert_same arrays id words)
  | inr ne ↦ (z.0, get-insert_other arrays id words 0 ne ∙ z.1)
]

-- what a well formed state and its input have
record Formed (s : State) : Type 0 where
  form : IsWellFormed s
  input : AreWords s.rest

formed_reg : (s : State) (a v : ℕ) → v < 2 ^ 32 → Formed s → Formed (with_reg s a v)
formed_reg s a v fits f = record {
  form = record {
    eight = length-set s.registers a v ∙ f.form.eight;
    registers = set_words s.registers a v f.form.registers fits;
    zero_there = f.form.zero_there;
    platters = f.form.platters;
  };
  input = f.input;
}

formed_array : (s : State) (id : ℕ) (words : List ℕ) → AreWords words → Formed s → Formed (with_array s id words)
formed_array s id words fits f = record {
  form = record {
    eight = f.form.eight;
    registers = f.form.registers;
    zero_there = put_zero s.arrays id words f.form.zero_there;
    platters = put_words s.arrays id words f.form.platters fits;
  };
  input = f.input;
}

formed_with : (s : State) (finger cycles : ℕ) (halted : Bool) (out : List ℕ) → Formed s → Formed (record s { finger = finger; cycles = cycles; halted = halted; out = out })
formed_with s finger cycles halted out f = record {
  form = record { eight = f.form.eight; registers = f.form.registers; zero_there = f.form.zero_there; platters = f.form.platters };
  input = f.input;
}

formed_if : (b : Bool) (s t : State) → Formed s → Formed t → Formed (if b then s else t)
formed_if true s t f g = f
formed_if false s t f g = g

formed_byte : (c : ℕ) (bytes : List ℕ) (s : State) → s.rest ≡ bytes → Formed s → Formed (with_byte c bytes s)
formed_byte c [] s e f = formed_reg s c (2 ^ 32 - 1) (omega arith) f
formed_byte c (byte ∷ rest) s e f =
    let input : AreWords (byte ∷ rest) = subst AreWords e f.input in
    formed_reg (record s { rest = rest }) c byte (input 0) (record {
      form = record { eight = f.form.eight; registers = f.form.registers; zero_there = f.form.zero_there; platters = f.form.platters };
      input = λ k. input (suc k);
    })

quotient_fits : (x y q : ℕ) → x < 2 ^ 32 → quotient x y ≡ Some q → q < 2 ^ 32
quotient_fits x zero q fits e = cc
quotient_fits x (suc y) q fits e = let same : x / suc y ≡ q = cc in let less : x / suc y ≤ x = omega arith in omega (arith, same, less, fits)

-- what an operator holds that a register gets
abbrev Holds : Op → Type 0
Holds (Set a value) = value < 2 ^ 32
Holds _ = Unit {0}

abbrev Each : List Op → Type 0
Each [] = Unit {0}
Each (op ∷ ops) = Holds op × Each ops

each_at : (ops : List Op) (k : ℕ) (op : Op) → Each ops → slice_get ops k ≡ Some op → Holds op
each_at [] k op all e = cc
each_at (x ∷ ops) zero op all e = let same : x ≡ op = cc in subst Holds same all.0
each_at (x ∷ ops) (suc k) op all e = each_at ops k op all.1 e

decoded_holds : (w : ℕ) (op : Op) → decode_word w ≡ Some op → Holds op
decoded_holds w op e =
    let fits : w % 2 ^ 25 < 2 ^ 32 = omega arith in
    each_at (operators (w / 2 ^ 6 % 8) (w / 2 ^ 3 % 8) (w % 8) (w / 2 ^ 25 % 8) (w % 2 ^ 25)) (w / 2 ^ 28) op
    (tt, (tt, (tt, (tt, (tt, (tt, (tt, (tt, (tt, (tt, (tt, (tt, (tt, (fits, tt)))))))))))))) e

module _ (L : Limits) (id : ℕ) (small : id < 2 ^ 32) where
  row_formed : (op : Op) (s : State) → Holds op → Formed s → OnGoes (row op L id s) Formed
  row_formed (Move a b c) s h f = formed_if (reg s c == 0) s (with_reg s a (reg s b)) f (formed_reg s a (reg s b) (f.form.registers b) f)
  row_formed (Index a b c) s h f =
      on_some (map.get s.arrays (reg s b)) IndexInactive (λ words. with_some (slice_get words (reg s c)) IndexOutside (λ word. Goes (with_reg s a word))) Formed (λ words e.
      on_some (slice_get words (reg s c)) IndexOutside (λ word. Goes (with_reg s a word)) Formed (λ word g.
      formed_reg s a word (at_word words (reg s c) word (there s.arrays (reg s b) words f.form.platters e) g) f))
  row_formed (Amend a b c) s h f =
      let new : List ℕ → Next = λ words. Goes (with_array s (reg s a) (slice_set words (reg s b) (reg s c))) in
      on_some (map.get s.arrays (reg s a)) AmendInactive (λ words. with_some (slice_get words (reg s b)) AmendOutside (λ _. new words)) Formed (λ words e.
      on_some (slice_get words (reg s b)) AmendOutside (λ _. new words) Formed (λ word g.
      formed_array s (reg s a) (slice_set words (reg s b) (reg s c))
      (set_words words (reg s b) (reg s c) (there s.arrays (reg s a) words f.form.platters e) (f.form.registers c)) f))
  row_formed (Add a b c) s h f = formed_reg s a ((reg s b + reg s c) % 2 ^ 32) (omega arith) f
  row_formed (Mul a b c) s h f = formed_reg s a (reg s b * reg s c % 2 ^ 32) (omega arith) f
  row_formed (Div a b c) s h f =
      on_some (quotient (reg s b) (reg s c)) DivideByZero (λ q. Goes (with_reg s a q)) Formed (λ q e.
      formed_reg s a q (quotient_fits (reg s b) (reg s c) q (f.form.registers b) e) f)
  row_formed (Nand a b c) s h f = formed_reg s a (2 ^ 32 - 1 - bit_and (reg s b) (reg s c)) (omega arith) f
  row_formed Halt s h f = formed_with s s.finger s.cycles true s.out f
  row_formed (Alloc b c) s h f =
      on_within L.arrays (arrays_after_allocation s) ArraysFull (within L.words (words_after_allocation s (reg s c)) WordsFull (Goes (with_reg (with_array s id (replicate (reg s c) 0)) b id))) Formed (λ room.
      on_within L.words (words_after_allocation s (reg s c)) WordsFull (Goes (with_reg (with_array s id (replicate (reg s c) 0)) b id)) Formed (λ fits.
      formed_reg (with_array s id (replicate (reg s c) 0)) b id small (formed_array s id (replicate (reg s c) 0) (zero_words (reg s c)) f)))
  row_formed (Abandon c) s h f =
      let gone : Next = Goes (record s { arrays = map.remove s.arrays (reg s c) }) in
      on_if (reg s c == 0) (Stops AbandonZero) (with_some (map.get s.arrays (reg s c)) AbandonInactive (λ _. gone)) Formed (λ e. tt) (λ ne.
      on_some (map.get s.arrays (reg s c)) AbandonInactive (λ _. gone) Formed (λ words e. record {
        form = record {
          eight = f.form.eight;
          registers = f.form.registers;
          zero_there = (f.form.zero_there.0, get-remove_other s.arrays (reg s c) 0 (not_zero (reg s c) ne) ∙ f.form.zero_there.1);
          platters = drop_words s.arrays (reg s c) f.form.platters;
        };
        input = f.input;
      }))
    where
      not_zero : (n : ℕ) → (n == 0) ≡ false → 0 ≢ n
      not_zero zero e same = cc
      not_zero (suc n) e same = omega (arith, same)
  row_formed (Out c) s h f =
      on_if (nat_lt (reg s c) 256) (Goes (record s { out = s.out ++ reg s c ∷ [] })) (Stops OutputTooLarge) Formed (λ e. formed_with s s.finger s.cycles s.halted (s.out ++ reg s c ∷ []) f) (λ e. tt)
  row_formed (Input c) s h f = formed_byte c s.rest s refl f
  row_formed (Load b c) s h f =
      let new : List ℕ → State = λ words. record (with_array s 0 words) { finger = reg s c } in
      let go : List ℕ → Next = λ words. within L.words (words_after_load s words) WordsFull (Goes (new words)) in
      on_if (reg s b == 0) (Goes (record s { finger = reg s c })) (with_some (map.get s.arrays (reg s b)) LoadInactive go) Formed (λ e. formed_with s (reg s c) s.cycles s.halted s.out f) (λ ne.
      on_some (map.get s.arrays (reg s b)) LoadInactive go Formed (λ words e.
      on_within L.words (words_after_load s words) WordsFull (Goes (new words)) Formed (λ fits.
      let g = formed_array s 0 words (there s.arrays (reg s b) words f.form.platters e) f in
      formed_with (with_array s 0 words) (reg s c) s.cycles s.halted s.out g)))
  row_formed (Set a value) s h f = formed_reg s a value h f

  cycle_formed : (s : State) → Formed s → OnGoes (cycle s L id) Formed
  cycle_formed s f =
      on_some (platter s) FingerOutside (λ word. with_some (decode_word word) BadOperator (λ op. row op L id (moved s))) Formed (λ word e.
      on_some (decode_word word) BadOperator (λ op. row op L id (moved s)) Formed (λ op g.
      row_formed op (moved s) (decoded_holds word op g) (formed_with s (s.finger + 1) (s.cycles + 1) s.halted s.out f)))

pub cycles_keep_form : CyclesKeepForm
cycles_keep_form L id s t small input form e =
    let f = subst (λ r. OnGoes r Formed) e (cycle_formed L id small s (record { form = form; input = input })) in
    (f.form, f.input)

pub starts_are_formed : StartsAreFormed
starts_are_formed words input fits = record {
  eight = length-replicate {A = ℕ} 8 0;
  registers = zero_words 8;
  zero_there = (words, get-insert_same map.empty 0 words);
  platters = put_words map.empty 0 words (λ q. subst AreWords (sym (ap (λ o. unwrap_or o []) (map.get-empty nat_cmp q))) no_words) fits;
}
