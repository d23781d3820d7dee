-- A list of sound modules with which nothing is wrong is a good program, and the other way round.
use Rattle.std.specs.Prelude.{◌≡◌, ◌≢◌, ℕ, zero, suc, ◌+◌, ◌<◌, ◌≤◌, ◌^◌, ◌⊎◌, ◌↔◌, Bool, true, false, IsTrue, List, [], ◌∷◌, length, Option, Some, None, Result, Ok, slice_get, slice_index_or, All, AllPairs, IsSome, Vec}
use Rattle.std.specs.Global.{Global}
use Rattle.std.proofs.Common.{arith, refl, sym, ap, ◌∙◌, inl, inr, subst}
use Rattle.std.proofs.lemmas.Bool.{cases_lt, false≢true}
use Rattle.std.proofs.lemmas.List.{length-map}
use Rattle.std.proofs.lemmas.Option.{slice_get_within, slice_get-get_or, get_or_from_slice_get, slice_get-map}
use Rattle.two_d.specs.Good.{HasInputsOf, IsUnwired, UsesWell, IsGood, IsKept, names_in, orders_in}
use Rattle.two_d.specs.inner.Orders.{AreOrdersKept}
use Rattle.two_d.specs.Places.{IsLeast}
use Rattle.two_d.specs.Programs.{Program, ModuleForm, BoxForm, find, main_of, module_at, no_module as no_form, is_name}
use Rattle.two_d.specs.Reading.{Reading, Then, Gave, goes_on, gave, each_from, Refused, refused, passed, RefusedAt, refused_at, none}
use Rattle.two_d.specs.Sound.{IsSound, IsKeptOrder, Reaches}
use Rattle.two_d.specs.Table.{RepeatsName, HasEntry, UsesNone, UsesBadly, box_faults, table_of, Wrong, same_name, no_main, main_has_input, no_module, bad_inputs, unwired, cycle}
use Rattle.two_d.specs.inner.TableParts.{names_of, start_of, boxes_of, all_boxes_of, ring_of, uses_of, cycles_of}
use Rattle.two_d.proofs.InOrder.{then_ok, then_apart, then_together, then_map}
use Rattle.two_d.proofs.Listed.{is_name-refl, is_name-true}
use Rattle.two_d.proofs.OneReading.{HasOneAnswer, gave_one, refused_one, refused_at_one, then_one, least_one}
use Rattle.two_d.proofs.Options.{option_map_some}
use Rattle.two_d.proofs.Rings.{ringless_of, reacher_there}

-- the table is what its parts give one after the other
pub table_whole : (P : Program) (r : Result Program Wrong) → Then (uses_of P) (λ _. Then (cycles_of P) (λ _. Gave P)) r → table_of P r
table_whole P r t =
    then_map (names_of P) (λ _. Then (Then (start_of P) (λ _. all_boxes_of P)) (λ _. Then (cycles_of P) (λ _. Gave P)))
    (λ _. Then (Refused no_main (length P ≤ main_of P)) (λ _. Then (Refused (main_has_input (main_of P)) (HasEntry (module_at P (main_of P)))) (λ _. Then (all_boxes_of P) (λ _. Then (cycles_of P) (λ _. Gave P)))))
    (λ _ s inside. then_apart (Refused no_main (length P ≤ main_of P)) (λ _. Refused (main_has_input (main_of P)) (HasEntry (module_at P (main_of P)))) (λ _. Then (all_boxes_of P) (λ _. Then (cycles_of P) (λ _. Gave P))) s
    (then_apart (start_of P) (λ _. all_boxes_of P) (λ _. Then (cycles_of P) (λ _. Gave P)) s inside)) r
    (then_apart (names_of P) (λ _. Then (start_of P) (λ _. all_boxes_of P)) (λ _. Then (cycles_of P) (λ _. Gave P)) r t)

pub table_parts : (P : Program) (r : Result Program Wrong) → table_of P r → Then (uses_of P) (λ _. Then (cycles_of P) (λ _. Gave P)) r
table_parts P r t =
    then_together (names_of P) (λ _. Then (start_of P) (λ _. all_boxes_of P)) (λ _. Then (cycles_of P) (λ _. Gave P)) r
    (then_map (names_of P) (λ _. Then (Refused no_main (length P ≤ main_of P)) (λ _. Then (Refused (main_has_input (main_of P)) (HasEntry (module_at P (main_of P)))) (λ _. Then (all_boxes_of P) (λ _. Then (cycles_of P) (λ _. Gave P)))))
    (λ _. Then (Then (start_of P) (λ _. all_boxes_of P)) (λ _. Then (cycles_of P) (λ _. Gave P)))
    (λ _ s inside. then_together (start_of P) (λ _. all_boxes_of P) (λ _. Then (cycles_of P) (λ _. Gave P)) s
    (then_together (Refused no_main (length P ≤ main_of P)) (λ _. Refused (main_has_input (main_of P)) (HasEntry (module_at P (main_of P)))) (λ _. Then (all_boxes_of P) (λ _. Then (cycles_of P) (λ _. Gave P))) s inside)) r t)

pub none_at : {F A : Type 0} (f : A → F) (P : A → Type 0) (r : Result (Unit {0}) F) → RefusedAt f P r → r ≡ Ok tt → (x : A) → P x → ⊥
none_at f P _ (refused_at y q) e x p = absurd (cc)
none_at f P _ (none no_one) e x p = no_one x p

pub not_so : {F : Type 0} (f : F) (P : Type 0) (r : Result (Unit {0}) F) → Refused f P r → r ≡ Ok tt → P → ⊥
not_so f P _ (refused q) e p = absurd (cc)
not_so f P _ (passed isnt) e p = isnt p

-- what has no least number has none
below_none : (P : ℕ → Type 0) → ((i : ℕ) → IsLeast P i → ⊥) → (n i : ℕ) → i < n → P i → ⊥
below_none P no_least zero i lt p = omega arith
below_none P no_least (suc n) i lt p = no_least i (record { holds = p; none_below = λ j less q. below_none P no_least n j (omega arith) q })

no_one : (P : ℕ → Type 0) → ((i : ℕ) → IsLeast P i → ⊥) → (i : ℕ) → P i → ⊥
no_one P no_least i p = below_none P no_least (suc i) i (omega arith) p

each_ok : {F A : Type 0} (k : ℕ → A → Reading F (Unit {0})) (n : ℕ) (xs : List A) → each_from k n xs (Ok tt) → (i : ℕ) (x : A) → slice_get xs i ≡ Some x → k (n + i) x (Ok tt)
each_ok k n [] h i x is = absurd (cc)
each_ok k n (y ∷ ys) h zero x is =
    let (u, here, rest) = then_ok (k n y) (λ _. each_from k (n + 1) ys) tt h in
    let e : y ≡ x = cc in
    let m : n ≡ n + 0 = omega arith in
    subst (λ z. k z x (Ok tt)) m (subst (λ z. k n z (Ok tt)) e here)
each_ok k n (y ∷ ys) h (suc i) x is =
    let (u, here, rest) = then_ok (k n y) (λ _. each_from k (n + 1) ys) tt h in
    let m : n + 1 + i ≡ n + suc i = omega arith in
    subst (λ z. k z x (Ok tt)) m (each_ok k (n + 1) ys rest i x is)

from_first : {F A : Type 0} (k : ℕ → A → Reading F (Unit {0})) (xs : List A) → each_from k 0 xs (Ok tt) → (i : ℕ) (x : A) → slice_get xs i ≡ Some x → k i x (Ok tt)
from_first k xs h i x is =
    let m : 0 + i ≡ i = omega arith in
    subst (λ z. k z x (Ok tt)) m (each_ok k 0 xs h i x is)

find_le : (P : Program) (name : List ℕ) (i : ℕ) → i < length P → is_name (module_at P i).name name ≡ true → find P name ≤ i
find_le [] name i lt is = absurd (omega arith)
find_le (m ∷ P) name zero lt is = rw is (omega arith)
find_le (m ∷ P) name (suc i) lt is = by_test (is_name m.name name) refl (find_le P name i (omega arith) is)
  where
    by_test : (t : Bool) → is_name m.name name ≡ t → find P name ≤ i → find (m ∷ P) name ≤ suc i
    by_test true e le = rw e (omega arith)
    by_test false e le = rw e (omega arith)

pub decided_inputs : (row : BoxForm) (m : ModuleForm) → (HasInputsOf row m → ⊥) ⊎ HasInputsOf row m
decided_inputs row m = both (side m.north row.n) (side m.west row.w)
  where
    side : {O : Type 0} (b : Bool) (o : Option O) → ((IsTrue b ↔ IsSome o) → ⊥) ⊎ (IsTrue b ↔ IsSome o)
    side true None = inl (λ h. false≢true (h.0 refl))
    side true (Some x) = inr (λ _. refl, λ _. refl)
    side false None = inr ((λ e. absurd (false≢true e)), (λ e. absurd (false≢true e)))
    side false (Some x) = inl (λ h. false≢true (h.1 refl))

    both : {A B : Type 0} → (A → ⊥) ⊎ A → (B → ⊥) ⊎ B → (A × B → ⊥) ⊎ (A × B)
    both (inl na) b = inl (λ h. na h.0)
    both (inr a) (inl nb) = inl (λ h. nb h.1)
    both (inr a) (inr b) = inr (a, b)

bool_false : (b : Bool) → (b ≡ true → ⊥) → b ≡ false
bool_false true h = absurd (h refl)
bool_false false h = refl

-- of each of a list, by number
all_from : {A : Type 0} (Q : A → Type 0) (xs : List A) → ((i : ℕ) (x : A) → slice_get xs i ≡ Some x → Q x) → All Q xs
all_from Q xs h k d lt = h k (slice_index_or xs k d) (slice_get-get_or xs k d lt)

module _ (P : Program) (few : length P < 2 ^ 32) (sound : All IsSound P) (uses : uses_of P (Ok tt)) where
  names_ok : names_of P (Ok tt)
  names_ok = let (u, here, rest) = then_ok (names_of P) (λ _. Then (start_of P) (λ _. all_boxes_of P)) tt uses in here

  start_ok : start_of P (Ok tt)
  start_ok =
      let (u, here, rest) = then_ok (names_of P) (λ _. Then (start_of P) (λ _. all_boxes_of P)) tt uses in
      let (v, there, more) = then_ok (start_of P) (λ _. all_boxes_of P) tt rest in there

  boxes_ok : all_boxes_of P (Ok tt)
  boxes_ok =
      let (u, here, rest) = then_ok (names_of P) (λ _. Then (start_of P) (λ _. all_boxes_of P)) tt uses in
      let (v, there, more) = then_ok (start_of P) (λ _. all_boxes_of P) tt rest in more

  no_main_missing : length P ≤ main_of P → ⊥
  no_main_missing =
      let (u, here, rest) = then_ok (Refused no_main (length P ≤ main_of P)) (λ _. Refused (main_has_input (main_of P)) (HasEntry (module_at P (main_of P)))) tt start_ok in
      not_so no_main (length P ≤ main_of P) (Ok tt) here refl

  no_entry : HasEntry (module_at P (main_of P)) → ⊥
  no_entry =
      let (u, here, rest) = then_ok (Refused no_main (length P ≤ main_of P)) (λ _. Refused (main_has_input (main_of P)) (HasEntry (module_at P (main_of P)))) tt start_ok in
      not_so (main_has_input (main_of P)) (HasEntry (module_at P (main_of P))) (Ok tt) rest refl

  box_ok : (i b : ℕ) (m : ModuleForm) (row : BoxForm) → slice_get P i ≡ Some m → slice_get m.boxes b ≡ Some row → box_faults P i b row (Ok tt)
  box_ok i b m row at_m at_row =
      from_first (box_faults P i) m.boxes (from_first (λ n one. boxes_of P n one.boxes) P boxes_ok i m at_m) b row at_row

  box_facts : (i b : ℕ) (m : ModuleForm) (row : BoxForm) → slice_get P i ≡ Some m → slice_get m.boxes b ≡ Some row → (UsesNone P row → ⊥) × (UsesBadly P row → ⊥) × (IsUnwired row → ⊥)
  box_facts i b m row at_m at_row =
      let (u, first, rest) = then_ok (Refused (no_module i b) (UsesNone P row)) (λ _. Then (Refused (bad_inputs i b) (UsesBadly P row)) (λ _. Refused (unwired i b) (IsUnwired row))) tt (box_ok i b m row at_m at_row) in
      let (v, second, third) = then_ok (Refused (bad_inputs i b) (UsesBadly P row)) (λ _. Refused (unwired i b) (IsUnwired row)) tt rest in
      (not_so (no_module i b) (UsesNone P row) (Ok tt) first refl, not_so (bad_inputs i b) (UsesBadly P row) (Ok tt) second refl, not_so (unwired i b) (IsUnwired row) (Ok tt) third refl)

  well : (row : BoxForm) → (UsesNone P row → ⊥) → (UsesBadly P row → ⊥) → UsesWell P row
  well row not_none not_bad name is = (
    elim (cases_lt (find P name) (length P)) [ inl less ↦ less | inr more ↦ absurd (not_none (name, is, more)) ],
    elim (decided_inputs row (module_at P (find P name))) [ inl bad ↦ absurd (not_bad (name, is, bad)) | inr good ↦ good ],
  )

  names_apart : AllPairs (λ (m : ModuleForm). λ (other : ModuleForm). m.name ≢ other.name) P
  names_apart i j d less lt same =
      let at_i : module_at P i ≡ slice_index_or P i d = get_or_from_slice_get P i (slice_index_or P i d) no_form (slice_get-get_or P i d (omega arith)) in
      let at_j : module_at P j ≡ slice_index_or P j d = get_or_from_slice_get P j (slice_index_or P j d) no_form (slice_get-get_or P j d lt) in
      let name_i : (module_at P i).name ≡ (module_at P j).name = ap (λ (m : ModuleForm). m.name) at_i ∙ (same ∙ sym (ap (λ (m : ModuleForm). m.name) at_j)) in
      let le = find_le P (module_at P j).name i (omega arith) (rw name_i (is_name-refl (module_at P j).name)) in
      no_one (RepeatsName P) (none_at same_name (IsLeast (RepeatsName P)) (Ok tt) names_ok refl) j (record { within = lt; earlier = omega arith })

  pub good_from : ((i : ℕ) (m : ModuleForm) → slice_get P i ≡ Some m → (b : ℕ) → Reaches m b b → ⊥) → IsGood P
  good_from ringless = record {
    few = few;
    sound = sound;
    apart = names_apart;
    main_there = elim (cases_lt (main_of P) (length P)) [ inl less ↦ less | inr more ↦ absurd (no_main_missing more) ];
    main_closed = (bool_false (module_at P (main_of P)).north (λ e. no_entry (inl e)), bool_false (module_at P (main_of P)).west (λ e. no_entry (inr e)));
    uses = all_from (λ m. All (UsesWell P) m.boxes) P (λ i m at_m. all_from (UsesWell P) m.boxes (λ b row at_row. let (a, c, d) = box_facts i b m row at_m at_row in well row a c));
    wired = all_from (λ m. All (λ (row : BoxForm). IsUnwired row → ⊥) m.boxes) P (λ i m at_m. all_from (λ (row : BoxForm). IsUnwired row → ⊥) m.boxes (λ b row at_row. let (a, c, d) = box_facts i b m row at_m at_row in d));
    acyclic = all_from (λ m. (b : ℕ) → Reaches m b b → ⊥) P ringless;
  }

order_there : (orders : List (Vec ℕ Global)) (i : ℕ) → i < length orders → (order : Vec ℕ Global) × (slice_get orders i ≡ Some order)
order_there [] i lt = absurd (omega arith)
order_there (order ∷ orders) zero lt = (order, refl)
order_there (order ∷ orders) (suc i) lt = order_there orders i (omega arith)

-- so what the calls have made is what a program keeps
pub kept_from : (P : Program) → length P < 2 ^ 32 → All IsSound P → uses_of P (Ok tt) → (orders : List (Vec ℕ Global)) → AreOrdersKept P (length P) orders → (names : List (List ℕ)) → names ≡ names_in P → IsKept P names (main_of P) (orders_in orders)
kept_from P few sound uses orders are names named = record {
  named = named;
  good = good_from P few sound uses (λ i m at b reaches.
      let lt = slice_get_within P i m at in
      let (order, there) = order_there orders i (let e = are.one_each in omega arith) in
      let here : module_at P i ≡ m = get_or_from_slice_get P i m no_form at in
      let kept : IsKeptOrder m order.items = subst (λ x. IsKeptOrder x order.items) here (are.kept i order there) in
      let good : IsSound m = subst IsSound (get_or_from_slice_get P i m m at) (sound i m lt) in
      ringless_of m order.items kept.valid b (reacher_there m good reaches) reaches);
  begins = refl;
  one_each = length-map orders (λ (order : Vec ℕ Global). order.items) ∙ are.one_each;
  kept = λ i order at.
      let (v, there, same) = option_map_some (λ (o : Vec ℕ Global). o.items) (slice_get orders i) order (sym (slice_get-map (λ (o : Vec ℕ Global). o.items) orders i) ∙ at) in
      subst (IsKeptOrder (module_at P i)) same (are.kept i v there);
}

-- a good program has nothing wrong with it
find_is : (P : Program) (name : List ℕ) → find P name < length P → is_name (module_at P (find P name)).name name ≡ true
find_is [] name lt = absurd (omega arith)
find_is (m ∷ P) name lt = by_test (is_name m.name name) refl (find_is P name)
  where
    by_test : (t : Bool) → is_name m.name name ≡ t → (find P name < length P → is_name (module_at P (find P name)).name name ≡ true) → is_name (module_at (m ∷ P) (find (m ∷ P) name)).name name ≡ true
    by_test true e more = rw e e
    by_test false e more =
        let next : 1 + find P name ≡ suc (find P name) = omega arith in
        rw (e, next) (more (let f = rw e at lt in omega arith))

each_all : {F A : Type 0} (k : ℕ → A → Reading F (Unit {0})) (n : ℕ) (xs : List A) → ((i : ℕ) (x : A) → slice_get xs i ≡ Some x → k (n + i) x (Ok tt)) → each_from k n xs (Ok tt)
each_all k n [] h = gave
each_all k n (x ∷ xs) h =
    let m : n + 0 ≡ n = omega arith in
    goes_on tt (subst (λ z. k z x (Ok tt)) m (h 0 x refl)) (each_all k (n + 1) xs (λ i y is.
    let s : n + suc i ≡ n + 1 + i = omega arith in subst (λ z. k z y (Ok tt)) s (h (suc i) y is)))

of_all : {A : Type 0} (Q : A → Type 0) (xs : List A) → All Q xs → (i : ℕ) (x : A) → slice_get xs i ≡ Some x → Q x
of_all Q xs all i x is = subst Q (get_or_from_slice_get xs i x x is) (all i x (slice_get_within xs i x is))

module _ (P : Program) (good : IsGood P) where
  names_fine : names_of P (Ok tt)
  names_fine = none (λ i least.
      let lt = least.holds.within in
      let k = find P (module_at P i).name in
      let less : k < i = least.holds.earlier in
      let same : (module_at P k).name ≡ (module_at P i).name = is_name-true (module_at P k).name (module_at P i).name (find_is P (module_at P i).name (omega arith)) in
      good.apart k i no_form less lt same)

  start_fine : start_of P (Ok tt)
  start_fine = goes_on tt (passed (λ past. let lt = good.main_there in omega arith))
      (passed (λ entry. elim entry [ inl n ↦ false≢true (sym good.main_closed.0 ∙ n) | inr w ↦ false≢true (sym good.main_closed.1 ∙ w) ]))

  box_fine : (i b : ℕ) (row : BoxForm) → UsesWell P row → (IsUnwired row → ⊥) → box_faults P i b row (Ok tt)
  box_fine i b row well wired =
      goes_on tt (passed (λ (name, is, past). let lt = (well name is).0 in omega arith))
      (goes_on tt (passed (λ (name, is, bad). bad (well name is).1)) (passed wired))

  boxes_fine : all_boxes_of P (Ok tt)
  boxes_fine = each_all (λ n one. boxes_of P n one.boxes) 0 P (λ i m at_m. each_all (box_faults P (0 + i)) 0 m.boxes (λ b row at_row.
      box_fine (0 + i) (0 + b) row
      (of_all (UsesWell P) m.boxes (of_all (λ m. All (UsesWell P) m.boxes) P good.uses i m at_m) b row at_row)
      (of_all (λ (r : BoxForm). IsUnwired r → ⊥) m.boxes (of_all (λ m. All (λ (r : BoxForm). IsUnwired r → ⊥) m.boxes) P good.wired i m at_m) b row at_row)))

  rings_fine : cycles_of P (Ok tt)
  rings_fine = each_all ring_of 0 P (λ i m at_m. none (λ b least. of_all (λ m. (b : ℕ) → Reaches m b b → ⊥) P good.acyclic i m at_m b least.holds))

  table_fine : table_of P (Ok P)
  table_fine = table_whole P (Ok P) (goes_on tt (goes_on tt names_fine (goes_on tt start_fine boxes_fine)) (goes_on tt rings_fine gave))

pub table_of_good : (P : Program) → IsGood P → table_of P (Ok P)
table_of_good P good = table_fine P good

pub good_of_table : (P : Program) → length P < 2 ^ 32 → All IsSound P → table_of P (Ok P) → IsGood P
good_of_table P few sound table =
    let (u, uses, rest) = then_ok (uses_of P) (λ _. Then (cycles_of P) (λ _. Gave P)) P (table_parts P (Ok P) table) in
    let (v, rings, last) = then_ok (cycles_of P) (λ _. Gave P) P rest in
    good_from P few sound uses (λ i m at b reaches.
    no_one (λ x. Reaches m x x) (none_at (λ x. cycle i x) (IsLeast (λ x. Reaches m x x)) (Ok tt) (from_first ring_of P rings i m at) refl) b reaches)

each_from_one : {F A : Type 0} (k : ℕ → A → Reading F (Unit {0})) → ((n : ℕ) (x : A) → HasOneAnswer (k n x)) → (n : ℕ) (xs : List A) → HasOneAnswer (each_from k n xs)
each_from_one k one n [] = gave_one tt
each_from_one k one n (x ∷ xs) = then_one (k n x) (λ _. each_from k (n + 1) xs) (one n x) (λ _. each_from_one k one (n + 1) xs)

-- a list of modules has at most one first thing that is wrong with it
pub table-one : (P : Program) → HasOneAnswer (table_of P)
table-one P r s this that =
    then_one (uses_of P) (λ _. Then (cycles_of P) (λ _. Gave P)) uses
    (λ _. then_one (cycles_of P) (λ _. Gave P) (each_from_one ring_of (λ m one. refused_at_one (λ b. cycle m b) (IsLeast (λ b. Reaches one b b)) (least_one (λ b. Reaches one b b))) 0 P) (λ _. gave_one P)) r s (table_parts P r this) (table_parts P s that)
  where
    box : (m b : ℕ) (row : BoxForm) → HasOneAnswer (box_faults P m b row)
    box m b row =
        then_one (Refused (no_module m b) (UsesNone P row)) (λ _. Then (Refused (bad_inputs m b) (UsesBadly P row)) (λ _. Refused (unwired m b) (IsUnwired row))) (refused_one (no_module m b) (UsesNone P row))
        (λ _. then_one (Refused (bad_inputs m b) (UsesBadly P row)) (λ _. Refused (unwired m b) (IsUnwired row)) (refused_one (bad_inputs m b) (UsesBadly P row)) (λ _. refused_one (unwired m b) (IsUnwired row)))

    start : HasOneAnswer (start_of P)
    start = then_one (Refused no_main (length P ≤ main_of P)) (λ _. Refused (main_has_input (main_of P)) (HasEntry (module_at P (main_of P)))) (refused_one no_main (length P ≤ main_of P)) (λ _. refused_one (main_has_input (main_of P)) (HasEntry (module_at P (main_of P))))

    uses : HasOneAnswer (uses_of P)
    uses =
        then_one (names_of P) (λ _. Then (start_of P) (λ _. all_boxes_of P)) (refused_at_one same_name (IsLeast (RepeatsName P)) (least_one (RepeatsName P)))
        (λ _. then_one (start_of P) (λ _. all_boxes_of P) start (λ _. each_from_one (λ m one. boxes_of P m one.boxes) (λ m one. each_from_one (box_faults P m) (box m) 0 one.boxes) 0 P))
