-- Readings of a list of modules, part by part.
use Rattle.std.specs.Prelude.{◌≡◌, ℕ, suc, ◌+◌, ◌<◌, ◌≤◌, ◌++◌, Bool, true, false, List, [], ◌∷◌, length, map, take, drop, Option, Some, None, Result, Ok, Err, MatchOption, IfSome, ⊤, slice_get, slice_index_or, All, not, Vec, zero}
use Rattle.std.specs.Option.{unwrap_or}
use Rattle.std.proofs.Common.{arith, refl, sym, ap, ◌∙◌, inl, inr, subst, drop-cons, add-one}
use Rattle.std.proofs.lemmas.Bool.{cases_lt, false≢true}
use Rattle.std.proofs.lemmas.List.{length-map, get_or-map, take_more, map-append, length-take, length-append}
use Rattle.std.proofs.Math.ListN.{drop_of_length-le}
use Rattle.std.proofs.lemmas.Option.{slice_get_within, slice_get-get_or, get_or_from_slice_get}
use Rattle.two_d.specs.Good.{HasInputsOf}
use Rattle.two_d.specs.inner.NameLists.{number_in}
use Rattle.two_d.specs.Programs.{Program, ModuleForm, BoxForm, find, module_at, no_module, modules_of, module_of, box_of}
use Rattle.two_d.specs.Reading.{Reading, goes_on, stops, gave, each_from, none}
use Rattle.two_d.specs.Table.{RepeatsName, UsesNone, UsesBadly}
use Rattle.two_d.specs.inner.TableParts.{IsFoundAs}
use Rattle.two_d.specs.inner.Orders.{AreOrdersKept}
use Rattle.two_d.specs.Sound.{IsSound, IsKeptOrder}
use Rattle.two_d.specs.inner.TableParts.{ring_of}
use Rattle.std.specs.Global.{Global}
use Rattle.two_d.proofs.Rings.{ringless_of, reacher_there}
use Rattle.two_d.specs.Trees.{call}
use Rattle.two_d.specs.declared.module.Module.{Module}
use Rattle.two_d.specs.declared.module.BoxRow.{BoxRow}
use Rattle.two_d.proofs.Listed.{find_listed, early}

-- a fault of a part is one of the whole
pub refuses_through : {F A B : Type 0} (o : Option F) (m : Reading F A) (w : Reading F B) → ((f : F) → m (Err f) → w (Err f)) → MatchOption o ⊤ (λ f. m (Err f)) → MatchOption o ⊤ (λ f. w (Err f))
refuses_through None m w through h = h
refuses_through (Some f) m w through h = through f h

-- what follows decides for the whole
abbrev pub GoesOnAt : {F A : Type 0} → (ℕ → A → Reading F (Unit {0})) → List A → ℕ → Type 0
GoesOnAt {F = F} k xs n = (r : Result (Unit {0}) F) → each_from k n (drop n xs) r → each_from k 0 xs r

pub goes_on_first : {F A : Type 0} (k : ℕ → A → Reading F (Unit {0})) (xs : List A) → GoesOnAt k xs 0
goes_on_first k xs r h = h

cut : {A : Type 0} (xs : List A) (n : ℕ) (x : A) → slice_get xs n ≡ Some x → drop n xs ≡ x ∷ drop (n + 1) xs
cut xs n x is =
    let lt = slice_get_within xs n x is in
    rw add-one (drop-cons xs n x lt ∙ ap (λ y. y ∷ drop (suc n) xs) (get_or_from_slice_get xs n x x is))

pub goes_on_next : {F A : Type 0} (k : ℕ → A → Reading F (Unit {0})) (xs : List A) (n : ℕ) (x : A) → slice_get xs n ≡ Some x → k n x (Ok tt) → GoesOnAt k xs n → GoesOnAt k xs (n + 1)
goes_on_next k xs n x is ok whole r h = whole r (rw (cut xs n x is) (goes_on tt ok h))

pub stops_at : {F A : Type 0} (k : ℕ → A → Reading F (Unit {0})) (xs : List A) (n : ℕ) (x : A) → slice_get xs n ≡ Some x → GoesOnAt k xs n → (f : F) → k n x (Err f) → each_from k 0 xs (Err f)
stops_at k xs n x is whole f bad = whole (Err f) (rw (cut xs n x is) (stops f bad))

pub goes_on_end : {F A : Type 0} (k : ℕ → A → Reading F (Unit {0})) (xs : List A) (n : ℕ) → length xs ≤ n → GoesOnAt k xs n → each_from k 0 xs (Ok tt)
goes_on_end k xs n le whole = whole (Ok tt) (rw (drop_of_length-le xs le) gave)

-- the module or the box of a number, without memory
pub module_there : (modules : List Module) (n : ℕ) (m : Module) → n < length modules → m ≡ slice_index_or modules n m → slice_get (modules_of modules) n ≡ Some (module_of m)
module_there modules n m lt is =
    slice_get-get_or (modules_of modules) n (module_of m) (omega (arith, length-map modules module_of)) ∙ ap (λ x. Some x) (get_or-map module_of modules n m (module_of m) lt ∙ ap module_of (sym is))

pub row_there : (rows : List BoxRow) (n : ℕ) (row : BoxRow) → n < length rows → row ≡ slice_index_or rows n row → slice_get (map box_of rows) n ≡ Some (box_of row)
row_there rows n row lt is =
    slice_get-get_or (map box_of rows) n (box_of row) (omega (arith, length-map rows box_of)) ∙ ap (λ x. Some x) (get_or-map box_of rows n row (box_of row) lt ∙ ap box_of (sym is))

pub module_at_there : (modules : List Module) (n : ℕ) (m : Module) → n < length modules → m ≡ slice_index_or modules n m → module_at (modules_of modules) n ≡ module_of m
module_at_there modules n m lt is = get_or-map module_of modules n m no_module lt ∙ ap module_of (sym is)

-- what a look-up among all names found
pub found_as : (P : Program) (names : List (List ℕ)) (name : List ℕ) → names ≡ map (λ m. m.name) P → (found : Option ℕ) → unwrap_or found (length names) ≡ number_in names name → IfSome found (λ i. i < length names) → IsFoundAs P name found
found_as P names name is None number there =
    find_listed P name ∙ (ap (λ l. number_in l name) (sym is) ∙ (sym number ∙ (ap length is ∙ length-map P (λ m. m.name))))
found_as P names name is (Some i) number there = (
  (let long : length names ≡ length P = ap length is ∙ length-map P (λ m. m.name) in omega arith),
  find_listed P name ∙ (ap (λ l. number_in l name) (sym is) ∙ sym number),
)

names_same : (P : Program) (n : ℕ) (m : ModuleForm) → slice_get P n ≡ Some m → module_at P n ≡ m
names_same P n m is = get_or_from_slice_get P n m no_module is

-- a name that was seen among the first n modules
pub repeats : (P : Program) (n : ℕ) (m : ModuleForm) → slice_get P n ≡ Some m → (names : List (List ℕ)) → names ≡ map (λ m. m.name) (take n P) → (i : ℕ) → i < length names → i ≡ number_in names m.name → RepeatsName P n
repeats P n m is names held i there number =
    let lt = slice_get_within P n m is in
    let same : module_at P n ≡ m = names_same P n m is in
    elim (early P m.name n (omega arith)) [
      | inl h ↦ record { within = lt; earlier = rw same h.1 }
      | inr h ↦ absurd (
          let e : i ≡ n = number ∙ (ap (λ l. number_in l m.name) held ∙ h.0) in
          let long : length names ≡ length (take n P) = ap length held ∙ length-map (take n P) (λ m. m.name) in
          let short = length-take n P in
          omega arith)
    ]

-- a name that wasn't
pub not_repeated : (P : Program) (n : ℕ) (m : ModuleForm) → slice_get P n ≡ Some m → (names : List (List ℕ)) → names ≡ map (λ m. m.name) (take n P) → length names ≡ number_in names m.name → RepeatsName P n → ⊥
not_repeated P n m is names held number bad =
    let lt = slice_get_within P n m is in
    let same : module_at P n ≡ m = names_same P n m is in
    elim (early P m.name n (omega arith)) [
      | inl h ↦ (
          let e : number_in names m.name ≡ number_in (map (λ m. m.name) (take n P)) m.name = ap (λ l. number_in l m.name) held in
          let long : length names ≡ length (take n P) = ap length held ∙ length-map (take n P) (λ m. m.name) in
          let short = length-take n P in
          omega arith)
      | inr h ↦ (let early' = rw same at bad.earlier in omega arith)
    ]

pub held_more : (P : Program) (n : ℕ) (m : ModuleForm) → slice_get P n ≡ Some m → (names : List (List ℕ)) → names ≡ map (λ m. m.name) (take n P) → names ++ m.name ∷ [] ≡ map (λ m. m.name) (take (n + 1) P)
held_more P n m is names held =
    let lt = slice_get_within P n m is in
    rw (take_more P n m lt, get_or_from_slice_get P n m m is, map-append (λ (x : ModuleForm). x.name) (take n P) (m ∷ []), held) refl

-- a box with the command `use name`
pub none_used : (P : Program) (row : BoxForm) (name : List ℕ) → row.command ≡ call name → find P name ≡ length P → UsesNone P row
none_used P row name is at = (name, is, omega arith)

same_name : (row : BoxForm) (name other : List ℕ) → row.command ≡ call name → row.command ≡ call other → other ≡ name
same_name row name other a b = let e : call name ≡ call other = sym a ∙ b in cc

pub some_used : (P : Program) (row : BoxForm) (name : List ℕ) (i : ℕ) → row.command ≡ call name → i < length P → find P name ≡ i → UsesNone P row → ⊥
some_used P row name i is lt at (other, also, past) = let same : find P other ≡ i = ap (find P) (same_name row name other is also) ∙ at in omega arith

pub badly_used : (P : Program) (row : BoxForm) (name : List ℕ) (i : ℕ) → row.command ≡ call name → find P name ≡ i → (HasInputsOf row (module_at P i) → ⊥) → UsesBadly P row
badly_used P row name i is at bad = (name, is, λ good. bad (subst (λ n. HasInputsOf row (module_at P n)) at good))

pub well_used : (P : Program) (row : BoxForm) (name : List ℕ) (i : ℕ) → row.command ≡ call name → find P name ≡ i → HasInputsOf row (module_at P i) → UsesBadly P row → ⊥
well_used P row name i is at good (other, also, bad) = bad (subst (λ n. HasInputsOf row (module_at P n)) (sym (ap (find P) (same_name row name other is also) ∙ at)) good)

pub by_bool : (b : Bool) → not b ≡ true → b ≡ true → ⊥
by_bool true e f = false≢true e
by_bool false e f = false≢true f

pub is_not : (b : Bool) → (b ≡ true → ⊥) → not b ≡ true
is_not true h = absurd (h refl)
is_not false h = refl

pub sound_at : (modules : List Module) (n : ℕ) (m : Module) → n < length modules → m ≡ slice_index_or modules n m → All IsSound (modules_of modules) → IsSound (module_of m)
sound_at modules n m lt is all =
    let at = module_there modules n m lt is in
    subst IsSound (get_or_from_slice_get (modules_of modules) n (module_of m) (module_of m) at) (all n (module_of m) (slice_get_within (modules_of modules) n (module_of m) at))

pub no_orders : (P : Program) → AreOrdersKept P 0 []
no_orders P = record { one_each = refl; kept = λ m order is. absurd (cc) }

pub kept_more : (P : Program) (n : ℕ) (m : ModuleForm) → slice_get P n ≡ Some m → (orders : List (Vec ℕ Global)) → AreOrdersKept P n orders → (order : Vec ℕ Global) → IsKeptOrder m order.items → AreOrdersKept P (n + 1) (orders ++ order ∷ [])
kept_more P n m at orders are order kept = record {
  one_each = (let e = are.one_each in omega (arith, length-append orders (order ∷ [])));
  kept = λ k other is. elim (cases_lt k n) [
    | inl low ↦ are.kept k other (sym (before_last orders order k (let e = are.one_each in omega arith)) ∙ is)
    | inr high ↦
        let lt = slice_get_within (orders ++ order ∷ []) k other is in
        let here : k ≡ length orders = (let e = are.one_each in omega (arith, length-append orders (order ∷ []))) in
        let e : Some order ≡ Some other = sym (at_last orders order) ∙ (ap (slice_get (orders ++ order ∷ [])) (sym here) ∙ is) in
        let f : order ≡ other = cc in
        let kn : k ≡ n = here ∙ are.one_each in
        subst (λ (o : Vec ℕ Global). IsKeptOrder (module_at P k) o.items) f (subst (λ x. IsKeptOrder x order.items) (sym (ap (module_at P) kn ∙ names_same P n m at)) kept)
  ];
}
  where
    at_last : (xs : List (Vec ℕ Global)) (x : Vec ℕ Global) → slice_get (xs ++ x ∷ []) (length xs) ≡ Some x
    at_last [] x = refl
    at_last (y ∷ ys) x = at_last ys x

    before_last : (xs : List (Vec ℕ Global)) (x : Vec ℕ Global) (i : ℕ) → i < length xs → slice_get (xs ++ x ∷ []) i ≡ slice_get xs i
    before_last [] x i lt = absurd (omega arith)
    before_last (y ∷ ys) x zero lt = refl
    before_last (y ∷ ys) x (suc i) lt = before_last ys x i (omega arith)

-- a module with an order has no ring
pub ringless_module : (n : ℕ) (m : ModuleForm) (order : List ℕ) → IsSound m → IsKeptOrder m order → ring_of n m (Ok tt)
ringless_module n m order sound kept = none (λ b least. ringless_of m order kept.valid b (reacher_there m sound least.holds) least.holds)
