-- What holds where nothing is wrong with a program by a sheet.
use Rattle.std.specs.Prelude.{◌≡◌, ℕ, zero, suc, ◌+◌, ◌<◌, List, [], ◌∷◌, length, Some, Result, Ok, Bool, true, false, IsTrue, slice_get, slice_index_or}
use Rattle.std.proofs.Common.{refl, ◌∙◌, subst, arith}
use Rattle.std.proofs.lemmas.Option.{slice_get_within, slice_get-get_or, get_or_from_slice_get}
use Rattle.two_d.specs.Good.{IsGood, UsesWell}
use Rattle.two_d.specs.Programs.{Program, BoxForm, find, is_name, module_at, no_module, box_at}
use Rattle.two_d.specs.Reading.{Reading, The, it, each_from}
use Rattle.two_d.specs.Sound.{IsOrder, IsKeptOrder}
use Rattle.two_d.specs.Trees.{call}
use Rattle.two_d.proofs.InOrder.{then_ok}
use Rattle.two_d.proofs.GoodTable.{not_so}
use Rattle.two_d.proofs.Listed.{is_name-true}
use Rattle.type_sheet.specs.declared.fault.At.TheVariants.{Bx, Exit}
use Rattle.type_sheet.specs.declared.fault.SheetFault.{SheetFault}
use Rattle.type_sheet.specs.declared.fault.SheetFault.TheVariants.{NoPlace, Mismatch}
use Rattle.type_sheet.specs.declared.line.SheetRow.{SheetRow}
use Rattle.type_sheet.specs.Wires.{wire_type}
use Rattle.type_sheet.specs.Fits.{box_fits, command_fits, exit_fits, want, has_place, lines_there, module_fits, fits_of}
use Rattle.type_sheet.proofs.Told.{told-whole}
use Rattle.type_sheet.proofs.Effects.{FitsWell}
use Rattle.type_sheet.proofs.Depths.{AllFit}

each_ok : {F A : Type 0} (k : ℕ → A → Reading F (Unit {0})) (n : ℕ) (xs : List A) → each_from k n xs (Ok tt) → (i : ℕ) (x : A) → slice_get xs i ≡ Some x → k (n + i) x (Ok tt)
each_ok k n [] h i x is = absurd (cc)
each_ok k n (y ∷ ys) h zero x is =
    let (u, here, rest) = then_ok (k n y) (λ _. each_from k (n + 1) ys) tt h in
    let e : y ≡ x = cc in
    let m : n ≡ n + 0 = omega arith in
    subst (λ z. k z x (Ok tt)) m (subst (λ z. k n z (Ok tt)) e here)
each_ok k n (y ∷ ys) h (suc i) x is =
    let (u, here, rest) = then_ok (k n y) (λ _. each_from k (n + 1) ys) tt h in
    let m : n + 1 + i ≡ n + suc i = omega arith in
    subst (λ z. k z x (Ok tt)) m (each_ok k (n + 1) ys rest i x is)

pub from_first : {F A : Type 0} (k : ℕ → A → Reading F (Unit {0})) (xs : List A) → each_from k 0 xs (Ok tt) → (i : ℕ) (x : A) → slice_get xs i ≡ Some x → k i x (Ok tt)
from_first k xs h i x is =
    let m : 0 + i ≡ i = omega arith in
    subst (λ z. k z x (Ok tt)) m (each_ok k 0 xs h i x is)

the_is : {F A : Type 0} (Q : A → Type 0) (r : Result A F) → The Q r → (x : A) → r ≡ Ok x → Q x
the_is Q _ (it y q) x e = let same : y ≡ x = cc in rw (← same) q

-- a test that is wanted and gives no fault
wanted : (fault : SheetFault) (test : Bool) → want fault test (Ok tt) → test ≡ true
wanted fault true w = refl
wanted fault false w = absurd (not_so fault (IsTrue true) (Ok tt) w refl refl)

-- the module of a name that is found has the name
find_is : (P : Program) (name : List ℕ) → find P name < length P → is_name (module_at P (find P name)).name name ≡ true
find_is [] name lt = absurd (omega arith)
find_is (m ∷ P) name lt = by_test (is_name m.name name) refl (find_is P name)
  where
    by_test : (t : Bool) → is_name m.name name ≡ t → (find P name < length P → is_name (module_at P (find P name)).name name ≡ true) →
        is_name (module_at (m ∷ P) (find (m ∷ P) name)).name name ≡ true
    by_test true e more = rw e e
    by_test false e more =
        let next : 1 + find P name ≡ suc (find P name) = omega arith in
        rw (e, next) (more (let f = rw e at lt in omega arith))

module _ (rows : List SheetRow) (P : Program) (i : ℕ) where
  pub fits-well : module_fits rows i (module_at P i) (Ok tt) → FitsWell rows (module_at P i)
  fits-well fits =
      let (order, first, more) = then_ok (The (IsKeptOrder (module_at P i))) _ tt fits in
      let kept : IsKeptOrder (module_at P i) order = the_is (IsKeptOrder (module_at P i)) (Ok order) first order refl in
      let (u, boxes, exits) = then_ok (each_from (λ _ b. want (Mismatch (Bx i b)) (box_fits rows (module_at P i) b)) 0 order) _ tt more in
      record {
        told = told-whole rows P i order kept.valid;
        boxes = boxes-fit order kept.valid boxes;
        exits = λ j o at. wanted (Mismatch (Exit i j)) (exit_fits rows (module_at P i) (Some o))
            (from_first (λ j exit. want (Mismatch (Exit i j)) (exit_fits rows (module_at P i) exit)) (module_at P i).exits exits j (Some o) at);
      }
    where
      boxes-fit : (order : List ℕ) → IsOrder (module_at P i) order →
          each_from (λ _ b. want (Mismatch (Bx i b)) (box_fits rows (module_at P i) b)) 0 order (Ok tt) →
          (b : ℕ) (row : BoxForm) → slice_get (module_at P i).boxes b ≡ Some row → command_fits rows (module_at P i) b (wire_type rows (module_at P i)) row row.command ≡ true
      boxes-fit order valid all b row at =
          let lt : b < length (module_at P i).boxes = slice_get_within (module_at P i).boxes b row at in
          let (k, within, here) = valid.each b lt in
          let place : slice_get order k ≡ Some b = slice_get-get_or order k b within ∙ (rw here refl) in
          let fits : box_fits rows (module_at P i) b ≡ true = wanted (Mismatch (Bx i b)) (box_fits rows (module_at P i) b)
          (from_first (λ _ b. want (Mismatch (Bx i b)) (box_fits rows (module_at P i) b)) order all k b place) in
          rw at at fits

pub all-fit : (rows : List SheetRow) (P : Program) → IsGood P → fits_of P rows (Ok tt) → AllFit rows P
all-fit rows P good fits = record { modules = modules; uses = uses }
  where
    modules : (m : ℕ) → m < length P → FitsWell rows (module_at P m)
    modules m lt =
        let (u, places, more) = then_ok (each_from (λ _ (row : SheetRow). want (NoPlace row.at) (has_place P row.line)) 0 rows) _ tt fits in
        let (v, lines, rules) = then_ok (each_from (lines_there rows) 0 P) _ tt more in
        fits-well rows P m (from_first (module_fits rows) P rules m (module_at P m) (slice_get-get_or P m no_module lt))

    uses : (m b : ℕ) (row : BoxForm) (name : List ℕ) → m < length P → box_at P m b ≡ Some row → row.command ≡ call name →
        (find P name < length P) × ((module_at P (find P name)).name ≡ name)
    uses m b row name lt at is =
        let within : b < length (module_at P m).boxes = slice_get_within (module_at P m).boxes b row at in
        let here : slice_index_or (module_at P m).boxes b row ≡ row = get_or_from_slice_get (module_at P m).boxes b row row at in
        let well : UsesWell P row = rw here at (good.uses m no_module lt b row within) in
        let there = (well name is).0 in
        (there, is_name-true (module_at P (find P name)).name name (find_is P name there))
