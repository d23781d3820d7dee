-- A list of modules has a first thing that is wrong with it, or nothing is.
use Rattle.std.specs.Prelude.{◌≡◌, ℕ, ◌≤◌, List, length, Option, Some, None, IsNone, Result, Ok, slice_get}
use Rattle.std.proofs.Common.{arith, refl, sym, ap, ◌∙◌, inl, inr}
use Rattle.std.proofs.lemmas.Bool.{cases_lt, false≢true}
use Rattle.two_d.specs.Good.{IsUnwired, NamesN, NamesW, trees_of}
use Rattle.two_d.specs.Programs.{Program, ModuleForm, BoxForm, find, main_of, module_at}
use Rattle.two_d.specs.Reading.{Then, Gave, gave, Refused}
use Rattle.two_d.specs.Sound.{Reaches}
use Rattle.two_d.specs.Table.{Wrong, RepeatsName, HasEntry, UsesNone, UsesBadly, box_faults, table_of, same_name, no_main, main_has_input, no_module, bad_inputs, unwired, cycle}
use Rattle.two_d.specs.inner.TableParts.{names_of, start_of, boxes_of, all_boxes_of, ring_of, uses_of, cycles_of}
use Rattle.two_d.specs.Trees as tree
use Rattle.two_d.specs.Trees.{Tree, Form, send, case, split, call}
use Rattle.two_d.proofs.Decide.{Decided, decided_both, decided_either, decided_lt, least_below}
use Rattle.two_d.proofs.GoodTable.{decided_inputs, table_whole}
use Rattle.two_d.proofs.Reaching.{decided_reaches, reached_there}
use Rattle.two_d.proofs.SomeReading.{HasAnswer, decided_any, decided_true, then_some, refused_some, least_some, each_some}
use Rattle.two_d.proofs.TableLemmas.{well_used}

decided_none : {A : Type 0} (o : Option A) → Decided (IsNone o)
decided_none None = inl refl
decided_none (Some x) = inr (λ e. false≢true (sym e))

names_n : (t : Tree) → Decided (NamesN t)
names_n tree.n = inl tt
names_n (tree.pair a b) = decided_either (names_n a) (names_n b)
names_n (tree.inl a) = names_n a
names_n (tree.inr a) = names_n a
names_n tree.unit = inr (λ x. x)
names_n tree.w = inr (λ x. x)

names_w : (t : Tree) → Decided (NamesW t)
names_w tree.w = inl tt
names_w (tree.pair a b) = decided_either (names_w a) (names_w b)
names_w (tree.inl a) = names_w a
names_w (tree.inr a) = names_w a
names_w tree.unit = inr (λ x. x)
names_w tree.n = inr (λ x. x)

decided_unwired : (row : BoxForm) → Decided (IsUnwired row)
decided_unwired row = decided_either
    (decided_both (decided_any NamesN names_n (trees_of row.command)) (decided_none row.n))
    (decided_both (decided_any NamesW names_w (trees_of row.command)) (decided_none row.w))

same_command : (row : BoxForm) (name other : List ℕ) → row.command ≡ call name → row.command ≡ call other → other ≡ name
same_command row name other is also = let e : call name ≡ call other = sym is ∙ also in cc

decided_use : (P : Program) (row : BoxForm) → Decided (UsesNone P row)
decided_use P row = by row.command refl
  where
    by : (c : Form) → row.command ≡ c → Decided (UsesNone P row)
    by (send outs) is = inr (λ (name, also, past). let e : send outs ≡ call name = sym is ∙ also in cc)
    by (case x left right) is = inr (λ (name, also, past). let e : case x left right ≡ call name = sym is ∙ also in cc)
    by (split x) is = inr (λ (name, also, past). let e : split x ≡ call name = sym is ∙ also in cc)
    by (call name) is = elim (cases_lt (find P name) (length P)) [
      | inl there ↦ inr (λ (other, also, past). let same = ap (find P) (same_command row name other is also) in omega arith)
      | inr past ↦ inl (name, is, past)
    ]

decided_badly : (P : Program) (row : BoxForm) → Decided (UsesBadly P row)
decided_badly P row = by row.command refl
  where
    by : (c : Form) → row.command ≡ c → Decided (UsesBadly P row)
    by (send outs) is = inr (λ (name, also, bad). let e : send outs ≡ call name = sym is ∙ also in cc)
    by (case x left right) is = inr (λ (name, also, bad). let e : case x left right ≡ call name = sym is ∙ also in cc)
    by (split x) is = inr (λ (name, also, bad). let e : split x ≡ call name = sym is ∙ also in cc)
    by (call name) is = elim (decided_inputs row (module_at P (find P name))) [
      | inl bad ↦ inl (name, is, bad)
      | inr good ↦ inr (well_used P row name (find P name) is refl good)
    ]

names_some : (P : Program) → HasAnswer (names_of P)
names_some P = least_some same_name (RepeatsName P) (least_below (RepeatsName P) decided (length P) (λ i repeats. repeats.within))
  where
    decided : (i : ℕ) → Decided (RepeatsName P i)
    decided i = elim (decided_both (decided_lt i (length P)) (decided_lt (find P (module_at P i).name) i)) [
      | inl (lt, less) ↦ inl (record { within = lt; earlier = less })
      | inr not ↦ inr (λ repeats. not (repeats.within, repeats.earlier))
    ]

start_some : (P : Program) → HasAnswer (start_of P)
start_some P =
    then_some (Refused no_main (length P ≤ main_of P)) (λ _. Refused (main_has_input (main_of P)) (HasEntry (module_at P (main_of P))))
    (refused_some no_main (length P ≤ main_of P) missing)
    (λ _. refused_some (main_has_input (main_of P)) (HasEntry (module_at P (main_of P))) (decided_either (decided_true (module_at P (main_of P)).north) (decided_true (module_at P (main_of P)).west)))
  where
    missing : Decided (length P ≤ main_of P)
    missing = elim (cases_lt (main_of P) (length P)) [ inl there ↦ inr (λ le. omega arith) | inr past ↦ inl past ]

box_some : (P : Program) (m b : ℕ) (row : BoxForm) → HasAnswer (box_faults P m b row)
box_some P m b row =
    then_some (Refused (no_module m b) (UsesNone P row)) (λ _. Then (Refused (bad_inputs m b) (UsesBadly P row)) (λ _. Refused (unwired m b) (IsUnwired row)))
    (refused_some (no_module m b) (UsesNone P row) (decided_use P row))
    (λ _. then_some (Refused (bad_inputs m b) (UsesBadly P row)) (λ _. Refused (unwired m b) (IsUnwired row))
    (refused_some (bad_inputs m b) (UsesBadly P row) (decided_badly P row))
    (λ _. refused_some (unwired m b) (IsUnwired row) (decided_unwired row)))

uses_some : (P : Program) → HasAnswer (uses_of P)
uses_some P =
    then_some (names_of P) (λ _. Then (start_of P) (λ _. all_boxes_of P)) (names_some P)
    (λ _. then_some (start_of P) (λ _. all_boxes_of P) (start_some P)
    (λ _. each_some (λ n one. boxes_of P n one.boxes) P (λ n i one is. each_some (box_faults P n) one.boxes (λ b j row at. box_some P n b row) 0) 0))

cycles_some : (P : Program) → HasAnswer (cycles_of P)
cycles_some P = each_some ring_of P ring 0
  where
    ring : (n i : ℕ) (one : ModuleForm) → slice_get P i ≡ Some one → HasAnswer (ring_of n one)
    ring n i one is = least_some (λ b. cycle n b) (λ b. Reaches one b b)
        (least_below (λ b. Reaches one b b) (λ b. decided_reaches one b b) (length one.boxes) (λ b reaches. reached_there one b b reaches))

pub table_some : (P : Program) → (r : Result Program Wrong) × table_of P r
table_some P =
    let (r, whole) = then_some (uses_of P) (λ _. Then (cycles_of P) (λ _. Gave P)) (uses_some P)
    (λ _. then_some (cycles_of P) (λ _. Gave P) (cycles_some P) (λ _. (Ok P, gave))) in
    (r, table_whole P r whole)
