-- The printer writes the lines of a trail, and the text of an outcome.
use Rattle.std.proofs.Common.{◌≡◌, ◌≢◌, ℕ, ◌+◌, ◌*◌, ◌<◌, ◌≤◌, List, [], ◌∷◌, ◌++◌, length, take, drop, Some, refl, sym, ap, subst, ◌∙◌, arith}
use Rattle.std.specs.Prelude.{codes, slice_index}
use Rattle.std.specs.FinMap as map
use Rattle.std.proofs.lemmas.List.{append_assoc}
use Rattle.um_word.specs.State.{State, Arrays, reg}
use Rattle.um_word.specs.Loads.{Loads}
use Rattle.um_word.proofs.Arrays.{get-insert_same, get-insert_other}
use Rattle.codex_values.specs.Value.{show}
use Rattle.code_templates.specs.Lines.{StandsAt}
use Rattle.code_templates.specs.Templates.{start_text, write_byte, push_work, pop_work, branch_on_slot, go_to_part, go_to_text, halt}
use Rattle.code_templates.specs.Laws.{chosen_word, GoToTextLaw, StartTextLaw, HaltLaw}
use Rattle.code_templates.proofs.Straight.{stands_front, stands_back}
use Rattle.code_templates.proofs.PrinterLaws.{go_to_text_law, start_text_law, halt_law}
use Rattle.lower_emit.specs.inner.Stretches.{KeepsArrays}
use Rattle.lower_emit.specs.Stands.{TextTrail, At, Via, Trails}
use Rattle.lower_emit.specs.inner.Uses.{Returned}
use Rattle.lower_emit.proofs.Growth.{grows_all, stands_not_zero}
use Rattle.lower_emit.proofs.Ending.{trail_not_zero}
use Rattle.lower_link.specs.inner.Printer.{writes, print_value_code, Kept, Prints, InPrinter, print_cycles, Printed, printer_code, IsPrinter, lines, AreTexts, line_cycles, members, LinesLaw, Shown, ShowsValue, ShowsTrail, shown_came, shown_text, AreShown, shown_cycles, shown_credit, Over, PrinterLaw}
use Rattle.lower_link.proofs.Prints.{held_same, same_length, keeps_same, chain, becomes, freely, comes, left, write, push, pop, go_part, branch, write_all, stands_drop, stands_take, chosen_some, keeps_new}
use Rattle.lower_link.proofs.Prints as prints

trails_grow : (m n : Arrays) → KeepsArrays 0 m n → (r : TextTrail) (k : ℕ) → Trails m k r → Trails n k r
trails_grow m n keeps (At j) k h = (h.0, keeps k _ h.0 h.0 h.1)
trails_grow m n keeps (Via j inner) k h = (h.0, (h.1.0, keeps k _ h.1.0 h.1.0 h.1.1), trails_grow m n keeps inner h.0 h.2)

-- the first word of a trail's cell is the number of its text
trail_cell : (m : Arrays) (r : TextTrail) (k : ℕ) → Trails m k r → (words : List ℕ) × (map.get m k ≡ Some words)
trail_cell m (At j) k h = (_, h.1)
trail_cell m (Via j inner) k h = (_, h.1.1)

module _ (l : Loads) (base : ℕ) (kept : Kept) (table : ℕ) (code : List ℕ) (text : ℕ → List ℕ) (texts : ℕ) (is : IsPrinter code text texts) where
  piece : (k n : ℕ) → StandsAt code (0 + k) (take n (drop k printer_code))
  piece k n = stands_take l base kept table code n (0 + k) (drop k printer_code) (stands_drop l base kept table code k 0 printer_code is.stand)

  start_stands : StandsAt code 0 (start_text 6 108)
  start_stands = piece 0 6

  push_end : StandsAt code 6 (push_work 105)
  push_end = piece 6 9

  values : StandsAt code 15 print_value_code
  values = piece 15 90

  line_end : StandsAt code 105 (write_byte 10)
  line_end = piece 105 2

  stop : StandsAt code 107 halt
  stop = piece 107 1

  push_stop : StandsAt code 108 (push_work 107)
  push_stop = piece 108 9

  push_text : StandsAt code 117 (push_work 142)
  push_text = piece 117 9

  test_inner : StandsAt code 126 (branch_on_slot 1 132 138)
  test_inner = piece 126 6

  pop_last : StandsAt code 132 pop_work
  pop_last = piece 132 6

  go_inner : StandsAt code 138 (go_to_part 1 117)
  go_inner = piece 138 4

  go_line : StandsAt code 142 (go_to_text 147)
  go_line = piece 142 5

  -- the text of a cell is written
  one_line : (spare j : ℕ) (cell stack place next rest : ℕ) (words : List ℕ) (arrays : Arrays) (out : List ℕ) (s : State) → j < texts → map.get arrays 0 ≡ Some code → InPrinter table 142 cell stack arrays out s →
      map.get arrays cell ≡ Some (j ∷ words) → map.get arrays stack ≡ Some (place ∷ next ∷ rest ∷ []) →
      Prints l base kept (11 + spare) spare (11 + 2 * length (text j)) (InPrinter table place next rest arrays (out ++ text j)) s
  unfolding GoToTextLaw
  one_line spare j cell stack place next rest words arrays out s inside code_is here there item =
      let at = slice_index code (j + 147) in
      let long = is.inside in
      let n : 5 + (2 * length (text j) + 6) ≡ 11 + 2 * length (text j) = omega arith in
      let written = is.written j inside in
      subst (λ c. Prints l base kept (11 + spare) spare c (InPrinter table place next rest arrays (out ++ text j)) s) n
      (chain l base kept (11 + spare) (6 + spare) spare 5 (2 * length (text j) + 6) (InPrinter table at cell stack arrays out) (InPrinter table place next rest arrays (out ++ text j)) s
      (becomes l base kept (11 + spare) (6 + spare) 5 _ (InPrinter table at cell stack arrays out) s
      (λ t h. left l base kept table code at cell stack arrays out s t _ _ _ h.0 refl here.arrays_are here.out_is (h.1 ∙ here.stack_is))
      (freely l base kept (11 + spare) (6 + spare) 5 5 0 0 _ code s (ap (λ m. map.get m 0) here.arrays_are ∙ code_is) (omega arith) (omega arith) (λ t h. held_same t.arrays s.arrays h.0.arrays_are) (λ t h. same_length (ap length h.0.out_is)) (λ t h. keeps_same t.arrays s.arrays h.0.arrays_are) (λ t h. h.0.table_is ∙ sym here.table_is) (go_to_text_law 147 table cell (j ∷ words) code s (comes l base kept table code 142 cell stack arrays out s (go_to_text 147) code_is here go_line)
      (ap (λ m. map.get m cell) here.arrays_are ∙ there) (omega arith) (ap (λ m. map.get m 0) here.arrays_are ∙ code_is) (omega (arith, long, inside)) is.small))) (λ s1 h1.
      chain l base kept (6 + spare) (6 + spare) spare (2 * length (text j)) 6 (InPrinter table (at + 2 * length (text j)) cell stack arrays (out ++ text j)) (InPrinter table place next rest arrays (out ++ text j)) s1
      (write_all l base kept table code (6 + spare) (6 + spare) (text j) (omega arith) (omega arith) at cell stack arrays out s1 code_is h1 (is.bytes j inside) (stands_front code at (writes (text j)) pop_work written)) (λ s2 h2.
      pop l base kept table code (at + 2 * length (text j)) cell stack arrays (out ++ text j) s2 code_is h2 (6 + spare) spare (omega arith) place next rest
      (subst (λ k. StandsAt code (at + k) pop_work) (writes_length (text j)) (stands_back code at (writes (text j)) pop_work written)) item)))
    where
      writes_length : (bytes : List ℕ) → length (writes bytes) ≡ 2 * length bytes
      writes_length [] = refl
      writes_length (byte ∷ bytes) = let e = writes_length bytes in omega (arith, e)

  all : (spare : ℕ) (r : TextTrail) (cell stack place next rest : ℕ) (arrays : Arrays) (out : List ℕ) (s : State) → AreTexts texts r → map.get arrays 0 ≡ Some code → InPrinter table 117 cell stack arrays out s → Trails arrays cell r →
      stack ≢ 0 → map.get arrays stack ≡ Some (place ∷ next ∷ rest ∷ []) → Prints l base kept (108 * members r + spare) spare (line_cycles text r) (Printed table place next rest arrays code (out ++ lines text r)) s
  all spare (At j) cell stack place next rest arrays out s are code_is here h ne item =
      let n = length (text j) in
      let goal : State → Type 0 = Printed table place next rest arrays code (out ++ text j) in
      let e : 9 + (6 + (6 + (11 + 2 * n))) ≡ 21 + (11 + 2 * n) = omega arith in
      subst (λ c. Prints l base kept (108 * 1 + spare) spare c goal s) e
      (chain l base kept (108 * 1 + spare) (23 + spare) spare 9 (6 + (6 + (11 + 2 * n))) _ goal s (push l base kept table code 117 cell stack arrays out s code_is here (108 * 1 + spare) (23 + spare) (omega arith) 142 push_text) (λ s1 h1.
      let new = h1.0 in
      let item1 : List ℕ = 142 ∷ cell ∷ stack ∷ [] in
      let m = map.insert arrays new item1 in
      let keeps = keeps_new l base kept table code arrays new item1 h1.1 in
      let c1 : map.get m 0 ≡ Some code = get-insert_other arrays new item1 0 (λ e. h1.1.not_zero (sym e)) ∙ code_is in
      let cell1 = keeps cell _ h.0 h.0 h.1 in
      chain l base kept (23 + spare) (17 + spare) spare 6 (6 + (11 + 2 * n)) _ goal s1 (branch l base kept table code 126 cell new m out s1 c1 h1.2 (23 + spare) (17 + spare) (omega arith) 1 132 138 _ test_inner cell1 (omega arith)) (λ s2 h2.
      chain l base kept (17 + spare) (11 + spare) spare 6 (11 + 2 * n) _ goal s2 (pop l base kept table code 132 cell new m out s2 c1 h2 (17 + spare) (11 + spare) (omega arith) 142 cell stack pop_last (get-insert_same arrays new item1)) (λ s3 h3.
      becomes l base kept (11 + spare) spare (11 + 2 * n) _ goal s3 (λ t g. record { now = m; keeps = keeps; code_is = c1; here = g })
      (one_line spare j cell stack place next rest _ m out s3 are c1 h3 cell1 (keeps stack _ ne ne item))))))
  all spare (Via j inner) cell stack place next rest arrays out s are code_is here h ne item =
      let n = length (text j) in
      let k = line_cycles text inner in
      let x = h.0 in
      let c0 = members inner in
      let goal : State → Type 0 = Printed table place next rest arrays code (out ++ lines text (Via j inner)) in
      let e : 9 + (6 + (4 + (k + (11 + 2 * n)))) ≡ 19 + (k + (11 + 2 * n)) = omega arith in
      subst (λ c. Prints l base kept (108 * (1 + c0) + spare) spare c goal s) e
      (chain l base kept (108 * (1 + c0) + spare) (108 * c0 + (23 + spare)) spare 9 (6 + (4 + (k + (11 + 2 * n)))) _ goal s (push l base kept table code 117 cell stack arrays out s code_is here (108 * (1 + c0) + spare) (108 * c0 + (23 + spare)) (omega arith) 142 push_text) (λ s1 h1.
      let new = h1.0 in
      let item1 : List ℕ = 142 ∷ cell ∷ stack ∷ [] in
      let m = map.insert arrays new item1 in
      let keeps = keeps_new l base kept table code arrays new item1 h1.1 in
      let c1 : map.get m 0 ≡ Some code = get-insert_other arrays new item1 0 (λ e. h1.1.not_zero (sym e)) ∙ code_is in
      let cell1 = keeps cell _ h.1.0 h.1.0 h.1.1 in
      let inner1 = trails_grow arrays m keeps inner x h.2 in
      let ways : chosen_word x 138 132 ≡ 138 = chosen_some l base kept table code x 138 132 (trail_not_zero arrays inner x h.2) in
      chain l base kept (108 * c0 + (23 + spare)) (108 * c0 + (17 + spare)) spare 6 (4 + (k + (11 + 2 * n))) _ goal s1 (branch l base kept table code 126 cell new m out s1 c1 h1.2 (108 * c0 + (23 + spare)) (108 * c0 + (17 + spare)) (omega arith) 1 132 138 _ test_inner cell1 (omega arith)) (λ s2 h2.
      chain l base kept (108 * c0 + (17 + spare)) (108 * c0 + (11 + spare)) spare 4 (k + (11 + 2 * n)) _ goal s2 (go_part l base kept table code 138 cell new m out s2 c1 (subst (λ p. InPrinter table p cell new m out s2) ways h2) (108 * c0 + (17 + spare)) (108 * c0 + (11 + spare)) (omega arith) 1 117 _ go_inner cell1 (omega arith)) (λ s3 h3.
      chain l base kept (108 * c0 + (11 + spare)) (11 + spare) spare k (11 + 2 * n) _ goal s3 (all (11 + spare) inner x new 142 cell stack m out s3 are.1 c1 h3 inner1 h1.1.not_zero (get-insert_same arrays new item1)) (λ s4 p.
      let to : KeepsArrays 0 arrays p.now = λ q ws z f e. p.keeps q ws z f (keeps q ws z f e) in
      becomes l base kept (11 + spare) spare (11 + 2 * n) _ goal s4
      (λ t g. record { now = p.now; keeps = to; code_is = p.code_is; here = subst (λ o. InPrinter table place next rest p.now o t) (append_assoc out (lines text inner) (text j)) g })
      (one_line spare j cell stack place next rest _ p.now (out ++ lines text inner) s4 are.0 p.code_is p.here (to cell _ h.1.0 h.1.0 h.1.1) (to stack _ ne ne item)))))))

  -- the printer halts
  halts : (cell stack : ℕ) (arrays : Arrays) (out : List ℕ) (s : State) → map.get arrays 0 ≡ Some code → InPrinter table 107 cell stack arrays out s → Prints l base kept 1 0 1 (Over out) s
  unfolding HaltLaw
  halts cell stack arrays out s code_is here =
      becomes l base kept 1 0 1 _ (Over out) s (λ t h. record { halted = h.halted; out_is = h.out_is ∙ here.out_is })
      (freely l base kept 1 0 1 1 0 0 _ code s (ap (λ m. map.get m 0) here.arrays_are ∙ code_is) (omega arith) (omega arith) (λ t h. held_same t.arrays s.arrays h.arrays_are) (λ t h. same_length (ap length h.out_is)) (λ t h. keeps_same t.arrays s.arrays h.arrays_are) (λ t h. h.table_is) (halt_law table cell s (comes l base kept table code 107 cell stack arrays out s halt code_is here stop)))

pub line_law : LinesLaw
unfolding LinesLaw
line_law base kept spare table code text texts l r cell stack place next rest arrays out s is are code_is here stands ne item =
    all l base kept table code text texts is spare r cell stack place next rest arrays out s are code_is here stands ne item

module _ (base : ℕ) (kept : Kept) (blocks : ℕ → List ℕ) (text : ℕ → List ℕ) (texts table number frame : ℕ) (l : Loads) (s t : State) (is : IsPrinter (blocks number) text texts) where
  abbrev code : List ℕ
  code = blocks number

  -- the outcome becomes the record
  started : (a b : ℕ) → b + 6 ≤ a → (shown : Shown) → Returned blocks table (record { caller = 0; block = number; offset = 0 }) (shown_came shown) frame s t →
      Prints l base kept a b 6 (λ u. InPrinter table (chosen_word (reg t 3) 6 108) (chosen_word (reg t 3) (reg t 3) (reg t 4)) (reg u 3) t.arrays t.out u) t
  unfolding StartTextLaw
  started a b enough shown ret =
      becomes l base kept a b 6 _ (λ u. InPrinter table (chosen_word (reg t 3) 6 108) (chosen_word (reg t 3) (reg t 3) (reg t 4)) (reg u 3) t.arrays t.out u) t
      (λ u h. left l base kept table code (chosen_word (reg t 3) 6 108) (chosen_word (reg t 3) (reg t 3) (reg t 4)) (reg u 3) t.arrays t.out t u _ _ _ h refl refl refl refl)
      (freely l base kept a b 6 6 0 0 _ code t ret.code_is (omega (arith, enough)) (omega (arith, enough)) (λ u h. held_same u.arrays t.arrays h.arrays_are) (λ u h. same_length (ap length h.out_is)) (λ u h. keeps_same u.arrays t.arrays h.arrays_are) (λ u h. h.table_is ∙ sym ret.table_is) (start_text_law 6 108 table t (record {
        running = ret.running;
        code = code;
        code_is = ret.code_is;
        operators = subst (λ f. StandsAt code f (start_text 6 108)) (sym ret.finger) (start_stands l base kept table code text texts is);
        eight = ret.eight;
        zero_is = ret.zero_is;
        table_is = ret.table_is;
        current_is = ret.current_is;
      })))

  whole : (shown : Shown) → AreShown texts shown → Returned blocks table (record { caller = 0; block = number; offset = 0 }) (shown_came shown) frame s t → Prints l base kept (shown_credit shown) 0 (shown_cycles text shown) (Over (t.out ++ shown_text text shown)) t
  whole (ShowsValue v) are ret =
      let x = reg t 3 in
      let ne = stands_not_zero t.arrays v x ret.value_is in
      let m = t.arrays in
      let k = print_cycles v in
      let place_is : chosen_word x 6 108 ≡ 6 = chosen_some l base kept table code x 6 108 ne in
      let cell_is : chosen_word x x (reg t 4) ≡ x = chosen_some l base kept table code x x (reg t 4) ne in
      let n : 6 + (9 + (k + (2 + 1))) ≡ 18 + k = omega arith in
      let goal : State → Type 0 = Over (t.out ++ (show v ++ codes "\n")) in
      subst (λ c. Prints l base kept 111 0 c goal t) n
      (chain l base kept 111 105 0 6 (9 + (k + (2 + 1))) _ goal t (started 111 105 (omega arith) (ShowsValue v) ret) (λ s1 h1.
      let here : InPrinter table 6 x (reg s1 3) m t.out s1 = subst (λ c. InPrinter table 6 c (reg s1 3) m t.out s1) cell_is (subst (λ p. InPrinter table p (chosen_word x x (reg t 4)) (reg s1 3) m t.out s1) place_is h1) in
      chain l base kept 105 20 0 9 (k + (2 + 1)) _ goal s1 (push l base kept table code 6 x (reg s1 3) m t.out s1 ret.code_is here 105 20 (omega arith) 105 (push_end l base kept table code text texts is)) (λ s2 h2.
      let new = h2.0 in
      let item : List ℕ = 105 ∷ x ∷ reg s1 3 ∷ [] in
      let m2 = map.insert m new item in
      let keeps = keeps_new l base kept table code m new item h2.1 in
      let c2 : map.get m2 0 ≡ Some code = get-insert_other m new item 0 (λ e. h2.1.not_zero (sym e)) ∙ ret.code_is in
      chain l base kept 20 20 0 k (2 + 1) _ goal s2 (prints.all l base kept table code (values l base kept table code text texts is) v x new 105 x (reg s1 3) m2 t.out s2 c2 h2.2 (grows_all m m2 keeps v x ret.value_is) h2.1.not_zero (get-insert_same m new item)) (λ s3 p.
      chain l base kept 20 1 0 2 1 _ goal s3 (write l base kept table code 105 x (reg s1 3) p.now (t.out ++ show v) s3 p.code_is p.here 20 1 (omega arith) (omega arith) 10 (omega arith) (line_end l base kept table code text texts is)) (λ s4 h4.
      subst (λ o. Prints l base kept 1 0 1 (Over o) s4) (append_assoc t.out (show v) (codes "\n")) (halts l base kept table code text texts is x (reg s1 3) p.now _ s4 p.code_is h4))))))
  whole (ShowsTrail r) are ret =
      let x = reg t 4 in
      let m = t.arrays in
      let k = line_cycles text r in
      let none = ret.value_is in
      let place_is : chosen_word (reg t 3) 6 108 ≡ 108 = ap (λ z. chosen_word z 6 108) none in
      let cell_is : chosen_word (reg t 3) (reg t 3) x ≡ x = ap (λ z. chosen_word z z x) none in
      let n : 6 + (9 + (k + 1)) ≡ 16 + k = omega arith in
      let goal : State → Type 0 = Over (t.out ++ lines text r) in
      subst (λ c. Prints l base kept (92 + 108 * members r) 0 c goal t) n
      (chain l base kept (92 + 108 * members r) (86 + 108 * members r) 0 6 (9 + (k + 1)) _ goal t (started (92 + 108 * members r) (86 + 108 * members r) (omega arith) (ShowsTrail r) ret) (λ s1 h1.
      let here : InPrinter table 108 x (reg s1 3) m t.out s1 = subst (λ c. InPrinter table 108 c (reg s1 3) m t.out s1) cell_is (subst (λ p. InPrinter table p (chosen_word (reg t 3) (reg t 3) x) (reg s1 3) m t.out s1) place_is h1) in
      chain l base kept (86 + 108 * members r) (108 * members r + 1) 0 9 (k + 1) _ goal s1 (push l base kept table code 108 x (reg s1 3) m t.out s1 ret.code_is here (86 + 108 * members r) (108 * members r + 1) (omega arith) 107 (push_stop l base kept table code text texts is)) (λ s2 h2.
      let new = h2.0 in
      let item : List ℕ = 107 ∷ x ∷ reg s1 3 ∷ [] in
      let m2 = map.insert m new item in
      let keeps = keeps_new l base kept table code m new item h2.1 in
      let c2 : map.get m2 0 ≡ Some code = get-insert_other m new item 0 (λ e. h2.1.not_zero (sym e)) ∙ ret.code_is in
      chain l base kept (108 * members r + 1) 1 0 k 1 _ goal s2 (all l base kept table code text texts is 1 r x new 107 x (reg s1 3) m2 t.out s2 are c2 h2.2 (trails_grow m m2 keeps r x ret.mark_is) h2.1.not_zero (get-insert_same m new item)) (λ s3 p.
      halts l base kept table code text texts is x (reg s1 3) p.now (t.out ++ lines text r) s3 p.code_is p.here))))

pub printer_law : PrinterLaw
unfolding PrinterLaw
printer_law base kept blocks text texts table number shown frame l s t is are ret = whole base kept blocks text texts table number frame l s t is shown are ret
