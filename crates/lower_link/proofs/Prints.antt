-- The printer writes the text of a value.
use Rattle.std.proofs.Common.{◌≡◌, ◌≢◌, ℕ, zero, suc, ◌+◌, ◌*◌, ◌<◌, ◌≤◌, List, [], ◌∷◌, ◌++◌, length, take, drop, Some, refl, sym, ap, subst, ◌∙◌, length-append, arith}
use Rattle.std.specs.Prelude.{codes, slice_index}
use Rattle.std.specs.FinMap as map
use Rattle.std.proofs.lemmas.List.{append_assoc, append-nil}
use Rattle.um_word.specs.declared.op.Op.{Op}
use Rattle.um_word.specs.State.{State, Arrays, reg}
use Rattle.um_word.specs.Loads.{Loads}
use Rattle.um_word.specs.Leads.{IsNew, Leads}
use Rattle.um_word.proofs.Arrays.{get-insert_same, get-insert_other}
use Rattle.um_word.proofs.Leading.{no_step, weaken, weaken_along, join}
use Rattle.codex_values.specs.Value.{Value, unit, pair, inl, inr, show}
use Rattle.code_templates.specs.Lines.{StandsAt, IsOwnAt}
use Rattle.code_templates.specs.inner.Spent.{held, spent}
use Rattle.code_templates.proofs.Spent.{all_along, spent_back}
use Rattle.code_templates.proofs.Holding.{spent_is, held_new, counted}
use Rattle.code_templates.specs.Templates.{write_byte, push_work, pop_work, branch_on_slot, go_to_part}
use Rattle.code_templates.specs.Laws.{Quietly, Leaves, chosen_word, WriteByteLaw, PushWorkLaw, PopWorkLaw, BranchOnSlotLaw, GoToPartLaw}
use Rattle.code_templates.specs.inner.Freely.{Freely, ArrivesAt}
use Rattle.code_templates.proofs.Straight.{stands_front, stands_back, apart}
use Rattle.code_templates.proofs.BlockLaws.{branch_on_slot_law}
use Rattle.code_templates.proofs.PrinterLaws.{write_byte_law, push_work_law, pop_work_law, go_to_part_law}
use Rattle.lower_emit.specs.Entered.{HasBlocks}
use Rattle.lower_emit.specs.Stands.{Stands}
use Rattle.lower_emit.specs.inner.Stretches.{KeepsArrays}
use Rattle.lower_emit.proofs.Growth.{grows_all, stands_not_zero}
use Rattle.lower_link.specs.inner.Printer.{writes, print_value_code, IsPaid, Kept, IsKept, Prints, AreBytes, InPrinter, print_cycles, Printed, PrintLaw}

-- what the same arrays hold, and what they hold with a new one of three words
pub held_same : (m n : Arrays) → m ≡ n → held m ≤ held n + 0
held_same m n e = let h = ap held e in omega (arith, h)

pub same_length : {m n : ℕ} → m ≡ n → m ≡ n + 0
same_length e = omega (arith, e)

held_three : (m n : Arrays) (code : List ℕ) (new a b c : ℕ) → map.get n 0 ≡ Some code → IsNew n new → m ≡ map.insert n new (a ∷ b ∷ c ∷ []) → held m ≤ held n + 76
held_three m n code new a b c there is_new e = let h = ap held e in let g = held_new n code new (a ∷ b ∷ c ∷ []) there is_new in omega (arith, h, g)

-- the same arrays keep what stands there, and with a new one more
pub keeps_same : (m n : Arrays) → m ≡ n → KeepsArrays 0 n m
keeps_same m n same k ws z f e = ap (λ x. map.get x k) same ∙ e

keeps_three : (m n : Arrays) (new : ℕ) (ws : List ℕ) → IsNew n new → m ≡ map.insert n new ws → KeepsArrays 0 n m
keeps_three m n new ws is_new same k vs z f e = ap (λ x. map.get x k) same ∙ get-insert_other n new ws k (apart n new k vs is_new e) ∙ e

-- the blocks go on standing where the arrays and register 1 are as they were
kept_on : (kept : Kept) (s t : State) → KeepsArrays 0 s.arrays t.arrays → reg t 1 ≡ reg s 1 → IsKept kept s → IsKept kept t
kept_on kept s t keeps same h =
    subst (λ k. HasBlocks kept.words k kept.ids t.arrays) (sym same)
    (record {
      not_zero = h.not_zero;
      there = keeps (reg s 1) kept.ids h.not_zero h.not_zero h.there;
      each = λ i lt. let e = h.each i lt in record { not_zero = e.not_zero; there = keeps (slice_index kept.ids i) (kept.words i) e.not_zero e.not_zero e.there };
    })

module _ (l : Loads) (base : ℕ) (kept : Kept) where
  abbrev pub Own : State → Loads → Type 0
  Own t k = IsOwnAt t × (k ≡ l) × IsPaid base 0 t × IsKept kept t

  abbrev Ends : ℕ → (State → Type 0) → State → Loads → Type 0
  Ends after Q t k = Q t × (k ≡ l) × IsPaid base after t × IsKept kept t

  pub chain : (a b c n m : ℕ) (Q R : State → Type 0) (s : State) → Prints l base kept a b n Q s → ((t : State) → Q t → Prints l base kept b c m R t) → Prints l base kept a c (n + m) R s
  chain a b c n m Q R s h go paid kept_is =
      join Own n m (Ends c R) s l
      (weaken Own n (Ends b Q) (Leads Own m (Ends c R)) (λ t k q. subst (λ x. Leads Own m (Ends c R) t x) (sym q.1) (go t q.0 q.2 q.3)) s l (h paid kept_is))

  pub becomes : (a b n : ℕ) (Q R : State → Type 0) (s : State) → ((t : State) → Q t → R t) → Prints l base kept a b n Q s → Prints l base kept a b n R s
  becomes a b n Q R s f h paid kept_is = weaken Own n (Ends b Q) (Ends b R) (λ t k q. (f t q.0, q.1, q.2, q.3)) s l (h paid kept_is)

  -- A template of so many cycles, after which so much more is held and so many bytes more are written: its credit pays for it until they are.
  pub freely : (a b size cycles more gain : ℕ) (Q : State → Type 0) (code : List ℕ) (s : State) → map.get s.arrays 0 ≡ Some code → cycles + more ≤ a → b + cycles + more ≤ a + 200 * gain →
      ((t : State) → Q t → held t.arrays ≤ held s.arrays + more) → ((t : State) → Q t → length t.out ≡ length s.out + gain) →
      ((t : State) → Q t → KeepsArrays 0 s.arrays t.arrays) → ((t : State) → Q t → reg t 1 ≡ reg s 1) → Freely size cycles [] [] Q s → Prints l base kept a b cycles Q s
  freely a b size cycles more gain Q code s there enough left holds longer keeps named h paid kept_is =
      let I : State → Loads → Type 0 = Quietly s.finger size [] s l in
      let R : State → Loads → Type 0 = λ t k. (Q t × (k ≡ l ++ [])) × (t.cycles ≡ s.cycles + cycles) in
      let most = spent s + cycles + more in
      let at_most : (t : State) (k : Loads) → R t k → spent t ≤ most = λ t k r.
      (let x = spent_is s in let y = spent_is t in let z = holds t r.0.0 in let n = r.1 in omega (arith, x, y, z, n)) in
      weaken_along (λ t k. I t k × (spent t ≤ most)) Own cycles (Ends b Q)
      (λ t k w. (w.0.0.own, w.0.1, (let o = ap length w.0.0.out in let x = w.1 in omega (arith, o, x, enough, paid)), kept_on kept s t (λ j ws z f e. w.0.0.stays j ws (λ c. omega (arith, c.1)) e) w.0.0.table kept_is)) s l
      (weaken (λ t k. I t k × (spent t ≤ most)) cycles R (Ends b Q)
      (λ t k r. (r.0.0, r.0.1 ∙ append-nil l, (let x = at_most t k r in let o = longer t r.0.0 in omega (arith, x, o, left, paid)), kept_on kept s t (keeps t r.0.0) (named t r.0.0) kept_is)) s l
      (all_along I R (λ t k w. w.0.own.own) (λ t. spent t ≤ most) (spent_back most) at_most cycles s l (code, there)
      (counted I (λ t k. Q t × (k ≡ l ++ [])) cycles s l (h l))))

  module _ (table : ℕ) (code : List ℕ) where
    pub comes : (place cell stack : ℕ) (arrays : Arrays) (out : List ℕ) (s : State) (ops : List Op) → map.get arrays 0 ≡ Some code → InPrinter table place cell stack arrays out s → StandsAt code place ops → ArrivesAt ops table cell s
    comes place cell stack arrays out s ops code_is here stand = record {
      running = here.running;
      code = code;
      code_is = ap (λ m. map.get m 0) here.arrays_are ∙ code_is;
      operators = subst (λ f. StandsAt code f ops) (sym here.finger) stand;
      eight = here.eight;
      zero_is = here.zero_is;
      table_is = here.table_is;
      current_is = here.current_is;
    }

    -- where a template leaves the machine is in the printer
    pub left : (place cell stack : ℕ) (arrays : Arrays) (out : List ℕ) (s t : State) (place2 : ℕ) (m : Arrays) (o : List ℕ) → Leaves place2 table cell m o s t → place2 ≡ place → m ≡ arrays → o ≡ out → reg t 3 ≡ stack → InPrinter table place cell stack arrays out t
    left place cell stack arrays out s t place2 m o h p a e r = record {
      running = h.running;
      finger = h.finger ∙ p;
      eight = h.eight;
      zero_is = h.zero_is;
      table_is = h.table_is;
      current_is = h.current_is;
      stack_is = r;
      arrays_are = h.arrays_are ∙ a;
      out_is = h.out_is ∙ e;
    }

    module _ (place cell stack : ℕ) (arrays : Arrays) (out : List ℕ) (s : State) (code_is : map.get arrays 0 ≡ Some code) (here : InPrinter table place cell stack arrays out s) where
      here_code : map.get s.arrays 0 ≡ Some code
      here_code = ap (λ m. map.get m 0) here.arrays_are ∙ code_is

      pub write : (a b : ℕ) → 2 ≤ a → b ≤ a + 198 → (byte : ℕ) → byte < 256 → StandsAt code place (write_byte byte) → Prints l base kept a b 2 (InPrinter table (place + 2) cell stack arrays (out ++ byte ∷ [])) s
      unfolding WriteByteLaw
      write a b enough next byte small stand =
          becomes a b 2 _ (InPrinter table (place + 2) cell stack arrays (out ++ byte ∷ [])) s
          (λ t h. left (place + 2) cell stack arrays (out ++ byte ∷ []) s t _ _ _ h.0 (ap (λ n. n + 2) here.finger) here.arrays_are (ap (λ o. o ++ byte ∷ []) here.out_is) (h.1 ∙ here.stack_is))
          (freely a b 2 2 0 1 _ code s here_code (omega (arith, enough)) (omega (arith, next)) (λ t h. held_same t.arrays s.arrays h.0.arrays_are) (λ t h. ap length h.0.out_is ∙ length-append s.out (byte ∷ [])) (λ t h. keeps_same t.arrays s.arrays h.0.arrays_are) (λ t h. h.0.table_is ∙ sym here.table_is) (write_byte_law byte table cell s (comes place cell stack arrays out s (write_byte byte) code_is here stand) small))

      pub push : (a b : ℕ) → b + 85 ≤ a → (to : ℕ) → StandsAt code place (push_work to) →
          Prints l base kept a b 9 (λ t. (new : ℕ) × IsNew arrays new × InPrinter table (place + 9) cell new (map.insert arrays new (to ∷ cell ∷ stack ∷ [])) out t) s
      unfolding PushWorkLaw
      push a b enough to stand =
          becomes a b 9 _ (λ t. (new : ℕ) × IsNew arrays new × InPrinter table (place + 9) cell new (map.insert arrays new (to ∷ cell ∷ stack ∷ [])) out t) s
          (λ t h. (
            h.0,
            subst (λ m. IsNew m h.0) here.arrays_are h.1,
            left (place + 9) cell h.0 (map.insert arrays h.0 (to ∷ cell ∷ stack ∷ [])) out s t _ _ _ h.2 (ap (λ n. n + 9) here.finger)
                (λ i. map.insert (here.arrays_are i) h.0 (to ∷ cell ∷ here.stack_is i ∷ [])) here.out_is h.3,
          ))
          (freely a b 9 9 76 0 _ code s here_code (omega (arith, enough)) (omega (arith, enough))
          (λ t h. held_three t.arrays s.arrays code h.0 to cell (reg s 3) here_code h.1 h.2.arrays_are) (λ t h. same_length (ap length h.2.out_is))
          (λ t h. keeps_three t.arrays s.arrays h.0 (to ∷ cell ∷ reg s 3 ∷ []) h.1 h.2.arrays_are) (λ t h. h.2.table_is ∙ sym here.table_is) (push_work_law to table cell s (comes place cell stack arrays out s (push_work to) code_is here stand)))

      pub pop : (a b : ℕ) → b + 6 ≤ a → (to next rest : ℕ) → StandsAt code place pop_work → map.get arrays stack ≡ Some (to ∷ next ∷ rest ∷ []) → Prints l base kept a b 6 (InPrinter table to next rest arrays out) s
      unfolding PopWorkLaw
      pop a b enough to next rest stand item =
          becomes a b 6 _ (InPrinter table to next rest arrays out) s
          (λ t h. left to next rest arrays out s t _ _ _ h.0 refl here.arrays_are here.out_is h.1)
          (freely a b 6 6 0 0 _ code s here_code (omega (arith, enough)) (omega (arith, enough)) (λ t h. held_same t.arrays s.arrays h.0.arrays_are) (λ t h. same_length (ap length h.0.out_is)) (λ t h. keeps_same t.arrays s.arrays h.0.arrays_are) (λ t h. h.0.table_is ∙ sym here.table_is) (pop_work_law to table cell next rest s (comes place cell stack arrays out s pop_work code_is here stand) ((λ i. map.get (here.arrays_are i) (here.stack_is i)) ∙ item)))

      pub go_part : (a b : ℕ) → b + 4 ≤ a → (f to : ℕ) (words : List ℕ) → StandsAt code place (go_to_part f to) → map.get arrays cell ≡ Some words → f < length words → Prints l base kept a b 4 (InPrinter table to (slice_index words f) stack arrays out) s
      unfolding GoToPartLaw
      go_part a b enough f to words stand part inside =
          becomes a b 4 _ (InPrinter table to (slice_index words f) stack arrays out) s
          (λ t h. left to (slice_index words f) stack arrays out s t _ _ _ h.0 refl here.arrays_are here.out_is (h.1 ∙ here.stack_is))
          (freely a b 4 4 0 0 _ code s here_code (omega (arith, enough)) (omega (arith, enough)) (λ t h. held_same t.arrays s.arrays h.0.arrays_are) (λ t h. same_length (ap length h.0.out_is)) (λ t h. keeps_same t.arrays s.arrays h.0.arrays_are) (λ t h. h.0.table_is ∙ sym here.table_is) (go_to_part_law f to table cell words s (comes place cell stack arrays out s (go_to_part f to) code_is here stand) (ap (λ m. map.get m cell) here.arrays_are ∙ part) inside))

      pub branch : (a b : ℕ) → b + 6 ≤ a → (x none some : ℕ) (words : List ℕ) → StandsAt code place (branch_on_slot x none some) → map.get arrays cell ≡ Some words → x < length words →
          Prints l base kept a b 6 (InPrinter table (chosen_word (slice_index words x) some none) cell stack arrays out) s
      unfolding BranchOnSlotLaw
      branch a b enough x none some words stand part inside =
          becomes a b 6 _ (InPrinter table (chosen_word (slice_index words x) some none) cell stack arrays out) s
          (λ t h. left (chosen_word (slice_index words x) some none) cell stack arrays out s t _ _ _ h.0 refl here.arrays_are here.out_is (h.1 ∙ here.stack_is))
          (freely a b 6 6 0 0 _ code s here_code (omega (arith, enough)) (omega (arith, enough)) (λ t h. held_same t.arrays s.arrays h.0.arrays_are) (λ t h. same_length (ap length h.0.out_is)) (λ t h. keeps_same t.arrays s.arrays h.0.arrays_are) (λ t h. h.0.table_is ∙ sym here.table_is) (branch_on_slot_law x none some table cell words s (comes place cell stack arrays out s (branch_on_slot x none some) code_is here stand) (ap (λ m. map.get m cell) here.arrays_are ∙ part) inside))

    pub write_all : (a b : ℕ) (bytes : List ℕ) → 2 ≤ a → b ≤ a + 198 * length bytes → (place cell stack : ℕ) (arrays : Arrays) (out : List ℕ) (s : State) → map.get arrays 0 ≡ Some code → InPrinter table place cell stack arrays out s →
        AreBytes bytes → StandsAt code place (writes bytes) → Prints l base kept a b (2 * length bytes) (InPrinter table (place + 2 * length bytes) cell stack arrays (out ++ bytes)) s
    write_all a b [] enough next place cell stack arrays out s code_is here small stand = λ paid kept_is.
        let e : place ≡ place + 2 * 0 = omega arith in
        no_step Own (Ends b (InPrinter table (place + 2 * 0) cell stack arrays (out ++ []))) s l
        (subst (λ o. InPrinter table (place + 2 * 0) cell stack arrays o s) (sym (append-nil out)) (subst (λ p. InPrinter table p cell stack arrays out s) e here), refl, omega (arith, next, paid), kept_is)
    write_all a b (byte ∷ bytes) enough next place cell stack arrays out s code_is here small stand =
        let n : 2 + 2 * length bytes ≡ 2 * suc (length bytes) = omega arith in
        let p : place + 2 + 2 * length bytes ≡ place + 2 * suc (length bytes) = omega arith in
        subst (λ c. Prints l base kept a b c (InPrinter table (place + 2 * suc (length bytes)) cell stack arrays (out ++ byte ∷ bytes)) s) n
        (chain a (a + 198) b 2 (2 * length bytes) (InPrinter table (place + 2) cell stack arrays (out ++ byte ∷ [])) (InPrinter table (place + 2 * suc (length bytes)) cell stack arrays (out ++ byte ∷ bytes)) s
        (write place cell stack arrays out s code_is here a (a + 198) enough (omega arith) byte small.0 (stands_front code place (write_byte byte) (writes bytes) stand))
        (λ t h. becomes (a + 198) b (2 * length bytes) (InPrinter table (place + 2 + 2 * length bytes) cell stack arrays ((out ++ byte ∷ []) ++ bytes)) (InPrinter table (place + 2 * suc (length bytes)) cell stack arrays (out ++ byte ∷ bytes)) t
        (λ u g. subst (λ o. InPrinter table (place + 2 * suc (length bytes)) cell stack arrays o u) (append_assoc out (byte ∷ []) bytes) (subst (λ x. InPrinter table x cell stack arrays ((out ++ byte ∷ []) ++ bytes) u) p g))
        (write_all (a + 198) b bytes (omega (arith, enough)) (omega (arith, next)) (place + 2) cell stack arrays (out ++ byte ∷ []) t code_is h small.1 (stands_back code place (write_byte byte) (writes bytes) stand))))

    pub stands_drop : (n place : ℕ) (ops : List Op) → StandsAt code place ops → StandsAt code (place + n) (drop n ops)
    stands_drop zero place ops h = let e : place ≡ place + 0 = omega arith in subst (λ p. StandsAt code p ops) e h
    stands_drop (suc n) place [] h = tt
    stands_drop (suc n) place (op ∷ ops) h = let e : place + 1 + n ≡ place + suc n = omega arith in subst (λ p. StandsAt code p (drop n ops)) e (stands_drop n (place + 1) ops h.1)

    pub stands_take : (n place : ℕ) (ops : List Op) → StandsAt code place ops → StandsAt code place (take n ops)
    stands_take zero place ops h = tt
    stands_take (suc n) place [] h = tt
    stands_take (suc n) place (op ∷ ops) h = (h.0, stands_take n (place + 1) ops h.1)

    pub chosen_some : (c a b : ℕ) → c ≢ 0 → chosen_word c a b ≡ a
    chosen_some zero a b ne = absurd (ne refl)
    chosen_some (suc c) a b ne = refl

    pub keeps_new : (m : Arrays) (id : ℕ) (ws : List ℕ) → IsNew m id → KeepsArrays 0 m (map.insert m id ws)
    keeps_new m id ws new k vs z y e = get-insert_other m id ws k (apart m id k vs new e) ∙ e

    module _ (stand : StandsAt code 15 print_value_code) where
      piece : (k n : ℕ) → StandsAt code (15 + k) (take n (drop k print_value_code))
      piece k n = stands_take n (15 + k) (drop k print_value_code) (stands_drop k 15 print_value_code stand)

      b0 : StandsAt code 15 (branch_on_slot 0 21 43)
      b0 = piece 0 6

      b1 : StandsAt code 21 (branch_on_slot 1 27 55)
      b1 = piece 6 6

      b2 : StandsAt code 27 (branch_on_slot 2 33 67)
      b2 = piece 12 6

      unit_text : StandsAt code 33 (writes (codes "()"))
      unit_text = piece 18 4

      unit_pop : StandsAt code 37 pop_work
      unit_pop = piece 22 6

      inl_text : StandsAt code 43 (writes (codes "Inl "))
      inl_text = piece 28 8

      inl_go : StandsAt code 51 (go_to_part 0 15)
      inl_go = piece 36 4

      inr_text : StandsAt code 55 (writes (codes "Inr "))
      inr_text = piece 40 8

      inr_go : StandsAt code 63 (go_to_part 1 15)
      inr_go = piece 48 4

      open_text : StandsAt code 67 (writes (codes "("))
      open_text = piece 52 2

      push_close : StandsAt code 69 (push_work 97)
      push_close = piece 54 9

      push_comma : StandsAt code 78 (push_work 91)
      push_comma = piece 63 9

      pair_go : StandsAt code 87 (go_to_part 2 15)
      pair_go = piece 72 4

      comma_text : StandsAt code 91 (writes (codes ","))
      comma_text = piece 76 2

      comma_go : StandsAt code 93 (go_to_part 3 15)
      comma_go = piece 78 4

      close_text : StandsAt code 97 (writes (codes ")"))
      close_text = piece 82 2

      close_pop : StandsAt code 99 pop_work
      close_pop = piece 84 6

      pub all : (v : Value) (cell stack place next rest : ℕ) (arrays : Arrays) (out : List ℕ) (s : State) → map.get arrays 0 ≡ Some code →
          InPrinter table 15 cell stack arrays out s → Stands arrays cell v → stack ≢ 0 → map.get arrays stack ≡ Some (place ∷ next ∷ rest ∷ []) →
          Prints l base kept 20 20 (print_cycles v) (Printed table place next rest arrays code (out ++ show v)) s
      all unit cell stack place next rest arrays out s code_is here h ne item =
          chain 20 14 20 6 22 _ _ s (branch 15 cell stack arrays out s code_is here 20 14 (omega arith) 0 21 43 _ b0 h.1 (omega arith)) (λ s1 h1.
          chain 14 8 20 6 16 _ _ s1 (branch 21 cell stack arrays out s1 code_is h1 14 8 (omega arith) 1 27 55 _ b1 h.1 (omega arith)) (λ s2 h2.
          chain 8 2 20 6 10 _ _ s2 (branch 27 cell stack arrays out s2 code_is h2 8 2 (omega arith) 2 33 67 _ b2 h.1 (omega arith)) (λ s3 h3.
          chain 2 398 20 4 6 _ _ s3 (write_all 2 398 (codes "()") (omega arith) (omega arith) 33 cell stack arrays out s3 code_is h3 (omega arith, (omega arith, tt)) unit_text) (λ s4 h4.
          becomes 398 20 6 _ _ s4 (λ t h5. record { now = arrays; keeps = λ k ws z f e. e; code_is = code_is; here = h5 })
          (pop 37 cell stack arrays (out ++ codes "()") s4 code_is h4 398 20 (omega arith) place next rest unit_pop item)))))
      all (inl v) cell stack place next rest arrays out s code_is here h ne item =
          let x = h.0 in
          let n : 6 + (8 + (4 + print_cycles v)) ≡ 18 + print_cycles v = omega arith in
          let ways : chosen_word x 43 21 ≡ 43 = chosen_some x 43 21 (stands_not_zero arrays v x h.2) in
          subst (λ c. Prints l base kept 20 20 c (Printed table place next rest arrays code (out ++ show (inl v))) s) n
          (chain 20 14 20 6 (8 + (4 + print_cycles v)) _ _ s (branch 15 cell stack arrays out s code_is here 20 14 (omega arith) 0 21 43 _ b0 h.1.1 (omega arith)) (λ s1 h1.
          chain 14 806 20 8 (4 + print_cycles v) _ _ s1 (write_all 14 806 (codes "Inl ") (omega arith) (omega arith) 43 cell stack arrays out s1 code_is (subst (λ p. InPrinter table p cell stack arrays out s1) ways h1) (omega arith, (omega arith, (omega arith, (omega arith, tt)))) inl_text) (λ s2 h2.
          chain 806 20 20 4 (print_cycles v) _ _ s2 (go_part 51 cell stack arrays (out ++ codes "Inl ") s2 code_is h2 806 20 (omega arith) 0 15 _ inl_go h.1.1 (omega arith)) (λ s3 h3.
          subst (λ o. Prints l base kept 20 20 (print_cycles v) (Printed table place next rest arrays code o) s3) (append_assoc out (codes "Inl ") (show v))
          (all v x stack place next rest arrays (out ++ codes "Inl ") s3 code_is h3 h.2 ne item)))))
      all (inr v) cell stack place next rest arrays out s code_is here h ne item =
          let x = h.0 in
          let n : 6 + (6 + (8 + (4 + print_cycles v))) ≡ 24 + print_cycles v = omega arith in
          let ways : chosen_word x 55 27 ≡ 55 = chosen_some x 55 27 (stands_not_zero arrays v x h.2) in
          subst (λ c. Prints l base kept 20 20 c (Printed table place next rest arrays code (out ++ show (inr v))) s) n
          (chain 20 14 20 6 (6 + (8 + (4 + print_cycles v))) _ _ s (branch 15 cell stack arrays out s code_is here 20 14 (omega arith) 0 21 43 _ b0 h.1.1 (omega arith)) (λ s0 h0.
          chain 14 8 20 6 (8 + (4 + print_cycles v)) _ _ s0 (branch 21 cell stack arrays out s0 code_is h0 14 8 (omega arith) 1 27 55 _ b1 h.1.1 (omega arith)) (λ s1 h1.
          chain 8 800 20 8 (4 + print_cycles v) _ _ s1 (write_all 8 800 (codes "Inr ") (omega arith) (omega arith) 55 cell stack arrays out s1 code_is (subst (λ p. InPrinter table p cell stack arrays out s1) ways h1) (omega arith, (omega arith, (omega arith, (omega arith, tt)))) inr_text) (λ s2 h2.
          chain 800 20 20 4 (print_cycles v) _ _ s2 (go_part 63 cell stack arrays (out ++ codes "Inr ") s2 code_is h2 800 20 (omega arith) 1 15 _ inr_go h.1.1 (omega arith)) (λ s3 h3.
          subst (λ o. Prints l base kept 20 20 (print_cycles v) (Printed table place next rest arrays code o) s3) (append_assoc out (codes "Inr ") (show v))
          (all v x stack place next rest arrays (out ++ codes "Inr ") s3 code_is h3 h.2 ne item))))))
      all (pair v w) cell stack place next rest arrays out s code_is here h ne item =
          let x = h.0 in
          let y = h.1 in
          let n : 6 + (6 + (6 + (2 + (9 + (9 + (4 + (print_cycles v + (2 + (4 + (print_cycles w + (2 + 6))))))))))) ≡ 42 + (print_cycles v + (6 + (print_cycles w + 8))) = omega arith in
          let ways : chosen_word x 67 33 ≡ 67 = chosen_some x 67 33 (stands_not_zero arrays v x h.3) in
          let o0 = out ++ codes "(" in
          let o1 = o0 ++ show v in
          let o2 = o1 ++ codes "," in
          let o3 = o2 ++ show w in
          let o4 = o3 ++ codes ")" in
          let text : o4 ≡ out ++ show (pair v w) = whole out (codes "(") (show v) (codes ",") (show w) (codes ")") in
          subst (λ c. Prints l base kept 20 20 c (Printed table place next rest arrays code (out ++ show (pair v w))) s) n
          (subst (λ o. Prints l base kept 20 20 (6 + (6 + (6 + (2 + (9 + (9 + (4 + (print_cycles v + (2 + (4 + (print_cycles w + (2 + 6)))))))))))) (Printed table place next rest arrays code o) s) text
          (chain 20 14 20 6 (6 + (6 + (2 + (9 + (9 + (4 + (print_cycles v + (2 + (4 + (print_cycles w + (2 + 6))))))))))) _ _ s (branch 15 cell stack arrays out s code_is here 20 14 (omega arith) 0 21 43 _ b0 h.2.1 (omega arith)) (λ s1 h1.
          chain 14 8 20 6 (6 + (2 + (9 + (9 + (4 + (print_cycles v + (2 + (4 + (print_cycles w + (2 + 6)))))))))) _ _ s1 (branch 21 cell stack arrays out s1 code_is h1 14 8 (omega arith) 1 27 55 _ b1 h.2.1 (omega arith)) (λ s2 h2.
          chain 8 2 20 6 (2 + (9 + (9 + (4 + (print_cycles v + (2 + (4 + (print_cycles w + (2 + 6))))))))) _ _ s2 (branch 27 cell stack arrays out s2 code_is h2 8 2 (omega arith) 2 33 67 _ b2 h.2.1 (omega arith)) (λ s3 h3.
          chain 2 200 20 2 (9 + (9 + (4 + (print_cycles v + (2 + (4 + (print_cycles w + (2 + 6)))))))) _ _ s3 (write_all 2 200 (codes "(") (omega arith) (omega arith) 67 cell stack arrays out s3 code_is (subst (λ p. InPrinter table p cell stack arrays out s3) ways h3) (omega arith, tt) open_text) (λ s4 h4.
          chain 200 115 20 9 (9 + (4 + (print_cycles v + (2 + (4 + (print_cycles w + (2 + 6))))))) _ _ s4 (push 69 cell stack arrays o0 s4 code_is h4 200 115 (omega arith) 97 push_close) (λ s5 h5.
          let one = h5.0 in
          let m1 = map.insert arrays one (97 ∷ cell ∷ stack ∷ []) in
          let k1 = keeps_new arrays one (97 ∷ cell ∷ stack ∷ []) h5.1 in
          let c1 : map.get m1 0 ≡ Some code = get-insert_other arrays one (97 ∷ cell ∷ stack ∷ []) 0 (λ e. h5.1.not_zero (sym e)) ∙ code_is in
          chain 115 30 20 9 (4 + (print_cycles v + (2 + (4 + (print_cycles w + (2 + 6)))))) _ _ s5 (push 78 cell one m1 o0 s5 c1 h5.2 115 30 (omega arith) 91 push_comma) (λ s6 h6.
          let two = h6.0 in
          let m2 = map.insert m1 two (91 ∷ cell ∷ one ∷ []) in
          let k2 = keeps_new m1 two (91 ∷ cell ∷ one ∷ []) h6.1 in
          let c2 : map.get m2 0 ≡ Some code = get-insert_other m1 two (91 ∷ cell ∷ one ∷ []) 0 (λ e. h6.1.not_zero (sym e)) ∙ c1 in
          let to_m2 : KeepsArrays 0 arrays m2 = λ k ws z f e. k2 k ws z f (k1 k ws z f e) in
          chain 30 20 20 4 (print_cycles v + (2 + (4 + (print_cycles w + (2 + 6))))) _ _ s6 (go_part 87 cell two m2 o0 s6 c2 h6.2 30 20 (omega arith) 2 15 _ pair_go (to_m2 cell _ h.2.0 h.2.0 h.2.1) (omega arith)) (λ s7 h7.
          chain 20 20 20 (print_cycles v) (2 + (4 + (print_cycles w + (2 + 6)))) _ _ s7 (all v x two 91 cell one m2 o0 s7 c2 h7 (grows_all arrays m2 to_m2 v x h.3) h6.1.not_zero (get-insert_same m1 two (91 ∷ cell ∷ one ∷ []))) (λ s8 p.
          let m3 = p.now in
          let to_m3 : KeepsArrays 0 arrays m3 = λ k ws z f e. p.keeps k ws z f (to_m2 k ws z f e) in
          chain 20 218 20 2 (4 + (print_cycles w + (2 + 6))) _ _ s8 (write_all 20 218 (codes ",") (omega arith) (omega arith) 91 cell one m3 o1 s8 p.code_is p.here (omega arith, tt) comma_text) (λ s9 h9.
          chain 218 20 20 4 (print_cycles w + (2 + 6)) _ _ s9 (go_part 93 cell one m3 o2 s9 p.code_is h9 218 20 (omega arith) 3 15 _ comma_go (to_m3 cell _ h.2.0 h.2.0 h.2.1) (omega arith)) (λ s10 h10.
          chain 20 20 20 (print_cycles w) (2 + 6) _ _ s10 (all w y one 97 cell stack m3 o2 s10 p.code_is h10 (grows_all arrays m3 to_m3 w y h.4) h5.1.not_zero
          (p.keeps one _ h5.1.not_zero h5.1.not_zero (k2 one _ h5.1.not_zero h5.1.not_zero (get-insert_same arrays one (97 ∷ cell ∷ stack ∷ []))))) (λ s11 q.
          let m4 = q.now in
          chain 20 218 20 2 6 _ _ s11 (write_all 20 218 (codes ")") (omega arith) (omega arith) 97 cell stack m4 o3 s11 q.code_is q.here (omega arith, tt) close_text) (λ s12 h12.
          becomes 218 20 6 _ _ s12 (λ t g. record { now = m4; keeps = λ k ws z f e. q.keeps k ws z f (to_m3 k ws z f e); code_is = q.code_is; here = g })
          (pop 99 cell stack m4 o4 s12 q.code_is h12 218 20 (omega arith) place next rest close_pop (q.keeps stack _ ne ne (to_m3 stack _ ne ne item)))))))))))))))))
        where
          whole : (a b c d e f : List ℕ) → ((((a ++ b) ++ c) ++ d) ++ e) ++ f ≡ a ++ ((((b ++ c) ++ d) ++ e) ++ f)
          whole a b c d e f =
              ap (λ x. ((x ++ d) ++ e) ++ f) (append_assoc a b c) ∙ ap (λ x. (x ++ e) ++ f) (append_assoc a (b ++ c) d)
              ∙ ap (λ x. x ++ f) (append_assoc a ((b ++ c) ++ d) e) ∙ append_assoc a (((b ++ c) ++ d) ++ e) f

pub prints : PrintLaw
unfolding PrintLaw
prints base kept table code l v cell stack place next rest arrays out s stand code_is here stands ne item =
    all l base kept table code stand v cell stack place next rest arrays out s code_is here stands ne item
