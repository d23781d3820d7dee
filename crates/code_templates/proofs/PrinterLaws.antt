-- The laws of the printer's templates.
use Rattle.std.proofs.Common.{◌≡◌, ℕ, zero, suc, ◌+◌, ◌%◌, ◌^◌, [], ◌∷◌, refl, sym, subst, arith}
use Rattle.std.specs.Prelude.{slice_index}
use Rattle.um_word.specs.State.{State, reg}
use Rattle.code_templates.specs.Templates.{start_text, write_byte, push_work, pop_work, go_to_part, go_to_text, halt, make_table}
use Rattle.code_templates.specs.Laws.{Leaves, chosen_word, StartTextLaw, WriteByteLaw, PushWorkLaw, PopWorkLaw, GoToPartLaw, GoToTextLaw, HaltLaw, MakeTableLaw}
use Rattle.code_templates.specs.inner.Freely.{Freely, freely, ArrivesAt}
use Rattle.code_templates.proofs.Lines.{end, set, index, amend_last, add_to, alloc, move, move_not, jump}
use Rattle.code_templates.proofs.Lines as lines
use Rattle.code_templates.proofs.Still.{fresh}
use Rattle.code_templates.proofs.Straight.{template, there, arrives}

start_by : (v x value trail table : ℕ) (s : State) → reg s 3 ≡ v → reg s 4 ≡ x → ArrivesAt (start_text value trail) table 0 s →
    Freely 6 6 [] [] (λ t. Leaves (chosen_word v value trail) table (chosen_word v (reg s 3) x) s.arrays s.out s t) s
start_by zero zero value trail table s e d c =
    template (start_text value trail) refl table 0 _ _ s c (set (set (move_not e (move_not d (move_not e (jump refl (arrives, refl)))))))
start_by zero (suc x) value trail table s e d c =
    subst (λ y. Freely 6 6 [] [] (λ t. Leaves trail table y s.arrays s.out s t) s) d
    (template (start_text value trail) refl table 0 _ _ s c (set (set (move_not e (move (λ h. omega (arith, h, d)) (move_not e (jump refl (arrives, refl))))))))
start_by (suc v) zero value trail table s e d c =
    template (start_text value trail) refl table 0 _ _ s c (set (set (move (λ h. omega (arith, h, e)) (move_not d (move (λ h. omega (arith, h, e)) (jump refl (arrives, refl)))))))
start_by (suc v) (suc x) value trail table s e d c =
    template (start_text value trail) refl table 0 _ _ s c (set (set (move (λ h. omega (arith, h, e)) (move (λ h. omega (arith, h, d)) (move (λ h. omega (arith, h, e)) (jump refl (arrives, refl)))))))

pub start_text_law : StartTextLaw freely
unfolding StartTextLaw
start_text_law value trail table s c = start_by (reg s 3) (reg s 4) value trail table s refl refl c

pub write_byte_law : WriteByteLaw freely
unfolding WriteByteLaw
write_byte_law c table current s comes small =
    template (write_byte c) refl table current _ _ s comes (set (lines.out small ((arrives, refl), refl)))

pub push_work_law : PushWorkLaw freely
unfolding PushWorkLaw
push_work_law place table current s c =
    template (push_work place) refl table current _ _ s c
    (set (alloc (λ id new.
    (set (amend_last s.arrays (0 ∷ 0 ∷ 0 ∷ []) refl refl (fresh new) refl
    (set (amend_last s.arrays _ refl refl (fresh new) refl
    (set (amend_last s.arrays _ refl refl (fresh new) refl
    (move new.not_zero (end ((id, new, arrives, refl), refl))))))))))))

pub pop_work_law : PopWorkLaw freely
unfolding PopWorkLaw
pop_work_law place table current next rest s c item =
    template pop_work refl table current _ _ s c
    (index item refl (set (index item refl (set (index item refl (jump refl ((arrives, refl), refl)))))))

pub go_to_part_law : GoToPartLaw freely
unfolding GoToPartLaw
go_to_part_law f place table current words s c part hf =
    template (go_to_part f place) refl table current _ _ s c (set (index part (there words f hf) (set (jump refl ((arrives, refl), refl)))))

pub go_to_text_law : GoToTextLaw freely
unfolding GoToTextLaw
go_to_text_law j table current words code s c part some code_is inside small =
    let sum : (slice_index words 0 + j) % 2 ^ 32 ≡ slice_index words 0 + j = omega (arith, inside, small) in
    template (go_to_text j) refl table current _ _ s c
    (index part (there words 0 (omega (arith, some))) (set (add_to (slice_index words 0 + j) sum (index code_is (there code (slice_index words 0 + j) inside) (jump refl ((arrives, refl), refl))))))

pub halt_law : HaltLaw freely
unfolding HaltLaw
halt_law table current s c =
    template halt refl table current _ _ s c (lines.halt (record { halted = refl; table_is = sym c.table_is; arrays_are = refl; out_is = refl; rest_is = refl }, refl))

pub make_table_law : MakeTableLaw freely
unfolding MakeTableLaw
make_table_law count table current s c =
    template (make_table count) refl table current _ _ s c (set (alloc (λ id new. (end ((id, new, arrives), refl)))))
