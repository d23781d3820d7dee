-- The laws of the templates, row by row.
use Rattle.std.proofs.Common.{◌≡◌, ℕ, zero, suc, ◌+◌, ◌-◌, ◌<◌, List, [], ◌∷◌, length, replicate, Some, refl, subst, ◌∙◌, arith, length-set}
use Rattle.std.specs.Prelude.{slice_set, slice_index}
use Rattle.std.specs.FinMap as map
use Rattle.um_word.specs.State.{State, reg}
use Rattle.um_word.proofs.Arrays.{get-insert_other}
use Rattle.um_word.specs.Leads.{IsNew}
use Rattle.code_templates.specs.Templates.{make_cell, set_slot, choose_slot, read_part, branch_on_slot, call_block, take_outcome, return_outcome}
use Rattle.code_templates.specs.Laws.{Leaves, HasWords, chosen_word, empty_cell, MakeCellLaw, SetSlotLaw, ChooseSlotLaw, ReadPartLaw, BranchOnSlotLaw, CallBlockLaw, TakeOutcomeLaw, ReturnOutcomeLaw}
use Rattle.code_templates.specs.inner.Freely.{Freely, freely, ArrivesAt}
use Rattle.code_templates.proofs.Still.{named, fresh}
use Rattle.code_templates.proofs.Straight.{template, there, apart, arrives}
use Rattle.code_templates.proofs.Lines.{end, set, index, amend, amend_last, alloc, move, move_not, jump, enter}

pub make_cell_law : MakeCellLaw freely
unfolding MakeCellLaw
make_cell_law a b i j d table frame slots s c f ha hb hd hi hj =
    let x = slice_index slots a in
    let one = slice_set empty_cell i x in
    let hj2 : j < length one = let n = length-set empty_cell i x in omega (arith, n, hj) in
    template (make_cell a b i j d) refl table frame _ _ s c
    (set (index f.there (there slots a ha)
    (set (index f.there (there slots b hb)
    (set (alloc (λ id new.
    (set (amend_last s.arrays empty_cell refl refl (fresh new) (there empty_cell i hi)
    (set (amend_last s.arrays one refl refl (fresh new) (there one j hj2)
    (set (amend (named f.not_zero) (get-insert_other s.arrays id _ frame (apart s.arrays id frame slots new f.there) ∙ f.there) (there slots d hd)
    (end ((id, new, arrives), refl)))))))))))))))

pub set_slot_law : SetSlotLaw freely
unfolding SetSlotLaw
set_slot_law k d table frame slots s c f hd =
    template (set_slot k d) refl table frame _ _ s c
    (set (set (amend (named f.not_zero) f.there (there slots d hd) (end (arrives, refl)))))

choose_by : (z c a b d table frame : ℕ) (slots : List ℕ) (s : State) →
    slice_index slots c ≡ z → ArrivesAt (choose_slot c a b d) table frame s → HasWords s.arrays frame slots →
    c < length slots → a < length slots → b < length slots → d < length slots →
    Freely 9 9 (frame ∷ []) [] (λ t. Leaves (s.finger + 9) table frame
    (map.insert s.arrays frame (slice_set slots d (chosen_word z (slice_index slots a) (slice_index slots b)))) s.out s t) s
choose_by zero c a b d table frame slots s e comes f hc ha hb hd =
    template (choose_slot c a b d) refl table frame _ _ s comes
    (set (index f.there (there slots b hb)
    (set (index f.there (there slots a ha)
    (set (index f.there (there slots c hc)
    (move_not e
    (set (amend (named f.not_zero) f.there (there slots d hd)
    (end (arrives, refl)))))))))))
choose_by (suc z) c a b d table frame slots s e comes f hc ha hb hd =
    template (choose_slot c a b d) refl table frame _ _ s comes
    (set (index f.there (there slots b hb)
    (set (index f.there (there slots a ha)
    (set (index f.there (there slots c hc)
    (move (λ h. omega (arith, h, e))
    (set (amend (named f.not_zero) f.there (there slots d hd)
    (end (arrives, refl)))))))))))

pub choose_slot_law : ChooseSlotLaw freely
unfolding ChooseSlotLaw
choose_slot_law c a b d table frame slots s comes f hc ha hb hd = choose_by (slice_index slots c) c a b d table frame slots s refl comes f hc ha hb hd

pub read_part_law : ReadPartLaw freely
unfolding ReadPartLaw
read_part_law x f d table frame slots words s c h part hx hd hf =
    template (read_part x f d) refl table frame _ _ s c
    (set (index h.there (there slots x hx)
    (set (index part (there words f hf)
    (set (amend (named h.not_zero) h.there (there slots d hd)
    (end (arrives, refl))))))))

branch_by : (z x none some table frame : ℕ) (slots : List ℕ) (s : State) →
    slice_index slots x ≡ z → ArrivesAt (branch_on_slot x none some) table frame s → map.get s.arrays frame ≡ Some slots → x < length slots →
    Freely 6 6 [] [] (λ t. Leaves (chosen_word z some none) table frame s.arrays s.out s t × (reg t 3 ≡ reg s 3)) s
branch_by zero x none some table frame slots s e c f hx =
    template (branch_on_slot x none some) refl table frame _ _ s c
    (set (index f (there slots x hx) (set (set (move_not e (jump refl ((arrives, refl), refl)))))))
branch_by (suc z) x none some table frame slots s e c f hx =
    template (branch_on_slot x none some) refl table frame _ _ s c
    (set (index f (there slots x hx) (set (set (move (λ h. omega (arith, h, e)) (jump refl ((arrives, refl), refl)))))))

pub branch_on_slot_law : BranchOnSlotLaw freely
unfolding BranchOnSlotLaw
branch_on_slot_law x none some table frame slots s c f hx = branch_by (slice_index slots x) x none some table frame slots s refl c f hx

call_by : (n w callee size own back table caller : ℕ) (slots blocks block : List ℕ) (s : State) →
    ArrivesAt (call_block n w callee (suc (suc (suc (suc (suc size))))) own back) table caller s →
    map.get s.arrays caller ≡ Some slots → n < length slots → w < length slots →
    map.get s.arrays table ≡ Some blocks → callee < length blocks → HasWords s.arrays (slice_index blocks callee) block →
    Freely 21 21 [] (record { words = block; offset = 0 } ∷ []) (λ t. (new : ℕ) × IsNew s.arrays new ×
    Leaves 0 table new
    (map.insert (map.insert s.arrays new (caller ∷ own ∷ back ∷ slice_index slots n ∷ slice_index slots w ∷ replicate size 0)) 0 block)
    s.out s t) s
call_by n w callee size own back table caller slots blocks block s c f hn hw hb hc block_is =
    template (call_block n w callee (suc (suc (suc (suc (suc size))))) own back) refl table caller _ _ s c
    (set (index f (there slots n hn)
    (set (index f (there slots w hw)
    (set (index hb (there blocks callee hc)
    (set (alloc (λ id new.
    (amend_last s.arrays (0 ∷ 0 ∷ 0 ∷ 0 ∷ 0 ∷ replicate size 0) refl refl (fresh new) refl
    (move new.not_zero
    (set (set (amend_last s.arrays _ refl refl (fresh new) refl
    (set (set (amend_last s.arrays _ refl refl (fresh new) refl
    (set (amend_last s.arrays _ refl refl (fresh new) refl
    (set (amend_last s.arrays _ refl refl (fresh new) refl
    (enter block_is.not_zero (get-insert_other s.arrays id _ (slice_index blocks callee) (apart s.arrays id (slice_index blocks callee) block new block_is.there) ∙ block_is.there) ((id, new, arrives), refl)))))))))))))))))))))))

pub call_block_law : CallBlockLaw freely
unfolding CallBlockLaw
call_block_law n w callee size own back table caller slots blocks block s c five f hn hw hb hc block_is =
    let e : size ≡ suc (suc (suc (suc (suc (size - 5))))) = omega (arith, five) in
    call_by n w callee (size - 5) own back table caller slots blocks block s
    (subst (λ x. ArrivesAt (call_block n w callee x own back) table caller s) e c) f hn hw hb hc block_is

pub take_outcome_law : TakeOutcomeLaw freely
unfolding TakeOutcomeLaw
take_outcome_law v x table frame slots s c f hv hx =
    let hx2 : x < length (slice_set slots v (reg s 3)) = let n = length-set slots v (reg s 3) in omega (arith, n, hx) in
    template (take_outcome v x) refl table frame _ _ s c
    (set (amend (named f.not_zero) f.there (there slots v hv)
    (set (amend_last s.arrays _ refl refl (named f.not_zero) (there (slice_set slots v (reg s 3)) x hx2)
    (end (arrives, refl))))))

pub return_outcome_law : ReturnOutcomeLaw freely
unfolding ReturnOutcomeLaw
return_outcome_law table frame slots blocks block s c f long hb hc block_is =
    template return_outcome refl table frame _ _ s c
    (set (index f (there slots 5 (omega (arith, long)))
    (set (index f (there slots 6 (omega (arith, long)))
    (set (index f (there slots 1 (omega (arith, long))) (index hb (there blocks (slice_index slots 1) hc)
    (set (index f (there slots 2 (omega (arith, long)))
    (index f (there slots 0 (omega (arith, long)))
    (enter block_is.not_zero block_is.there ((arrives, refl, refl), refl))))))))))))
