-- The pieces of a block, from the templates that were added.
use Rattle.std.specs.Prelude.{◌≡◌, ℕ, zero, suc, ◌+◌, ◌*◌, ◌<◌, ◌≤◌, ◌++◌, List, [], ◌∷◌, length, map, take, Option, Some, Result, OnOk, slice_get, slice_index_or}
use Rattle.std.proofs.Common.{refl, sym, ◌∙◌, ap, subst, arith}
use Rattle.std.proofs.lemmas.List.{append_assoc, append-nil}
use Rattle.std.proofs.lemmas.Option.{slice_get_read, slice_get-get_or}
use Rattle.std.proofs.lemmas.Result.{on_ok_weaker}
use Rattle.um_word.specs.declared.op.Op.{Op}
use Rattle.two_d.specs.declared.command.Exp.{Exp}
use Rattle.two_d.specs.declared.command.Side.{Side as BoxSide}
use Rattle.two_d.specs.declared.command.Side.TheVariants.{S, E}
use Rattle.two_d.specs.Trees.{Tree, tree_of, outs_of}
use Rattle.two_d.specs.Weights.{nodes}
use Rattle.code_templates.specs.Templates.{make_cell, set_slot, choose_slot, read_part, branch_on_slot, call_block, take_outcome}
use Rattle.lower_plan.specs.declared.plan.PlanStep.{PlanStep}
use Rattle.lower_emit.specs.declared.code.Code.{Code}
use Rattle.lower_emit.specs.Layouts.{Layout, stuck_slot, temporary, side_slot, input_slot, SideSlot, slot_of_side}
use Rattle.lower_emit.specs.Boxes.{out_code, sent_code, guards_code, sort_code, sorting_code, taken_code, calling_code, Box, input_slots, body_length, box_code, box_length, boxes_code, boxes_length}
use Rattle.lower_emit.specs.Blocks.{trail_code}
use Rattle.lower_emit.specs.Plans.{out_sent, wire_to, spare_of, case_box, wired}
use Rattle.lower_emit.specs.inner.Codes.{AddsOps, Says, body_code, one_to, two_to, first_to}
use Rattle.lower_emit.proofs.Adding.{adds_then, adds_last, adds_as, adds_other, adds_length, on_ok_as, says_length}
use Rattle.lower_emit.proofs.Sums.{outs_nodes}
use Rattle.lower_emit.proofs.Words.{body_words, box_parts, boxes_words}

-- the sorting of a value's parts
pub adds_sort : {T E : Type 0} (r : Result T E) (c0 c1 c2 c3 c4 c5 : Code) (y : Layout) (x f g : ℕ) (one two both : SideSlot) (box text : ℕ)
    (slot o t b last mark k : ℕ) → slot ≡ x → o ≡ slot_of_side y one → t ≡ slot_of_side y two → b ≡ slot_of_side y both → last ≡ temporary y 3 → mark ≡ stuck_slot y box → k ≡ text →
    AddsOps c0 c1 (read_part slot f o) → AddsOps c1 c2 (read_part slot g t) → AddsOps c2 c3 (choose_slot o o t b) → AddsOps c3 c4 (set_slot k last ++ make_cell last 7 0 1 last) →
    OnOk r (AddsOps c4 c5 (choose_slot b 7 last mark)) → OnOk r (AddsOps c0 c5 (sort_code y x f g one two both box text))
adds_sort r c0 c1 c2 c3 c4 c5 y x f g one two both box text slot o t b last mark k ex eo et eb el em ek h1 h2 h3 h4 h5 =
    let x1 = read_part slot f o in
    let x2 = read_part slot g t in
    let x3 = choose_slot o o t b in
    let x4 = set_slot k last ++ make_cell last 7 0 1 last in
    let x5 = choose_slot b 7 last mark in
    on_ok_as r c0 c5 ((((x1 ++ x2) ++ x3) ++ x4) ++ x5) (sort_code y x f g one two both box text) same
    (adds_last r c0 c4 c5 (((x1 ++ x2) ++ x3) ++ x4) x5
    (adds_then c0 c3 c4 ((x1 ++ x2) ++ x3) x4 (adds_then c0 c2 c3 (x1 ++ x2) x3 (adds_then c0 c1 c2 x1 x2 h1 h2) h3) h4) h5)
  where
    same : (((read_part slot f o ++ read_part slot g t) ++ choose_slot o o t b) ++ (set_slot k last ++ make_cell last 7 0 1 last)) ++ choose_slot b 7 last mark ≡ sort_code y x f g one two both box text
    same = rw (ex, eo, et, eb, el, em, ek) refl

-- what takes the outcome of a call
pub adds_taken : {T E : Type 0} (r : Result T E) (c0 c1 c2 c3 : Code) (y : Layout) (side : SideSlot) (box text : ℕ)
    (s inner last mark k : ℕ) → s ≡ slot_of_side y side → inner ≡ temporary y 2 → last ≡ temporary y 3 → mark ≡ stuck_slot y box → k ≡ text →
    AddsOps c0 c1 (take_outcome s inner) → AddsOps c1 c2 (set_slot k last ++ make_cell last inner 0 1 last) → OnOk r (AddsOps c2 c3 (choose_slot inner last 7 mark)) →
    OnOk r (AddsOps c0 c3 (taken_code y side box text))
adds_taken r c0 c1 c2 c3 y side box text s inner last mark k es ei el em ek h1 h2 h3 =
    let x1 = take_outcome s inner in
    let x2 = set_slot k last ++ make_cell last inner 0 1 last in
    let x3 = choose_slot inner last 7 mark in
    on_ok_as r c0 c3 ((x1 ++ x2) ++ x3) (taken_code y side box text) same (adds_last r c0 c2 c3 (x1 ++ x2) x3 (adds_then c0 c1 c2 x1 x2 h1 h2) h3)
  where
    same : (take_outcome s inner ++ (set_slot k last ++ make_cell last inner 0 1 last)) ++ choose_slot inner last 7 mark ≡ taken_code y side box text
    same = rw (es, ei, el, em, ek) refl

-- a call, and what takes its outcome
pub adds_calling : {T E : Type 0} (r : Result T E) (c0 c1 c2 : Code) (y : Layout) (north west callee size own : ℕ) (side : SideSlot) (box text place : ℕ)
    (n w m z : ℕ) → n ≡ north → w ≡ west → m ≡ callee → z ≡ size →
    AddsOps c0 c1 (call_block n w m z own (place + 21)) → OnOk r (AddsOps c1 c2 (taken_code y side box text)) →
    OnOk r (AddsOps c0 c2 (calling_code y north west callee size own side box text place))
adds_calling r c0 c1 c2 y north west callee size own side box text place n w m z en ew em ez h1 h2 =
    on_ok_as r c0 c2 (call_block n w m z own (place + 21) ++ taken_code y side box text) (calling_code y north west callee size own side box text place) same
    (adds_last r c0 c1 c2 (call_block n w m z own (place + 21)) (taken_code y side box text) h1 h2)
  where
    same : call_block n w m z own (place + 21) ++ taken_code y side box text ≡ calling_code y north west callee size own side box text place
    same = rw (en, ew, em, ez) refl

-- one out more
sent_more : (y : Layout) (step : PlanStep) (n w : ℕ) (outs : List (Exp × BoxSide)) (i : ℕ) (out : Exp × BoxSide) → slice_get outs i ≡ Some out →
    sent_code y n w (map (out_sent step) (outs_of (take (suc i) outs)))
    ≡ sent_code y n w (map (out_sent step) (outs_of (take i outs))) ++ out_code y n w (side_slot y (wire_to step out.1) (spare_of out.1)) (tree_of out.0)
sent_more y step n w [] i out e = absurd (cc)
sent_more y step n w (o ∷ outs) zero out e =
    let f : o ≡ out = cc in
    ap (λ (o : Exp × BoxSide). out_code y n w (side_slot y (wire_to step o.1) (spare_of o.1)) (tree_of o.0) ++ []) f
    ∙ append-nil (out_code y n w (side_slot y (wire_to step out.1) (spare_of out.1)) (tree_of out.0))
sent_more y step n w (o ∷ outs) (suc i) out e =
    let one = out_code y n w (side_slot y (wire_to step o.1) (spare_of o.1)) (tree_of o.0) in
    ap (λ ops. one ++ ops) (sent_more y step n w outs i out e)
    ∙ sym (append_assoc one (sent_code y n w (map (out_sent step) (outs_of (take i outs)))) (out_code y n w (side_slot y (wire_to step out.1) (spare_of out.1)) (tree_of out.0)))

pub out_at : (outs items : List (Exp × BoxSide)) → items ≡ outs → (i : ℕ) (out : Exp × BoxSide) → i < length items → out ≡ slice_index_or items i out → slice_get outs i ≡ Some out
out_at outs items are i out lt is = subst (λ (xs : List (Exp × BoxSide)). slice_get xs i ≡ Some out) are (slice_get_read items (length items) i out refl lt is)

pub out_nodes-le : (outs : List (Exp × BoxSide)) (i : ℕ) (out : Exp × BoxSide) → slice_get outs i ≡ Some out → nodes (tree_of out.0) ≤ outs_nodes outs
out_nodes-le [] i out e = absurd (cc)
out_nodes-le (o ∷ outs) zero out e = let f : o ≡ out = cc in rw (← f) (omega arith)
out_nodes-le (o ∷ outs) (suc i) out e = omega (arith, out_nodes-le outs i out e)

pub adds_out : (c0 c1 c2 c3 : Code) (y : Layout) (step : PlanStep) (n w : ℕ) (outs : List (Exp × BoxSide)) (i : ℕ) (out : Exp × BoxSide) (value : List Op) (slot at side : ℕ) →
    slice_get outs i ≡ Some out → value ++ choose_slot at at at (side_slot y (wire_to step out.1) (spare_of out.1)) ≡ out_code y n w (side_slot y (wire_to step out.1) (spare_of out.1)) (tree_of out.0) →
    slot ≡ at → side ≡ side_slot y (wire_to step out.1) (spare_of out.1) →
    AddsOps c0 c1 (sent_code y n w (map (out_sent step) (outs_of (take i outs)))) → AddsOps c1 c2 value → AddsOps c2 c3 (choose_slot slot slot slot side) →
    AddsOps c0 c3 (sent_code y n w (map (out_sent step) (outs_of (take (i + 1) outs))))
adds_out c0 c1 c2 c3 y step n w outs i out value slot at side here is es ed h1 h2 h3 =
    let to = side_slot y (wire_to step out.1) (spare_of out.1) in
    let one : suc i ≡ i + 1 = omega arith in
    let moved : AddsOps c2 c3 (choose_slot at at at to) = rw (← es, ← ed) h3 in
    subst (λ (j : ℕ). AddsOps c0 c3 (sent_code y n w (map (out_sent step) (outs_of (take j outs))))) one
    (subst (AddsOps c0 c3) (sym (sent_more y step n w outs i out here))
    (adds_then c0 c1 c3 (sent_code y n w (map (out_sent step) (outs_of (take i outs)))) (out_code y n w to (tree_of out.0)) h1
    (subst (AddsOps c1 c3) is (adds_then c1 c2 c3 value (choose_slot at at at to) h2 moved))))

-- the body of a `case`
pub case_is : (y : Layout) (step : PlanStep) (text : ℕ) (x : Tree) (left right : BoxSide) (place : ℕ) →
    body_code y (case_box step text x left right) place
    ≡ sorting_code y (input_slot step.n) (input_slot step.w) x 0 1 (one_to step left right) (two_to step left right) (first_to step left right) step.bx text
case_is y step text x S S place = refl
case_is y step text x S E place = refl
case_is y step text x E S place = refl
case_is y step text x E E place = refl

-- two guards
pub adds_guards : {T E : Type 0} (r : Result T E) (c0 c1 c2 : Code) (n w : Option ℕ) (k q north west place to : ℕ) → n ≡ Some k → w ≡ Some q → north ≡ input_slot n → west ≡ input_slot w →
    AddsOps c0 c1 (branch_on_slot north to (place + 6)) → OnOk r (AddsOps c1 c2 (branch_on_slot west to (place + 12))) → OnOk r (AddsOps c0 c2 (guards_code (wired n w) place to))
adds_guards r c0 c1 c2 n w k q north west place to en ew is js h l =
    let twelve : place + 12 ≡ place + 6 + 6 = omega arith in
    let first : north ≡ 8 + k = is ∙ ap input_slot en in
    let second : west ≡ 8 + q = js ∙ ap input_slot ew in
    on_ok_as r c0 c2 (branch_on_slot north to (place + 6) ++ branch_on_slot west to (place + 12)) (guards_code (wired n w) place to) (rw (en, ew, first, second, twelve) refl)
    (adds_last r c0 c1 c2 (branch_on_slot north to (place + 6)) (branch_on_slot west to (place + 12)) h l)

-- the guards of a box, and what it does
pub adds_box : {T E : Type 0} (r : Result T E) (c0 c1 c2 inner : Code) (y : Layout) (box : Box) (inputs : List ℕ) (place start to : ℕ) →
    input_slots box ≡ inputs → place ≡ length c0.words.items → start ≡ place + 6 * length inputs → to ≡ start + length inner.words.items →
    Says inner (body_code y box start) → AddsOps c0 c1 (guards_code inputs place to) → OnOk r (c2.words.items ≡ c1.words.items ++ inner.words.items) →
    OnOk r (AddsOps c0 c2 (box_code y box (length c0.words.items)))
adds_box r c0 c1 c2 inner y box inputs place start to ei ep es et says h l =
    let long = says_length inner (body_code y box start) says in
    let body = body_words y box start in
    let at : to ≡ place + 6 * length inputs + body_length y box = omega (arith, et, es, long, body) in
    on_ok_weaker r (λ (e : c2.words.items ≡ c1.words.items ++ inner.words.items).
    adds_as c0 c2 (guards_code inputs place to ++ body_code y box start) (box_code y box (length c0.words.items))
    (sym (box_parts y box (length c0.words.items) ∙ rw (ei, ← ep, at, es) refl))
    (adds_then c0 c1 c2 (guards_code inputs place to) (body_code y box start) h (adds_other c1 c2 inner (body_code y box start) e says))) l

-- one box more
boxes_more : (y : Layout) (f : PlanStep → Box) (steps : List PlanStep) (i : ℕ) (step : PlanStep) (place : ℕ) → slice_get steps i ≡ Some step →
    boxes_code y (map f (take (suc i) steps)) place ≡ boxes_code y (map f (take i steps)) place ++ box_code y (f step) (place + boxes_length y (map f (take i steps)))
boxes_more y f [] i step place e = absurd (cc)
boxes_more y f (s ∷ steps) zero step place e =
    let g : s ≡ step = cc in
    let here : place + 0 ≡ place = omega arith in
    rw (g, here) (append-nil (box_code y (f step) place))
boxes_more y f (s ∷ steps) (suc i) step place e =
    let one = box_code y (f s) place in
    let next = place + box_length y (f s) in
    let there : next + boxes_length y (map f (take i steps)) ≡ place + (box_length y (f s) + boxes_length y (map f (take i steps))) = omega arith in
    ap (λ ops. one ++ ops) (boxes_more y f steps i step next e)
    ∙ (sym (append_assoc one (boxes_code y (map f (take i steps)) next) (box_code y (f step) (next + boxes_length y (map f (take i steps)))))
    ∙ ap (λ k. (one ++ boxes_code y (map f (take i steps)) next) ++ box_code y (f step) k) there)

-- a box has its words within those of all
boxes_room : (y : Layout) (f : PlanStep → Box) (steps : List PlanStep) (i : ℕ) (step : PlanStep) → slice_get steps i ≡ Some step →
    boxes_length y (map f (take i steps)) + box_length y (f step) ≤ boxes_length y (map f steps)
boxes_room y f [] i step e = absurd (cc)
boxes_room y f (s ∷ steps) zero step e = let g : s ≡ step = cc in rw g (omega arith)
boxes_room y f (s ∷ steps) (suc i) step e = omega (arith, boxes_room y f steps i step e)

pub step_at : (steps items : List PlanStep) → items ≡ steps → (i : ℕ) (d : PlanStep) → i < length items → slice_get steps i ≡ Some (slice_index_or items i d)
step_at steps items are i d lt = subst (λ (xs : List PlanStep). slice_get xs i ≡ Some (slice_index_or items i d)) are (slice_get-get_or items i d lt)

pub box_fits : (c0 c1 : Code) (y : Layout) (f : PlanStep → Box) (steps : List PlanStep) (i : ℕ) (step : PlanStep) (bound : ℕ) → slice_get steps i ≡ Some step →
    AddsOps c0 c1 (boxes_code y (map f (take i steps)) (length c0.words.items)) → length c0.words.items + boxes_length y (map f steps) ≤ bound →
    length c1.words.items + box_length y (f step) ≤ bound
box_fits c0 c1 y f steps i step bound here h lt =
    let so_far = map f (take i steps) in
    omega (arith, boxes_room y f steps i step here, adds_length c0 c1 (boxes_code y so_far (length c0.words.items)) h, boxes_words y so_far (length c0.words.items), lt)

pub adds_next : (c0 c1 c2 : Code) (y : Layout) (f : PlanStep → Box) (steps : List PlanStep) (i : ℕ) (step : PlanStep) → slice_get steps i ≡ Some step →
    AddsOps c0 c1 (boxes_code y (map f (take i steps)) (length c0.words.items)) → AddsOps c1 c2 (box_code y (f step) (length c1.words.items)) →
    AddsOps c0 c2 (boxes_code y (map f (take (i + 1) steps)) (length c0.words.items))
adds_next c0 c1 c2 y f steps i step here h k =
    let so_far = map f (take i steps) in
    let place = length c0.words.items in
    let one : suc i ≡ i + 1 = omega arith in
    let at : length c1.words.items ≡ place + boxes_length y so_far = omega (arith, adds_length c0 c1 (boxes_code y so_far place) h, boxes_words y so_far place) in
    subst (λ (j : ℕ). AddsOps c0 c2 (boxes_code y (map f (take j steps)) place)) one
    (subst (AddsOps c0 c2) (sym (boxes_more y f steps i step place here))
    (adds_then c0 c1 c2 (boxes_code y so_far place) (box_code y (f step) (place + boxes_length y so_far)) h (subst (λ (p : ℕ). AddsOps c1 c2 (box_code y (f step) p)) at k)))

-- the trail of a text, in its temporary, and what chooses it
pub adds_trail : {T E : Type 0} (r : Result T E) (c0 c1 c2 : Code) (y : Layout) (text trail a b c d a' b' c' d' : ℕ) → trail ≡ temporary y 3 → a ≡ a' → b ≡ b' → c ≡ c' → d ≡ d' →
    AddsOps c0 c1 (set_slot text trail ++ make_cell trail 7 0 1 trail) → OnOk r (AddsOps c1 c2 (choose_slot a b c d)) → OnOk r (AddsOps c0 c2 (trail_code y text ++ choose_slot a' b' c' d'))
adds_trail r c0 c1 c2 y text trail a b c d a' b' c' d' et ea eb ec ed h l =
    on_ok_as r c0 c2 ((set_slot text trail ++ make_cell trail 7 0 1 trail) ++ choose_slot a b c d) (trail_code y text ++ choose_slot a' b' c' d') (rw (et, ea, eb, ec, ed) refl)
    (adds_last r c0 c1 c2 (set_slot text trail ++ make_cell trail 7 0 1 trail) (choose_slot a b c d) h l)
