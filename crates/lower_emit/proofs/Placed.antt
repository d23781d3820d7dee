-- A plan of a good program has its slots in the frame, and apart where they have to be.
use Rattle.std.specs.Prelude.{Option, Some, None, ◌≡◌, ℕ, zero, suc, ◌+◌, ◌*◌, ◌<◌, ◌≤◌, is_some, List, [], ◌∷◌, length, map, slice_get, Any}
use Rattle.std.proofs.Common.{refl, sym, ◌∙◌, ap, subst, arith, ◌⊎◌, inl, inr}
use Rattle.std.proofs.lemmas.Option.{get_or_from_slice_get, slice_get_within}
use Rattle.two_d.specs.declared.module.Origin.{Origin}
use Rattle.two_d.specs.declared.module.Origin.TheVariants.{North, West, South, East}
use Rattle.two_d.specs.declared.module.To.{To}
use Rattle.two_d.specs.declared.module.To.TheVariants as to
use Rattle.two_d.specs.declared.command.Side.{Side as BoxSide}
use Rattle.two_d.specs.declared.command.Side.TheVariants.{S, E}
use Rattle.two_d.specs.Trees as tree
use Rattle.two_d.specs.Trees.{Tree, Form, send, case, split, call}
use Rattle.two_d.specs.Programs.{BoxForm, ModuleForm, Program, module_at}
use Rattle.two_d.specs.Sound.{Comes, Reaches, by_one}
use Rattle.two_d.specs.Good.{NamesN, NamesW, trees_of, IsUnwired}
use Rattle.two_d.specs.Good as program
use Rattle.two_d.specs.Weights.{nodes, all_nodes, boxes_part, part}
use Rattle.lower_plan.specs.declared.plan.Plan.{Plan}
use Rattle.lower_plan.specs.declared.plan.PlanStep.{PlanStep}
use Rattle.lower_plan.specs.Plans.{slot_of, slot_at, step_of, wire_starts, IsStep, IsPlan}
use Rattle.lower_plan.proofs.Wires.{IsIn, slot_apart, slot_below, slot_comes, wires_few}
use Rattle.lower_emit.specs.Expressions as expression
use Rattle.lower_emit.specs.Expressions.{past}
use Rattle.lower_emit.specs.Layouts.{Layout, wire_slot, temporary, first_node, side_slot, input_slot, SideSlot, slot_of_side as side_at}
use Rattle.lower_emit.specs.inner.Frames.{IsWireSlot, AreWires}
use Rattle.lower_emit.specs.inner.Ends.{AreExits}
use Rattle.lower_emit.specs.inner.Sorts.{CanSort}
use Rattle.lower_emit.specs.Boxes.{Sorts}
use Rattle.lower_emit.specs.inner.Firing.{IsAmong, AreDifferent, IsGoodOut, AreGoodOuts, IsPlaced, ArePlaced, IsGoodBlock}
use Rattle.lower_emit.specs.KnownOutcomes.{first_text}
use Rattle.lower_emit.specs.Plans.{wired, wire_to, spare_of, out_sent, side_of, dropped, both_to, step_box, box_in, box_if, block_of, layout_of}
use Rattle.lower_emit.proofs.Turns.{sides_apart}

-- an expression's slots
pub past-le : (x : Tree) (free : ℕ) → past x free ≤ free + nodes x
past-le tree.n free = omega arith
past-le tree.w free = omega arith
past-le tree.unit free = omega arith
past-le (tree.pair a b) free = omega (arith, past-le a free, past-le b (past a free))
past-le (tree.inl a) free = omega (arith, past-le a free)
past-le (tree.inr a) free = omega (arith, past-le a free)

pub past-grows : (x : Tree) (free : ℕ) → free ≤ past x free
past-grows tree.n free = omega arith
past-grows tree.w free = omega arith
past-grows tree.unit free = omega arith
past-grows (tree.pair a b) free = omega (arith, past-grows a free, past-grows b (past a free))
past-grows (tree.inl a) free = omega (arith, past-grows a free)
past-grows (tree.inr a) free = omega (arith, past-grows a free)

abbrev pub IsWhere : Tree → (north west free : ℕ) → Type 0
IsWhere x north west free =
    (NamesN x × (expression.expression_slot x north west free ≡ north))
    ⊎ ((NamesW x × (expression.expression_slot x north west free ≡ west))
    ⊎ ((free ≤ expression.expression_slot x north west free) × (expression.expression_slot x north west free < past x free)))

pub is_where : (x : Tree) (north west free : ℕ) → IsWhere x north west free
is_where tree.n north west free = inl (tt, refl)
is_where tree.w north west free = inr (inl (tt, refl))
is_where tree.unit north west free = inr (inr (omega arith, omega arith))
is_where (tree.pair a b) north west free = inr (inr (omega (arith, past-grows a free, past-grows b (past a free)), omega arith))
is_where (tree.inl a) north west free = inr (inr (past-grows a free, omega arith))
is_where (tree.inr a) north west free = inr (inr (past-grows a free, omega arith))

names_n : (x : Tree) → NamesN x → NamesN x
names_n tree.n h = tt
names_n tree.w h = absurd h
names_n tree.unit h = absurd h
names_n (tree.pair a b) (inl h) = inl (names_n a h)
names_n (tree.pair a b) (inr h) = inr (names_n b h)
names_n (tree.inl a) h = names_n a h
names_n (tree.inr a) h = names_n a h

names_w : (x : Tree) → NamesW x → NamesW x
names_w tree.w h = tt
names_w tree.n h = absurd h
names_w tree.unit h = absurd h
names_w (tree.pair a b) (inl h) = inl (names_w a h)
names_w (tree.pair a b) (inr h) = inr (names_w b h)
names_w (tree.inl a) h = names_w a h
names_w (tree.inr a) h = names_w a h

any_of : {A : Type 0} (Q : A → Type 0) (x : A) (xs : List A) → IsIn x xs → Q x → Any Q xs
any_of Q x [] h q = absurd h
any_of Q x (y ∷ xs) (inl e) q = (0, y, omega arith, refl, subst Q (sym e) q)
any_of Q x (y ∷ xs) (inr h) q = let (k, z, lt, at, holds) = any_of Q x xs h q in (suc k, z, omega (arith, lt), at, holds)

-- the boxes' part
pub boxes_part-le : (rows : List BoxForm) → 8 * length rows ≤ boxes_part rows
boxes_part-le [] = omega arith
boxes_part-le (row ∷ rows) = omega (arith, boxes_part-le rows)

pub box_nodes-le : (rows : List BoxForm) (b : ℕ) (row : BoxForm) → slice_get rows b ≡ Some row → 8 * length rows + all_nodes (trees_of row.command) ≤ boxes_part rows
box_nodes-le [] b row e = absurd (cc)
box_nodes-le (r ∷ rows) zero row e = let f : r ≡ row = cc in rw (← f) (omega (arith, boxes_part-le rows))
box_nodes-le (r ∷ rows) (suc b) row e = omega (arith, box_nodes-le rows b row e)

nodes-le : (x : Tree) (xs : List Tree) → IsIn x xs → nodes x ≤ all_nodes xs
nodes-le x [] h = absurd h
nodes-le x (y ∷ xs) (inl e) = rw e (omega arith)
nodes-le x (y ∷ xs) (inr h) = omega (arith, nodes-le x xs h)

-- a layout of a module
pub record Fits (M : ModuleForm) (y : Layout) : Type 0 where
  pub wires : y.wires ≡ length (wire_starts M)
  pub boxes : y.boxes ≡ length M.boxes
  pub size : y.size ≡ 12 + part M

module _ (M : ModuleForm) (y : Layout) (fits : Fits M y) where
  pub few_wires : y.wires ≤ 2 * y.boxes + length M.exits
  few_wires = omega (arith, fits.wires, fits.boxes, wires_few M)

  -- all temporaries are in the frame, and before the nodes
  pub room_left : y.wires + y.boxes + 6 ≤ part M
  room_left = omega (arith, few_wires, fits.boxes, boxes_part-le M.boxes)

  pub temporaries_in : temporary y 4 < y.size
  temporaries_in = omega (arith, room_left, fits.size)

  pub wire_in : (o : Origin) (k : ℕ) → slot_of M o ≡ Some k → (k < y.wires) × (wire_slot k < y.size)
  wire_in o k e = let lt = slot_below (wire_starts M) o k e in (omega (arith, lt, fits.wires), omega (arith, lt, fits.wires, room_left, fits.size))

  is_wire : (o : Origin) (s : Option ℕ) → slot_of M o ≡ s → IsWireSlot y s
  is_wire o None e = tt
  is_wire o (Some k) e = (wire_in o k e).0

  is_wire_at : (o : Option Origin) → IsWireSlot y (slot_at M o)
  is_wire_at None = tt
  is_wire_at (Some o) = is_wire o (slot_of M o) refl

  side_in : (o : Origin) (s : Option ℕ) (spare : ℕ) → slot_of M o ≡ s → spare < 4 → side_slot y s spare < y.size
  side_in o None spare e lt = omega (arith, lt, room_left, fits.size)
  side_in o (Some k) spare e lt = (wire_in o k e).1

  pub exits_in : (exits : List (Option Origin)) → AreExits y (map (slot_at M) exits)
  exits_in [] = tt
  exits_in (o ∷ exits) = (is_wire_at o, exits_in exits)

  input_in : (o : Option Origin) (s : Option ℕ) → slot_at M o ≡ s → input_slot s < y.size
  input_in o None e = omega (arith, fits.size)
  input_in None (Some k) e = absurd (cc)
  input_in (Some o) (Some k) e = (wire_in o k e).1

  wired_in : (n w : Option Origin) (sn sw : Option ℕ) → slot_at M n ≡ sn → slot_at M w ≡ sw → AreWires y (wired sn sw)
  wired_in n w None None e f = tt
  wired_in n None None (Some j) e f = absurd (cc)
  wired_in n (Some p) None (Some j) e f = let r = wire_in p j f in (r.0, r.1, tt)
  wired_in None w (Some k) sw e f = absurd (cc)
  wired_in (Some o) w (Some k) None e f = let r = wire_in o k e in (r.0, r.1, tt)
  wired_in (Some o) None (Some k) (Some j) e f = absurd (cc)
  wired_in (Some o) (Some p) (Some k) (Some j) e f = let r = wire_in o k e in let q = wire_in p j f in (r.0, r.1, (q.0, q.1, tt))

  module _ (acyclic : (b : ℕ) → Reaches M b b → ⊥) (b : ℕ) (row : BoxForm) (there : slice_get M.boxes b ≡ Some row) (well : IsUnwired row → ⊥) where
    abbrev step : PlanStep
    step = step_of M b row

    number_in : b < y.boxes
    number_in = omega (arith, fits.boxes, slice_get_within M.boxes b row there)

    room_in : (x : Tree) → IsIn x (trees_of row.command) → past x (first_node y) ≤ y.size
    room_in x h = omega (arith, past-le x (first_node y), nodes-le x (trees_of row.command) h, box_nodes-le M.boxes b row there, few_wires, fits.boxes, fits.size)

    -- a box's own side isn't one of its inputs
    no_loop : (o : Origin) (end : To) → (end ≡ to.N b) ⊎ (end ≡ to.W b) → (o ≡ South b) ⊎ (o ≡ East b) → Comes M o end → ⊥
    no_loop o end (inl e) (inl s) comes = acyclic b (by_one (inl (inl (subst (λ o. Comes M o (to.N b)) s (subst (Comes M o) e comes)))))
    no_loop o end (inl e) (inr s) comes = acyclic b (by_one (inl (inr (subst (λ o. Comes M o (to.N b)) s (subst (Comes M o) e comes)))))
    no_loop o end (inr e) (inl s) comes = acyclic b (by_one (inr (inl (subst (λ o. Comes M o (to.W b)) s (subst (Comes M o) e comes)))))
    no_loop o end (inr e) (inr s) comes = acyclic b (by_one (inr (inr (subst (λ o. Comes M o (to.W b)) s (subst (Comes M o) e comes)))))

    abbrev side_from : BoxSide → Origin
    side_from S = South b
    side_from E = East b

    wire_is : (side : BoxSide) → slot_of M (side_from side) ≡ wire_to step side
    wire_is S = refl
    wire_is E = refl

    own : (side : BoxSide) → (side_from side ≡ South b) ⊎ (side_from side ≡ East b)
    own S = inl refl
    own E = inr refl

    apart_n : (side : BoxSide) (p : Origin) → row.n ≡ Some p → p ≡ side_from side → ⊥
    apart_n side p e f = no_loop (side_from side) (to.N b) (inl refl) (own side) (row, there, subst (λ q. row.n ≡ Some q) f e)

    apart_w : (side : BoxSide) (p : Origin) → row.w ≡ Some p → p ≡ side_from side → ⊥
    apart_w side p e f = no_loop (side_from side) (to.W b) (inr refl) (own side) (row, there, subst (λ q. row.w ≡ Some q) f e)

    different : (o : Option Origin) (t : Origin) → ((p : Origin) → o ≡ Some p → p ≡ t → ⊥) → (s r : Option ℕ) → slot_at M o ≡ s → slot_of M t ≡ r → AreDifferent s r
    different o t h None r e f = tt
    different o t h (Some k) None e f = tt
    different None t h (Some k) (Some q) e f = absurd (cc)
    different (Some p) t h (Some k) (Some q) e f = λ same. h p refl (slot_apart (wire_starts M) p t k e (f ∙ ap Some (sym same)))

    different_n : (side : BoxSide) → AreDifferent step.n (wire_to step side)
    different_n side = different row.n (side_from side) (apart_n side) step.n (wire_to step side) refl (wire_is side)

    different_w : (side : BoxSide) → AreDifferent step.w (wire_to step side)
    different_w side = different row.w (side_from side) (apart_w side) step.w (wire_to step side) refl (wire_is side)

    -- an input that an expression names is wired
    named_n : (x : Tree) → IsIn x (trees_of row.command) → NamesN x → (k : ℕ) × (step.n ≡ Some k)
    named_n x h has = by row.n refl
      where
        by : (o : Option Origin) → row.n ≡ o → (k : ℕ) × (slot_at M o ≡ Some k)
        by None e = absurd (well (inl (any_of NamesN x (trees_of row.command) h (names_n x has), ap is_some e)))
        by (Some p) e = slot_comes M p (to.N b) (row, there, e)

    named_w : (x : Tree) → IsIn x (trees_of row.command) → NamesW x → (k : ℕ) × (step.w ≡ Some k)
    named_w x h has = by row.w refl
      where
        by : (o : Option Origin) → row.w ≡ o → (k : ℕ) × (slot_at M o ≡ Some k)
        by None e = absurd (well (inr (any_of NamesW x (trees_of row.command) h (names_w x has), ap is_some e)))
        by (Some p) e = slot_comes M p (to.W b) (row, there, e)

    among_n : (sn sw : Option ℕ) (k : ℕ) → sn ≡ Some k → IsAmong (wired sn sw) sn
    among_n None sw k e = absurd (cc)
    among_n (Some q) None k e = inl refl
    among_n (Some q) (Some j) k e = inl refl

    among_w : (sn sw : Option ℕ) (k : ℕ) → sw ≡ Some k → IsAmong (wired sn sw) sw
    among_w sn None k e = absurd (cc)
    among_w None (Some j) k e = inl refl
    among_w (Some q) (Some j) k e = inr (inl refl)

    has_north : (x : Tree) → IsIn x (trees_of row.command) → NamesN x → IsAmong (wired step.n step.w) step.n
    has_north x h has = let (k, e) = named_n x h has in among_n step.n step.w k e

    has_west : (x : Tree) → IsIn x (trees_of row.command) → NamesW x → IsAmong (wired step.n step.w) step.w
    has_west x h has = let (k, e) = named_w x h has in among_w step.n step.w k e

    out_placed : (out : Tree × BoxSide) → IsIn out.0 (trees_of row.command) → IsGoodOut y (wired step.n step.w) step.n step.w (out_sent step out)
    out_placed out h = record {
      is_wire = is_wire (side_from out.1) (wire_to step out.1) (wire_is out.1);
      inside = side_in (side_from out.1) (wire_to step out.1) (spare_of out.1) (wire_is out.1) (small out.1);
      room = room_in out.0 h;
      has_north = has_north out.0 h;
      has_west = has_west out.0 h;
      apart_north = different_n out.1;
      apart_west = different_w out.1;
    }
      where
        small : (side : BoxSide) → spare_of side < 4
        small S = omega arith
        small E = omega arith

    outs_placed : (outs : List (Tree × BoxSide)) → ((x : Tree) → IsIn x (map (λ (out : Tree × BoxSide). out.0) outs) → IsIn x (trees_of row.command)) →
        AreGoodOuts y (wired step.n step.w) step.n step.w (map (out_sent step) outs)
    outs_placed [] h = tt
    outs_placed (out ∷ outs) h = (out_placed out (h out.0 (inl refl)), outs_placed outs (λ x i. h x (inr i)))

    -- a side that drops its value, or has the wire of one of the box's sides
    abbrev IsOwn : SideSlot → Type 0
    IsOwn side = (side.spare < 3) × ((side.wire ≡ None) ⊎ ((t : BoxSide) × (wire_to step t ≡ side.wire)))

    own_wire : (side : SideSlot) → IsOwn side → IsWireSlot y side.wire
    own_wire side (small, inl e) = rw e tt
    own_wire side (small, inr (t, e)) = is_wire (side_from t) side.wire (wire_is t ∙ e)

    own_in : (side : SideSlot) → IsOwn side → side_at y side < y.size
    own_in side (small, inl e) = rw e (omega (arith, small, room_left, fits.size))
    own_in side (small, inr (t, e)) = side_in (side_from t) side.wire side.spare (wire_is t ∙ e) (omega (arith, small))

    -- such a side's slot is a wire's, or one of the first three temporaries
    own_low : (side : SideSlot) → IsOwn side → side_at y side < temporary y 3
    own_low side (small, inl e) = rw e (omega (arith, small))
    own_low side (small, inr (t, e)) = by side.wire (own_wire side (small, inr (t, e)))
      where
        by : (s : Option ℕ) → IsWireSlot y s → side_slot y s side.spare < temporary y 3
        by None h = omega (arith, small)
        by (Some k) h = omega (arith, h)

    input_apart : (s r : Option ℕ) (k spare : ℕ) → s ≡ Some k → k < y.wires → AreDifferent s r → input_slot s ≡ side_slot y r spare → ⊥
    input_apart None r k spare e lt d same = absurd (cc)
    input_apart (Some q) None k spare e lt d same = let f : q ≡ k = cc in omega (arith, f, lt, same)
    input_apart (Some q) (Some j) k spare e lt d same = d (omega (arith, same))

    wire_below : (s : Option ℕ) (k : ℕ) → s ≡ Some k → IsWireSlot y s → k < y.wires
    wire_below None k e h = absurd (cc)
    wire_below (Some q) k e h = let f : q ≡ k = cc in rw (← f) h

    own_different : (s : Option ℕ) (side : SideSlot) → ((t : BoxSide) → AreDifferent s (wire_to step t)) → IsOwn side → AreDifferent s side.wire
    own_different s side d (small, inl e) = rw e (by s)
      where
        by : (s : Option ℕ) → AreDifferent s None
        by None = tt
        by (Some k) = tt
    own_different s side d (small, inr (t, e)) = subst (AreDifferent s) e (d t)

    x_apart : (x : Tree) → IsIn x (trees_of row.command) → (side : SideSlot) → IsOwn side →
        expression.expression_slot x (input_slot step.n) (input_slot step.w) (first_node y) ≡ side_at y side → ⊥
    x_apart x h side is e = by (is_where x (input_slot step.n) (input_slot step.w) (first_node y))
      where
        by : IsWhere x (input_slot step.n) (input_slot step.w) (first_node y) → ⊥
        by (inl (has, at)) = let (k, f) = named_n x h has in
            input_apart step.n side.wire k side.spare f (wire_below step.n k f (is_wire_at row.n)) (own_different step.n side different_n is) (sym at ∙ e)
        by (inr (inl (has, at))) = let (k, f) = named_w x h has in
            input_apart step.w side.wire k side.spare f (wire_below step.w k f (is_wire_at row.w)) (own_different step.w side different_w is) (sym at ∙ e)
        by (inr (inr (low, high))) = omega (arith, low, e, own_low side is)

    x_in : (x : Tree) → IsIn x (trees_of row.command) → expression.expression_slot x (input_slot step.n) (input_slot step.w) (first_node y) < y.size
    x_in x h = by (is_where x (input_slot step.n) (input_slot step.w) (first_node y))
      where
        by : IsWhere x (input_slot step.n) (input_slot step.w) (first_node y) → expression.expression_slot x (input_slot step.n) (input_slot step.w) (first_node y) < y.size
        by (inl (has, at)) = rw at (input_in row.n step.n refl)
        by (inr (inl (has, at))) = rw at (input_in row.w step.w refl)
        by (inr (inr (low, high))) = omega (arith, high, room_in x h)

    can_sort : (x : Tree) → IsIn x (trees_of row.command) → (f g : ℕ) → f < 4 → g < 4 → (one two both : SideSlot) → IsOwn one → IsOwn two → IsOwn both → (side_at y one ≡ side_at y two → ⊥) →
        CanSort y (expression.expression_slot x (input_slot step.n) (input_slot step.w) (first_node y)) f g one two both b
    can_sort x h f g hf hg one two both h1 h2 h3 apart = record {
      one_wire = own_wire one h1;
      two_wire = own_wire two h2;
      both_wire = own_wire both h3;
      one_inside = own_in one h1;
      two_inside = own_in two h2;
      both_inside = own_in both h3;
      box_inside = number_in;
      size = temporaries_in;
      x_inside = x_in x h;
      f_is = hf;
      g_is = hg;
      x_apart = x_apart x h one h1;
      one_apart = apart;
      both_apart = λ e. omega (arith, e, own_low both h3);
    }

    sorts_placed : (x : Tree) → IsIn x (trees_of row.command) → (f g : ℕ) → f < 4 → g < 4 → (one two both : SideSlot) → IsOwn one → IsOwn two → IsOwn both → (side_at y one ≡ side_at y two → ⊥) → (text : ℕ) →
        IsPlaced y (Sorts (wired step.n step.w) step.n step.w x f g one two both b text)
    sorts_placed x h f g hf hg one two both h1 h2 h3 apart text = (
      is_wire_at row.n,
      is_wire_at row.w,
      wired_in row.n row.w step.n step.w refl refl,
      room_in x h,
      can_sort x h f g hf hg one two both h1 h2 h3 apart,
      has_north x h,
      has_west x h,
    )

    is_own : (t : BoxSide) → IsOwn (side_of step t)
    is_own S = (omega arith, inr (S, refl))
    is_own E = (omega arith, inr (E, refl))

    is_dropped : (j : ℕ) → j < 3 → IsOwn (dropped j)
    is_dropped j lt = (lt, inl refl)

    is_both : (t : BoxSide) → IsOwn (both_to step t)
    is_both t = (omega arith, inr (t, refl))

    sides_two : (s e : Option ℕ) → slot_of M (South b) ≡ s → slot_of M (East b) ≡ e → side_slot y s 0 ≡ side_slot y e 1 → ⊥
    sides_two None None hs he same = omega (arith, same)
    sides_two None (Some k) hs he same = omega (arith, same, (wire_in (East b) k he).0)
    sides_two (Some k) None hs he same = omega (arith, same, (wire_in (South b) k hs).0)
    sides_two (Some k) (Some j) hs he same = let f : k ≡ j = omega (arith, same) in sides_apart M b k hs (he ∙ ap Some (sym f))

    -- the slot of the east side is a wire's, or the second temporary
    own_low_two : (e : Option ℕ) → slot_of M (East b) ≡ e → side_slot y e 1 < temporary y 2
    own_low_two None is = omega arith
    own_low_two (Some k) is = omega (arith, (wire_in (East b) k is).0)

    pub box_placed : (P : Program) (m : ℕ) (command : Form) → row.command ≡ command → (text : ℕ) → IsPlaced y (step_box P m step text command)
    box_placed P m (send outs) is text = (
      is_wire_at row.n,
      is_wire_at row.w,
      wired_in row.n row.w step.n step.w refl refl,
      outs_placed outs (λ x h. subst (λ c. IsIn x (trees_of c)) (sym is) h),
    )
    box_placed P m (case x S S) is text = sorts_placed x (subst (λ c. IsIn x (trees_of c)) (sym is) (inl refl)) 0 1 (omega arith) (omega arith) (dropped 0) (dropped 1) (both_to step S)
        (is_dropped 0 (omega arith)) (is_dropped 1 (omega arith)) (is_both S) (λ e. omega (arith, e)) text
    box_placed P m (case x E E) is text = sorts_placed x (subst (λ c. IsIn x (trees_of c)) (sym is) (inl refl)) 0 1 (omega arith) (omega arith) (dropped 0) (dropped 1) (both_to step E)
        (is_dropped 0 (omega arith)) (is_dropped 1 (omega arith)) (is_both E) (λ e. omega (arith, e)) text
    box_placed P m (case x S E) is text = sorts_placed x (subst (λ c. IsIn x (trees_of c)) (sym is) (inl refl)) 0 1 (omega arith) (omega arith) (side_of step S) (side_of step E) (dropped 2)
        (is_own S) (is_own E) (is_dropped 2 (omega arith)) (sides_two step.s step.e refl refl) text
    box_placed P m (case x E S) is text = sorts_placed x (subst (λ c. IsIn x (trees_of c)) (sym is) (inl refl)) 0 1 (omega arith) (omega arith) (side_of step E) (side_of step S) (dropped 2)
        (is_own E) (is_own S) (is_dropped 2 (omega arith)) (λ e. sides_two step.s step.e refl refl (sym e)) text
    box_placed P m (split x) is text = sorts_placed x (subst (λ c. IsIn x (trees_of c)) (sym is) (inl refl)) 2 3 (omega arith) (omega arith) (side_of step S) (side_of step E) (dropped 2)
        (is_own S) (is_own E) (is_dropped 2 (omega arith)) (sides_two step.s step.e refl refl) text
    box_placed P m (call name) is text = (
      is_wire_at row.n,
      is_wire_at row.w,
      wired_in row.n row.w step.n step.w refl refl,
      record {
        side_wire = own_wire (side_of step E) (is_own E);
        side_inside = own_in (side_of step E) (is_own E);
        side_apart = λ e. omega (arith, e, own_low_two step.e refl);
        box_inside = number_in;
        room = temporaries_in;
        frame = omega arith;
      },
    )

module _ (P : Program) (good : program.IsGood P) (p : Plan) (plan : IsPlan P p) where
  abbrev M : ModuleForm
  M = module_at P p.«module»

  abbrev y : Layout
  y = layout_of P p

  pub fits : Fits (module_at P p.«module») (layout_of P p)
  fits = record { wires = plan.slots; boxes = refl; size = refl }

  acyclic : (b : ℕ) → Reaches M b b → ⊥
  acyclic = good.acyclic p.«module» _ plan.there

  well : (b : ℕ) (row : BoxForm) → slice_get M.boxes b ≡ Some row → IsUnwired row → ⊥
  well b row there = subst (λ (r : BoxForm). IsUnwired r → ⊥) (get_or_from_slice_get M.boxes b row row there) (good.wired p.«module» _ plan.there b row (slice_get_within M.boxes b row there))

  step_placed : (s : PlanStep) → IsStep M s s.bx → IsPlaced y (box_in P p.«module» s)
  step_placed s is =
      subst (λ r. IsPlaced y (box_if P p.«module» s (first_text P p.«module» + s.bx) r)) (sym is.there)
      (subst (λ (q : PlanStep). IsPlaced y (step_box P p.«module» q (first_text P p.«module» + s.bx) is.row.command)) (sym is.slots)
      (box_placed M y fits acyclic s.bx is.row is.there (well s.bx is.row is.there) P p.«module» is.row.command refl (first_text P p.«module» + s.bx)))

  steps_placed : (steps : List PlanStep) → ((j : ℕ) (s : PlanStep) → slice_get steps j ≡ Some s → IsStep M s s.bx) → ArePlaced y (map (box_in P p.«module») steps)
  steps_placed [] h = tt
  steps_placed (s ∷ steps) h = (step_placed s (h 0 s refl), steps_placed steps (λ j t e. h (suc j) t e))

  -- The block of a plan has its slots in the frame.
  pub is_good : IsGoodBlock (block_of P p)
  is_good = record {
    size = temporaries_in M y fits;
    north_wire = is_wire M y fits North p.north (sym plan.north);
    west_wire = is_wire M y fits West p.west (sym plan.west);
    north_inside = side_in M y fits North p.north 0 (sym plan.north) (omega arith);
    west_inside = side_in M y fits West p.west 0 (sym plan.west) (omega arith);
    placed = steps_placed p.steps.items plan.steps;
    are_exits = subst (AreExits y) (sym plan.exits) (exits_in M y fits M.exits);
  }
