-- The code of an expression makes its value.
use Rattle.std.proofs.Common.{◌≡◌, ◌≢◌, ℕ, ◌+◌, ◌<◌, ◌≤◌, List, [], ◌∷◌, ◌++◌, length, Some, refl, sym, ap, ◌∙◌, subst, inl, inr, arith, length-set, length-append, get_or-set_same, get_or-set_other}
use Rattle.std.specs.Prelude.{slice_set, slice_index}
use Rattle.std.specs.FinMap as map
use Rattle.um_word.specs.declared.op.Op.{Op}
use Rattle.um_word.specs.State.{State}
use Rattle.um_word.proofs.Arrays.{get-insert_same, get-insert_other}
use Rattle.codex_values.specs.Value.{Value}
use Rattle.codex_values.specs.Value as value
use Rattle.two_d.specs.Trees.{Tree, unit, n, w, pair}
use Rattle.two_d.specs.Trees as tree
use Rattle.um_word.specs.Leads.{IsNew}
use Rattle.code_templates.specs.Lines.{StandsAt}
use Rattle.code_templates.specs.Templates.{make_cell}
use Rattle.code_templates.specs.inner.Spent.{IsCheap, held}
use Rattle.code_templates.proofs.Holding.{held_set, held_new}
use Rattle.code_templates.specs.Laws.{Leaves, empty_cell, MakeCellLaw}
use Rattle.code_templates.proofs.Straight.{stands_front, stands_back, apart}
use Rattle.code_templates.proofs.BlockLaws.{make_cell_law}
use Rattle.lower_emit.specs.inner.Stretches.{Range, Stretch, InBlock, KeepsArrays}
use Rattle.lower_emit.specs.Stands.{Stands}
use Rattle.two_d.specs.Good.{NamesN, NamesW}
use Rattle.lower_emit.specs.inner.Building.{slot_value, Grown, Built, BuildLaw}
use Rattle.lower_emit.specs.Expressions.{past, expression_slot, code_of}
use Rattle.lower_emit.specs.Layouts.{zero_slot}
use Rattle.lower_emit.proofs.Stretching.{stays, chain, becomes, template_stretch, comes, still_on}
use Rattle.lower_emit.proofs.Growth.{grows}

pub past_ge : (x : Tree) (f : ℕ) → f ≤ past x f
past_ge n f = omega arith
past_ge w f = omega arith
past_ge unit f = omega arith
past_ge (pair a b) f = let x = past_ge a f in let y = past_ge b (past a f) in omega (arith, x, y)
past_ge (tree.inl a) f = let x = past_ge a f in omega (arith, x)
past_ge (tree.inr a) f = let x = past_ge a f in omega (arith, x)

pub slot_low : (x : Tree) (north west f : ℕ) → north < f → west < f → expression_slot x north west f < past x f
slot_low n north west f hn hw = hn
slot_low w north west f hn hw = hw
slot_low unit north west f hn hw = omega arith
slot_low (pair a b) north west f hn hw = omega arith
slot_low (tree.inl a) north west f hn hw = omega arith
slot_low (tree.inr a) north west f hn hw = omega arith

module _ (r : Range) (table frame : ℕ) (code : List ℕ) where
  -- one cell more
  pub record OneCell (place : ℕ) (slots : List ℕ) (d : ℕ) (cell : List ℕ) (s t : State) : Type 0 where
    pub new : ℕ
    pub not_zero : new ≢ 0
    pub here : InBlock r table frame code place (slice_set slots d new) t
    pub keeps : KeepsArrays frame s.arrays t.arrays
    pub cheap : IsCheap s t
    pub made : map.get t.arrays new ≡ Some cell

  abbrev pub filled_cell : (slots : List ℕ) (a b i j : ℕ) → List ℕ
  filled_cell slots a b i j = slice_set (slice_set empty_cell i (slice_index slots a)) j (slice_index slots b)

  made_cell : (place : ℕ) (slots : List ℕ) (d : ℕ) (cell : List ℕ) (s t : State) → InBlock r table frame code place slots s → d < length slots → length cell ≡ 4 →
      (new : ℕ) → IsNew s.arrays new → Leaves (s.finger + 12) table frame (map.insert (map.insert s.arrays new cell) frame (slice_set slots d new)) s.out s t →
      OneCell (place + 12) slots d cell s t
  made_cell place slots d cell s t here hd four new is_new l =
      let f = here.frame_is in
      let one = held_new s.arrays code new cell here.code_is is_new in
      let same =
      held_set (map.insert s.arrays new cell) code frame slots (slice_set slots d new) (get-insert_other s.arrays new cell 0 (λ e. is_new.not_zero (sym e)) ∙ here.code_is)
      (get-insert_other s.arrays new cell frame (apart s.arrays new frame slots is_new f.there) ∙ f.there) (length-set slots d new) in
      let now : held t.arrays ≡ held s.arrays + 80 = ap held l.arrays_are ∙ omega (arith, one, same, four) in
      let finger = l.finger in
      let other : (k : ℕ) → k ≢ frame → k ≢ new → map.get t.arrays k ≡ map.get s.arrays k =
      λ k a b. ap (λ m. map.get m k) l.arrays_are ∙ get-insert_other (map.insert s.arrays new cell) frame (slice_set slots d new) k a ∙ get-insert_other s.arrays new cell k b in
      record {
        new = new;
        not_zero = is_new.not_zero;
        here = record {
          running = l.running;
          finger = l.finger ∙ ap (λ p. p + 12) here.finger;
          eight = l.eight;
          zero_is = l.zero_is;
          table_is = l.table_is;
          current_is = l.current_is;
          code_is = other 0 (λ e. f.not_zero (sym e)) (λ e. is_new.not_zero (sym e)) ∙ here.code_is;
          came_with = here.came_with;
          came_table = here.came_table;
          framed = here.framed;
          still = still_on frame r.came.arrays s.arrays t.arrays here.still (λ k ws not_zero not_frame e. other k not_frame (apart s.arrays new k ws is_new e) ∙ e) (other 0 (λ e. f.not_zero (sym e)) (λ e. is_new.not_zero (sym e)));
          frame_is = record {
            not_zero = f.not_zero;
            there = ap (λ m. map.get m frame) l.arrays_are ∙ get-insert_same (map.insert s.arrays new cell) frame (slice_set slots d new);
          };
          out_is = l.out_is ∙ here.out_is;
          rest_is = l.rest_is ∙ here.rest_is;
        };
        keeps = λ k ws not_zero not_frame e. other k not_frame (apart s.arrays new k ws is_new e) ∙ e;
        cheap = omega (arith, now, finger);
        made = ap (λ m. map.get m new) l.arrays_are
            ∙ get-insert_other (map.insert s.arrays new cell) frame (slice_set slots d new) new (λ e. apart s.arrays new frame slots is_new f.there (sym e))
            ∙ get-insert_same s.arrays new cell;
      }

  pub one_cell : (a b i j d place : ℕ) (slots : List ℕ) (s : State) → InBlock r table frame code place slots s → StandsAt code place (make_cell a b i j d) →
      r.place ≤ place → place + 12 ≤ r.place + r.size → a < length slots → b < length slots → d < length slots → i < 4 → j < 4 →
      Stretch r 12 (OneCell (place + 12) slots d (filled_cell slots a b i j) s) s
  unfolding MakeCellLaw
  one_cell a b i j d place slots s here stand low high ha hb hd hi hj =
      becomes r 12 _ (OneCell (place + 12) slots d (filled_cell slots a b i j) s) s
      (λ t h. made_cell place slots d (filled_cell slots a b i j) s t here hd (length-set (slice_set empty_cell i (slice_index slots a)) j (slice_index slots b) ∙ length-set empty_cell i (slice_index slots a)) h.0 h.1 h.2)
      (template_stretch r table frame code 12 12 _ place slots s here low high
      (make_cell_law a b i j d table frame slots s (comes r table frame code place slots s (make_cell a b i j d) here stand) here.frame_is ha hb hd hi hj))

  -- a cell after what is built already
  then_cell : (a b i j d place free : ℕ) (slots : List ℕ) (v : Value) (s t : State) (g : Grown r table frame code place free slots s t) →
      StandsAt code place (make_cell a b i j d) → r.place ≤ place → place + 12 ≤ r.place + r.size →
      a < length slots → b < length slots → d < length slots → i < 4 → j < 4 → free ≤ d →
      ((u : State) → KeepsArrays frame t.arrays u.arrays → (k : ℕ) → k ≢ 0 → map.get u.arrays k ≡ Some (filled_cell g.now a b i j) → Stands u.arrays k v) →
      Stretch r 12 (Built r table frame code (place + 12) free slots d v s) t
  then_cell a b i j d place free slots v s t g stand low high ha hb hd hi hj above stands =
      let long = g.long in
      let inside : d < length g.now = omega (arith, long, hd) in
      becomes r 12 (OneCell (place + 12) g.now d (filled_cell g.now a b i j) t) (Built r table frame code (place + 12) free slots d v s) t
      (λ u c. record {
        grown = record {
          now = slice_set g.now d c.new;
          here = c.here;
          keeps = λ k ws z f e. c.keeps k ws z f (g.keeps k ws z f e);
          cheap = let x = c.cheap in let z = g.cheap in omega (arith, x, z);
          long = length-set g.now d c.new ∙ g.long;
          low = λ k small. get_or-set_other g.now d k c.new 0 (λ e. omega (arith, e, small, above)) ∙ g.low k small;
        };
        stands = subst (λ k. Stands u.arrays k v) (sym (get_or-set_same g.now d c.new 0 inside)) (stands u c.keeps c.new c.not_zero c.made);
      })
      (one_cell a b i j d place g.now t g.here stand low high (omega (arith, long, ha)) (omega (arith, long, hb)) inside hi hj)

  abbrev nothing : (place free : ℕ) (slots : List ℕ) (s : State) → InBlock r table frame code place slots s → Grown r table frame code place free slots s s
  nothing place free slots s here = record { now = slots; here = here; keeps = λ k ws z f h. h; cheap = omega arith; long = refl; low = λ k small. refl }

  -- what was built after what was built
  abbrev both : (place place2 free free2 : ℕ) (slots : List ℕ) (s t u : State) (g : Grown r table frame code place free slots s t) → Grown r table frame code place2 free2 g.now t u → free ≤ free2 →
      Grown r table frame code place2 free slots s u
  both place place2 free free2 slots s t u g h le = record {
    now = h.now;
    here = h.here;
    keeps = λ k ws z f e. h.keeps k ws z f (g.keeps k ws z f e);
    cheap = let x = h.cheap in let z = g.cheap in omega (arith, x, z);
    long = h.long ∙ g.long;
    low = λ k small. h.low k (omega (arith, small, le)) ∙ g.low k small;
  }

  leaf : (place free slot : ℕ) (slots : List ℕ) (v : Value) (s : State) → InBlock r table frame code place slots s → Stands s.arrays (slice_index slots slot) v →
      Stretch r 0 (Built r table frame code (place + 0) free slots slot v s) s
  leaf place free slot slots v s here stands =
      let e : place ≡ place + 0 = omega arith in
      subst (λ p. Stretch r 0 (Built r table frame code p free slots slot v s) s) e
      (stays r (Built r table frame code place free slots slot v s) s (record { grown = nothing place free slots s here; stands = stands }))

  -- two pieces of code, one after the other
  pieces_from : (xs ys : List Op) (place free slot : ℕ) (slots : List ℕ) (v : Value) (s t : State) →
      Stretch r (length xs + length ys) (Built r table frame code (place + length xs + length ys) free slots slot v s) t →
      Stretch r (length (xs ++ ys)) (Built r table frame code (place + length (xs ++ ys)) free slots slot v s) t
  pieces_from xs ys place free slot slots v s t h =
      let e : place + length xs + length ys ≡ place + (length xs + length ys) = omega arith in
      subst (λ k. Stretch r k (Built r table frame code (place + k) free slots slot v s) t) (sym (length-append xs ys))
      (subst (λ p. Stretch r (length xs + length ys) (Built r table frame code p free slots slot v s) t) e h)

  pieces : (xs ys : List Op) (place free slot : ℕ) (slots : List ℕ) (v : Value) (s : State) →
      Stretch r (length xs + length ys) (Built r table frame code (place + length xs + length ys) free slots slot v s) s →
      Stretch r (length (xs ++ ys)) (Built r table frame code (place + length (xs ++ ys)) free slots slot v s) s
  pieces xs ys place free slot slots v s h = pieces_from xs ys place free slot slots v s s h

  module _ (north west : ℕ) (vn vw : Value) where
    abbrev pub Law : Tree → Type 0
    Law x = (place free : ℕ) (slots : List ℕ) (s : State) →
        InBlock r table frame code place slots s → StandsAt code place (code_of x north west free) →
        r.place ≤ place → place + length (code_of x north west free) ≤ r.place + r.size →
        zero_slot < free → north < free → west < free → past x free ≤ length slots → 4 < length slots → slice_index slots zero_slot ≡ 0 →
        (NamesN x → Stands s.arrays (slice_index slots north) vn) → (NamesW x → Stands s.arrays (slice_index slots west) vw) →
        Stretch r (length (code_of x north west free))
        (Built r table frame code (place + length (code_of x north west free)) free slots (expression_slot x north west free) (slot_value x vn vw) s) s

    pub all : (x : Tree) → Law x
    all n place free slots s here stand low high h7 hn hw room long hz sn sw = leaf place free north slots vn s here (sn tt)
    all w place free slots s here stand low high h7 hn hw room long hz sn sw = leaf place free west slots vw s here (sw tt)
    all unit place free slots s here stand low high h7 hn hw room long hz sn sw =
        then_cell zero_slot zero_slot 0 1 free place free slots value.unit s s (nothing place free slots s here) stand low high
        (omega (arith, h7, room)) (omega (arith, h7, room)) (omega (arith, room)) (omega arith) (omega arith) (omega arith)
        (λ u keeps k not_zero made. (not_zero, made ∙ ap (λ z. Some (z ∷ z ∷ 0 ∷ 0 ∷ [])) hz))
    all (tree.inl a) place free slots s here stand low high h7 hn hw room long hz sn sw =
        let xs = code_of a north west free in
        let x = expression_slot a north west free in
        let d = past a free in
        let ys = make_cell x zero_slot 0 1 d in
        let size = length-append xs ys in
        let above = past_ge a free in
        let x_low = slot_low a north west free hn hw in
        pieces xs ys place free d slots (value.inl (slot_value a vn vw)) s
        (chain r (length xs) 12 (Built r table frame code (place + length xs) free slots x (slot_value a vn vw) s) (Built r table frame code (place + length xs + 12) free slots d (value.inl (slot_value a vn vw)) s) s
        (all a place free slots s here (stands_front code place xs ys stand) low (omega (arith, high, size)) h7 hn hw (omega (arith, room)) long hz sn sw)
        (λ t b. then_cell x zero_slot 0 1 d (place + length xs) free slots (value.inl (slot_value a vn vw)) s t b.grown (stands_back code place xs ys stand)
        (omega (arith, low)) (omega (arith, high, size)) (omega (arith, x_low, room)) (omega (arith, h7, above, room)) (omega (arith, room)) (omega arith) (omega arith) above
        (λ u keeps k not_zero made.
        let now = b.grown.now in
        let now_long = b.grown.long in (
          slice_index now x,
          (not_zero, made ∙ ap (λ z. Some (slice_index now x ∷ z ∷ 0 ∷ 0 ∷ [])) (b.grown.low zero_slot h7 ∙ hz)),
          grows frame now t.arrays u.arrays keeps b.grown.here.frame_is.there (omega (arith, now_long, long)) (slot_value a vn vw) (slice_index now x) b.stands,
        ))))
    all (tree.inr a) place free slots s here stand low high h7 hn hw room long hz sn sw =
        let xs = code_of a north west free in
        let x = expression_slot a north west free in
        let d = past a free in
        let ys = make_cell zero_slot x 0 1 d in
        let size = length-append xs ys in
        let above = past_ge a free in
        let x_low = slot_low a north west free hn hw in
        pieces xs ys place free d slots (value.inr (slot_value a vn vw)) s
        (chain r (length xs) 12 (Built r table frame code (place + length xs) free slots x (slot_value a vn vw) s) (Built r table frame code (place + length xs + 12) free slots d (value.inr (slot_value a vn vw)) s) s
        (all a place free slots s here (stands_front code place xs ys stand) low (omega (arith, high, size)) h7 hn hw (omega (arith, room)) long hz sn sw)
        (λ t b. then_cell zero_slot x 0 1 d (place + length xs) free slots (value.inr (slot_value a vn vw)) s t b.grown (stands_back code place xs ys stand)
        (omega (arith, low)) (omega (arith, high, size)) (omega (arith, h7, above, room)) (omega (arith, x_low, room)) (omega (arith, room)) (omega arith) (omega arith) above
        (λ u keeps k not_zero made.
        let now = b.grown.now in
        let now_long = b.grown.long in (
          slice_index now x,
          (not_zero, made ∙ ap (λ z. Some (z ∷ slice_index now x ∷ 0 ∷ 0 ∷ [])) (b.grown.low zero_slot h7 ∙ hz)),
          grows frame now t.arrays u.arrays keeps b.grown.here.frame_is.there (omega (arith, now_long, long)) (slot_value a vn vw) (slice_index now x) b.stands,
        ))))
    all (pair a b) place free slots s here stand low high h7 hn hw room long hz sn sw =
        let xs = code_of a north west free in
        let f2 = past a free in
        let ys = code_of b north west f2 in
        let x = expression_slot a north west free in
        let y = expression_slot b north west f2 in
        let d = past b f2 in
        let zs = make_cell x y 2 3 d in
        let v = value.pair (slot_value a vn vw) (slot_value b vn vw) in
        let size = length-append xs (ys ++ zs) in
        let size2 = length-append ys zs in
        let above = past_ge a free in
        let above2 = past_ge b f2 in
        let x_low = slot_low a north west free hn hw in
        let y_low = slot_low b north west f2 (omega (arith, hn, above)) (omega (arith, hw, above)) in
        let back = stands_back code place xs (ys ++ zs) stand in
        pieces xs (ys ++ zs) place free d slots v s
        (chain r (length xs) (length (ys ++ zs)) (Built r table frame code (place + length xs) free slots x (slot_value a vn vw) s) (Built r table frame code (place + length xs + length (ys ++ zs)) free slots d v s) s
        (all a place free slots s here (stands_front code place xs (ys ++ zs) stand) low (omega (arith, high, size)) h7 hn hw (omega (arith, room, above2)) long hz (λ u. sn (inl u)) (λ u. sw (inl u)))
        (λ t g.
        let now = g.grown.now in
        let now_long = g.grown.long in
        let up : (k : ℕ) (u : Value) → k < free → Stands s.arrays (slice_index slots k) u → Stands t.arrays (slice_index now k) u =
        λ k u small h. subst (λ q. Stands t.arrays q u) (sym (g.grown.low k small)) (grows frame slots s.arrays t.arrays g.grown.keeps here.frame_is.there long u (slice_index slots k) h) in
        pieces_from ys zs (place + length xs) free d slots v s t
        (chain r (length ys) 12 (Built r table frame code (place + length xs + length ys) f2 now y (slot_value b vn vw) t) (Built r table frame code (place + length xs + length ys + 12) free slots d v s) t
        (all b (place + length xs) f2 now t g.grown.here (stands_front code (place + length xs) ys zs back) (omega (arith, low)) (omega (arith, high, size, size2))
        (omega (arith, h7, above)) (omega (arith, hn, above)) (omega (arith, hw, above)) (omega (arith, room, now_long)) (omega (arith, long, now_long)) (g.grown.low zero_slot h7 ∙ hz)
        (λ q. up north vn hn (sn (inr q))) (λ q. up west vw hw (sw (inr q))))
        (λ t2 h.
        let then = h.grown.now in
        let then_long = h.grown.long in
        then_cell x y 2 3 d (place + length xs + length ys) free slots v s t2 (both (place + length xs) (place + length xs + length ys) free f2 slots s t t2 g.grown h.grown above)
        (stands_back code (place + length xs) ys zs back) (omega (arith, low)) (omega (arith, high, size, size2)) (omega (arith, x_low, above2, room)) (omega (arith, y_low, room)) (omega (arith, room)) (omega arith) (omega arith) (omega (arith, above, above2))
        (λ u keeps k not_zero made. (
          slice_index then x,
          slice_index then y,
          (not_zero, made),
          grows frame then t2.arrays u.arrays keeps h.grown.here.frame_is.there (omega (arith, then_long, now_long, long)) (slot_value a vn vw) (slice_index then x)
              (subst (λ q. Stands t2.arrays q (slot_value a vn vw)) (sym (h.grown.low x x_low)) (grows frame now t.arrays t2.arrays h.grown.keeps g.grown.here.frame_is.there (omega (arith, now_long, long)) (slot_value a vn vw) (slice_index now x) g.stands)),
          grows frame then t2.arrays u.arrays keeps h.grown.here.frame_is.there (omega (arith, then_long, now_long, long)) (slot_value b vn vw) (slice_index then y) h.stands,
        ))))))

pub builds : BuildLaw
unfolding BuildLaw
builds r table frame code north west vn vw x = all r table frame code north west vn vw x
