-- From one moment of a block to the next: its own stretches, its calls, and its return.
use Rattle.std.proofs.Common.{◌≡◌, ℕ, zero, suc, ◌+◌, ◌-◌, ◌*◌, ◌<◌, ◌≤◌, List, [], ◌∷◌, ◌++◌, length, replicate, Option, Some, refl, sym, ap, ◌∙◌, subst, arith}
use Rattle.std.specs.Prelude.{slice_index, unwrap_or}
use Rattle.std.specs.List.{Contains}
use Rattle.std.specs.FinMap as fin
use Rattle.um_word.specs.State.{State, array_at, reg}
use Rattle.um_word.specs.Loads.{Loads, Loaded}
use Rattle.um_word.specs.Leads.{Leads}
use Rattle.um_word.proofs.Arrays.{get-insert_same, get-insert_other}
use Rattle.um_word.proofs.Leading.{weaken, weaken_along, join}
use Rattle.codex_values.specs.Value.{Value}
use Rattle.two_d.specs.Meaning.{Inputs}
use Rattle.code_templates.specs.Lines.{StandsAt}
use Rattle.code_templates.specs.inner.Spent.{held, spent}
use Rattle.code_templates.proofs.Spent.{all_along}
use Rattle.code_templates.proofs.Holding.{spent_is, counted, held_zero}
use Rattle.code_templates.specs.Templates.{call_block, return_outcome}
use Rattle.code_templates.specs.Laws.{Quietly, ReturnOutcomeLaw, HasWords}
use Rattle.code_templates.proofs.BlockLaws.{return_outcome_law}
use Rattle.lower_emit.specs.inner.Stretches.{Range, Stretch, KeepsArrays, entry_of, load_at}
use Rattle.lower_emit.specs.Stands.{TextTrail, Carries, Marked, Ending}
use Rattle.lower_emit.specs.Layouts.{Layout, temporary, input_slot}
use Rattle.lower_emit.specs.inner.Frames.{AtPlace, IsWireSlot}
use Rattle.lower_emit.specs.inner.Ends.{exit_value, Ended}
use Rattle.lower_emit.specs.Entered.{HasBlocks, IsApart, Return}
use Rattle.lower_emit.specs.inner.Uses.{Returned}
use Rattle.lower_emit.specs.inner.Trips.{due, Prices, Along}
use Rattle.lower_emit.proofs.Boxes.{carries_grow, marked_grow}
use Rattle.lower_emit.proofs.Stretching.{comes}
use Rattle.lower_emit.proofs.Using.{keeps_all, blocks_stay, blocks_stand, Called, call_law, returned_law}

-- what is the only one of a list, and of a list with none
pub only_one : (frame k : ℕ) → Contains (frame ∷ []) k → k ≡ frame
only_one frame k (zero, lt, is) = sym is
only_one frame k (suc j, lt, is) = absurd (omega (arith, lt))

pub no_other : (frame k : ℕ) → Contains [] k → k ≡ frame
no_other frame k c = absurd (omega (arith, c.1))

-- one way after the other
pub follow : (I : State → Loads → Type 0) (n m : ℕ) (Q R : State → Loads → Type 0) (s : State) (l : Loads) → Leads I n Q s l → ((t : State) (k : Loads) → Q t k → Leads I m R t k) → Leads I (n + m) R s l
follow I n m Q R s l h go = join I n m R s l (weaken I n Q (Leads I m R) go s l h)

pub due_entry : (price : ℕ) (l : Loads) (words : List ℕ) → due price (l ++ entry_of words ∷ []) ≡ due price l + price
unfolding due
due_entry price [] words = omega arith
due_entry price (x ∷ l) words = let e = due_entry price l words in omega (arith, e)

pub due_more : (price : ℕ) (l : Loads) (x : Loaded) → due price l ≤ due price (l ++ x ∷ [])
unfolding due
due_more price [] x = omega arith
due_more price (y ∷ l) x = let e = due_more price l x in omega (arith, e)

-- the words of a new frame behind the first five
zeros : (n j : ℕ) → slice_index (replicate n 0) j ≡ 0
zeros zero j = refl
zeros (suc n) zero = refl
zeros (suc n) (suc j) = zeros n j

pub behind : (a b c d e n j : ℕ) → 5 ≤ j → slice_index (a ∷ b ∷ c ∷ d ∷ e ∷ replicate n 0) j ≡ 0
behind a b c d e n zero le = absurd (omega (arith, le))
behind a b c d e n (suc zero) le = absurd (omega (arith, le))
behind a b c d e n (suc (suc zero)) le = absurd (omega (arith, le))
behind a b c d e n (suc (suc (suc zero))) le = absurd (omega (arith, le))
behind a b c d e n (suc (suc (suc (suc zero)))) le = absurd (omega (arith, le))
behind a b c d e n (suc (suc (suc (suc (suc j))))) le = zeros n j

module _ (codes : ℕ → List ℕ) (c : Prices) (m width : ℕ) (y : Layout) (table frame : ℕ) (s0 : State) (l0 : Loads) where
  abbrev pub range : State → Loads → Range
  range t l = record { place = 0; size = width; frame = frame; came = t; loads = l }

  -- in the block, since state t
  abbrev pub At : ℕ → (ℕ → Option Value) → (ℕ → Option TextTrail) → State → Loads → State → Type 0
  At place wires stuck t l u = AtPlace (range t l) table frame (codes m) y place wires stuck t u

  -- no more was spent than 8 for each word up to the place, beside the price of what was entered
  abbrev pub Fair : ℕ → State → Loads → Type 0
  Fair place u k = spent u + due c.price l0 ≤ spent s0 + due c.price k + 8 * place

  -- the block is at a place, as it was entered in state s0
  pub record Now (place : ℕ) (wires : ℕ → Option Value) (stuck : ℕ → Option TextTrail) (u : State) (k : Loads) : Type 0 where
    pub at : At place wires stuck u k u
    pub keeps : KeepsArrays frame s0.arrays u.arrays
    pub home : (j : ℕ) → j < 5 → slice_index at.slots j ≡ slice_index (array_at s0.arrays frame) j
    pub out_is : u.out ≡ s0.out
    pub rest_is : u.rest ≡ s0.rest
    pub fair : Fair place u k

  pub moved_on : (place place2 : ℕ) (wires w2 : ℕ → Option Value) (stuck k2 : ℕ → Option TextTrail) (t : State) (l : Loads) → Now place wires stuck t l → (u : State) (k : Loads) → At place2 w2 k2 t l u → Fair place2 u k →
      Now place2 w2 k2 u k
  moved_on place place2 wires w2 stuck k2 t l i u k a fair = record {
    at = record {
      slots = a.slots;
      here = record {
        running = a.here.running;
        finger = a.here.finger;
        eight = a.here.eight;
        zero_is = a.here.zero_is;
        table_is = a.here.table_is;
        current_is = a.here.current_is;
        code_is = a.here.code_is;
        came_with = a.here.code_is;
        came_table = a.here.table_is;
        framed = refl;
        still = λ j words out e. e;
        frame_is = a.here.frame_is;
        out_is = refl;
        rest_is = refl;
      };
      holds = a.holds;
      keeps = λ j ws z ne e. e;
      cheap = omega arith;
      home = λ j lt. ap (λ o. slice_index (unwrap_or o []) j) (sym a.here.frame_is.there);
    };
    keeps = λ j ws z ne e. a.keeps j ws z ne (i.keeps j ws z ne e);
    home = λ j lt. a.home j lt ∙ ap (λ o. slice_index (unwrap_or o []) j) i.at.here.frame_is.there ∙ i.home j lt;
    out_is = a.here.out_is ∙ i.out_is;
    rest_is = a.here.rest_is ∙ i.rest_is;
    fair = fair;
  }

  module _ (ids : List ℕ) (blocks : HasBlocks codes table ids s0.arrays) (far : IsApart table ids frame) where
    -- n cycles that stand within the block and that spend no more than this
    quiet_step : (n bound place size : ℕ) (but : List ℕ) (Q : State → Loads → Type 0) (t : State) (l : Loads) → ((k : ℕ) → Contains but k → k ≡ frame) → KeepsArrays frame s0.arrays t.arrays → reg t 1 ≡ table → t.out ≡ s0.out → t.rest ≡ s0.rest → (code : List ℕ) → fin.get t.arrays 0 ≡ Some code →
        ((u : State) (k : Loads) → Q u k → u.cycles ≡ t.cycles + n → spent u ≤ spent t + bound) → spent t + due c.price l0 + bound ≤ spent s0 + due c.price l + c.price →
        Leads (Quietly place size but t l) n Q t l → Leads (Along codes ids c s0 l0) n (λ u k. Q u k × (spent u ≤ spent t + bound)) t l
    quiet_step n bound place size but Q t l only keeps table_is out rest code code_is ends low h =
        let J = Quietly place size but t l in
        let Q1 : State → Loads → Type 0 = λ u k. Q u k × (u.cycles ≡ t.cycles + n) in
        let P : State → Type 0 = λ u. spent u ≤ spent t + bound in
        weaken (Along codes ids c s0 l0) n Q1 (λ u k. Q u k × (spent u ≤ spent t + bound)) (λ u k q. (q.0, ends u k q.0 q.1)) t l
        (weaken_along (λ u k. J u k × P u) (Along codes ids c s0 l0) n Q1
        (λ u k w.
        let b = w.1 in
        let same = ap (due c.price) w.0.1 in
        record {
          own = w.0.0.own;
          blocks = blocks_stand codes table ids frame t u far table_is w.0.0.table (λ j ws z ne e. w.0.0.stays j ws (λ c. ne (only j c)) e)
              (blocks_stay codes table ids frame s0.arrays t.arrays far keeps blocks);
          out_is = w.0.0.out ∙ out;
          rest_is = w.0.0.rest ∙ rest;
          bound = omega (arith, b, same, low);
        }) t l
        (all_along J Q1 (λ u k w. w.0.own.own) P (λ s u r p. let x = r.1 in omega (arith, x, p)) (λ u k q. ends u k q.0 q.1) n t l (code, code_is) (counted J Q n t l h)))

    -- a stretch of the block's own
    pub own_step : (n place place2 : ℕ) (Q : State → Type 0) (wires w2 : ℕ → Option Value) (stuck k2 : ℕ → Option TextTrail) (t : State) (l : Loads) → Now place wires stuck t l →
        ((u : State) → Q u → At place2 w2 k2 t l u) → place + n ≤ place2 → 8 * place2 ≤ c.price → Stretch (range t l) n Q t →
        Leads (Along codes ids c s0 l0) n (λ u k. (k ≡ l) × Q u × Fair place2 u k) t l
    own_step n place place2 Q wires w2 stuck k2 t l i at le low h =
        let fair = i.fair in
        let from = i.at.here.finger in
        let bound = 8 * (place2 - place) in
        weaken (Along codes ids c s0 l0) n (λ u k. (Q u × (k ≡ l)) × (spent u ≤ spent t + bound)) (λ u k. (k ≡ l) × Q u × Fair place2 u k)
        (λ u k q. let b = q.1 in let same = ap (due c.price) q.0.1 in (q.0.1, q.0.0, omega (arith, b, same, fair, le))) t l
        (quiet_step n bound 0 width (frame ∷ []) (λ u k. Q u × (k ≡ l)) t l (only_one frame) i.keeps i.at.here.table_is i.out_is i.rest_is (codes m) i.at.here.code_is
        (λ u k q count.
        let a = at u q.0 in
        let cheap = a.cheap in
        let to = a.here.finger in
        let x = spent_is u in
        let z = spent_is t in
        omega (arith, count, cheap, from, to, x, z, le)) (omega (arith, fair, low, le)) h)

    -- the call of another block
    pub call_step : (place : ℕ) (wires : ℕ → Option Value) (stuck : ℕ → Option TextTrail) (t : State) (l : Loads) → Now place wires stuck t l → (north west : Option ℕ) (callee size : ℕ) → IsWireSlot y north → IsWireSlot y west →
        StandsAt (codes m) place (call_block (input_slot north) (input_slot west) callee size m (place + 21)) → 5 ≤ size → temporary y 4 < y.size → callee < length ids → 64 + 4 * size ≤ c.frame → 8 * (place + 21) + c.frame ≤ c.price →
        Leads (Along codes ids c s0 l0) 21
        (λ u k. (Called codes table ids callee size (record { caller = frame; block = m; offset = place + 21 }) (record { north = exit_value wires north; west = exit_value wires west }) t u
        × (k ≡ l ++ entry_of (codes callee) ∷ [])) × (spent u ≤ spent t + (21 + c.frame))) t l
    call_step place wires stuck t l i north west callee size is_north is_west stand five room inside framed low =
        let fair = i.fair in
        quiet_step 21 (21 + c.frame) t.finger 21 []
        (λ u k. Called codes table ids callee size (record { caller = frame; block = m; offset = place + 21 }) (record { north = exit_value wires north; west = exit_value wires west }) t u × (k ≡ l ++ entry_of (codes callee) ∷ []))
        t l (no_other frame) i.keeps i.at.here.table_is i.out_is i.rest_is (codes m) i.at.here.code_is
        (λ u k q count.
        let more = q.0.more in
        let x = spent_is u in
        let z = spent_is t in
        omega (arith, count, more, x, z, framed)) (omega (arith, fair, low))
        (call_law codes table ids (range t l) frame m y t wires stuck place t i.at north west callee size is_north is_west stand five room inside (blocks_stay codes table ids frame s0.arrays t.arrays far i.keeps blocks) l)

    module _ (place : ℕ) (wires : ℕ → Option Value) (stuck : ℕ → Option TextTrail) (t : State) (l : Loads) (i : Now place wires stuck t l) (callee size : ℕ) (inputs : Inputs) (u : State) (k : Loads)
        (called : Called codes table ids callee size (record { caller = frame; block = m; offset = place + 21 }) inputs t u) (loads : k ≡ l ++ entry_of (codes callee) ∷ []) (cost : spent u ≤ spent t + (21 + c.frame)) where
      due_called : due c.price k ≡ due c.price l + c.price
      due_called = ap (due c.price) loads ∙ due_entry c.price l (codes callee)

      -- along the callee's way it is as along this block's
      pub within_call : 8 * (place + 21) + c.frame ≤ c.price → (x : State) (j : Loads) → Along codes ids c u k x j → Along codes ids c s0 l0 x j
      within_call low x j h =
          let d = due_called in
          let fair = i.fair in
          let b = h.bound in
          record {
            own = h.own;
            blocks = h.blocks;
            out_is = h.out_is ∙ called.out_is ∙ i.out_is;
            rest_is = h.rest_is ∙ called.rest_is ∙ i.rest_is;
            bound = omega (arith, d, fair, b, cost, low);
          }

      -- the callee has returned
      pub back_step : (came : Ending) (v : State) (j : Loads) → Returned codes table (record { caller = frame; block = m; offset = place + 21 }) came called.frame u v →
          spent v + c.frame + due c.price k ≤ spent u + due c.price j + c.price → temporary y 4 < y.size → Now (place + 21) wires stuck v j
      back_step came v j ret bound room =
          let d = due_called in
          let fair = i.fair in
          let n = i.at.holds.long in
          let keeps : KeepsArrays called.frame t.arrays v.arrays = λ q ws z ne e. ret.keeps q ws z ne (called.keeps q ws z ne e) in
          let same = keeps_all t.arrays v.arrays called.frame called.is_new keeps frame in
          let b = returned_law codes table ids (range t l) frame m y t wires stuck place t i.at callee size (record { caller = frame; block = m; offset = place + 21 }) inputs came u v called refl refl ret (omega (arith, n, room)) 0 width j in
          record {
            at = b.0;
            keeps = λ q ws z ne e. same q ws z ne (i.keeps q ws z ne e);
            home = λ q lt. ap (λ xs. slice_index xs q) b.1 ∙ i.home q lt;
            out_is = ret.out_is ∙ called.out_is ∙ i.out_is;
            rest_is = ret.rest_is ∙ called.rest_is ∙ i.rest_is;
            fair = omega (arith, d, fair, bound, cost);
          }

    -- the return to the caller, with the outcome in its slots
    pub return_step : (back : Return) (place : ℕ) (wires w2 : ℕ → Option Value) (stuck k2 : ℕ → Option TextTrail) (came : Ending) (t : State) (l : Loads) → Now place wires stuck t l → (u : State) (k : Loads) → (place2 : ℕ) →
        Ended (range t l) table frame (codes m) y place2 w2 k2 came.value came.mark t u → Fair place2 u k →
        StandsAt (codes m) place2 return_outcome → temporary y 4 < y.size → back.block < length ids → 8 * (place2 + 11) + c.frame ≤ c.price →
        slice_index (array_at s0.arrays frame) 0 ≡ back.caller → slice_index (array_at s0.arrays frame) 1 ≡ back.block → slice_index (array_at s0.arrays frame) 2 ≡ back.offset →
        Leads (Along codes ids c s0 l0) 11 (λ v j. Returned codes table back came frame s0 v × (j ≡ k ++ load_at (codes back.block) back.offset ∷ []) × (spent v + c.frame + due c.price l0 ≤ spent s0 + due c.price j + c.price)) u k
    unfolding ReturnOutcomeLaw
    return_step back place wires w2 stuck k2 came t l i u k place2 end fair stand room inside low caller_is block_is offset_is =
        let a = end.at in
        let slots = a.slots in
        let b = blocks_stay codes table ids frame s0.arrays u.arrays far (λ j ws z ne e. a.keeps j ws z ne (i.keeps j ws z ne e)) blocks in
        let home : (j : ℕ) → j < 5 → slice_index slots j ≡ slice_index (array_at s0.arrays frame) j =
        λ j lt. a.home j lt ∙ ap (λ o. slice_index (unwrap_or o []) j) i.at.here.frame_is.there ∙ i.home j lt in
        let c0 = home 0 (omega arith) ∙ caller_is in
        let c1 = home 1 (omega arith) ∙ block_is in
        let c2 = home 2 (omega arith) ∙ offset_is in
        let n = a.holds.long in
        let there = a.here.frame_is.there in
        let block = b.each back.block inside in
        weaken (Along codes ids c s0 l0) 11 _ (λ v j. Returned codes table back came frame s0 v × (j ≡ k ++ load_at (codes back.block) back.offset ∷ []) × (spent v + c.frame + due c.price l0 ≤ spent s0 + due c.price j + c.price))
        (λ v j q.
        let h = q.0.0.0 in
        let keeps : KeepsArrays frame u.arrays v.arrays = λ x ws z ne e. ap (λ y. fin.get y x) h.arrays_are ∙ get-insert_other u.arrays 0 (codes back.block) x z ∙ e in
        let loads = q.0.1 ∙ ap (λ o. k ++ load_at (codes back.block) o ∷ []) c2 in
        let d = ap (due c.price) loads in
        let more = due_more c.price k (load_at (codes back.block) back.offset) in
        let cost = q.1 in (
          record {
            running = h.running;
            finger = h.finger ∙ c2;
            eight = h.eight;
            zero_is = h.zero_is;
            table_is = h.table_is;
            current_is = h.current_is ∙ c0;
            code_is = ap (λ y. fin.get y 0) h.arrays_are ∙ get-insert_same u.arrays 0 (codes back.block);
            value_is = subst (λ z. Carries v.arrays z came.value) (sym q.0.0.1) (carries_grow frame slots u.arrays v.arrays keeps there (omega (arith, n, room)) _ came.value end.value_is);
            mark_is = subst (λ z. Marked v.arrays z came.mark) (sym q.0.0.2) (marked_grow frame slots u.arrays v.arrays keeps there (omega (arith, n, room)) _ came.mark end.mark_is);
            keeps = λ x ws z ne e. keeps x ws z ne (a.keeps x ws z ne (i.keeps x ws z ne e));
            out_is = h.out_is ∙ a.here.out_is ∙ i.out_is;
            rest_is = h.rest_is ∙ a.here.rest_is ∙ i.rest_is;
          },
          loads,
          omega (arith, d, more, cost, fair, low),
        )) u k
        (quiet_step 11 11 u.finger 11 [] _ u k (no_other frame) (λ j ws z ne e. a.keeps j ws z ne (i.keeps j ws z ne e)) a.here.table_is (a.here.out_is ∙ i.out_is) (a.here.rest_is ∙ i.rest_is) (codes m) a.here.code_is
        (λ v j q count.
        let x = spent_is v in
        let z = spent_is u in
        let e = ap held q.0.0.arrays_are ∙ held_zero u.arrays (codes m) (codes back.block) a.here.code_is in
        omega (arith, count, x, z, e)) (omega (arith, fair, low))
        (return_outcome_law table frame slots ids (codes back.block) u (comes (range t l) table frame (codes m) place2 slots u return_outcome a.here stand) there (omega (arith, n, room)) b.there
        (subst (λ x. x < length ids) (sym c1) inside) (subst (λ x. HasWords u.arrays (slice_index ids x) (codes back.block)) (sym c1) block) k))
