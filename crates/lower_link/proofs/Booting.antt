-- The boot, block by block.
use Rattle.std.proofs.Common.{◌≡◌, ◌≢◌, ℕ, zero, suc, ◌+◌, ◌-◌, ◌*◌, ◌<◌, ◌≤◌, inl, inr, false, List, [], ◌∷◌, ◌++◌, length, replicate, Some, refl, sym, ap, ◌∙◌, subst, arith, length-set, get_or-set_same, get_or-set_other}
use Rattle.std.specs.Prelude.{slice_set, slice_index}
use Rattle.std.specs.FinMap as map
use Rattle.std.proofs.lemmas.List.{length-replicate}
use Rattle.std.proofs.lemmas.Bool.{cases_eq}
use Rattle.um_word.specs.declared.op.Op.{Op}
use Rattle.um_word.specs.State.{State, reg, start_of}
use Rattle.um_word.specs.Leads.{Leads}
use Rattle.std.specs.Ordering.{nat_cmp}
use Rattle.um_word.proofs.Arrays.{get-insert_same, get-insert_other, len-insert_new}
use Rattle.um_word.proofs.Live.{live_words-insert_new, live_words-empty}
use Rattle.code_templates.proofs.Spent.{length_zero}
use Rattle.um_word.proofs.Leading.{weaken, weaken_along, no_step}
use Rattle.code_templates.specs.Lines.{StandsAt}
use Rattle.code_templates.specs.inner.Spent.{held}
use Rattle.code_templates.proofs.Holding.{held_set, held_new, held_zero}
use Rattle.code_templates.specs.Templates.{make_table, copy_block, call_block}
use Rattle.code_templates.specs.Laws.{Quietly, HasWords, piece, MakeTableLaw, CopyBlockLaw, CallBlockLaw}
use Rattle.code_templates.specs.inner.Freely.{Freely, ArrivesAt}
use Rattle.code_templates.proofs.Straight.{stands_front, stands_back, apart}
use Rattle.code_templates.proofs.BlockLaws.{call_block_law}
use Rattle.code_templates.proofs.PrinterLaws.{make_table_law}
use Rattle.code_templates.proofs.CopyBlock.{copy_block_law, length-piece}
use Rattle.lower_emit.specs.Entered.{Return, HasBlocks}
use Rattle.lower_emit.proofs.Using.{blocks_stay, apart_new}
use Rattle.lower_emit.proofs.Calling.{follow}
use Rattle.lower_link.specs.inner.Boot.{Places, copies, copy_cycles, copies_hold, boot_cycles, IsLinked, Quiet, Booted, BootLaw}

module _ (codes : ℕ → List ℕ) (p : Places) (modules main size : ℕ) (words input : List ℕ) (linked : IsLinked codes p modules main size words) where
  abbrev count : ℕ
  count = suc modules

  -- blocks below i are copied
  record Copied (table i at : ℕ) (t : State) : Type 0 where
    running : t.halted ≡ false
    finger : t.finger ≡ at
    eight : length t.registers ≡ 8
    zero_is : reg t 0 ≡ 0
    table_is : reg t 1 ≡ table
    current_is : reg t 2 ≡ 0
    code_is : map.get t.arrays 0 ≡ Some words
    out_is : t.out ≡ []
    ids : List ℕ
    long : length ids ≡ count
    there : HasWords t.arrays table ids
    made : (j : ℕ) → j < i → HasWords t.arrays (slice_index ids j) (codes j)
    apart_is : (j : ℕ) → j < i → slice_index ids j ≢ table

  -- a template of the boot
  quietly : (but : List ℕ) (n cycles : ℕ) (Q : State → Type 0) (t : State) → t.out ≡ [] → Freely n cycles but [] Q t → Leads Quiet cycles (λ u k. Q u × (k ≡ [])) t []
  quietly but n cycles Q t out h =
      weaken_along (Quietly t.finger n but t []) Quiet cycles (λ u k. Q u × (k ≡ [])) (λ u k w. (w.0.own, w.0.out ∙ out, w.1)) t [] (h [])

  comes : (table i at : ℕ) (t : State) (ops : List Op) → Copied table i at t → StandsAt words at ops → ArrivesAt ops table 0 t
  comes table i at t ops h stand = record {
    running = h.running;
    code = words;
    code_is = h.code_is;
    operators = subst (λ f. StandsAt words f ops) (sym h.finger) stand;
    eight = h.eight;
    zero_is = h.zero_is;
    table_is = h.table_is;
    current_is = h.current_is;
  }

  -- one block more
  copied_one : (table i at : ℕ) (t : State) (h : Copied table i at t) → i < count → StandsAt words at (copy_block (p.size i) i (p.place i) (at + 3) (at + 12)) →
      Leads Quiet (5 + 9 * p.size i) (λ u k. (Copied table (suc i) (at + 14) u × (held u.arrays ≡ held t.arrays + (64 + 4 * p.size i))) × (k ≡ [])) t []
  unfolding CopyBlockLaw
  copied_one table i at t h inside stand =
      let blocks = h.there in
      let long = h.long in
      let in_ids : i < length h.ids = omega (arith, long, inside) in
      let block = piece (p.place i) (p.size i) words in
      let is = linked.are i inside in
      let stand2 : StandsAt words at (copy_block (p.size i) i (p.place i) (t.finger + 3) (t.finger + 12)) =
      subst (λ f. StandsAt words at (copy_block (p.size i) i (p.place i) (f + 3) (f + 12))) (sym h.finger) stand in
      weaken Quiet (5 + 9 * p.size i) _ (λ u k. (Copied table (suc i) (at + 14) u × (held u.arrays ≡ held t.arrays + (64 + 4 * p.size i))) × (k ≡ []))
      (λ u k q.
      let new = q.0.0 in
      let is_new = q.0.1 in
      let g = q.0.2 in
      let ids2 = slice_set h.ids i new in
      let m = map.insert t.arrays new block in
      let table_there : map.get m table ≡ Some h.ids = get-insert_other t.arrays new block table (apart t.arrays new table h.ids is_new blocks.there) ∙ blocks.there in
      let other : (j : ℕ) → j ≢ table → map.get u.arrays j ≡ map.get m j = λ j ne. ap (λ x. map.get x j) g.arrays_are ∙ get-insert_other m table ids2 j ne in
      let new_far : new ≢ table = λ e. apart t.arrays new table h.ids is_new blocks.there (sym e) in
      let zero_there : map.get m 0 ≡ Some words = get-insert_other t.arrays new block 0 (λ e. is_new.not_zero (sym e)) ∙ h.code_is in
      let one = held_new t.arrays words new block h.code_is is_new in
      let two = held_set m words table h.ids ids2 zero_there table_there (length-set h.ids i new) in
      let all = ap held g.arrays_are in
      let n = length-piece (p.place i) (p.size i) words (linked.within i inside) in (
        (
          record {
            running = g.running;
            finger = g.finger ∙ ap (λ f. f + 14) h.finger;
            eight = g.eight;
            zero_is = g.zero_is;
            table_is = g.table_is;
            current_is = g.current_is;
            code_is = other 0 (λ e. blocks.not_zero (sym e)) ∙ zero_there;
            out_is = g.out_is ∙ h.out_is;
            ids = ids2;
            long = length-set h.ids i new ∙ h.long;
            there = record { not_zero = blocks.not_zero; there = ap (λ x. map.get x table) g.arrays_are ∙ get-insert_same m table ids2 };
            made = λ j lt. elim (cases_eq j i) as (λ _. HasWords u.arrays (slice_index ids2 j) (codes j)) [
              | inl e ↦
                  let at_j : slice_index ids2 j ≡ new = ap (slice_index ids2) e ∙ get_or-set_same h.ids i new 0 in_ids in
                  subst (λ x. HasWords u.arrays x (codes j)) (sym at_j) (record {
                    not_zero = is_new.not_zero;
                    there = other new new_far ∙ get-insert_same t.arrays new block ∙ ap Some (is ∙ ap codes (sym e));
                  })
              | inr ne ↦
                  let old = h.made j (omega (arith, lt, ne)) in
                  let far = h.apart_is j (omega (arith, lt, ne)) in
                  let at_j : slice_index ids2 j ≡ slice_index h.ids j = get_or-set_other h.ids i j new 0 ne in
                  subst (λ x. HasWords u.arrays x (codes j)) (sym at_j) (record {
                    not_zero = old.not_zero;
                    there = other (slice_index h.ids j) far ∙ get-insert_other t.arrays new block (slice_index h.ids j) (apart t.arrays new (slice_index h.ids j) (codes j) is_new old.there) ∙ old.there;
                  })
            ];
            apart_is = λ j lt. elim (cases_eq j i) as (λ _. slice_index ids2 j ≢ table) [
              | inl e ↦ λ same. new_far (sym (ap (slice_index ids2) e ∙ get_or-set_same h.ids i new 0 in_ids) ∙ same)
              | inr ne ↦ λ same. h.apart_is j (omega (arith, lt, ne)) (sym (get_or-set_other h.ids i j new 0 ne) ∙ same)
            ];
          },
          omega (arith, all, two, one, n),
        ),
        q.1,
      )) t []
      (quietly _ 14 (5 + 9 * p.size i) _ t h.out_is
      (copy_block_law (p.size i) i (p.place i) table 0 h.ids words t (comes table i at t _ h stand2) blocks in_ids h.code_is (linked.some i inside) (linked.within i inside) linked.small))

  -- the blocks from i on
  copied_all : (n i table at : ℕ) (t : State) (h : Copied table i at t) → i + n ≤ count → StandsAt words at (copies p i n at) →
      Leads Quiet (copy_cycles p i n) (λ u k. (Copied table (i + n) (at + 14 * n) u × (held u.arrays ≡ held t.arrays + copies_hold p i n)) × (k ≡ [])) t []
  copied_all zero i table at t h le stand =
      let e : i ≡ i + 0 = omega arith in
      let f : at ≡ at + 14 * 0 = omega arith in
      no_step Quiet _ t [] ((subst (λ q. Copied table q (at + 14 * 0) t) e (subst (λ q. Copied table i q t) f h), omega arith), refl)
  copied_all (suc n) i table at t h le stand =
      let first = copy_block (p.size i) i (p.place i) (at + 3) (at + 12) in
      let rest = copies p (suc i) n (at + 14) in
      let e : suc i + n ≡ i + suc n = omega arith in
      let f : at + 14 + 14 * n ≡ at + 14 * suc n = omega arith in
      follow Quiet (5 + 9 * p.size i) (copy_cycles p (suc i) n) (λ u k. (Copied table (suc i) (at + 14) u × (held u.arrays ≡ held t.arrays + (64 + 4 * p.size i))) × (k ≡ []))
      (λ u k. (Copied table (i + suc n) (at + 14 * suc n) u × (held u.arrays ≡ held t.arrays + copies_hold p i (suc n))) × (k ≡ [])) t []
      (copied_one table i at t h (omega (arith, le)) (stands_front words at first rest stand)) (λ u k g.
      let one = g.0.1 in
      subst (λ x. Leads Quiet (copy_cycles p (suc i) n) (λ u k. (Copied table (i + suc n) (at + 14 * suc n) u × (held u.arrays ≡ held t.arrays + copies_hold p i (suc n))) × (k ≡ [])) u x) (sym g.1)
      (weaken Quiet (copy_cycles p (suc i) n) (λ v k. (Copied table (suc i + n) (at + 14 + 14 * n) v × (held v.arrays ≡ held u.arrays + copies_hold p (suc i) n)) × (k ≡ []))
      (λ u k. (Copied table (i + suc n) (at + 14 * suc n) u × (held u.arrays ≡ held t.arrays + copies_hold p i (suc n))) × (k ≡ []))
      (λ v k d. let two = d.0.1 in ((subst (λ q. Copied table q (at + 14 * suc n) v) e (subst (λ q. Copied table (suc i + n) q v) f d.0.0), omega (arith, one, two)), d.1)) u []
      (copied_all n (suc i) table (at + 14) u g.0.0 (omega (arith, le)) (stands_back words at first rest stand))))

  copies_words : (i n at : ℕ) → length (copies p i n at) ≡ 14 * n
  copies_words i zero at = refl
  copies_words i (suc n) at = let e = copies_words (suc i) n (at + 14) in omega (arith, e)

  abbrev start : State
  start = start_of words input

  start_held : held start.arrays ≡ 0
  unfolding held
  start_held =
      let empty = map.len-empty nat_cmp (List ℕ) in
      let a = len-insert_new map.empty 0 words (map.get-empty nat_cmp 0) in
      let b = live_words-insert_new map.empty 0 words (map.get-empty nat_cmp 0) in
      let z = live_words-empty in
      let l = length_zero start.arrays words (get-insert_same map.empty 0 words) in
      omega (arith, empty, a, b, z, l)

  abbrev calling : List Op
  calling = call_block 0 0 main size modules 0

  abbrev copying : List Op
  copying = copies p 0 count 2

  -- the table is made
  tabled : Leads Quiet 2 (λ u k. (((table : ℕ) × Copied table 0 2 u) × (held u.arrays ≡ 64 + 4 * count)) × (k ≡ [])) start []
  unfolding MakeTableLaw
  tabled =
      let code_is : map.get start.arrays 0 ≡ Some words = get-insert_same map.empty 0 words in
      weaken Quiet 2 _ (λ u k. (((table : ℕ) × Copied table 0 2 u) × (held u.arrays ≡ 64 + 4 * count)) × (k ≡ []))
      (λ u k q.
      let new = q.0.0 in
      let is_new = q.0.1 in
      let g = q.0.2 in
      let ids : List ℕ = replicate count 0 in
      let n = length-replicate {A = ℕ} count 0 in
      let one = held_new start.arrays words new ids code_is is_new in
      let zero_held = start_held in
      let all = ap held g.arrays_are in (
        (
          (
            new,
            record {
              running = g.running;
              finger = g.finger;
              eight = g.eight;
              zero_is = g.zero_is;
              table_is = g.table_is;
              current_is = g.current_is;
              code_is = ap (λ x. map.get x 0) g.arrays_are ∙ get-insert_other start.arrays new ids 0 (λ e. is_new.not_zero (sym e)) ∙ code_is;
              out_is = g.out_is;
              ids = ids;
              long = n;
              there = record { not_zero = is_new.not_zero; there = ap (λ x. map.get x new) g.arrays_are ∙ get-insert_same start.arrays new ids };
              made = λ j lt. absurd (omega (arith, lt));
              apart_is = λ j lt. absurd (omega (arith, lt));
            },
          ),
          omega (arith, all, one, zero_held, n),
        ),
        q.1,
      )) start []
      (quietly [] 2 2 _ start refl (make_table_law count 0 0 start (record {
        running = refl;
        code = words;
        code_is = code_is;
        operators = stands_front words 0 (make_table count) (copying ++ calling) linked.boot;
        eight = refl;
        zero_is = refl;
        table_is = refl;
        current_is = refl;
      })))

  -- and main is called
  called : 5 ≤ size → main < modules → (table at : ℕ) (t : State) (h : Copied table count at t) → StandsAt words at calling →
      held t.arrays ≡ 64 + 4 * count + copies_hold p 0 count → Leads Quiet 21 (Booted codes p modules main size input) t []
  unfolding CallBlockLaw
  called five inside table at t h stand held_is =
      let long = h.long in
      let b : HasBlocks codes table h.ids t.arrays = record { not_zero = h.there.not_zero; there = h.there.there; each = λ i lt. h.made i (omega (arith, lt, long)) } in
      let back : Return = record { caller = 0; block = modules; offset = 0 } in
      let some : 0 < length words = let s = linked.some 0 (omega arith) in let w = linked.within 0 (omega arith) in omega (arith, s, w) in
      let block = b.each main (omega (arith, long, inside)) in
      let x = slice_index words 0 in
      let slots : List ℕ = 0 ∷ modules ∷ 0 ∷ x ∷ x ∷ replicate (size - 5) 0 in
      weaken Quiet 21 _ (Booted codes p modules main size input)
      (λ u k q.
      let new = q.0.0 in
      let is_new = q.0.1 in
      let g = q.0.2 in
      let m = map.insert t.arrays new slots in
      let zero_there : map.get m 0 ≡ Some words = get-insert_other t.arrays new slots 0 (λ e. is_new.not_zero (sym e)) ∙ h.code_is in
      let keeps : (j : ℕ) (ws : List ℕ) → j ≢ 0 → j ≢ new → map.get t.arrays j ≡ Some ws → map.get u.arrays j ≡ Some ws =
      λ j ws z ne e. ap (λ y. map.get y j) g.arrays_are ∙ get-insert_other m 0 (codes main) j z ∙ get-insert_other t.arrays new slots j ne ∙ e in
      let one = held_new t.arrays words new slots h.code_is is_new in
      let two = held_zero m words (codes main) zero_there in
      let all = ap held g.arrays_are in
      let n = length-replicate {A = ℕ} (size - 5) 0 in
      record {
        table = table;
        ids = h.ids;
        frame = new;
        entered = record {
          running = g.running;
          finger = g.finger;
          eight = g.eight;
          zero_is = g.zero_is;
          table_is = g.table_is;
          current_is = g.current_is;
          code_is = ap (λ y. map.get y 0) g.arrays_are ∙ get-insert_same m 0 (codes main);
          north = x;
          west = x;
          frame_is = record { not_zero = is_new.not_zero; there = ap (λ y. map.get y new) g.arrays_are ∙ get-insert_other m 0 (codes main) new is_new.not_zero ∙ get-insert_same t.arrays new slots };
          north_is = tt;
          west_is = tt;
          blocks = blocks_stay codes table h.ids new t.arrays u.arrays (apart_new codes table h.ids t.arrays new is_new b) keeps b;
          apart = apart_new codes table h.ids t.arrays new is_new b;
        };
        count_is = long;
        loads = q.1;
        out_is = g.out_is ∙ h.out_is;
        held_is = omega (arith, all, two, one, n, five, held_is);
      }) t []
      (weaken_along (Quietly t.finger 21 [] t []) Quiet 21 _ (λ u k w. (w.0.own, w.0.out ∙ h.out_is, w.1)) t []
      (call_block_law 0 0 main size modules 0 table 0 words h.ids (codes main) t (comes table count at t _ h stand) five h.code_is some some b.there (omega (arith, long, inside)) block []))

  all : 5 ≤ size → main < modules → Leads Quiet (boot_cycles p modules) (Booted codes p modules main size input) start []
  all five inside =
      let stand : StandsAt words 2 (copying ++ calling) = stands_back words 0 (make_table count) (copying ++ calling) linked.boot in
      let n = copies_words 0 count 2 in
      let last : StandsAt words (2 + 14 * count) calling = subst (λ k. StandsAt words (2 + k) calling) n (stands_back words 2 copying calling stand) in
      let e : 0 + count ≡ count = omega arith in
      let B = Booted codes p modules main size input in
      follow Quiet 2 (copy_cycles p 0 count + 21) (λ u k. (((table : ℕ) × Copied table 0 2 u) × (held u.arrays ≡ 64 + 4 * count)) × (k ≡ [])) B start [] tabled (λ t k h.
      let table = h.0.0.0 in
      let one = h.0.1 in
      subst (λ x. Leads Quiet (copy_cycles p 0 count + 21) B t x) (sym h.1)
      (follow Quiet (copy_cycles p 0 count) 21 (λ u k. (Copied table (0 + count) (2 + 14 * count) u × (held u.arrays ≡ held t.arrays + copies_hold p 0 count)) × (k ≡ [])) B t []
      (copied_all count 0 table 2 t h.0.0.1 (omega arith) (stands_front words 2 copying calling stand)) (λ u q g.
      let two = g.0.1 in
      subst (λ x. Leads Quiet 21 B u x) (sym g.1)
      (called five inside table (2 + 14 * count) u (subst (λ i. Copied table i (2 + 14 * count) u) e g.0.0) last (omega (arith, one, two))))))

pub boots : BootLaw
unfolding BootLaw
boots codes p modules main size words input linked inside five = all codes p modules main size words input linked five inside
