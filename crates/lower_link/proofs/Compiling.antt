-- A scroll of the blocks of a program's plans is made of these plans.
use Rattle.std.specs.Prelude.{◌≡◌, ◌≢◌, ◌⊎◌, ℕ, zero, suc, ◌+◌, ◌*◌, ◌<◌, ◌≤◌, List, [], ◌∷◌, ◌++◌, length, drop, All, Some, Result, Ok, Err, IfOk, slice_get, Vec}
use Rattle.std.specs.Global.{Global}
use Rattle.std.proofs.Common.{refl, sym, ◌∙◌, ap, subst, arith, inl, inr}
use Rattle.std.proofs.lemmas.Bool.{cases_eq}
use Rattle.std.proofs.lemmas.List.{length-take-le, length-drop}
use Rattle.code_templates.specs.Lines.{StandsAt}
use Rattle.code_templates.specs.Laws.{piece}
use Rattle.code_templates.specs.Templates.{return_outcome}
use Rattle.two_d.specs.Programs.{Program, module_at}
use Rattle.two_d.specs.Good.{IsGood}
use Rattle.two_d.specs.Weights.{part}
use Rattle.lower_plan.specs.declared.plan.Plan.{Plan}
use Rattle.lower_plan.specs.Plans.{ArePlans}
use Rattle.lower_emit.specs.Blocks.{block_code, block_length}
use Rattle.lower_emit.specs.Plans.{block_of as plan_block}
use Rattle.lower_emit.specs.inner.Plans.{block_if, plans_of}
use Rattle.lower_link.specs.declared.linking.Linked.{Linked}
use Rattle.lower_link.specs.inner.Lines.{line_at, all_lines}
use Rattle.lower_link.specs.inner.Linking.{Blocks, words_of_block}
use Rattle.lower_link.specs.Follows.{Follows}
use Rattle.lower_link.specs.inner.Made.{places_of, IsMade, RealisesLaw, FollowsLaw}
use Rattle.lower_link.specs.Realises.{Realises}
use Rattle.lower_link.specs.inner.Printer.{IsPrinter}
use Rattle.lower_link.specs.inner.Scrolls.{IsScrollOf, IsBlockOf}
use Rattle.lower_link.proofs.Followed.{follows}
use Rattle.lower_link.proofs.Joining.{item_is}
use Rattle.lower_link.proofs.Made.{block_few}
use Rattle.lower_link.proofs.Realised.{realises}

block_before : (blocks : Blocks) (last : Vec ℕ Global) (m : ℕ) → m < length blocks → words_of_block (blocks ++ last ∷ []) m ≡ words_of_block blocks m
block_before [] last m lt = absurd (omega (arith, lt))
block_before (block ∷ blocks) last zero lt = refl
block_before (block ∷ blocks) last (suc m) lt = block_before blocks last m (omega (arith, lt))

block_last : (blocks : Blocks) (last : Vec ℕ Global) (m : ℕ) → m ≡ length blocks → words_of_block (blocks ++ last ∷ []) m ≡ last.items
block_last [] last m e = ap (words_of_block (last ∷ [])) e
block_last (block ∷ blocks) last zero e = absurd (omega (arith, e))
block_last (block ∷ blocks) last (suc m) e = block_last blocks last m (omega (arith, e))

piece_length : (place size : ℕ) (words : List ℕ) → place + size ≤ length words → length (piece place size words) ≡ size
piece_length place size words le = length-take-le size (drop place words) (omega (arith, le, length-drop place words))

module _ (P : Program) (good : IsGood P) (plans : List Plan) (are : ArePlans P plans) where
  plan_is : (m : ℕ) (plan : Plan) → slice_get plans m ≡ Some plan → plans_of P plans m ≡ plan_block P plan
  plan_is m plan at = ap (block_if P) at

  -- what is made of the plan of a module is its block
  pub block_is : (m : ℕ) (plan : Plan) (words : List ℕ) → slice_get plans m ≡ Some plan → StandsAt words 0 (block_code (plan_block P plan) 0 ++ return_outcome) →
      length words ≡ block_length (plan_block P plan) + 11 → IsBlockOf P plans m words
  block_is m plan words at code size = record {
    code = subst (λ block. StandsAt words 0 (block_code block 0 ++ return_outcome)) (sym (plan_is m plan at)) code;
    size = size ∙ ap (λ block. block_length block + 11) (sym (plan_is m plan at));
  }

  module _ (blocks : Blocks) (count : length blocks ≡ length P) (blocks_are : (m : ℕ) → m < length P → IsBlockOf P plans m (words_of_block blocks m)) where
    -- no block is empty, and each is within the share of its module
    pub some : All (λ (block : Vec ℕ Global). 1 ≤ length block.items) blocks
    some i d lt = omega (arith, ap length (item_is blocks i d lt), (blocks_are i (omega (arith, lt, count))).size)

    pub short : (m : ℕ) → m < length P → length (words_of_block blocks m) ≤ 18 * part (module_at P m)
    short m lt =
        omega (arith, (blocks_are m lt).size, block_few P good plans are m lt)

    module _ (linked : Linked) (scroll : IsScrollOf P blocks linked) where
      abbrev whole : Blocks
      whole = blocks ++ scroll.printer ∷ []

      size_is : (i : ℕ) → i < suc (length P) → (places_of linked.blocks.items).size i ≡ length (words_of_block whole i)
      size_is i lt =
          let p = places_of linked.blocks.items in
          omega (arith, piece_length (p.place i) (p.size i) linked.words.items (scroll.is.within i lt), ap length (scroll.is.are i lt))

      last : words_of_block whole (length P) ≡ scroll.printer.items
      last = block_last blocks scroll.printer (length P) (omega (arith, count))

      made : IsMade P plans linked.blocks.items linked.words.items
      made = record {
        short = scroll.short;
        small = scroll.is.small;
        boot = scroll.is.boot;
        blocks_are = scroll.apart;
        codes = λ m lt.
            (let before = block_before blocks scroll.printer m (omega (arith, lt, count)) in
            subst (λ words. StandsAt words 0 (block_code (plans_of P plans m) 0 ++ return_outcome)) (sym (scroll.is.are m (omega (arith, lt)) ∙ before)) (blocks_are m lt).code);
        sizes = λ m lt. omega (arith, size_is m (omega (arith, lt)), ap length (block_before blocks scroll.printer m (omega (arith, lt, count))), (blocks_are m lt).size);
        printer = subst (λ words. IsPrinter words (line_at P) (length (all_lines P))) (sym (scroll.is.are (length P) (omega arith) ∙ last)) scroll.prints;
        printer_size = omega (arith, size_is (length P) (omega arith), ap length last, scroll.printer_size);
      }

    -- So the scroll realises the program, and follows it.
    pub all_realise : {E : Type 0} (r : Result Linked E) → IfOk r (λ linked. IsScrollOf P blocks linked) → IfOk r (λ linked. Realises P linked.words.items)
    unfolding RealisesLaw
    all_realise (Ok linked) h = realises P good plans are linked.blocks.items linked.words.items (made linked h)
    all_realise (Err e) h = tt

    pub all_follow : {E : Type 0} (r : Result Linked E) → IfOk r (λ linked. IsScrollOf P blocks linked) → IfOk r (λ linked. Follows P linked.words.items linked.blocks.items)
    unfolding FollowsLaw
    all_follow (Ok linked) h = follows P good plans are linked.blocks.items linked.words.items (made linked h)
    all_follow (Err e) h = tt

-- one block more
pub blocks_next : (P : Program) (plans : List Plan) (blocks new : Blocks) (i : ℕ) (block : Vec ℕ Global) → length blocks ≡ i → ((m : ℕ) → m < i → IsBlockOf P plans m (words_of_block blocks m)) → IsBlockOf P plans i block.items →
    new ≡ blocks ++ block ∷ [] → (m : ℕ) → m < i + 1 → IsBlockOf P plans m (words_of_block new m)
blocks_next P plans blocks new i block count h here is m lt = subst (λ (bs : Blocks). IsBlockOf P plans m (words_of_block bs m)) (sym is) (by (cases_eq m i))
  where
    by : (m ≡ i) ⊎ (m ≢ i) → IsBlockOf P plans m (words_of_block (blocks ++ block ∷ []) m)
    by (inl same) = subst (IsBlockOf P plans m) (sym (block_last blocks block m (omega (arith, same, count)))) (subst (λ k. IsBlockOf P plans k block.items) (sym same) here)
    by (inr other) = let low : m < i = omega (arith, lt, other) in subst (IsBlockOf P plans m) (sym (block_before blocks block m (omega (arith, low, count)))) (h m low)
