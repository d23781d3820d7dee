-- The words of a block say its code.
use Rattle.std.specs.Prelude.{◌≡◌, ℕ, ◌+◌, ◌≤◌, List, [], ◌++◌, length, map}
use Rattle.std.proofs.Common.{◌∙◌, ap, subst, arith, length-append}
use Rattle.std.proofs.lemmas.List.{append-nil}
use Rattle.um_word.specs.declared.op.Op.{Op}
use Rattle.two_d.specs.Programs.{Program, box_count}
use Rattle.two_d.specs.Good.{IsGood}
use Rattle.code_templates.specs.Lines.{StandsAt}
use Rattle.code_templates.specs.Templates.{choose_slot, return_outcome}
use Rattle.code_templates.proofs.Words.{words_stand}
use Rattle.lower_plan.specs.declared.plan.Plan.{Plan}
use Rattle.lower_plan.specs.Plans.{IsPlan}
use Rattle.lower_plan.proofs.Planned.{part-le, sound_at}
use Rattle.lower_emit.specs.declared.code.Code.{Code}
use Rattle.lower_emit.specs.declared.owner.Owner.{Owner}
use Rattle.lower_emit.specs.Layouts.{Layout, side_slot}
use Rattle.lower_emit.specs.Blocks.{end_code, BlockPlan, entries_code, block_code, block_length}
use Rattle.lower_emit.specs.Boxes.{boxes_code, boxes_length}
use Rattle.lower_emit.specs.KnownOutcomes.{first_text}
use Rattle.lower_emit.specs.Plans.{box_in, block_of}
use Rattle.lower_emit.specs.inner.Codes.{AddsOps, Says, IsOwner, layout_in, most_block_words}
use Rattle.lower_emit.specs.Tables.{IsLight}
use Rattle.lower_emit.proofs.Adding.{adds_then, adds_length, says_new, says_length}
use Rattle.lower_emit.proofs.Lengths as lengths
use Rattle.lower_emit.proofs.Words.{block_words}

-- operators stand where words say them
pub says_stand : (code : Code) (ops : List Op) → Says code ops → StandsAt code.words.items 0 ops
says_stand code ops h = subst (λ (words : List ℕ). StandsAt words 0 ops) (append-nil code.words.items) (words_stand [] code.words.items [] ops h)

module _ (P : Program) (plan : Plan) (is : IsPlan P plan) (owner : Owner) (own : IsOwner P owner) (number : owner.number ≡ plan.«module») (wires : owner.places.wires ≡ plan.slots) where
  abbrev block : BlockPlan
  block = block_of P plan

  abbrev y : Layout
  y = layout_in owner.places

  boxes_is : owner.places.boxes ≡ box_count P plan.«module»
  boxes_is = own.boxes ∙ ap (box_count P) number

  -- the layouts have the same places
  same : y ≡ record { wires = plan.slots; boxes = box_count P plan.«module»; size = 0 }
  same = λ i. record { wires = wires i; boxes = boxes_is i; size = 0 }

  pub boxes_same : (place : ℕ) → boxes_code y (map (box_in P owner.number) plan.steps.items) place ≡ boxes_code block.layout block.boxes place
  boxes_same place = ap (λ (m : ℕ). boxes_code y (map (box_in P m) plan.steps.items) place) number ∙ ap (λ (y : Layout). boxes_code y block.boxes place) same

  pub lengths_same : boxes_length y (map (box_in P owner.number) plan.steps.items) ≡ boxes_length block.layout block.boxes
  lengths_same = ap (λ (m : ℕ). boxes_length y (map (box_in P m) plan.steps.items)) number ∙ ap (λ (y : Layout). boxes_length y block.boxes) same

  entries_same : choose_slot 3 3 3 (side_slot y plan.north 0) ++ choose_slot 4 4 4 (side_slot y plan.west 0) ≡ entries_code block
  entries_same = ap (λ (y : Layout). choose_slot 3 3 3 (side_slot y plan.north 0) ++ choose_slot 4 4 4 (side_slot y plan.west 0)) same

  ends_same : end_code y plan.exits.items (owner.texts + owner.places.boxes) (owner.texts + owner.places.boxes + 1) owner.places.boxes
      ≡ end_code block.layout block.exits block.none block.two block.layout.boxes
  ends_same =
      let texts = own.texts ∙ ap (first_text P) number in
      ap (λ (y : Layout). end_code y plan.exits.items (owner.texts + owner.places.boxes) (owner.texts + owner.places.boxes + 1) owner.places.boxes) same
      ∙ (ap (λ (b : ℕ). end_code block.layout plan.exits.items (owner.texts + b) (owner.texts + b + 1) b) boxes_is
      ∙ ap (λ (t : ℕ). end_code block.layout plan.exits.items (t + box_count P plan.«module») (t + box_count P plan.«module» + 1) (box_count P plan.«module»)) texts)

  module _ (c0 c1 : Code) (none : c0.words.items ≡ []) (h1 : AddsOps c0 c1 (choose_slot 3 3 3 (side_slot y plan.north 0) ++ choose_slot 4 4 4 (side_slot y plan.west 0))) where
    behind_entries : length c1.words.items ≡ 18
    behind_entries =
        let n = ap length none in
        omega (arith, n, adds_length c0 c1 (choose_slot 3 3 3 (side_slot y plan.north 0) ++ choose_slot 4 4 4 (side_slot y plan.west 0)) h1)

    -- the boxes end before any place that doesn't fit
    pub boxes_fit : IsGood P → IsLight P → length c1.words.items + boxes_length y (map (box_in P owner.number) plan.steps.items) ≤ most_block_words
    boxes_fit good light =
        omega (arith, behind_entries, lengths_same, lengths.block_words P plan is (sound_at P good plan.«module» is.there), part-le P plan.«module» is.there, light)

    -- the pieces of the block
    pub emitted : (c2 c3 c4 : Code) → AddsOps c1 c2 (boxes_code y (map (box_in P owner.number) plan.steps.items) (length c1.words.items)) →
        AddsOps c2 c3 (end_code y plan.exits.items (owner.texts + owner.places.boxes) (owner.texts + owner.places.boxes + 1) owner.places.boxes) → AddsOps c3 c4 return_outcome →
        Says c4 (block_code block 0 ++ return_outcome)
    emitted c2 c3 c4 h2 h3 h4 =
        let entries = entries_code block in
        let boxes = boxes_code block.layout block.boxes 18 in
        let ending = end_code block.layout block.exits block.none block.two block.layout.boxes in
        says_new c0 c4 (block_code block 0 ++ return_outcome) none
        (adds_then c0 c3 c4 (entries ++ (boxes ++ ending)) return_outcome
        (adds_then c0 c1 c3 entries (boxes ++ ending) (subst (AddsOps c0 c1) entries_same h1)
        (adds_then c1 c2 c3 boxes ending
        (subst (AddsOps c1 c2) (boxes_same 18) (subst (λ (place : ℕ). AddsOps c1 c2 (boxes_code y (map (box_in P owner.number) plan.steps.items) place)) behind_entries h2))
        (subst (AddsOps c2 c3) ends_same h3))) h4)

pub emitted_length : (code : Code) (block : BlockPlan) → Says code (block_code block 0 ++ return_outcome) → length code.words.items ≡ block_length block + 11
emitted_length code block says = omega (arith, says_length code (block_code block 0 ++ return_outcome) says, block_words block 0, length-append (block_code block 0) return_outcome)
