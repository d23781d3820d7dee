-- How many words the code of a block has, and of what the code of a box is made.
use Rattle.std.specs.Prelude.{◌≡◌, ℕ, zero, suc, ◌+◌, ◌*◌, List, [], ◌∷◌, ◌++◌, length, Option}
use Rattle.std.proofs.Common.{refl, arith, length-append}
use Rattle.lower_emit.specs.Layouts.{Layout}
use Rattle.lower_emit.specs.Boxes.{guards_code, Box, Sends, Sorts, Uses, input_slots, body_length, box_length, box_code, boxes_code, boxes_length}
use Rattle.lower_emit.specs.Blocks.{read_exits, no_result_code, two_results_code, marks_code, end_value_code, end_code, BlockPlan, entries_code, block_code, block_length}
use Rattle.lower_emit.specs.inner.Codes.{body_code}
use Rattle.lower_emit.proofs.Boxes.{guards_length}

pub body_words : (y : Layout) (box : Box) (place : ℕ) → length (body_code y box place) ≡ body_length y box
body_words y (Sends inputs north west outs) place = refl
body_words y (Sorts inputs north west x f g one two both number text) place = refl
body_words y (Uses inputs north west callee size own side number text) place = refl

-- the guards, and behind them what the box does
pub box_parts : (y : Layout) (box : Box) (place : ℕ) →
    box_code y box place ≡ guards_code (input_slots box) place (place + 6 * length (input_slots box) + body_length y box) ++ body_code y box (place + 6 * length (input_slots box))
box_parts y (Sends inputs north west outs) place = refl
box_parts y (Sorts inputs north west x f g one two both number text) place = refl
box_parts y (Uses inputs north west callee size own side number text) place = refl

pub box_words : (y : Layout) (box : Box) (place : ℕ) → length (box_code y box place) ≡ box_length y box
box_words y box place =
    let to = place + 6 * length (input_slots box) + body_length y box in
    let body = body_code y box (place + 6 * length (input_slots box)) in
    rw (box_parts y box place) (omega (
      arith,
      guards_length (input_slots box) place to,
      body_words y box (place + 6 * length (input_slots box)),
      length-append (guards_code (input_slots box) place to) body,
    ))

pub boxes_words : (y : Layout) (boxes : List Box) (place : ℕ) → length (boxes_code y boxes place) ≡ boxes_length y boxes
boxes_words y [] place = refl
boxes_words y (box ∷ boxes) place =
    let rest = boxes_code y boxes (place + box_length y box) in
    omega (arith, box_words y box place, boxes_words y boxes (place + box_length y box), length-append (box_code y box place) rest)

exits_words : (y : Layout) (exits : List (Option ℕ)) → length (read_exits y exits) ≡ 18 * length exits
exits_words y [] = refl
exits_words y (exit ∷ exits) = let n = exits_words y exits in omega (arith, n)

marks_words : (y : Layout) (boxes : ℕ) → length (marks_code y boxes) ≡ 9 * boxes
marks_words y zero = refl
marks_words y (suc box) = let n = marks_words y box in omega (arith, n)

end_words : (y : Layout) (exits : List (Option ℕ)) (none two boxes : ℕ) → length (end_code y exits none two boxes) ≡ 63 + 18 * length exits + 9 * boxes
end_words y exits none two boxes =
    let marks = marks_code y boxes ++ end_value_code y in
    let more = no_result_code y none ++ (two_results_code y two ++ marks) in
    let a = length-append (read_exits y exits) more in
    let b = length-append (marks_code y boxes) (end_value_code y) in
    let e = exits_words y exits in
    let n = marks_words y boxes in
    omega (arith, a, b, e, n)

pub block_words : (p : BlockPlan) (place : ℕ) → length (block_code p place) ≡ block_length p
block_words p place =
    let boxes = boxes_code p.layout p.boxes (place + 18) in
    let ending = end_code p.layout p.exits p.none p.two p.layout.boxes in
    omega (
      arith,
      boxes_words p.layout p.boxes (place + 18),
      end_words p.layout p.exits p.none p.two p.layout.boxes,
      length-append boxes ending,
      length-append (entries_code p) (boxes ++ ending),
    )
