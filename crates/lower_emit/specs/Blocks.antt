-- The code of a block.
use Rattle.std.specs.Prelude.{ℕ, List, ◌++◌, Option, ◌∷◌, zero, suc, ◌+◌, ◌*◌, length, []}
use Rattle.um_word.specs.declared.op.Op.{Op}
use Rattle.code_templates.specs.Templates.{choose_slot, make_cell, set_slot}
use Rattle.lower_emit.specs.Layouts.{Layout, temporary, input_slot, zero_slot, stuck_out}
use Rattle.lower_emit.specs.Layouts.{stuck_slot, value_out, side_slot}
use Rattle.lower_emit.specs.Boxes.{Box, boxes_code, boxes_length}

-- the code that reads an exit: what it carries is seen last, and what was seen last before it
abbrev pub read_exit : Layout → Option ℕ → List Op
read_exit y exit =
    choose_slot (input_slot exit) (temporary y 0) (temporary y 1) (temporary y 1)
    ++ choose_slot (input_slot exit) (input_slot exit) (temporary y 0) (temporary y 0)

-- and that of all exits
abbrev pub read_exits : Layout → List (Option ℕ) → List Op
read_exits y [] = []
read_exits y (exit ∷ exits) = read_exit y exit ++ read_exits y exits

-- the trail of a text goes to the last temporary
abbrev pub trail_code : Layout → ℕ → List Op
trail_code y text = set_slot text (temporary y 3)
    ++ make_cell (temporary y 3) zero_slot 0 1 (temporary y 3)

-- the outcome is stuck for no result where no value was seen
abbrev pub no_result_code : Layout → ℕ → List Op
no_result_code y text = trail_code y text
    ++ choose_slot (temporary y 0) zero_slot (temporary y 3) stuck_out

-- it is stuck for two results where two values were seen
abbrev pub two_results_code : Layout → ℕ → List Op
two_results_code y text = trail_code y text
    ++ choose_slot (temporary y 1) (temporary y 3) stuck_out stuck_out

-- the mark of the first of so many boxes that is stuck, from the last box to the first
abbrev pub marks_code : Layout → ℕ → List Op
marks_code y zero = []
marks_code y (suc b) = choose_slot (stuck_slot y b) (stuck_slot y b) stuck_out stuck_out
    ++ marks_code y b

-- the value seen last is the outcome, unless it is stuck
abbrev pub end_value_code : Layout → List Op
end_value_code y = choose_slot stuck_out zero_slot (temporary y 0) value_out

-- the end of a block with these exits, these texts for no result and two results, and so many boxes
abbrev pub end_code : Layout → List (Option ℕ) → (none two boxes : ℕ) → List Op
end_code y exits none two boxes =
    set_slot 0 (temporary y 0)
    ++ (set_slot 0 (temporary y 1)
    ++ (read_exits y exits
    ++ (no_result_code y none ++ (two_results_code y two
    ++ (marks_code y boxes ++ end_value_code y)))))

-- a module's block, but for its return: the entries go to their wires, then the boxes, then the end
pub record BlockPlan : Type 0 where
  pub layout : Layout
  pub north : Option ℕ
  pub west : Option ℕ
  pub boxes : List Box
  pub exits : List (Option ℕ)
  pub none : ℕ
  pub two : ℕ

-- the values of the entries go to their wires
abbrev pub entries_code : BlockPlan → List Op
entries_code p = choose_slot 3 3 3 (side_slot p.layout p.north 0)
    ++ choose_slot 4 4 4 (side_slot p.layout p.west 0)

-- all of a block but its return, at a place
abbrev pub block_code : BlockPlan → ℕ → List Op
block_code p place =
    entries_code p ++ (boxes_code p.layout p.boxes (place + 18)
    ++ end_code p.layout p.exits p.none p.two p.layout.boxes)

-- the words of a block but for its return
abbrev pub block_length : BlockPlan → ℕ
block_length p = 18 + boxes_length p.layout p.boxes + 63 + 18 * length p.exits + 9 * p.layout.boxes
