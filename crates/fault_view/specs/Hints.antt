-- What usually is wrong, by fault.
use Rattle.std.specs.Prelude.{ℕ, List, codes}
use Rattle.two_d.specs.Faults.{TextFault, too_long, bad_byte, line_too_long, open_frame}
use Rattle.two_d.specs.Faults.{frames_meet, two_entries, no_name, open_box, boxes_meet, bad_command}
use Rattle.two_d.specs.Faults.{too_deep, two_ports, broken_wire, bad_turn, merge, stray, same_name}
use Rattle.two_d.specs.Faults.{no_main, main_has_input, no_module, bad_inputs, unwired, cycle}

-- one sentence for each fault
abbrev pub hint_of : TextFault → List ℕ
hint_of too_long =
    codes "A drawing has at most 262,144 bytes."
hint_of (bad_byte p) =
    codes "This byte isn't printable ASCII: mostly a tab, or a letter with an accent, in a comment too."
hint_of (line_too_long p) =
    codes "A line has at most 4,096 columns."
hint_of (open_frame p) =
    codes "From this corner no frame closes: mostly a border is a cell too short, too long, or has a gap."
hint_of (frames_meet p) =
    codes "This corner or its frame shares a cell with an earlier frame: frames stand side by side."
hint_of (two_entries p) =
    codes "This is a second entry: a module has one `|` in its top border and one `-` in its left border."
hint_of (no_name p) =
    codes "A module's name begins here, right below the corner, with a letter: a to z."
hint_of (open_box p) =
    codes "From this corner no box closes: mostly an edge or a side is a cell too short, long, or has a gap."
hint_of (boxes_meet p) =
    codes "This corner or its box shares a cell with an earlier box: boxes may touch, but share no cell."
hint_of (bad_command p) =
    codes "Up to this byte the text could begin a command, and with it no longer: send, case, split or use."
hint_of (too_deep p) =
    codes "An expression has at most 64 levels: send a part of it from another box."
hint_of (two_ports p) =
    codes "This is a second port of this side of the box: a side has one port at most."
hint_of (broken_wire p) =
    codes "A wire comes to this cell and can't go on: wires never join, turn at `+`, and cross at `#`."
hint_of (bad_turn p) =
    codes "At a `+` a wire turns to just one side; where two wires cross, draw a `#`."
hint_of (merge p) =
    codes "Two wires come to this cell: wires never join, and what goes to two places is sent twice."
hint_of (stray p) =
    codes "No wire comes to this cell. Right beside a box only a `|` below or a `-` after it begins a wire."
hint_of (same_name p) =
    codes "This module has the name of an earlier one: each module has a name of its own."
hint_of no_main =
    codes "One module must have the name `main`."
hint_of (main_has_input p) =
    codes "This module is `main`, which takes no input: no `|` above and no `-` on its left border."
hint_of (no_module p) =
    codes "This box uses a module that isn't in the file: mostly its name is misspelt."
hint_of (bad_inputs p) =
    codes "To a use box lead just the wires for which the module has entries: north to N and west to W."
hint_of (unwired p) =
    codes "The command of this box names N or W, and no wire ends in a `v` above it or a `>` before it."
hint_of (cycle p) =
    codes "This box waits for itself along its wires: draw a loop as a module that uses itself."
