-- A box has a command or a fault at a byte of its text, and one of these alone.
use Rattle.std.proofs.Common.{ℕ, ap, subst, Result, Ok, Err}
use Rattle.std.specs.Prelude.{length, ◌-◌}
use Rattle.box_parse.proofs.Verdicts.{longest_once, text_never_deep}
use Rattle.box_parse.proofs.Whole.{Verdict, verdict}
use Rattle.box_parse.specs.inner.ReaderOnLists.{Refusal, bad, deep, whole_at}
use Rattle.two_d.proofs.Fits.{one_command}
use Rattle.two_d.proofs.OneReading.{HasOneAnswer}
use Rattle.two_d.proofs.SomeReading.{HasAnswer}
use Rattle.two_d.specs.Boxes.{command_text, place_in}
use Rattle.two_d.specs.Cells.{Grid}
use Rattle.two_d.specs.Faults.{bad_command, too_deep}
use Rattle.two_d.specs.Grammar.{IsLongestOpen, IsTooDeep}
use Rattle.two_d.specs.Places.{Rect}
use Rattle.two_d.specs.Program as program
use Rattle.two_d.specs.Program.{CommandOf}
use Rattle.two_d.specs.Trees.{Form}

pub some_command : (grid : Grid) (b : Rect) → HasAnswer (CommandOf grid b)
some_command grid b = by (whole_at 64 (command_text grid b)) (verdict (command_text grid b))
  where
    by : (r : Result Form Refusal) → Verdict (command_text grid b) r → HasAnswer (CommandOf grid b)
    by (Ok c) is = (Ok c, program.command c is)
    by (Err (bad n)) is = (Err (bad_command (place_in b (length (command_text grid b) - n))), program.bad (length (command_text grid b) - n) is.1)
    by (Err (deep n)) is = (Err (too_deep (place_in b (length (command_text grid b) - n))), program.deep (length (command_text grid b) - n) is.1)

-- a text is too deep where its longest open beginning ends
deep_there : (grid : Grid) (b : Rect) (j k : ℕ) → IsLongestOpen (command_text grid b) j → IsTooDeep (command_text grid b) k → IsTooDeep (command_text grid b) j
deep_there grid b j k longest it = subst (IsTooDeep (command_text grid b)) (longest_once (command_text grid b) k j it.0 longest) it

pub one_command_of_box : (grid : Grid) (b : Rect) → HasOneAnswer (CommandOf grid b)
one_command_of_box grid b _ _ (program.command c is) (program.command d also) = ap Ok (one_command (command_text grid b) c d is also)
one_command_of_box grid b _ _ (program.command c is) (program.bad k it) = absurd (it.1 c is)
one_command_of_box grid b _ _ (program.command c is) (program.deep k it) = absurd (text_never_deep (command_text grid b) c is k it)
one_command_of_box grid b _ _ (program.bad k it) (program.command c is) = absurd (it.1 c is)
one_command_of_box grid b _ _ (program.bad j it) (program.bad k other) = ap (λ n. Err (bad_command (place_in b n))) (longest_once (command_text grid b) j k it.0 other.0)
one_command_of_box grid b _ _ (program.bad j it) (program.deep k other) = absurd (it.2 (deep_there grid b j k it.0 other))
one_command_of_box grid b _ _ (program.deep k it) (program.command c is) = absurd (text_never_deep (command_text grid b) c is k it)
one_command_of_box grid b _ _ (program.deep k other) (program.bad j it) = absurd (it.2 (deep_there grid b j k it.0 other))
one_command_of_box grid b _ _ (program.deep j it) (program.deep k other) = ap (λ n. Err (too_deep (place_in b n))) (longest_once (command_text grid b) j k it.0 other.0)
