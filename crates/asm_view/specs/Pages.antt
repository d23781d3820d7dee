-- The page of an assembly text.
use Rattle.std.specs.Prelude.{◌≡◌, ℕ, ◌-◌, List, [], ◌++◌, length, codes, decimal}
use Rattle.std.specs.List.{flat_map}
use Rattle.std.specs.Prelude.{slice_get, Option, Some, None, Ok, Err}
use Rattle.text_picture.specs.Pictures.{lined}
use Rattle.um_asm.specs.Assembly.{assembled}
use Rattle.um_asm.specs.TextLines.{text_lines}
use Rattle.um_asm.specs.declared.fault.AsmFault.{AsmFault}
use Rattle.um_asm.specs.declared.fault.AsmFault.TheVariants.{BadLine, SameLabel, NoLabel}
use Rattle.um_asm.specs.declared.fault.AsmFault.TheVariants.{ValueTooLarge, TooLong, Memory}
use Rattle.um_asm.specs.declared.text_line.Head.{Head}
use Rattle.um_asm.specs.declared.text_line.Head.TheVariants.{Unprintable}
use Rattle.um_asm.specs.declared.text_line.TextLine.{TextLine}
use Rattle.asm_view.specs.declared.page.Answer.{Answer}
use Rattle.asm_view.specs.declared.page.Answer.TheVariants.{Accepted, Refused}
use Rattle.asm_view.specs.Hints.{hint_of}
use Rattle.asm_view.specs.Rows.{plain_row, rows_at}

-- the page of a text with these words: how many there are, and each line with its words
abbrev pub listing : List ℕ → List (TextLine (List ℕ)) → List ℕ
listing words lines =
    codes "ok " ++ decimal (length words) ++ codes "\n" ++ lined (flat_map (rows_at words) lines)

-- a fault of a text as it is told: its number, its name and its line
abbrev pub told_as : AsmFault → ℕ × List ℕ × Option ℕ
told_as (BadLine n) = (41, codes "BadLine", Some n)
told_as (SameLabel n) = (42, codes "SameLabel", Some n)
told_as (NoLabel n) = (43, codes "NoLabel", Some n)
told_as (ValueTooLarge n) = (44, codes "ValueTooLarge", Some n)
told_as TooLong = (45, codes "TooManyWords", None)
told_as Memory = (0, [], None)

-- what follows the name in the line of a fault
abbrev pub number_part : Option ℕ → List ℕ
number_part None = codes "\n"
number_part (Some n) = codes " " ++ decimal n ++ codes "\n"

-- the line of a number, from 1
abbrev pub line_at : List (TextLine (List ℕ)) → Option ℕ → Option (TextLine (List ℕ))
line_at lines None = None
line_at lines (Some n) = slice_get lines (n - 1)

abbrev pub faulty_row : Option (TextLine (List ℕ)) → List ℕ
faulty_row None = []
faulty_row (Some l) = plain_row l ++ codes "\n"

-- how a line begins
abbrev pub head_at : Option (TextLine (List ℕ)) → Head (List ℕ)
head_at None = Unprintable
head_at (Some l) = l.head

-- the page of a text with this fault: its line, the line of the text, and what it would have been
abbrev pub fault_page : List (TextLine (List ℕ)) → AsmFault → List ℕ
fault_page lines f =
    codes "refused " ++ decimal (told_as f).0 ++ codes " " ++ (told_as f).1
    ++ number_part (told_as f).2 ++ faulty_row (line_at lines (told_as f).2)
    ++ hint_of f (head_at (line_at lines (told_as f).2)) ++ codes "\n"

-- the page of a text, which has words or a first fault
pub data IsPage (text : List ℕ) : Answer → List ℕ → Type 0 where
  of_words : (words : List ℕ) → assembled text ≡ Ok words →
      IsPage text Accepted (listing words (text_lines text))
  of_fault : (f : AsmFault) → assembled text ≡ Err f →
      IsPage text Refused (fault_page (text_lines text) f)
