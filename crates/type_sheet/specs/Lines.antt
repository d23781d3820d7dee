-- The lines of a sheet, as they are written.
use Rattle.std.specs.Prelude.{◌≡◌, ℕ, ◌<◌, ◌^◌, List, [], ◌++◌, Option, Some, None, IfSome, codes, decimal}
use Rattle.two_d.specs.Canonical.{shown_side}
use Rattle.two_d.specs.Names.{IsName}
use Rattle.type_sheet.specs.declared.line.Form.{Form as KindForm}
use Rattle.type_sheet.specs.declared.line.Form.TheVariants.{Unit as UnitForm, Pair, Sum}
use Rattle.type_sheet.specs.declared.line.Line.{Line}
use Rattle.type_sheet.specs.declared.line.Line.TheVariants.{Kind, Module, Wire, Of}

-- what the values of a type are: `()`, `(B,C)` or `[B|C]`
abbrev pub form_text : KindForm → List ℕ
form_text UnitForm = codes "()"
form_text (Pair b c) = codes "(" ++ b ++ codes "," ++ c ++ codes ")"
form_text (Sum b c) = codes "[" ++ b ++ codes "|" ++ c ++ codes "]"

-- an entry with its type, if the module has it
abbrev pub entry_text : List ℕ → Option (List ℕ) → List ℕ
entry_text entry None = []
entry_text entry (Some a) = codes " " ++ entry ++ codes " " ++ a

-- the text of a line, without its end
abbrev pub line_text : Line → List ℕ
line_text (Kind a form) = codes "type " ++ a ++ codes " = " ++ form_text form
line_text (Module m n w e) =
    codes "module " ++ m ++ entry_text (codes "n") n ++ entry_text (codes "w") w ++ codes " e " ++ e
line_text (Wire m k side a) =
    codes "wire " ++ m ++ codes " " ++ decimal k ++ codes " " ++ shown_side side ++ codes " " ++ a
line_text (Of m k a) = codes "of " ++ m ++ codes " " ++ decimal k ++ codes " " ++ a

-- the names in a form are names
abbrev pub IsForm : KindForm → Type 0
IsForm UnitForm = Unit {0}
IsForm (Pair b c) = IsName b × IsName c
IsForm (Sum b c) = IsName b × IsName c

-- the number of a box from 1
abbrev pub IsBoxNumber : ℕ → Type 0
IsBoxNumber k = (0 < k) × (k < 2 ^ 32)

-- a line that can be written
abbrev pub IsLine : Line → Type 0
IsLine (Kind a form) = IsName a × IsForm form
IsLine (Module m n w e) = IsName m × IfSome n IsName × IfSome w IsName × IsName e
IsLine (Wire m k side a) = IsName m × IsBoxNumber k × IsName a
IsLine (Of m k a) = IsName m × IsBoxNumber k × IsName a

-- the text is that of the line
pub record IsTextOf (text : List ℕ) (line : Line) : Type 0 where
  pub right : IsLine line
  pub written : line_text line ≡ text
