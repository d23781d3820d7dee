-- A line by its words, which single spaces part.
use Rattle.std.specs.Prelude.{◌≡◌, ℕ, List, [], ◌∷◌, map, Option, Some, None, codes, decimal}
use Rattle.std.specs.Borrow.{Bor}
use Rattle.two_d.specs.Canonical.{shown_side}
use Rattle.type_sheet.specs.declared.line.Line.{Line}
use Rattle.type_sheet.specs.declared.line.Line.TheVariants.{Kind, Module, Wire, Of}
use Rattle.type_sheet.specs.Lines.{IsLine, form_text}

-- the word of an entry and its type, if the module has it, before other words
abbrev pub entry_words : List ℕ → Option (List ℕ) → List (List ℕ) → List (List ℕ)
entry_words entry None rest = rest
entry_words entry (Some a) rest = entry ∷ a ∷ rest

-- the words of a line behind the first
abbrev pub said_words : Line → List (List ℕ)
said_words (Kind a form) = a ∷ codes "=" ∷ form_text form ∷ []
said_words (Module m n w e) =
    m ∷ entry_words (codes "n") n (entry_words (codes "w") w (codes "e" ∷ e ∷ []))
said_words (Wire m k side a) = m ∷ decimal k ∷ shown_side side ∷ a ∷ []
said_words (Of m k a) = m ∷ decimal k ∷ a ∷ []

-- the first word of a line
abbrev pub keyword : Line → List ℕ
keyword (Kind a form) = codes "type"
keyword (Module m n w e) = codes "module"
keyword (Wire m k side a) = codes "wire"
keyword (Of m k a) = codes "of"

-- the words behind the first are those of the line
pub record AreSaid (words : List (List ℕ)) (line : Line) : Type 0 where
  pub right : IsLine line
  pub written : words ≡ said_words line

-- the words are those of the line
pub record AreWordsOf (words : List (List ℕ)) (line : Line) : Type 0 where
  pub right : IsLine line
  pub written : words ≡ keyword line ∷ said_words line

-- words of a text, as the code keeps them
abbrev pub words_read : List (Bor (List ℕ)) → List (List ℕ)
words_read words = map (λ word. word.now) words
