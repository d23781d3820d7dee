-- What words say that were added, and texts among them.
use Rattle.std.specs.Prelude.{◌≡◌, ◌+◌, ◌++◌, List, map, Some, ℕ, ◌∷◌, length, ◌*◌, ◌≤◌, []}
use Rattle.um_word.specs.declared.op.Op.{Op}
use Rattle.um_word.specs.Operators.{decode_word}
use Rattle.lower_link.specs.declared.draft.Draft.{Draft}
use Rattle.code_templates.specs.Templates.{pop_work}
use Rattle.lower_link.specs.inner.Printer.{writes, AreBytes}
use Rattle.lower_link.specs.declared.texts.Texts.{Texts}
use Rattle.two_d.specs.Programs.{Program}
use Rattle.two_d.specs.Weights.{weight}
use Rattle.lower_link.specs.inner.Lines.{all_lines, line_at}

-- the words that were added say these operators
pub record DraftAdds (old new : Draft) (ops : List Op) : Type 0 where
  pub say : map decode_word new.words.items ≡ map decode_word old.words.items ++ map Some ops

-- the code of a text, and of texts one after the other
abbrev pub text_code : List ℕ → List Op
text_code line = writes line ++ pop_work

-- the code of texts, one after the other
abbrev pub text_codes : List (List ℕ) → List Op
text_codes [] = []
text_codes (line ∷ lines) = text_code line ++ text_codes lines

-- where the code of each of these texts begins, if that of the first begins at a place
abbrev pub starts : ℕ → List (List ℕ) → List ℕ
starts place [] = []
starts place (line ∷ lines) = place ∷ starts (place + length (text_code line)) lines

-- the texts that were added are these
pub record AddsTexts (old new : Texts) (lines : List (List ℕ)) : Type 0 where
  pub code : DraftAdds old.code new.code (text_codes lines)
  pub places : new.places.items ≡ old.places.items ++ starts (length old.code.words.items) lines

-- These are the texts of a program, of bytes; with a word for the place of each they are no more
-- than 16 words a unit of its weight.
pub record AreTextsOf (P : Program) (texts : Texts) : Type 0 where
  pub code : map decode_word texts.code.words.items ≡ map Some (text_codes (all_lines P))
  pub places : texts.places.items ≡ starts 0 (all_lines P)
  pub bytes : (j : ℕ) → AreBytes (line_at P j)
  pub short : length texts.code.words.items + length texts.places.items ≤ 16 * weight P
