-- The page of a text that was assembled.
use Rattle.std.proofs.Common.{◌≡◌, ℕ, List, map, ap, ◌∙◌, inl, inr, ◌⊎◌}
use Rattle.std.specs.Prelude.{Ok, Err}
use Rattle.um_asm.specs.Assembly.{assembled}
use Rattle.um_asm.specs.TextLines.{text_lines}
use Rattle.um_asm.specs.declared.fault.AsmFault.{AsmFault}
use Rattle.um_asm.specs.declared.fault.AsmFault.TheVariants.{Memory}
use Rattle.um_asm.specs.declared.text_line.TextLine.{TextLine}
use Rattle.um_asm.specs.inner.Parts.{Part}
use Rattle.um_asm.specs.inner.TextParts.{text_line_read}
use Rattle.asm_view.specs.Pages.{IsPage, fault_page, listing, of_fault, of_words}
use Rattle.asm_view.specs.declared.page.Answer.TheVariants.{Accepted, Refused}

pub words_paged : (text words given bytes : List ℕ) (lines shown : List (TextLine Part)) → assembled text ≡ Ok words →
    map text_line_read lines ≡ text_lines text → given ≡ words → shown ≡ lines →
    bytes ≡ listing given (map text_line_read shown) → IsPage text Accepted bytes
words_paged text words given bytes lines shown has read same_words same_lines is =
    rw (is ∙ (ap (λ (w : List ℕ). listing w (map text_line_read shown)) same_words
    ∙ (ap (λ (ls : List (TextLine Part)). listing words (map text_line_read ls)) same_lines ∙ ap (listing words) read)))
    (of_words words has)

fault_kept : (text : List ℕ) (f : AsmFault) → (f ≡ Memory) ⊎ (assembled text ≡ Err f) → (f ≡ Memory → ⊥) → assembled text ≡ Err f
fault_kept text f (inl none) known = absurd (known none)
fault_kept text f (inr is) known = is

pub fault_paged : (text bytes : List ℕ) (f : AsmFault) (lines shown : List (TextLine Part)) →
    (f ≡ Memory) ⊎ (assembled text ≡ Err f) → (f ≡ Memory → ⊥) → map text_line_read lines ≡ text_lines text → shown ≡ lines →
    bytes ≡ fault_page (map text_line_read shown) f → IsPage text Refused bytes
fault_paged text bytes f lines shown told known read same_lines is =
    rw (is ∙ (ap (λ (ls : List (TextLine Part)). fault_page (map text_line_read ls) f) same_lines
    ∙ ap (λ (ls : List (TextLine (List ℕ))). fault_page ls f) read)) (of_fault f (fault_kept text f told known))
