-- The rules of an image's words, as a table has them.
use Rattle.std.specs.Prelude.{◌≡◌, ℕ, ◌^◌, ◌<◌, ◌≤◌, List, length, All}
use Rattle.um_word.specs.Scroll.{scroll}
use Rattle.um_machine.specs.MachineParts.{MachineParts, AreMachineParts}
use Rattle.um_image.specs.Image.{image_words}

-- The rules of parts and of a number of bytes taken: those of a machine's parts, eight registers, no
-- more bytes taken than cycles made, and words of 32 bits.
pub record AreImageParts (p : MachineParts) (taken : ℕ) : Type 0 where
  pub machine : AreMachineParts p
  pub registers : length p.registers ≡ 8
  pub counted : taken ≤ p.cycles
  pub words : All (λ word. word < 2 ^ 32) (image_words p taken)

-- parts and a number of bytes taken that keep the rules
pub record ImageParts : Type 0 where
  pub parts : MachineParts
  pub taken : ℕ
  pub rules : AreImageParts parts taken

-- the scroll of their words
abbrev pub bytes_of_parts : ImageParts → List ℕ
bytes_of_parts t = scroll (image_words t.parts t.taken)

-- these bytes are the scroll of words that keep the rules
abbrev pub KeepsRules : List ℕ → Type 0
KeepsRules bytes = (t : ImageParts) × (bytes ≡ bytes_of_parts t)
