-- The image of a machine: its words in their order, who has one, and which bytes begin one.
use Rattle.std.specs.Prelude.{◌≡◌, ℕ, zero, suc, ◌/◌, ◌%◌, ◌^◌, ◌≤◌, Bool, true, false, List, []}
use Rattle.std.specs.Prelude.{◌∷◌, ◌++◌, length, take, Option, Some, None}
use Rattle.std.specs.FinMap as map
use Rattle.um_word.specs.State.{Arrays, array_at}
use Rattle.um_word.specs.Scroll.{scroll}
use Rattle.array_store.specs.StoreView.{most_limits}
use Rattle.array_store.specs.Parts.{Listed}
use Rattle.um_machine.specs.MachineView.{MachineView, IsWhole}
use Rattle.um_machine.specs.MachineParts.{MachineParts, most_saved_cycles}

-- the first word of every image
abbrev pub image_mark : ℕ
image_mark = 0x554d4931

-- the most bytes that an image has
abbrev pub most_image_bytes : ℕ
most_image_bytes = 1_207_959_624

-- the two words of a number of 64 bits, the high one first
abbrev pub two_words : ℕ → List ℕ
two_words n = n / 2 ^ 32 ∷ n % 2 ^ 32 ∷ []

-- the word that says whether a machine has halted
abbrev pub flag : Bool → ℕ
flag false = 0
flag true = 1

-- the words before the abandoned identifiers: the first one, the registers, the finger, the cycles
-- made, the bytes taken, whether the machine has halted, how many identifiers were made, and how
-- many of them were abandoned and not reused since
abbrev pub head_words : MachineParts → (taken : ℕ) → List ℕ
head_words p taken =
    image_mark ∷ (p.registers ++ (p.finger ∷ (two_words p.cycles ++ (two_words taken
    ++ (flag p.halted ∷ p.store.made ∷ length p.store.abandoned ∷ [])))))

-- each array by its identifier, its length and its words
abbrev pub array_words : Listed → List ℕ
array_words [] = []
array_words (a ∷ arrays) = a.0 ∷ length a.1 ∷ (a.1 ++ array_words arrays)

-- the words of an image: the head, the abandoned identifiers, array 0 by its length and its words,
-- and the other arrays
abbrev pub image_words : MachineParts → (taken : ℕ) → List ℕ
image_words p taken =
    head_words p taken ++ (p.store.abandoned
    ++ (length p.store.zero ∷ (p.store.zero ++ array_words p.store.arrays)))

-- the array of an identifier where it is there, and no array where it is not
abbrev pub one_listed : (id : ℕ) → Option (List ℕ) → Listed
one_listed id None = []
one_listed id (Some words) = (id, words) ∷ []

-- the arrays of the identifiers from 1 to n, by rising identifier
abbrev pub arrays_up_to : Arrays → (n : ℕ) → Listed
arrays_up_to arrays zero = []
arrays_up_to arrays (suc n) =
    arrays_up_to arrays n ++ one_listed (suc n) (map.get arrays (suc n))

-- the parts of a machine
abbrev pub parts_of_machine : MachineView → MachineParts
parts_of_machine m = record {
  registers = m.registers;
  finger = m.finger;
  cycles = m.cycles;
  halted = m.halted;
  store = record {
    made = m.identifiers.made;
    abandoned = m.identifiers.abandoned;
    zero = array_at m.arrays 0;
    arrays = arrays_up_to m.arrays m.identifiers.made;
  };
}

-- the image of a machine that has taken so many bytes of its input
abbrev pub image_of : MachineView → (taken : ℕ) → List ℕ
image_of m taken = scroll (image_words (parts_of_machine m) taken)

-- The rules of a machine and of the number of bytes that it has taken: its limits are the greatest,
-- it made at most so many cycles, and each byte took a cycle.
pub record CanBeSaved (m : MachineView) (taken : ℕ) : Type 0 where
  pub limits : m.limits ≡ most_limits
  pub cycles : m.cycles ≤ most_saved_cycles
  pub counted : taken ≤ m.cycles

-- the rules, with what is true of every machine
pub record HasImage (m : MachineView) (taken : ℕ) : Type 0 where
  pub saved : CanBeSaved m taken
  pub whole : IsWhole m

-- these bytes are the image of a machine and a number of bytes taken that keep the rules
abbrev pub IsImage : List ℕ → Type 0
IsImage bytes = (m : MachineView) × (taken : ℕ) × HasImage m taken × (bytes ≡ image_of m taken)

-- some image begins with these bytes
abbrev pub BeginsImage : List ℕ → Type 0
BeginsImage bytes = (more : List ℕ) × IsImage (bytes ++ more)

-- The bytes are no image, and k is the length of their longest prefix, of a multiple of 4 bytes,
-- that is a prefix of some image.
pub record IsBadAt (bytes : List ℕ) (k : ℕ) : Type 0 where
  pub no_image : IsImage bytes → ⊥
  pub of_words : k % 4 ≡ 0
  pub within : k ≤ length bytes
  pub begins : BeginsImage (take k bytes)
  pub longest : (j : ℕ) → j % 4 ≡ 0 → j ≤ length bytes → BeginsImage (take j bytes) → j ≤ k
