-- The boot: it copies the blocks out of the words, and calls the block of `main`.
use Rattle.std.specs.Prelude.{ℕ, zero, suc, ◌+◌, List, ◌++◌, ◌*◌, ◌≡◌, ◌^◌, ◌<◌, ◌≤◌, length, ◌∷◌}
use Rattle.std.specs.Prelude.{None, []}
use Rattle.um_word.specs.declared.op.Op.{Op}
use Rattle.code_templates.specs.Templates.{copy_block, make_table, call_block}
use Rattle.code_templates.specs.Lines.{StandsAt, IsOwnAt}
use Rattle.code_templates.specs.Laws.{piece}
use Rattle.um_word.specs.State.{State, start_of}
use Rattle.um_word.specs.Loads.{Loads}
use Rattle.two_d.specs.Meaning.{no_inputs}
use Rattle.code_templates.specs.inner.Spent.{held}
use Rattle.lower_emit.specs.Entered.{Entered}
use Rattle.um_word.specs.Leads.{Leads}

-- where each block stands in the words, and how many words it has
pub record Places : Type 0 where
  pub place : ℕ → ℕ
  pub size : ℕ → ℕ

-- n blocks are copied, from number i on, by code at a place
abbrev pub copies : Places → (i n at : ℕ) → List Op
copies p i zero at = []
copies p i (suc n) at = copy_block (p.size i) i (p.place i) (at + 3) (at + 12)
    ++ copies p (suc i) n (at + 14)

-- the cycles of these copies, and what the blocks hold
abbrev pub copy_cycles : Places → (i n : ℕ) → ℕ
copy_cycles p i zero = 0
copy_cycles p i (suc n) = (5 + 9 * p.size i) + copy_cycles p (suc i) n

-- what the copies hold
abbrev pub copies_hold : Places → (i n : ℕ) → ℕ
copies_hold p i zero = 0
copies_hold p i (suc n) = (64 + 4 * p.size i) + copies_hold p (suc i) n

-- so many modules, of which one is `main`, with the frame size of its block; the printer's block is
-- the last
abbrev pub boot_code : Places → (modules main size : ℕ) → List Op
boot_code p modules main size =
    make_table (suc modules) ++ (copies p 0 (suc modules) 2 ++ call_block 0 0 main size modules 0)

-- the cycles of the boot
abbrev pub boot_cycles : Places → ℕ → ℕ
boot_cycles p modules = 2 + (copy_cycles p 0 (suc modules) + 21)

-- what stands in arrays when `main` is entered
abbrev pub boot_holds : Places → (modules size : ℕ) → ℕ
boot_holds p modules size = 64 + 4 * suc modules + copies_hold p 0 (suc modules) + (64 + 4 * size)

-- the words have the boot, and behind it the blocks
pub record IsLinked (codes : ℕ → List ℕ) (p : Places) (modules main size : ℕ)
    (words : List ℕ) : Type 0 where
  pub boot : StandsAt words 0 (boot_code p modules main size)
  pub small : length words ≤ 2 ^ 32
  pub some : (i : ℕ) → i < suc modules → 1 ≤ p.size i
  pub within : (i : ℕ) → i < suc modules → p.place i + p.size i ≤ length words
  pub are : (i : ℕ) → i < suc modules → piece (p.place i) (p.size i) words ≡ codes i

-- nothing was loaded or written yet
abbrev pub Quiet : State → Loads → Type 0
Quiet t k = IsOwnAt t × (t.out ≡ []) × (k ≡ [])

-- `main` was entered
pub record Booted (codes : ℕ → List ℕ) (p : Places) (modules main size : ℕ) (input : List ℕ)
    (t : State) (k : Loads) : Type 0 where
  pub table : ℕ
  pub ids : List ℕ
  pub frame : ℕ
  pub entered : Entered codes table ids main size None None
      (record { caller = 0; block = modules; offset = 0 }) no_inputs frame t
  pub count_is : length ids ≡ suc modules
  pub loads : k ≡ record { words = codes main; offset = 0 } ∷ []
  pub out_is : t.out ≡ []
  pub held_is : held t.arrays ≡ boot_holds p modules size

-- From the start of the words `main` is entered.
unfoldable pub BootLaw : Type 0
BootLaw = (codes : ℕ → List ℕ) (p : Places) (modules main size : ℕ) (words input : List ℕ) →
    IsLinked codes p modules main size words → main < modules → 5 ≤ size →
    Leads Quiet (boot_cycles p modules) (Booted codes p modules main size input)
    (start_of words input) []
