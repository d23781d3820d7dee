-- The names of the operators' statements: one table, for the assembler and the disassembler.
use Rattle.std.specs.Prelude.{ℕ, List, [], ◌∷◌, codes, Option}
use Rattle.std.specs.List.{find}
use Rattle.std.specs.Str.{bytes_eq}
use Rattle.um_asm.specs.declared.mnemonic.Mnemonic.{Mnemonic}
use Rattle.um_asm.specs.declared.mnemonic.Mnemonic.TheVariants.{Cmov, Index, Amend, Add, Mul, Div}
use Rattle.um_asm.specs.declared.mnemonic.Mnemonic.TheVariants.{Nand, Halt, Alloc, Abandon, Out, In}
use Rattle.um_asm.specs.declared.mnemonic.Mnemonic.TheVariants.{Load, Set}

-- how a mnemonic is written
abbrev pub mnemonic_text : Mnemonic → List ℕ
mnemonic_text Cmov = codes "cmov"
mnemonic_text Index = codes "index"
mnemonic_text Amend = codes "amend"
mnemonic_text Add = codes "add"
mnemonic_text Mul = codes "mul"
mnemonic_text Div = codes "div"
mnemonic_text Nand = codes "nand"
mnemonic_text Halt = codes "halt"
mnemonic_text Alloc = codes "alloc"
mnemonic_text Abandon = codes "abandon"
mnemonic_text Out = codes "out"
mnemonic_text In = codes "in"
mnemonic_text Load = codes "load"
mnemonic_text Set = codes "set"

-- all of them, in the order of the operators' numbers
abbrev pub mnemonics : List Mnemonic
mnemonics = Cmov ∷ Index ∷ Amend ∷ Add ∷ Mul ∷ Div ∷ Nand ∷ Halt ∷ Alloc ∷ Abandon ∷ Out ∷ In ∷ Load ∷ Set ∷ []

-- the mnemonic that a word writes
abbrev pub mnemonic_at : List ℕ → Option Mnemonic
mnemonic_at word = find (λ m. bytes_eq (mnemonic_text m) word) mnemonics
