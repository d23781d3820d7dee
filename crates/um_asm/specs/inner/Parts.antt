-- What the code keeps of a text: parts of it, read as texts of their own, and where it stands.
use Rattle.std.specs.Prelude.{◌≡◌, ℕ, ◌+◌, ◌<◌, ◌≤◌, nat_eq, ◌⊎◌, IsTrue, if◌then◌else◌, List, []}
use Rattle.std.specs.Prelude.{◌∷◌, ◌++◌, Option, Some, None, Result, Ok, Err}
use Rattle.std.specs.Borrow.{Bor}
use Rattle.std.specs.Option.{option_map, option_eq}
use Rattle.um_asm.specs.declared.line.Value.{Value}
use Rattle.um_asm.specs.declared.line.Value.TheVariants.{Decimal, Hexadecimal, Label, Length}
use Rattle.um_asm.specs.declared.line.Statement.{Statement}
use Rattle.um_asm.specs.declared.line.Statement.TheVariants.{Operator, SetTo, Word, Hex}
use Rattle.um_asm.specs.declared.line.Line.{Line}
use Rattle.um_asm.specs.declared.line.Line.TheVariants.{Code, Array, End}
use Rattle.um_asm.specs.declared.position.Block.{Block}
use Rattle.um_asm.specs.declared.position.Position.{Position}
use Rattle.um_asm.specs.declared.fault.AsmFault.{AsmFault}
use Rattle.um_asm.specs.declared.fault.AsmFault.TheVariants.{Memory}
use Rattle.um_word.specs.Operators.{IsEncodable}
use Rattle.um_asm.specs.Lines.{size_of, are_hex_words}
use Rattle.um_asm.specs.Scopes.{Said, block_after, scope_of}

abbrev pub Part : Type 0
Part = Bor (List ℕ)

abbrev pub pair_read : Part × Part → List ℕ × List ℕ
pair_read p = (p.0.now, p.1.now)

abbrev pub triple_read : Part × Part × Part → List ℕ × List ℕ × List ℕ
triple_read p = (p.0.now, p.1.now, p.2.now)

abbrev pub value_read : Value Part → Value (List ℕ)
value_read (Decimal digits) = Decimal digits.now
value_read (Hexadecimal digits) = Hexadecimal digits.now
value_read (Label name) = Label name.now
value_read (Length name) = Length name.now

abbrev pub statement_read : Statement Part → Statement (List ℕ)
statement_read (Operator operator) = Operator operator
statement_read (SetTo a value) = SetTo a (value_read value)
statement_read (Word value) = Word (value_read value)
statement_read (Hex digits) = Hex digits.now

abbrev pub line_read : Line Part → Line (List ℕ)
line_read (Code label statement) = Code (option_map (λ l. l.now) label) (option_map statement_read statement)
line_read (Array name) = Array name.now
line_read End = End

abbrev pub said_read : Option (Line Part) → Said
said_read line = option_map line_read line

abbrev pub block_read : Block Part → Block (List ℕ)
block_read b = record { name = b.name.now; begun = b.begun; first = b.first }

-- the block in which the next line stands
abbrev pub block_read_at : Position Part → Option (Block (List ℕ))
block_read_at p = option_map block_read p.block

-- a block's first word stands before the place
abbrev pub IsBehind : (place : ℕ) → Option (Block (List ℕ)) → Type 0
IsBehind place None = Unit {0}
IsBehind place (Some block) = block.first ≤ place

-- the line of the block that isn't ended, where the next lines begin so
abbrev pub unended_from : (number : ℕ) → Option (Block (List ℕ)) → (place : ℕ) → List Said → Option ℕ
unended_from number block place [] = scope_of block
unended_from number block place (line ∷ lines) =
    unended_from (number + 1) (block_after number place block line) (place + size_of line) lines

-- what a line says in its block, where it is known which block isn't ended
abbrev pub said_in : (unended : Option ℕ) → (number : ℕ) → Option (Block (List ℕ)) → Said → Said
said_in unended number None (Some (Array name)) = if option_eq nat_eq unended (Some number)
    then None else Some (Array name)
said_in unended number None (Some End) = None
said_in unended number (Some block) (Some (Array name)) = None
said_in unended number block line = line

-- registers are below 8, and `.hex` has whole words
abbrev pub IsRight : Statement Part → Type 0
IsRight (Operator operator) = IsEncodable operator
IsRight (SetTo a value) = a < 8
IsRight (Word value) = Unit {0}
IsRight (Hex digits) = IsTrue (are_hex_words digits.now)

abbrev pub HasRight : Line Part → Type 0
HasRight (Code label (Some statement)) = IsRight statement
HasRight _ = Unit {0}

-- words were added where there is no fault, and else this is the fault, or memory was wanting
abbrev pub Pushes : (old new : List ℕ) → Result (List ℕ) AsmFault → Result Unit AsmFault → Type 0
Pushes old new words (Ok _) = (pushed : List ℕ) × (words ≡ Ok pushed) × (new ≡ old ++ pushed)
Pushes old new words (Err fault) = (fault ≡ Memory) ⊎ (words ≡ Err fault)
