-- What is still to be printed. A device of the printer's proof: no public clause cites it.
use Rattle.std.specs.Prelude.{◌≡◌, ℕ, ◌+◌, ◌<◌, List, [], ◌∷◌, ◌++◌, length, Option, codes}
use Rattle.std.specs.List.{AllByRecursion}
use Rattle.codex_values.specs.Writing.{HasWritten}
use Rattle.codex_values.specs.Value.{Value, unit, pair, inl, inr, show}
use Rattle.codex_values.specs.declared.shape.Shape.{Shape}
use Rattle.codex_values.specs.declared.print.Piece.{Piece}
use Rattle.codex_values.specs.declared.print.Piece.TheVariants.{Whole, Comma, Close}
use Rattle.codex_values.specs.Store.{value_at}

-- the text of a piece
abbrev pub piece_text : List Shape → Piece → List ℕ
piece_text nodes (Whole at) = show (value_at nodes at)
piece_text nodes Comma = codes ","
piece_text nodes Close = codes ")"

-- the text of a stack of pieces, whose last is printed first
abbrev pub stack_text : List Shape → List Piece → List ℕ
stack_text nodes [] = []
stack_text nodes (piece ∷ stack) = stack_text nodes stack ++ piece_text nodes piece

-- how many pieces a value is printed in
abbrev pub weight_of : Value → ℕ
weight_of unit = 1
weight_of (pair a b) = weight_of a + weight_of b + 3
weight_of (inl a) = weight_of a + 1
weight_of (inr a) = weight_of a + 1

-- how many pieces a piece is printed in
abbrev pub piece_weight : List Shape → Piece → ℕ
piece_weight nodes (Whole at) = weight_of (value_at nodes at)
piece_weight nodes Comma = 1
piece_weight nodes Close = 1

-- how many pieces a stack is printed in
abbrev pub stack_weight : List Shape → List Piece → ℕ
stack_weight nodes [] = 0
stack_weight nodes (piece ∷ stack) = piece_weight nodes piece + stack_weight nodes stack

-- the place of the piece is in the store
abbrev pub IsPieceIn : List Shape → Piece → Type 0
IsPieceIn nodes (Whole at) = at < length nodes
IsPieceIn nodes Comma = Unit {0}
IsPieceIn nodes Close = Unit {0}

-- the places of all pieces are in the store
abbrev pub ArePiecesIn : List Shape → List Piece → Type 0
ArePiecesIn nodes stack = AllByRecursion (IsPieceIn nodes) stack

-- the piece is the text, and then what was put on the stack
pub record Opens (nodes : List Shape) (piece : Piece) (old new : List Piece) (text : List ℕ) : Type 0 where
  pub same : text ++ stack_text nodes new ≡ piece_text nodes piece ++ stack_text nodes old
  pub nearer : stack_weight nodes new < piece_weight nodes piece + stack_weight nodes old
  pub places : ArePiecesIn nodes new

-- all of the text was written but that of the stack
pub record IsPrinting (nodes : List Shape) (stack : List Piece) (text : List ℕ)
    (old new : Option (List ℕ)) : Type 0 where
  pub done : List ℕ
  pub whole : done ++ stack_text nodes stack ≡ text
  pub written : HasWritten done old new
  pub places : ArePiecesIn nodes stack
