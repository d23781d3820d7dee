-- Values, and how they are printed.
use Rattle.std.specs.Prelude.{ℕ, List, ◌++◌, codes}

-- a plain tree
pub data Value : Type 0 where
  unit : Value
  pair : Value → Value → Value
  inl : Value → Value
  inr : Value → Value

-- the printing of a value: one space after `Inl` and `Inr`, none elsewhere
abbrev pub show : Value → List ℕ
show unit = codes "()"
show (pair a b) = codes "(" ++ show a ++ codes "," ++ show b ++ codes ")"
show (inl a) = codes "Inl " ++ show a
show (inr a) = codes "Inr " ++ show a
