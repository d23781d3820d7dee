-- Texts of commands. `P a b ..` says that the text a begins with a P and goes on with b.
use Rattle.codex_values.specs.Tokens.{EndsWord, Symbol, Word}
use Rattle.std.specs.Prelude.{◌≢◌, ℕ, ◌+◌, ◌≤◌, max, List, [], ◌∷◌, ◌++◌, length, take, drop, replicate, codes}
use Rattle.two_d.specs.Names.{IsName}
use Rattle.two_d.specs.Trees as trees
use Rattle.two_d.specs.Trees.{Tree, Form}
use Rattle.two_d.specs.declared.command.Side.TheVariants.{S, E}
use Rattle.two_d.specs.declared.command.Side.{Side}

-- An expression, and how many levels it opens at once: each `(`, `Inl` and `Inr` opens one that
-- lasts to the end of its expression.
pub data IsExp : List ℕ → List ℕ → Tree → ℕ → Type 0 where
  unit : {a b c : List ℕ} → Symbol (codes "(") a b → Symbol (codes ")") b c → IsExp a c trees.unit 1
  pair : {a b c d e f : List ℕ} {x y : Tree} {m n : ℕ} → Symbol (codes "(") a b → IsExp b c x m
      → Symbol (codes ",") c d → IsExp d e y n → Symbol (codes ")") e f
      → IsExp a f (trees.pair x y) (1 + max m n)
  parens : {a b c d : List ℕ} {x : Tree} {n : ℕ} → Symbol (codes "(") a b → IsExp b c x n
      → Symbol (codes ")") c d → IsExp a d x (1 + n)
  inl : {a b c : List ℕ} {x : Tree} {n : ℕ} → Word (codes "Inl") a b → IsExp b c x n
      → IsExp a c (trees.inl x) (1 + n)
  inr : {a b c : List ℕ} {x : Tree} {n : ℕ} → Word (codes "Inr") a b → IsExp b c x n
      → IsExp a c (trees.inr x) (1 + n)
  n : {a b : List ℕ} → Word (codes "N") a b → IsExp a b trees.n 0
  w : {a b : List ℕ} → Word (codes "W") a b → IsExp a b trees.w 0

-- `S` or `E`
pub data IsSide : List ℕ → List ℕ → Side → Type 0 where
  s : {a b : List ℕ} → Word (codes "S") a b → IsSide a b S
  e : {a b : List ℕ} → Word (codes "E") a b → IsSide a b E

-- `(exp,side)`, whose parentheses open no level
pub data IsOut : List ℕ → List ℕ → Tree → Side → ℕ → Type 0 where
  out : {a b c d e f : List ℕ} {x : Tree} {s : Side} {n : ℕ} → Symbol (codes "(") a b
      → IsExp b c x n → Symbol (codes ",") c d → IsSide d e s → Symbol (codes ")") e f
      → IsOut a f x s n

-- none, one, or two to different sides
pub data AreOuts : List ℕ → List ℕ → List (Tree × Side) → ℕ → Type 0 where
  none : {a : List ℕ} → AreOuts a a [] 0
  one : {a b : List ℕ} {x : Tree} {s : Side} {n : ℕ} → IsOut a b x s n → AreOuts a b ((x, s) ∷ []) n
  two : {a b c d : List ℕ} {x y : Tree} {s t : Side} {m n : ℕ} → IsOut a b x s m
      → Symbol (codes ",") b c → IsOut c d y t n → s ≢ t
      → AreOuts a d ((x, s) ∷ (y, t) ∷ []) (max m n)

-- A command, and how many levels it opens at once.
pub data IsCommand : List ℕ → List ℕ → Form → ℕ → Type 0 where
  send : {a b c d e : List ℕ} {outs : List (Tree × Side)} {n : ℕ} → Word (codes "send") a b
      → Symbol (codes "[") b c → AreOuts c d outs n → Symbol (codes "]") d e
      → IsCommand a e (trees.send outs) n
  case : {a b c d e f g : List ℕ} {x : Tree} {s t : Side} {n : ℕ} → Word (codes "case") a b
      → IsExp b c x n → Word (codes "of") c d → IsSide d e s → Symbol (codes ",") e f
      → IsSide f g t → IsCommand a g (trees.case x s t) n
  split : {a b c : List ℕ} {x : Tree} {n : ℕ} → Word (codes "split") a b → IsExp b c x n
      → IsCommand a c (trees.split x) n
  named : {a b c name : List ℕ} → Word (codes "use") a b → Word name b c → IsName name
      → IsCommand a c (trees.call name) 0
  quoted : {a b c name : List ℕ} → Word (codes "use") a b
      → Symbol (codes "\"" ++ name ++ codes "\"") b c → IsName name
      → IsCommand a c (trees.call name) 0

-- the text is the command, up to spaces at its end, and opens this number of levels at once
abbrev pub Spells : List ℕ → Form → ℕ → Type 0
Spells text c levels = (spaces : ℕ) × IsCommand text (replicate spaces 32) c levels

-- a text of the command: it opens at most 64 levels at once
abbrev pub IsTextOf : List ℕ → Form → Type 0
IsTextOf text c = (levels : ℕ) × Spells text c levels × (levels ≤ 64)

-- the beginning of some text of a command
abbrev pub IsOpen : List ℕ → Type 0
IsOpen text = (more : List ℕ) × (c : Form) × IsTextOf (text ++ more) c

-- the beginning of what would be a text of a command if levels had no bound
abbrev pub IsLooselyOpen : List ℕ → Type 0
IsLooselyOpen text = (more : List ℕ) × (c : Form) × (levels : ℕ) × Spells (text ++ more) c levels

-- k bytes are the longest beginning of the text that is open
pub record IsLongestOpen (text : List ℕ) (k : ℕ) : Type 0 where
  pub within : k ≤ length text
  pub holds : IsOpen (take k text)
  pub longest : (j : ℕ) → j ≤ length text → IsOpen (take j text) → j ≤ k

-- a token of n bytes that opens a level begins the text
pub data OpensLevel : List ℕ → ℕ → Type 0 where
  parens : {b : List ℕ} → OpensLevel (codes "(" ++ b) 1
  inl : {b : List ℕ} → EndsWord b → OpensLevel (codes "Inl" ++ b) 3
  inr : {b : List ℕ} → EndsWord b → OpensLevel (codes "Inr" ++ b) 3

-- The token at byte k opens a 65th level: up to its first byte the text is open, and up to its end
-- it is open only if levels have no bound.
abbrev pub IsTooDeep : List ℕ → ℕ → Type 0
IsTooDeep text k =
    IsLongestOpen text k
    × ((n : ℕ) × OpensLevel (drop k text) n × IsLooselyOpen (take (k + n) text))

-- No text of a command, and not too deep: k bytes are all that can still become one.
abbrev pub IsBad : List ℕ → ℕ → Type 0
IsBad text k = IsLongestOpen text k × ((c : Form) → IsTextOf text c → ⊥) × (IsTooDeep text k → ⊥)
