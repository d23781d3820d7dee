-- The texts of values. Spaces before, between and after tokens are free, and so are needless parentheses.
use Rattle.std.specs.Prelude.{◌≤◌, ℕ, List, ◌++◌, length, take, replicate, codes}
use Rattle.codex_values.specs.Tokens.{Symbol, Word}
use Rattle.codex_values.specs.Value as value
use Rattle.codex_values.specs.Value.{Value}

-- the text a begins with an expression of the value and goes on with b
pub data Begins : List ℕ → List ℕ → Value → Type 0 where
  unit : {a b c : List ℕ} → Symbol (codes "(") a b → Symbol (codes ")") b c → Begins a c value.unit
  pair : {a b c d e f : List ℕ} {v w : Value} → Symbol (codes "(") a b → Begins b c v →
      Symbol (codes ",") c d → Begins d e w → Symbol (codes ")") e f → Begins a f (value.pair v w)
  parens : {a b c d : List ℕ} {v : Value} → Symbol (codes "(") a b → Begins b c v →
      Symbol (codes ")") c d → Begins a d v
  inl : {a b c : List ℕ} {v : Value} → Word (codes "Inl") a b → Begins b c v → Begins a c (value.inl v)
  inr : {a b c : List ℕ} {v : Value} → Word (codes "Inr") a b → Begins b c v → Begins a c (value.inr v)

-- the text is an expression of the value, and then spaces alone
pub record Reads (text : List ℕ) (v : Value) : Type 0 where
  pub spaces : ℕ
  pub begins : Begins text (replicate spaces 32) v

-- the text begins some text of a value
pub record IsOpenValue (text : List ℕ) : Type 0 where
  pub more : List ℕ
  pub value : Value
  pub reads : Reads (text ++ more) value

-- the text is none of a value, and k is the length of its longest prefix that begins one
pub record IsBadAt (text : List ℕ) (k : ℕ) : Type 0 where
  pub none : (v : Value) → Reads text v → ⊥
  pub within : k ≤ length text
  pub holds : IsOpenValue (take k text)
  pub longest : (j : ℕ) → j ≤ length text → IsOpenValue (take j text) → j ≤ k
