-- Good programs.
use Rattle.std.specs.Prelude.{◌≡◌, ◌≢◌, ℕ, ◌<◌, ◌^◌, ◌⊎◌, ◌↔◌, false, IsTrue, List, [], ◌∷◌, length}
use Rattle.std.specs.Prelude.{map, slice_get, Some, All, AllPairs, Any, IsSome, IsNone, Vec}
use Rattle.std.specs.Global.{Global}
use Rattle.two_d.specs.Programs.{BoxForm, ModuleForm, Program, find, main_of, module_at}
use Rattle.two_d.specs.Sound.{IsSound, Reaches, IsKeptOrder}
use Rattle.two_d.specs.Trees as tree
use Rattle.two_d.specs.Trees.{Tree, Form, send, case, split, call}

-- the inputs that are wired are just the entries of the module
abbrev pub HasInputsOf : BoxForm → ModuleForm → Type 0
HasInputsOf row m = (IsTrue m.north ↔ IsSome row.n) × (IsTrue m.west ↔ IsSome row.w)

-- a box that uses a module: it is there, and has just the entries that are wired
abbrev pub UsesWell : Program → BoxForm → Type 0
UsesWell P row = (name : List ℕ) → row.command ≡ call name → (find P name < length P) ×
    HasInputsOf row (module_at P (find P name))

-- the expression names N
abbrev pub NamesN : Tree → Type 0
NamesN tree.n = Unit {0}
NamesN (tree.pair a b) = NamesN a ⊎ NamesN b
NamesN (tree.inl a) = NamesN a
NamesN (tree.inr a) = NamesN a
NamesN tree.unit = ⊥
NamesN tree.w = ⊥

-- the expression names W
abbrev pub NamesW : Tree → Type 0
NamesW tree.w = Unit {0}
NamesW (tree.pair a b) = NamesW a ⊎ NamesW b
NamesW (tree.inl a) = NamesW a
NamesW (tree.inr a) = NamesW a
NamesW tree.unit = ⊥
NamesW tree.n = ⊥

-- the expressions of a command
abbrev pub trees_of : Form → List Tree
trees_of (send outs) = map (λ out. out.0) outs
trees_of (case x s t) = x ∷ []
trees_of (split x) = x ∷ []
trees_of (call name) = []

-- an input that an expression names isn't wired
abbrev pub IsUnwired : BoxForm → Type 0
IsUnwired row =
    (Any NamesN (trees_of row.command) × IsNone row.n)
    ⊎ (Any NamesW (trees_of row.command) × IsNone row.w)

pub record IsGood (P : Program) : Type 0 where
  pub few : length P < 2 ^ 32
  pub sound : All IsSound P
  pub apart : AllPairs (λ (m : ModuleForm). λ (other : ModuleForm). m.name ≢ other.name) P
  pub main_there : main_of P < length P
  pub main_closed : ((module_at P (main_of P)).north ≡ false) × ((module_at P (main_of P)).west ≡ false)
  pub uses : All (λ (m : ModuleForm). All (UsesWell P) m.boxes) P
  pub wired : All (λ (m : ModuleForm). All (λ (row : BoxForm). IsUnwired row → ⊥) m.boxes) P
  pub acyclic : All (λ (m : ModuleForm). (b : ℕ) → Reaches m b b → ⊥) P

-- orders without the places of their parts in memory
abbrev pub orders_in : List (Vec ℕ Global) → List (List ℕ)
orders_in orders = map (λ (order : Vec ℕ Global). order.items) orders

-- the names of the modules, in order
abbrev pub names_in : Program → List (List ℕ)
names_in P = map (λ (m : ModuleForm). m.name) P

-- what a good program keeps beside its modules: their names, where `main` is, and the order of each
pub record IsKept (P : Program) (names : List (List ℕ)) (main : ℕ) (orders : List (List ℕ)) : Type 0 where
  pub good : IsGood P
  pub named : names ≡ names_in P
  pub begins : main ≡ main_of P
  pub one_each : length orders ≡ length P
  pub kept : (m : ℕ) (order : List ℕ) → slice_get orders m ≡ Some order → IsKeptOrder (module_at P m) order
