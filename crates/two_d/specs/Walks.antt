-- The calls and returns of a program, depth first.
use Rattle.std.specs.Prelude.{◌≡◌, Option, Some, None, ℕ, zero, suc, List, [], ◌∷◌, ◌++◌, Bool}
use Rattle.std.specs.Prelude.{true, false, if◌then◌else◌, is_some, map}
use Rattle.two_d.specs.Programs.{Program, main_of, module_at}
use Rattle.two_d.specs.Sound.{IsOrder, IsKeptOrder}
use Rattle.two_d.specs.Meaning.{Inputs, no_inputs, Effect, Done, Starts, Answers, act, look_of, mean}

-- an order of the boxes of each module
abbrev pub AreOrders : Program → (ℕ → List ℕ) → Type 0
AreOrders P order = (m : ℕ) → IsOrder (module_at P m) (order m)

-- the kept order of the boxes of each module
abbrev pub AreKeptOrders : Program → (ℕ → List ℕ) → Type 0
AreKeptOrders P order = (m : ℕ) → IsKeptOrder (module_at P m) (order m)

-- a module is called, or is returned to
pub data Visit : Type 0 where
  Calls : ℕ → Visit
  Returns : ℕ → Visit

-- the call of a use and its return, if it means something, and the visits that follow
abbrev pub visit : (ℕ → Inputs → List Visit) → Answers → ℕ → Option Effect → List Visit → List Visit
visit walks answer m None rest = rest
visit walks answer m (Some (Done c)) rest = rest
visit walks answer m (Some (Starts j a)) rest = walks j a ++ (if is_some (answer j a) then Returns m ∷ rest else [])

-- the visits of these boxes, up to the first that means nothing
abbrev pub visits : (ℕ → Inputs → List Visit) → Answers → ℕ → (ℕ → Option Effect) → List ℕ → List Visit
visits walks answer m acts [] = []
visits walks answer m acts (b ∷ bs) = visit walks answer m (acts b) (visits walks answer m acts bs)

-- The walk of module m at inputs a, by uses nested less than n deep, where order k is the order of the boxes of
-- module k. A program's own walk and its own route are those with the kept orders: AreKeptOrders P order
unfoldable pub walk : Program → (ℕ → List ℕ) → ℕ → ℕ → Inputs → List Visit
walk P order zero m a = []
walk P order (suc n) m a = Calls m ∷ visits (walk P order n) (mean P n) m (act P m (look_of P (mean P n) m a)) (order m)

-- what is loaded: the contents, and whether it is entered at offset 0
abbrev pub load_of : (ℕ → List ℕ) → Visit → List ℕ × Bool
load_of blocks (Calls m) = (blocks m, true)
load_of blocks (Returns m) = (blocks m, false)

-- what is loaded on the way: the blocks of the walk from `main`, and the printer's block where the
-- program means something
abbrev pub route : Program → (ℕ → List ℕ) → (ℕ → List ℕ) → List ℕ → ℕ → List (List ℕ × Bool)
route P order blocks printer n =
    map (load_of blocks) (walk P order n (main_of P) no_inputs)
    ++ (if is_some (mean P n (main_of P) no_inputs) then (printer, true) ∷ [] else [])

-- the one list begins the other
abbrev pub IsPrefixOf : {A : Type 0} → List A → List A → Type 0
IsPrefixOf {A} xs ys = (rest : List A) × (xs ++ rest ≡ ys)
