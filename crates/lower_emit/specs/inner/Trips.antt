-- What blocks come to by uses nested less than n deep, and the calls and returns on the way.
use Rattle.two_d.specs.Meaning.{Inputs}
use Rattle.lower_emit.specs.inner.Ends.{outcome_mark, outcome_value}
use Rattle.lower_emit.specs.Stands.{Ending}
use Rattle.lower_emit.specs.KnownOutcomes.{Known, Call}
use Rattle.lower_emit.specs.Blocks.{BlockPlan, block_code, block_length}
use Rattle.lower_emit.specs.inner.Firing.{last_wires, last_marks, all_answered, entry_wires}
use Rattle.lower_emit.specs.inner.Firing.{call_of, fired_wires, IsGoodBlock}
use Rattle.std.specs.Prelude.{Bool, true, false, Option, Some, None, ℕ, List, ◌+◌, if◌then◌else◌}
use Rattle.std.specs.Prelude.{◌∷◌, ◌++◌, is_some, ◌==◌, ◌≡◌, ◌≤◌, map, ◌<◌, length, ◌*◌}
use Rattle.std.specs.Prelude.{◌⊎◌, []}
use Rattle.two_d.specs.Walks.{Visit, Returns, Calls, load_of}
use Rattle.codex_values.specs.Value.{Value}
use Rattle.lower_emit.specs.Boxes.{Box, Sends, Sorts, Uses}
use Rattle.um_word.specs.Loads.{Loads, seen}
use Rattle.um_word.specs.State.{State}
use Rattle.code_templates.specs.Lines.{IsOwnAt, StandsAt}
use Rattle.code_templates.specs.inner.Spent.{spent}
use Rattle.lower_emit.specs.Entered.{Return, Entered, BlocksStand}
use Rattle.lower_emit.specs.inner.Uses.{Returned}
use Rattle.um_word.specs.Leads.{Leads}
use Rattle.code_templates.specs.Templates.{return_outcome}

-- the outcome of a block whose uses are all answered
abbrev pub block_came : Known → BlockPlan → Inputs → Ending
block_came known p a = record {
  value = outcome_value (last_wires known p a.north a.west)
      (last_marks known p a.north a.west) p.exits p.none p.two p.layout.boxes;
  mark = outcome_mark (last_wires known p a.north a.west)
      (last_marks known p a.north a.west) p.exits p.none p.two p.layout.boxes;
}

-- the ending, if it is known
abbrev pub came_if : Bool → Ending → Option Ending
came_if true came = Some came
came_if false came = None

-- the outcome of a block, if its uses are answered
abbrev pub came_to : Known → BlockPlan → Inputs → Option Ending
came_to known p a = came_if (all_answered known p.boxes (entry_wires p a.north a.west))
    (block_came known p a)

-- the calls and returns of modules at inputs
abbrev pub Trips : Type 0
Trips = ℕ → Inputs → List Visit

-- those of a call, and those that follow if it is answered
abbrev pub trip : Trips → Known → ℕ → Option Call → List Visit → List Visit
trip trips known m None rest = rest
trip trips known m (Some call) rest = trips call.callee call.inputs
    ++ (if is_some (known call.callee call.inputs) then Returns m ∷ rest else [])

-- those of boxes in their order
abbrev pub trips_of : Trips → Known → ℕ → List Box → (ℕ → Option Value) → List Visit
trips_of trips known m [] wires = []
trips_of trips known m (box ∷ boxes) wires =
    trip trips known m (call_of box wires) (trips_of trips known m boxes
    (fired_wires known box wires))

-- the blocks of the modules by their numbers
abbrev pub Plans : Type 0
Plans = ℕ → BlockPlan

-- so much for each array that was entered at offset 0
unfoldable pub due : ℕ → Loads → ℕ
due price [] = 0
due price (x ∷ l) = (if x.offset == 0 then price else 0) + due price l

-- what the code of blocks costs: at most `frame` for the frame that a call makes, and `price` for a
-- block with one such frame
pub record Prices : Type 0 where
  pub frame : ℕ
  pub price : ℕ

-- On the way from a block that was entered in state s, with the loads l: the blocks stand in their
-- arrays, nothing is written or read, and of what was spent no more than the price of this block
-- and of those entered since.
pub record Along (codes : ℕ → List ℕ) (ids : List ℕ) (c : Prices) (s : State) (l : Loads)
    (t : State) (k : Loads) : Type 0 where
  pub own : IsOwnAt t
  pub blocks : BlocksStand codes ids t
  pub out_is : t.out ≡ s.out
  pub rest_is : t.rest ≡ s.rest
  pub bound : spent t + due c.price l ≤ spent s + due c.price k + c.price

-- the block has returned, and has left the price of a frame
pub record Backed (codes : ℕ → List ℕ) (c : Prices) (table : ℕ) (back : Return) (came : Ending)
    (visits : List Visit) (frame : ℕ) (s : State) (l : Loads) (t : State) (k : Loads) : Type 0 where
  pub returned : Returned codes table back came frame s t
  pub loads : seen k ≡ (seen l ++ map (load_of codes) visits)
      ++ (codes back.block, back.offset == 0) ∷ []
  pub bound : spent t + c.frame + due c.price l ≤ spent s + due c.price k + c.price

-- After a block was entered it returns with this outcome, or where there is none it makes these
-- visits; and the same of the loads.
abbrev pub Ran : (ℕ → List ℕ) → Prices → (table : ℕ) → Return → Option Ending → List Visit →
    (frame : ℕ) → State → Loads → State → Loads → Type 0
Ran codes c table back (Some came) visits frame s l t k =
    Backed codes c table back came visits frame s l t k
Ran codes c table back None visits frame s l t k = seen k ≡ seen l ++ map (load_of codes) visits

-- From where the block of module m was entered for inputs a, so many cycles lead there.
abbrev pub CallLaw : (ℕ → List ℕ) → Prices → Plans → (count : ℕ) → (m : ℕ) → Inputs →
    Option Ending → List Visit → Type 0
CallLaw codes c plans count m a came visits =
    (n : ℕ) × ((table : ℕ) (ids : List ℕ) (back : Return) (frame : ℕ) (s : State) (l : Loads) →
    Entered codes table ids m (plans m).layout.size (plans m).north (plans m).west back a frame s →
    length ids ≡ count → back.block < count →
    Leads (Along codes ids c s l) n (Ran codes c table back came visits frame s l) s l)

-- a `use` calls a module that is there, with a frame of its size, and gives the number of its own
-- block
abbrev pub IsCall : Plans → (modules m : ℕ) → Box → Type 0
IsCall plans modules m (Sends inputs north west outs) = Unit {0}
IsCall plans modules m (Sorts inputs north west x f g one two both number text) = Unit {0}
IsCall plans modules m (Uses inputs north west callee size own side number text) =
    (callee < modules) × (size ≡ (plans callee).layout.size) × (own ≡ m)

-- and so do all boxes
abbrev pub AreCalls : Plans → (modules m : ℕ) → List Box → Type 0
AreCalls plans modules m [] = Unit {0}
AreCalls plans modules m (box ∷ boxes) = IsCall plans modules m box × AreCalls plans modules m boxes

-- The block of module m is the code of its plan, at its price.
pub record IsBlock (codes : ℕ → List ℕ) (c : Prices) (plans : Plans) (modules m : ℕ) : Type 0 where
  pub good : IsGoodBlock (plans m)
  pub stand : StandsAt (codes m) 0 (block_code (plans m) 0 ++ return_outcome)
  pub calls : AreCalls plans modules m (plans m).boxes
  pub framed : 64 + 4 * (plans m).layout.size ≤ c.frame
  pub priced : 8 * (block_length (plans m) + 11) + c.frame ≤ c.price

-- What is known of a module at inputs: that its block does what is known of it, or nothing and no
-- visits.
abbrev pub IsKnownOf : (ℕ → List ℕ) → Prices → Plans → (count : ℕ) → Known → Trips → (m : ℕ) →
    Inputs → Type 0
IsKnownOf codes c plans count known trips m a =
    ((known m a ≡ None) × (trips m a ≡ [])) ⊎
    ((visits : List Visit) × (trips m a ≡ Calls m ∷ visits)
    × CallLaw codes c plans count m a (known m a) visits)

-- What a block does, where what is known of modules is true.
unfoldable pub BlockLaw : Type 0
BlockLaw = (codes : ℕ → List ℕ) (c : Prices) (plans : Plans) (modules count : ℕ) (known : Known)
    (trips : Trips) →
    modules ≤ count → ((m : ℕ) → m < modules → IsBlock codes c plans modules m) →
    ((m : ℕ) (a : Inputs) → m < modules → IsKnownOf codes c plans count known trips m a) →
    (m : ℕ) (a : Inputs) → m < modules →
    CallLaw codes c plans count m a (came_to known (plans m) a)
    (trips_of trips known m (plans m).boxes (entry_wires (plans m) a.north a.west))
