-- What a page tells of the module or the box that a fault of the list of modules is about.
use Rattle.std.specs.Prelude.{◌≡◌, ℕ, ◌<◌, List, [], ◌∷◌, ◌++◌, map, length, take, drop, codes, Option, Some, None}
use Rattle.std.specs.Prelude.{Ok, Err}
use Rattle.std.specs.List.{flat_map}
use Rattle.umix_base.specs.declared.place.Place.{Place}
use Rattle.text_picture.specs.Pictures.{lined, picture_lines}
use Rattle.two_d.specs.Faults.{TextFault, same_name, no_module, bad_inputs, unwired, cycle}
use Rattle.two_d.specs.Program.{Drawn, box_place, module_place}
use Rattle.two_d.specs.Programs.{Program, find, module_at}
use Rattle.two_d.specs.Sound.{Reaches}
use Rattle.two_d.specs.Texts.{HasBox, box_text, name_at}
use Rattle.module_table.specs.Drawn.{drawn_of}
use Rattle.box_ring.specs.Rings.{IsRing}
use Rattle.fault_view.specs.declared.subject.Kind.{Kind}
use Rattle.fault_view.specs.declared.subject.Kind.TheVariants.{Namesake, Box, Waiter}
use Rattle.fault_view.specs.declared.subject.Subject.{Subject}

-- what a fault is about, by its upper left corner
abbrev pub subject_of : TextFault → Option Subject
subject_of (same_name p) = Some (record { kind = Namesake; corner = p })
subject_of (no_module p) = Some (record { kind = Box; corner = p })
subject_of (bad_inputs p) = Some (record { kind = Box; corner = p })
subject_of (unwired p) = Some (record { kind = Box; corner = p })
subject_of (cycle p) = Some (record { kind = Waiter; corner = p })
subject_of f = None

-- the modules that are drawn
abbrev pub shapes : List Drawn → Program
shapes ds = map (λ (d : Drawn). d.shape) ds

-- module i has its upper left corner there
abbrev pub IsModuleAt : List Drawn → Place → ℕ → Type 0
IsModuleAt ds p i = (i < length ds) × (module_place ds i ≡ p)

-- a box has its upper left corner there
abbrev pub IsBoxAt : List Drawn → Place → ℕ × ℕ → Type 0
IsBoxAt ds p b = HasBox (shapes ds) b × (box_place ds b.0 b.1 ≡ p)

-- the picture of the first module with the name of module i
abbrev pub first_part : List ℕ → List Drawn → ℕ → List ℕ
first_part text ds i =
    codes "The first one stands here:\n"
    ++ lined (picture_lines text (module_place ds (find (shapes ds) (name_at (shapes ds) i))))

-- which box it is
abbrev pub box_line : List Drawn → ℕ × ℕ → List ℕ
box_line ds b = codes "It is " ++ box_text (shapes ds) b.0 b.1 ++ codes ".\n"

-- that a box waits for box b of module m
abbrev pub wait_line : List Drawn → ℕ → ℕ → List ℕ
wait_line ds m b = codes "  waits for " ++ box_text (shapes ds) m b ++ codes "\n"

-- and the picture of that one
abbrev pub wait_part : List ℕ → List Drawn → ℕ → ℕ → List ℕ
wait_part text ds m b = wait_line ds m b ++ lined (picture_lines text (box_place ds m b))

-- so many boxes have their pictures
abbrev pub most_shown : ℕ
most_shown = 9

-- for which boxes of module m a box waits, one after the other
abbrev pub waits_part : List ℕ → List Drawn → ℕ → List ℕ → List ℕ
waits_part text ds m bs =
    flat_map (wait_part text ds m) (take most_shown bs)
    ++ flat_map (wait_line ds m) (drop most_shown bs)

-- what is told of a box that waits for itself: for which boxes, back to itself
pub data WaiterTold (text : List ℕ) (ds : List Drawn) (b : ℕ × ℕ) : List ℕ → Type 0 where
  ring : (bs : List ℕ) → IsRing (module_at (shapes ds) b.0) b.1 bs →
      WaiterTold text ds b (box_line ds b ++ waits_part text ds b.0 (bs ++ b.1 ∷ []))
  none : (Reaches (module_at (shapes ds) b.0) b.1 b.1 → ⊥) → WaiterTold text ds b (box_line ds b)

-- what is told of the module or box with this upper left corner; where there is none, nothing
pub data IsToldOf (text : List ℕ) (ds : List Drawn) : Kind → Place → List ℕ → Type 0 where
  namesake : (p : Place) (i : ℕ) → IsModuleAt ds p i → IsToldOf text ds Namesake p (first_part text ds i)
  box : (p : Place) (b : ℕ × ℕ) → IsBoxAt ds p b → IsToldOf text ds Box p (box_line ds b)
  waiter : (p : Place) (b : ℕ × ℕ) (told : List ℕ) → IsBoxAt ds p b → WaiterTold text ds b told →
      IsToldOf text ds Waiter p told
  no_namesake : (p : Place) → ((i : ℕ) → IsModuleAt ds p i → ⊥) → IsToldOf text ds Namesake p []
  no_box : (p : Place) → ((b : ℕ × ℕ) → IsBoxAt ds p b → ⊥) → IsToldOf text ds Box p []
  no_waiter : (p : Place) → ((b : ℕ × ℕ) → IsBoxAt ds p b → ⊥) → IsToldOf text ds Waiter p []

-- what is told of the subject of a fault; of a text whose modules aren't read, and where there is no
-- subject, nothing
pub data IsSubjectTold (text : List ℕ) : Option Subject → List ℕ → Type 0 where
  of_modules : (s : Subject) (ds : List Drawn) (told : List ℕ) → drawn_of text (Ok ds) →
      IsToldOf text ds s.kind s.corner told → IsSubjectTold text (Some s) told
  no_modules : (s : Subject) (f : TextFault) → drawn_of text (Err f) → IsSubjectTold text (Some s) []
  no_subject : IsSubjectTold text None []

-- it has been added to a page
abbrev pub AddsSubject : List ℕ → Option Subject → (old new : List ℕ) → Type 0
AddsSubject text subject old new =
    (told : List ℕ) × IsSubjectTold text subject told × (new ≡ old ++ told)

abbrev pub AddsTold : List ℕ → List Drawn → Kind → Place → (old new : List ℕ) → Type 0
AddsTold text ds kind corner old new =
    (told : List ℕ) × IsToldOf text ds kind corner told × (new ≡ old ++ told)

abbrev pub AddsWaiter : List ℕ → List Drawn → ℕ × ℕ → (old new : List ℕ) → Type 0
AddsWaiter text ds b old new =
    (told : List ℕ) × WaiterTold text ds b told × (new ≡ old ++ told)
