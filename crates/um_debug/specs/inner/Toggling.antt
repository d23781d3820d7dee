-- What became of a thing in a list.
use Rattle.std.specs.Prelude.{◌≡◌, List}
use Rattle.um_debug.specs.declared.points.Toggle.{Toggle}
use Rattle.um_debug.specs.declared.points.Toggle.TheVariants as toggle
use Rattle.um_debug.specs.Session.{Toggled, Off, On, Full}

-- the list after it, and what is said of it
abbrev pub Became : {A : Type 0} → Toggled A → (old new : List A) → Toggle → Type 0
Became (Off xs) old new became = (became ≡ toggle.Off) × (new ≡ xs)
Became (On xs) old new became = (became ≡ toggle.On) × (new ≡ xs)
Became Full old new became = (became ≡ toggle.Full) × (new ≡ old)
