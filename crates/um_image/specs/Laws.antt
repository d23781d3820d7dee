-- Machines and their images.
use Rattle.std.specs.Prelude.{◌≡◌, ℕ, ◌+◌, ◌<◌, ◌≤◌, ◌↔◌, List, [], ◌++◌, length, drop, All}
use Rattle.um_machine.specs.declared.stop.Stop.{Stop}
use Rattle.um_machine.specs.declared.stop.Stop.TheVariants.{Halted, Budget, ReadFault, WriteFault}
use Rattle.um_machine.specs.declared.stop.Stop.TheVariants.{Memory}
use Rattle.um_machine.specs.MachineView.{MachineView, state_of}
use Rattle.um_machine.specs.Runs.{RunEnds}
use Rattle.um_image.specs.Counting.{TakesBytes}
use Rattle.um_image.specs.Image.{HasImage, image_of, IsImage, most_image_bytes}
use Rattle.um_image.specs.Rules.{KeepsRules}

-- no other machine, and no other number of bytes taken, has the same image
abbrev pub ImagesTellApart : Type 0
ImagesTellApart = (m n : MachineView) (taken count : ℕ) →
    HasImage m taken → HasImage n count → image_of m taken ≡ image_of n count →
    (m ≡ n) × (taken ≡ count)

-- the images of machines are just the bytes whose words keep the rules of the table
abbrev pub ImagesKeepRules : Type 0
ImagesKeepRules = (bytes : List ℕ) → IsImage bytes ↔ KeepsRules bytes

-- no image has more bytes than the reader takes
abbrev pub ImagesAreShort : Type 0
ImagesAreShort = (bytes : List ℕ) → IsImage bytes → length bytes ≤ most_image_bytes

-- the machine that such a run leaves is saved
abbrev pub IsSavedEnd : Stop → Type 0
IsSavedEnd Halted = Unit {0}
IsSavedEnd Budget = Unit {0}
IsSavedEnd stop = ⊥

-- an end that neither the outside nor want of memory made
abbrev pub IsOwnEnd : Stop → Type 0
IsOwnEnd ReadFault = ⊥
IsOwnEnd WriteFault = ⊥
IsOwnEnd Memory = ⊥
IsOwnEnd stop = Unit {0}

-- A run on this input made its n cycles or halted. It took so many bytes, left the rest, wrote
-- `out`, and came to a machine that has an image.
pub record SavedRun (n : ℕ) (first saved : MachineView) (input left out : List ℕ) (taken : ℕ) :
    Type 0 where
  pub stop : Stop
  pub own : IsSavedEnd stop
  pub run : RunEnds n first saved (state_of first input []) (state_of saved left out) stop
  pub takes : TakesBytes (state_of first input []) (state_of saved left out) taken
  pub limits : saved.limits ≡ first.limits
  pub image : HasImage saved taken

-- A run of n cycles on an input of bytes is saved. A machine and a number with that image are read,
-- and the machine runs up to m cycles on the input without its first bytes, as many as the number.
-- Both together are a run of n + m cycles: the machine, its identifiers and its number of cycles,
-- and the fault where it meets one, are that run's, and its output is the first output followed by
-- the second.
abbrev pub ResumedRunsGoOn : Type 0
ResumedRunsGoOn =
    (n m taken count : ℕ) (first saved read now : MachineView)
    (input left out rest more : List ℕ) (stop : Stop) →
    All (λ byte. byte < 256) input → SavedRun n first saved input left out taken →
    HasImage read count → image_of read count ≡ image_of saved taken →
    RunEnds m read now (state_of read (drop count input) []) (state_of now rest more) stop →
    IsOwnEnd stop →
    RunEnds (n + m) first now (state_of first input []) (state_of now rest (out ++ more)) stop

-- Where the second run is saved too, both together are one saved run, which took the bytes of both: so
-- a run may be cut at as many places as one likes.
abbrev pub ResumedRunsJoin : Type 0
ResumedRunsJoin =
    (n m taken count given : ℕ) (first saved read now : MachineView)
    (input left out rest more : List ℕ) →
    All (λ byte. byte < 256) input → SavedRun n first saved input left out taken →
    HasImage read count → image_of read count ≡ image_of saved taken →
    SavedRun m read now (drop count input) rest more given →
    SavedRun (n + m) first now input rest (out ++ more) (count + given)
