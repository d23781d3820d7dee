-- A stray cell as the tables tell it.
use Rattle.std.specs.Prelude.{◌≡◌, List, None, Result}
use Rattle.umix_base.specs.declared.place.Place.{Place}
use Rattle.two_d.specs.Places.{IsFirstPlace, Within}
use Rattle.two_d.specs.Cells.{cell}
use Rattle.two_d.specs.Clean.{IsStray}
use Rattle.two_d.specs.Faults.{stray}
use Rattle.two_d.specs.Ports.{Drawing, IsNameCell}
use Rattle.two_d.specs.Reading.{Gives, refuse_at}
use Rattle.two_d.specs.Wires.{Trace}
use Rattle.wire_trace.specs.declared.fault.WireFault.{WireFault}
use Rattle.wire_trace.specs.declared.marks.Marks.{Marks}
use Rattle.wire_trace.specs.declared.owners.Owners.{Owners}
use Rattle.wire_trace.specs.declared.position.Axis.TheVariants.{Horizontal, Vertical}
use Rattle.wire_trace.specs.Answers.{wire_fault_of}
use Rattle.wire_trace.specs.inner.Areas.{IsMarked, owner_of}
use Rattle.wire_trace.specs.inner.Traces.{AreOccupied}

-- an interior cell that is no space and no cell of the name, has no box and isn't occupied
pub record IsLeft (m : Drawing) (owners : Owners) (marks : Marks) (p : Place) : Type 0 where
  pub interior : Within m.frame p
  pub no_space : cell m.grid p ≡ 32 → ⊥
  pub no_name : IsNameCell m p → ⊥
  pub no_box : owner_of owners p ≡ None
  pub not_along : IsMarked marks p Horizontal → ⊥
  pub not_down : IsMarked marks p Vertical → ⊥

-- none is stray beside the traces that are marked, or the first stray cell is the fault
abbrev pub StrayAnswers : Drawing → Marks → Result (Unit {0}) WireFault → Type 0
StrayAnswers m marks result =
    (traces : List Trace) → AreOccupied m marks traces
    → Gives (λ _. tt) wire_fault_of result (refuse_at stray (IsFirstPlace (IsStray m traces)))
