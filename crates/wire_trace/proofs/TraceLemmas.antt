-- What the tracing of one wire knows from one cell to the next, and what it answers.
use Rattle.std.proofs.Common.{◌++◌, inl, inr, List, [], ◌∷◌, Err, sym, subst}
use Rattle.umix_base.specs.declared.place.Place.{Place}
use Rattle.two_d.specs.Faults.{broken_wire, merge, bad_turn}
use Rattle.two_d.specs.Reading.{Refuses}
use Rattle.two_d.specs.Ports.{Drawing}
use Rattle.two_d.specs.Wires.{Position, Trace, StartsAt, Collide, IsTaker, GoesOn}
use Rattle.two_d.specs.Clean.{wire_at}
use Rattle.two_d.specs.declared.module.Origin.{Origin}
use Rattle.two_d.proofs.SomeReading.{decided_any}
use Rattle.two_d.proofs.SomeSteps.{decided_collide, goes_on_some}
use Rattle.two_d.proofs.SomeTraces.{some_trace}
use Rattle.wire_trace.specs.declared.fault.WireFault.{WireFault}
use Rattle.wire_trace.specs.declared.fault.WireFault.TheVariants.{TwoPorts, BrokenWire, BadTurn, Merge, Stray, Memory}
use Rattle.wire_trace.specs.declared.marks.Marks.{Marks}
use Rattle.wire_trace.specs.Answers.{wire_fault_of}
use Rattle.wire_trace.specs.inner.Sheets.{IsLaidOut}
use Rattle.wire_trace.specs.inner.Traces.{AreOccupied}
use Rattle.wire_trace.specs.inner.Ways.{IsOccupied, OccupiesAt, StepsTo, StepFails}
use Rattle.wire_trace.proofs.Marking.{marks_first, marks_next, free_of_all, taken_by}
use Rattle.wire_trace.proofs.StartLemmas.{start_no_turn}
use Rattle.wire_trace.proofs.Tracing.{IsUnder, under_first, under_next, wire_stands, wire_breaks, wire_meets_itself, wire_meets_earlier}
use Rattle.wire_trace.proofs.WayLemmas.{taker_covers}

-- the cells of a wire that has come to a position are known, and marked beside those of the earlier wires
abbrev pub IsFollowed : Drawing → List Trace → Position → Position → Marks → Type 0
IsFollowed m earlier start here marks = (way : Trace) × IsUnder m earlier start here way × AreOccupied m marks (earlier ++ way ∷ [])

pub followed_first : (m : Drawing) (old new : Marks) (earlier : List Trace) (start : Position) (o : Origin) → StartsAt m start o → OccupiesAt m old new start → AreOccupied m old earlier → IsFollowed m earlier start start new
followed_first m old new earlier start o starts occupies told =
    (start ∷ [], under_first m earlier start (start_no_turn m start o starts), marks_first m old new earlier start told occupies)

pub followed_next : (m : Drawing) (old new : Marks) (earlier : List Trace) (start here t : Position) → IsLaidOut m → StepsTo m old here t → OccupiesAt m old new t → IsFollowed m earlier start here old → IsFollowed m earlier start t new
followed_next m old new earlier start here t laid step occupies (way, under, told) = (
  way ++ t ∷ [],
  under_next m earlier start here t way under step.goes step.taker (free_of_all m old earlier way t told (taker_covers m t laid step.taker) step.free),
  marks_next m old new earlier way t told occupies,
)

-- it comes to a cell that is occupied
meets : (m : Drawing) (marks : Marks) (earlier : List Trace) (start here t : Position) (o : Origin) → IsLaidOut m → StartsAt m start o → GoesOn m here (t ∷ []) → IsTaker m t → IsOccupied marks t → IsFollowed m earlier start here marks → wire_at m earlier start (Err (merge t.place))
meets m marks earlier start here t o laid starts goes taker marked (way, under, told) = elim (decided_any (Collide m t) (decided_collide m t) way) [
  | inl own ↦ wire_meets_itself m earlier start here t way under goes taker own
  | inr free ↦ elim (taken_by m marks earlier way t told (taker_covers m t laid taker) marked) [
    | inl other ↦ (let (trace, is) = some_trace m start (o, starts) in wire_meets_earlier m earlier start here t way trace under goes taker free other is (goes_on_some m))
    | inr own ↦ absurd (free own)
  ]
]

-- it can't go on
pub fails : (m : Drawing) (marks : Marks) (earlier : List Trace) (start here : Position) (o : Origin) (fault : WireFault) → IsLaidOut m → StartsAt m start o → StepFails m marks here fault → IsFollowed m earlier start here marks → Refuses (wire_at m earlier start) (wire_fault_of fault)
fails m marks earlier start here o (BadTurn p) laid starts (is, turn, goes) (way, under, told) =
    subst (λ (q : Place). wire_at m earlier start (Err (bad_turn q))) (sym is) (wire_stands m earlier start here way under (turn, goes))
fails m marks earlier start here o (BrokenWire p) laid starts (t, goes, isnt, is) (way, under, told) =
    subst (λ (q : Place). wire_at m earlier start (Err (broken_wire q))) (sym is) (wire_breaks m earlier start here t way under goes isnt)
fails m marks earlier start here o (Merge p) laid starts (t, goes, taker, marked, is) followed =
    subst (λ (q : Place). wire_at m earlier start (Err (merge q))) (sym is) (meets m marks earlier start here t o laid starts goes taker marked followed)
fails m marks earlier start here o (TwoPorts p) laid starts failed followed = absurd failed
fails m marks earlier start here o (Stray p) laid starts failed followed = absurd failed
fails m marks earlier start here o Memory laid starts failed followed = absurd failed
