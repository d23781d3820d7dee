use Rattle.std.specs.Prelude.{Some, slice_set}
use Rattle.std.proofs.Common.{refl, sym, ◌∙◌, ap, arith}
use Rattle.fire_core.specs.declared.rows.Place.TheVariants.{Ended}
use Rattle.fire_core.specs.declared.rows.Row.{Row}
use Rattle.fire_core.specs.inner.Rows.{RowForm}
use Rattle.fire_core.specs.inner.Places.{rows_at}
use Rattle.fire_core.proofs.PlaceLemmas.{within, place_is, changed_seen, rows_at-moved, AreHeld-moved, live-seen, rows_at-ended, AreHeld-ended, ended-seen, has_outcome}
use Rattle.fire_core.proofs.rows.Rows.close.Goals as goal

pub invariant_of-self : goal.invariant_of-self
invariant_of-self c =
    let lt = within _ _ _ _ _ c.self.view_is c.requires.there in
    let at = place_is _ _ _ _ c.index.ensures lt c.in-Live.is in
    let row = c.remove-row.result in
    let removed = c.remove-row.ensures in
    rw (c.push_reserved.ensures.items, c.push_reserved.ensures.capacity)
    (AreHeld-moved _ _ _ _ c.args.number c.in-Live.key row _ c.self.invariant lt at removed.value
    _ removed.updates.others c.len.result (omega (arith, c.len.ensures)) refl removed.len)

pub returns-in-Live : goal.returns-in-Live
returns-in-Live c =
    let lt = within _ _ _ _ _ c.self.view_is c.requires.there in
    let at = place_is _ _ _ _ c.index.ensures lt c.in-Live.is in
    let row = c.remove-row.result in
    let new : Row = record row { outcome = Some c.args.outcome } in
    let removed = c.remove-row.ensures in
    ap (λ l. rows_at c.remove-row.new.self.slots l (slice_set c.self.inside.places.items c.args.number (Ended c.len.result))) c.push_reserved.ensures.items
    ∙ (rows_at-moved _ _ _ _ c.args.number c.in-Live.key row new c.self.invariant lt at removed.value _ removed.updates.others c.len.result (omega (arith, c.len.ensures))
    ∙ changed_seen _ _ c.args.number row new (λ (r : RowForm). record r { outcome = Some c.args.outcome }) c.self.view_is
    (live-seen _ _ _ _ c.args.number c.in-Live.key row row c.self.invariant lt at removed.value _ c.self.view_is c.requires.there) refl)

pub invariant_of-self-in-Ended : goal.invariant_of-self-in-Ended
invariant_of-self-in-Ended c =
    let lt = within _ _ _ _ _ c.self.view_is c.requires.there in
    let at = place_is _ _ _ _ c.index.ensures lt c.in-Ended.is in
    let row = c.index_mut-in-Ended.result.now in
    let read = c.index_mut-in-Ended.ensures.value in
    AreHeld-ended _ _ _ _ c.args.number c.in-Ended.at row _ c.self.invariant lt at read (sym (has_outcome _ _ _ _ c.args.number c.in-Ended.at row row c.self.invariant lt at read))

pub returns-in-Ended : goal.returns-in-Ended
returns-in-Ended c =
    let lt = within _ _ _ _ _ c.self.view_is c.requires.there in
    let at = place_is _ _ _ _ c.index.ensures lt c.in-Ended.is in
    let row = c.index_mut-in-Ended.result.now in
    let new : Row = record row { outcome = Some c.args.outcome } in
    let read = c.index_mut-in-Ended.ensures.value in
    rows_at-ended _ _ _ _ c.args.number c.in-Ended.at row new c.self.invariant lt at read
    ∙ changed_seen _ _ c.args.number row new (λ (r : RowForm). record r { outcome = Some c.args.outcome }) c.self.view_is
    (ended-seen _ _ _ _ c.args.number c.in-Ended.at row row c.self.invariant lt at read _ c.self.view_is c.requires.there) refl
