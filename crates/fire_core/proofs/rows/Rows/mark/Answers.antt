use Rattle.std.specs.Prelude.{Some, slice_set}
use Rattle.std.specs.Vec.{with_item}
use Rattle.std.proofs.Common.{refl, ◌∙◌}
use Rattle.fire_core.specs.declared.rows.Row.{Row}
use Rattle.fire_core.specs.inner.Rows.{RowForm}
use Rattle.fire_core.proofs.PlaceLemmas.{within, place_is, changed_seen, rows_at-live, AreHeld-live, live-seen, rows_at-ended, AreHeld-ended, ended-seen}
use Rattle.fire_core.proofs.rows.Rows.mark.Goals as goal

pub invariant_of-self : goal.invariant_of-self
invariant_of-self c =
    let lt = within _ _ _ _ _ c.self.view_is c.requires.there in
    let at = place_is _ _ _ _ c.index.ensures lt c.in-Live.is in
    let row = c.index_mut.result.now in
    AreHeld-live _ _ _ _ c.args.number c.in-Live.key row _ c.self.invariant lt at c.index_mut.ensures.value refl

pub returns-in-Live : goal.returns-in-Live
returns-in-Live c =
    let lt = within _ _ _ _ _ c.self.view_is c.requires.there in
    let at = place_is _ _ _ _ c.index.ensures lt c.in-Live.is in
    let row = c.index_mut.result.now in
    let new : Row = record row { cells = with_item row.cells c.args.bx (Some c.args.cell) } in
    let stood = c.index_mut.ensures.value in
    rows_at-live _ _ _ _ c.args.number c.in-Live.key row new c.self.invariant lt at stood
    ∙ changed_seen _ _ c.args.number row new (λ (r : RowForm). record r { cells = slice_set r.cells c.args.bx (Some c.args.cell) }) c.self.view_is
    (live-seen _ _ _ _ c.args.number c.in-Live.key row row c.self.invariant lt at stood _ c.self.view_is c.requires.there) refl

pub invariant_of-self-in-Ended : goal.invariant_of-self-in-Ended
invariant_of-self-in-Ended c =
    let lt = within _ _ _ _ _ c.self.view_is c.requires.there in
    let at = place_is _ _ _ _ c.index.ensures lt c.in-Ended.is in
    let row = c.index_mut-in-Ended.result.now in
    let read = c.index_mut-in-Ended.ensures.value in
    AreHeld-ended _ _ _ _ c.args.number c.in-Ended.at row _ c.self.invariant lt at read refl

pub returns-in-Ended : goal.returns-in-Ended
returns-in-Ended c =
    let lt = within _ _ _ _ _ c.self.view_is c.requires.there in
    let at = place_is _ _ _ _ c.index.ensures lt c.in-Ended.is in
    let row = c.index_mut-in-Ended.result.now in
    let new : Row = record row { cells = with_item row.cells c.args.bx (Some c.args.cell) } in
    let read = c.index_mut-in-Ended.ensures.value in
    rows_at-ended _ _ _ _ c.args.number c.in-Ended.at row new c.self.invariant lt at read
    ∙ changed_seen _ _ c.args.number row new (λ (r : RowForm). record r { cells = slice_set r.cells c.args.bx (Some c.args.cell) }) c.self.view_is
    (ended-seen _ _ _ _ c.args.number c.in-Ended.at row row c.self.invariant lt at read _ c.self.view_is c.requires.there) refl
