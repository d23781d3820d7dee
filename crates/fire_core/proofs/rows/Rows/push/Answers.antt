use Rattle.std.specs.Prelude.{◌≡◌, ◌++◌, ◌∷◌, [], None, slice_index_or}
use Rattle.std.proofs.Common.{sym, ◌∙◌, ap}
use Rattle.slab.specs.Slab.{Slab}
use Rattle.fire_core.specs.declared.rows.Place.TheVariants.{Live}
use Rattle.fire_core.specs.declared.rows.Row.{Row}
use Rattle.fire_core.specs.inner.Rows.{row_of}
use Rattle.fire_core.specs.inner.Places.{rows_at}
use Rattle.fire_core.proofs.PlaceLemmas.{rows_at-pushed}
use Rattle.fire_core.proofs.rows.Rows.push.Goals as goal

pub returns-clause-ok : goal.returns-clause-ok
returns-clause-ok c =
    let key = c.insert_reserved-key.result in
    let inserted = c.insert_reserved-key.ensures in
    let after = c.insert_reserved-key.new.self.slots in
    let kept : c.reserve-2.new.self.slots ≡ c.self.inside.live.slots = ap (λ (s : Slab Row). s.slots) c.reserve-2.ensures.rest_kept in
    ap (λ l. rows_at after l c.push_reserved.new.self.items) c.reserve-3.ensures.items
    ∙ (ap (rows_at after c.self.inside.ended.items) (c.push_reserved.ensures.items ∙ ap (λ l. l ++ Live key ∷ []) c.reserve.ensures.items)
    ∙ (rows_at-pushed c.self.inside.live.slots after c.self.inside.ended.items c.self.inside.places.items _ 0 key c.args.row c.self.invariant
    (ap (λ l. slice_index_or l key None) (sym kept) ∙ inserted.was_vacant) inserted.updates.changed
    (λ other differs. inserted.updates.others other differs ∙ ap (λ l. slice_index_or l other None) kept)
    ∙ ap (λ l. l ++ row_of c.args.row ∷ []) c.self.view_is))
