-- As many marks are set as events are ready.
use Rattle.std.specs.Prelude.{length}
use Rattle.std.proofs.Common.{◌∙◌, sym, ap, subst}
use Rattle.ready_marks.specs.Slots.{slots_view, AreReady}
use Rattle.ready_marks.proofs.MarkedReady.{kept-count}
use Rattle.ready_marks.proofs.slots.Slots.len.Goals as goal

pub returns : goal.returns
returns c = λ P T is. c.count.ensures ∙ kept-count P T (slots_view c.self.inside.starts.items c.self.inside.marks) (subst (AreReady P T) (sym c.self.view_is) is)
