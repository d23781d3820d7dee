-- As many marks are set before the boxes as behind them.
use Rattle.std.specs.Prelude.{◌≡◌, ◌==◌, ◌<◌, ◌+◌, ℕ, not, length}
use Rattle.std.proofs.Common.{◌∙◌, ap, subst, sym, arith}
use Rattle.std.proofs.lemmas.List.{get_or_read}
use Rattle.mark_list.specs.Marks.{at, is_marked}
use Rattle.two_d.specs.Meaning.{all_below}
use Rattle.ready_marks.specs.Slots.{SlotsView}
use Rattle.ready_marks.proofs.Quiet.{quiet-marks}
use Rattle.ready_marks.proofs.slots.Slots.is_quiet.Goals as goal

pub returns : goal.returns
returns c =
    let there : c.args.number < length c.self.inside.starts.items = subst (λ (v : SlotsView). c.args.number < length v.starts) (sym c.self.view_is) c.requires.there in
    let first : c.index-first.result.now ≡ at c.self.inside.starts.items c.args.number = get_or_read c.self.inside.starts.items c.args.number c.index-first.result.now there c.index-first.ensures 0 in
    subst (λ (v : SlotsView). c.is_clear.result ≡ all_below c.args.boxes (λ b. not (is_marked v.marks (at v.starts c.args.number + b)))) c.self.view_is
    (rw (c.is_clear.ensures, first) (quiet-marks c.self.inside.marks (at c.self.inside.starts.items c.args.number) c.args.boxes))
