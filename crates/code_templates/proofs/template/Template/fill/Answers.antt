use Rattle.std.proofs.Common.{◌≤◌, map, arith, length, length-set, sym, ◌∙◌, ap}
use Rattle.code_templates.specs.Rows.{filled}
use Rattle.code_templates.proofs.Words.{take_set_map, take_all, filled_stand}
use Rattle.code_templates.proofs.template.Template.fill.Goals as goal

pub loop-at-preserved : goal.loop-at-preserved
loop-at-preserved g c = record {
  count = c.loop-at.invariant.count;
  long = length-set c.loop-at.words c.loop-at.at c.fill_row.result ∙ c.loop-at.invariant.long;
  so_far = rw c.fill_row.ensures (take_set_map _ c.loop-at.words c.args.self.now.rows c.loop-at.at _ (omega (arith, c.loop-at.invariant.count)) c.loop-at.invariant.long c.loop-at.invariant.so_far);
}

pub returns : goal.returns
returns g c =
    let n : g.row.N ≤ c.loop-at.at = omega arith in
    let w : length c.loop-at.words ≤ c.loop-at.at = omega (arith, c.loop-at.invariant.count, c.loop-at.invariant.long) in
    let r : length c.args.self.now.rows ≤ c.loop-at.at = omega (arith, c.loop-at.invariant.count) in
    let words = sym (take_all _ _ w) ∙ c.loop-at.invariant.so_far ∙ ap (map (filled c.args.holes.now.values)) (take_all _ _ r) in
    record { words = words; says = λ ops say. filled_stand c.loop-at.words c.args.holes.now.values c.args.self.now.rows ops words c.requires.holes say }
