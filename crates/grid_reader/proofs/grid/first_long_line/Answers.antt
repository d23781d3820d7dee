use Rattle.std.proofs.Common.{[], length, sym, ap, ◌∙◌, arith, below_more}
use Rattle.std.proofs.lemmas.List.{get_or-map}
use Rattle.grid_reader.proofs.grid.first_long_line.Goals as goal

pub loop-i-preserved : goal.loop-i-preserved
loop-i-preserved c = below_more _ _ c.loop-i.invariant (λ long.
    let lines = c.args.lines.now in
    let is = get_or-map (λ v. v.items) lines c.loop-i.i c.index-lines-i.result [] (omega arith) ∙ ap (λ v. v.items) (sym c.index-lines-i.is) in
    omega (arith, ap length is))
