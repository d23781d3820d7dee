use Rattle.std.proofs.Common.{◌-◌, ℕ, List, [], ◌∷◌, ◌++◌, map, take, drop, ap, ◌∙◌, arith}
use Rattle.std.proofs.lemmas.List.{take_all}
use Rattle.text_picture.specs.Rows.{shown}
use Rattle.text_picture.proofs.Pushed.{next_made}
use Rattle.text_picture.proofs.lines.push_cells.Goals as goal

pub loop-k-preserved : goal.loop-k-preserved
loop-k-preserved c =
    next_made shown c.args.page.now.items c.loop-k.page.items c.push.new.self.items c.first_cells-cells.result.now c.loop-k.k 0 (omega arith)
    c.loop-k.invariant (c.in_ok-push.ensures.items ∙ ap (λ (x : ℕ). c.loop-k.page.items ++ x ∷ []) c.shown.ensures)

pub returns : goal.returns
returns c =
    c.loop-k.invariant ∙ ap (λ (xs : List ℕ). c.args.page.now.items ++ map shown xs)
    (take_all c.loop-k.k c.first_cells-cells.result.now (omega arith)
    ∙ (c.first_cells-cells.ensures
    ∙ ap (take 80) (c.from_column.ensures ∙ ap (drop (c.args.first - 1)) c.less_end.ensures)))
