use Rattle.std.proofs.Common.{ℕ, List, ◌∷◌, [], ◌++◌, map, ap, ◌∙◌, arith}
use Rattle.std.proofs.lemmas.List.{take_all}
use Rattle.text_picture.specs.Rows.{shown}
use Rattle.text_picture.proofs.Pushed.{next_made}
use Rattle.asm_view.proofs.rows.push_shown.Goals as goal

pub loop-k-preserved : goal.loop-k-preserved
loop-k-preserved c =
    next_made shown c.args.page.now.items c.loop-k.page.items c.push.new.self.items c.args.bytes.now c.loop-k.k 0 (omega arith)
    c.loop-k.invariant (c.in_ok-push.ensures.items ∙ ap (λ (x : ℕ). c.loop-k.page.items ++ x ∷ []) c.shown.ensures)

pub returns : goal.returns
returns c =
    c.loop-k.invariant ∙ ap (λ (xs : List ℕ). c.args.page.now.items ++ map shown xs) (take_all c.loop-k.k c.args.bytes.now (omega arith))
