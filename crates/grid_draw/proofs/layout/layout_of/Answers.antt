use Rattle.std.proofs.Common.{◌≡◌, ◌+◌, ℕ, List, [], ◌∷◌, ◌++◌, Vec, length, map, max, sym, ap, subst, ◌∙◌, arith}
use Rattle.std.specs.Global.{Global}
use Rattle.std.specs.Prelude.{All}
use Rattle.two_d.specs.Programs.{BoxForm, box_of}
use Rattle.two_d.specs.Trees.{IsWithin}
use Rattle.two_d.specs.declared.module.BoxRow.{BoxRow}
use Rattle.grid_draw.proofs.LayoutBuilt.{Measured, measured_next, within_at}
use Rattle.grid_draw.proofs.layout.layout_of.Goals as goal

pub show-requires : goal.show-requires
show-requires c =
    within_at c.deref-row-items.result.now c.loop-row.row-index c.row-item.result c.loop-row-test.true c.row-item.is
    (subst (λ (rows : List BoxRow). All (λ (r : BoxForm). IsWithin r.command) (map box_of rows)) (sym c.deref-row-items.ensures.value)
    c.requires.sound.commands)

pub loop-row-preserved : goal.loop-row-preserved
loop-row-preserved c =
    let rows = c.deref-row-items.result.now in
    let name = length c.args.module.now.name in
    let k = c.loop-row.row-index in
    let texts = c.loop-row.texts.items ++ c.in_ok-text.text ∷ [] in
    let next : Measured rows name (k + 1) texts (max c.loop-row.reach (c.len.result + 5))
    = measured_next rows name k c.loop-row.texts.items c.loop-row.reach c.len.result c.row-item.result c.in_ok-text.text
    c.loop-row-test.true c.row-item.is c.in_ok-text.ensures.canonical
    (omega (arith, c.len.ensures, c.in_ok-text.text.ok)) (omega (arith, c.len.ensures, c.in_ok-text.text.ok, c.in_ok-text.text.small)) c.loop-row.invariant in
    subst (λ (ts : List (Vec ℕ Global)). Measured rows name (k + 1) ts c.max-reach.result) (sym c.in_ok-push.ensures.items)
    (subst (λ (n : ℕ). Measured rows name (k + 1) texts n) (sym c.max-reach.ensures) next)
