use Rattle.std.proofs.Common.{◌≡◌, ◌++◌, ap, ◌∙◌, subst, OnOk, codes, false}
use Rattle.codex_gen.specs.Generated.{strip}
use Rattle.grid_picture.specs.Lined.{lined}
use Rattle.codex_gen.specs.inner.Rows.{texts_of}
use Rattle.codex_gen.proofs.generating.push_main.Goals as goal

pub returns : goal.returns
returns c =
    subst (λ texts. OnOk c.push_strip.result (c.push_strip.new.text.items ≡ c.args.text.now.items ++ lined (strip (codes "main") false texts)))
    (ap texts_of c.deref.ensures.value ∙ c.in_ok-texts.ensures) c.push_strip.ensures
