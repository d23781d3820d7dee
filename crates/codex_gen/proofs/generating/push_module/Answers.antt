use Rattle.std.proofs.Common.{◌≡◌, ◌++◌, ◌<◌, ◌≤◌, ◌^◌, length, ap, ◌∙◌, sym, subst, arith, OnOk, true}
use Rattle.codex_gen.specs.Generated.{form_texts, strip, strip_columns}
use Rattle.codex_gen.specs.inner.Rows.{next_text, texts_of}
use Rattle.grid_picture.specs.Lined.{lined}
use Rattle.codex_gen.proofs.ModuleNames.{name_long}
use Rattle.codex_gen.proofs.Modules.{columns_at}
use Rattle.codex_gen.proofs.generating.push_module.Goals as goal

pub push_strip-requires-clause-narrow : goal.push_strip-requires-clause-narrow
push_strip-requires-clause-narrow c =
    let few = (columns_at c.args.i c.args.form c.args.goes_on c.requires).1 in
    subst (λ texts. strip_columns texts < 2 ^ 32)
    (sym (ap texts_of c.deref-2.ensures.value ∙ c.in_ok-texts.ensures)) (omega arith)

pub push_strip-requires-clause-named : goal.push_strip-requires-clause-named
push_strip-requires-clause-named c =
    let many = (columns_at c.args.i c.args.form c.args.goes_on c.requires).0 in
    let short = name_long c.args.i (let few = c.requires in omega arith) in
    let e = ap length (c.deref.ensures.value ∙ c.in_ok-name.ensures) in
    subst (λ texts. length c.deref.result.now ≤ strip_columns texts)
    (sym (ap texts_of c.deref-2.ensures.value ∙ c.in_ok-texts.ensures)) (omega arith)

pub returns : goal.returns
returns c =
    subst (λ name. OnOk c.push_strip.result (c.push_strip.new.text.items ≡ c.args.text.now.items
    ++ lined (strip name true (form_texts c.args.form ++ next_text c.args.i c.args.goes_on))))
    (c.deref.ensures.value ∙ c.in_ok-name.ensures)
    (subst (λ texts. OnOk c.push_strip.result (c.push_strip.new.text.items ≡ c.args.text.now.items
    ++ lined (strip c.deref.result.now true texts)))
    (ap texts_of c.deref-2.ensures.value ∙ c.in_ok-texts.ensures) c.push_strip.ensures)
