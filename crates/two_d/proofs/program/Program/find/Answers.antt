-- A name is found among the names that are kept.
use Rattle.std.proofs.Common.{◌≡◌, sym, ◌∙◌, ap}
use Rattle.std.proofs.lemmas.List.{length-map}
use Rattle.std.specs.Option.{unwrap_or}
use Rattle.std.specs.Prelude.{length}
use Rattle.two_d.specs.Good.{names_in}
use Rattle.two_d.specs.inner.NameLists.{listed, number_in}
use Rattle.two_d.specs.Programs.{ModuleForm}
use Rattle.two_d.proofs.Listed.{find_listed}
use Rattle.two_d.proofs.program.Program.find.Goals as goal

pub returns-clause-number : goal.returns-clause-number
returns-clause-number c =
    let P = c.args.self.now in
    let named : listed c.self.inside.names ≡ names_in P = c.self.invariant.named ∙ ap names_in c.self.view_is in
    let long : length (listed c.self.inside.names) ≡ length P = ap length named ∙ length-map P (λ (m : ModuleForm). m.name) in
    ap (λ n. unwrap_or c.number_of.result n) (sym long)
    ∙ c.number_of.ensures.number
    ∙ ap (λ names. number_in names c.bytes.result.now) named
    ∙ ap (number_in (names_in P)) c.bytes.ensures.bytes
    ∙ sym (find_listed P c.args.name.now)
