-- A name is that of no module where none is found.
use Rattle.std.proofs.Common.{sym, ap, ◌∙◌, refl}
use Rattle.two_d.specs.Programs.{modules_of, box_of, find}
use Rattle.two_d.specs.Trees.{form_of}
use Rattle.two_d.proofs.TableLemmas.{none_used, some_used}
use Rattle.two_d.proofs.table.uses_none.Goals as goal

pub returns-in-Some : goal.returns-in-Some
returns-in-Some c = (
  λ is. absurd (cc),
  λ uses. absurd (some_used (modules_of c.args.modules.now) (box_of c.args.row.now) c.in-Call.name c.in-Some.field-0 (ap form_of c.in-Call.is) c.in-Some.ensures.0 (ap (find (modules_of c.args.modules.now)) (sym c.bytes.ensures.bytes) ∙ c.in-Some.ensures.1) uses),
)

pub returns-in-None : goal.returns-in-None
returns-in-None c = (
  λ is. none_used (modules_of c.args.modules.now) (box_of c.args.row.now) c.in-Call.name (ap form_of c.in-Call.is) (ap (find (modules_of c.args.modules.now)) (sym c.bytes.ensures.bytes) ∙ c.in-None.ensures),
  λ uses. refl,
)
