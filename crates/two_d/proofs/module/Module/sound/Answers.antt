-- What the tests say is soundness.
use Rattle.std.proofs.Common.{arith, sym, subst}
use Rattle.std.specs.Prelude.{All}
use Rattle.std.proofs.lemmas.Bool.{iff_false}
use Rattle.std.proofs.lemmas.List.{length-map}
use Rattle.two_d.specs.Programs.{module_of, box_of}
use Rattle.two_d.specs.Trees.{IsWithin, form_of}
use Rattle.two_d.proofs.Alls.{all_mapped, all_of_mapped}
use Rattle.two_d.proofs.EndLemmas.{sound_from, known_of, apart_of}
use Rattle.two_d.proofs.module.Module.sound.Goals as goal

pub returns-then-not-are_within : goal.returns-then-not-are_within
returns-then-not-are_within c = (
  λ is. absurd (cc),
  λ sound. absurd (iff_false c.are_within.ensures c.if-not-are_within.true
      (subst (All (λ row. IsWithin (form_of row.command))) (sym c.deref.ensures.value) (all_of_mapped box_of (λ row. IsWithin row.command) c.args.self.now.boxes.items sound.commands))),
)

pub returns-then-not-are_known : goal.returns-then-not-are_known
returns-then-not-are_known c = (
  λ is. absurd (cc),
  λ sound. absurd (iff_false c.are_known.ensures c.if-not-are_known.true (known_of (module_of c.args.self.now) sound)),
)

pub returns : goal.returns
returns c = (
  λ apart. sound_from (module_of c.args.self.now) c.bytes.ensures.name (c.are_known.ensures.0 c.if-not-are_known.false) (c.are_apart.ensures.0 apart)
      (all_mapped box_of (λ row. IsWithin row.command) c.args.self.now.boxes.items
      (subst (All (λ row. IsWithin (form_of row.command))) c.deref.ensures.value (c.are_within.ensures.0 c.if-not-are_within.false)))
      (omega (arith, length-map c.args.self.now.boxes.items box_of)) (omega arith),
  λ sound. c.are_apart.ensures.1 (apart_of (module_of c.args.self.now) sound),
)
