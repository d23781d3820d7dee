use Rattle.std.proofs.Common.{inl, inr, sym, ◌∙◌}
use Rattle.wire_trace.specs.declared.position.Axis.TheVariants.{Horizontal, Vertical}
use Rattle.std.proofs.Common.{ℕ, ◌<◌, IsTrue, false, get_or, subst, length, arith}
use Rattle.wire_trace.specs.inner.Areas.{IsMarked}
use Rattle.wire_trace.specs.declared.position.Axis.{Axis}
use Rattle.wire_trace.proofs.Falses.{set_no_more, set_fewer}
use Rattle.wire_trace.proofs.Numbers.{marked_after}
use Rattle.wire_trace.proofs.marks.Marks.add.Goals as goal

pub returns-in-Horizontal-clause-occupies : goal.returns-in-Horizontal-clause-occupies
returns-in-Horizontal-clause-occupies c q Horizontal within =
    let both = marked_after c.args.self.now.area c.args.self.now.horizontal.items c.args.place q c.number-number.result c.number-number.ensures.number c.requires.marks.horizontal c.requires.place within in (
      (λ m. elim (both.0 m) [ inl old ↦ inl old | inr same ↦ inr (same, sym c.in-Horizontal.is) ]),
      (λ m. elim m [ inl old ↦ both.1 (inl old) | inr new ↦ both.1 (inr new.0) ]),
    )
returns-in-Horizontal-clause-occupies c q Vertical within = (
  (λ m. inl m),
  (λ m. elim m [ inl old ↦ old | inr new ↦ absurd (let e = new.1 ∙ c.in-Horizontal.is in cc) ]),
)

pub returns-in-Vertical-clause-occupies : goal.returns-in-Vertical-clause-occupies
returns-in-Vertical-clause-occupies c q Vertical within =
    let both = marked_after c.args.self.now.area c.args.self.now.vertical.items c.args.place q c.number-number.result c.number-number.ensures.number c.requires.marks.vertical c.requires.place within in (
      (λ m. elim (both.0 m) [ inl old ↦ inl old | inr same ↦ inr (same, sym c.in-Vertical.is) ]),
      (λ m. elim m [ inl old ↦ both.1 (inl old) | inr new ↦ both.1 (inr new.0) ]),
    )
returns-in-Vertical-clause-occupies c q Horizontal within = (
  (λ m. inl m),
  (λ m. elim m [ inl old ↦ old | inr new ↦ absurd (let e = new.1 ∙ c.in-Vertical.is in cc) ]),
)

pub returns-in-Horizontal-clause-no_more : goal.returns-in-Horizontal-clause-no_more
returns-in-Horizontal-clause-no_more c = let le = set_no_more c.args.self.now.horizontal.items c.number-number.result in omega arith

pub returns-in-Horizontal-clause-fewer : goal.returns-in-Horizontal-clause-fewer
returns-in-Horizontal-clause-fewer c isnt =
    let low : c.number-number.result < length c.args.self.now.horizontal.items = omega (arith, c.number-number.ensures.below, c.requires.marks.horizontal) in
    let less = set_fewer c.args.self.now.horizontal.items c.number-number.result low
    (λ m. isnt (subst (λ (a : Axis). IsMarked c.args.self.now c.args.place a) (sym c.in-Horizontal.is) (subst (λ (n : ℕ). IsTrue (get_or c.args.self.now.horizontal.items n false)) c.number-number.ensures.number m))) in
    omega arith

pub returns-in-Vertical-clause-no_more : goal.returns-in-Vertical-clause-no_more
returns-in-Vertical-clause-no_more c = let le = set_no_more c.args.self.now.vertical.items c.number-number.result in omega arith

pub returns-in-Vertical-clause-fewer : goal.returns-in-Vertical-clause-fewer
returns-in-Vertical-clause-fewer c isnt =
    let low : c.number-number.result < length c.args.self.now.vertical.items = omega (arith, c.number-number.ensures.below, c.requires.marks.vertical) in
    let less = set_fewer c.args.self.now.vertical.items c.number-number.result low
    (λ m. isnt (subst (λ (a : Axis). IsMarked c.args.self.now c.args.place a) (sym c.in-Vertical.is) (subst (λ (n : ℕ). IsTrue (get_or c.args.self.now.vertical.items n false)) c.number-number.ensures.number m))) in
    omega arith
