use Rattle.std.specs.Prelude.{◌≡◌, Some, None}
use Rattle.std.proofs.Common.{refl, sym, ◌∙◌, subst}
use Rattle.two_d.specs.Names.{IsName}
use Rattle.type_sheet.specs.inner.Cut.{behind_byte}
use Rattle.type_sheet.proofs.OneLine.{run_name}
use Rattle.type_sheet.proofs.Worded.{cut_joined, cut_told}
use Rattle.type_sheet.proofs.tokens.names_in.Goals as goal

pub returns-in_default : goal.returns-in_default
returns-in_default c b d is other joined =
    let told = (cut_told c.args.mark c.args.text.now b d c.requires (run_name b is) joined).1 in
    let none : behind_byte c.args.mark c.args.text.now ≡ None = sym c.cut.ensures.back ∙ rw c.in_default.is refl in
    cc

pub returns-in_default-2 : goal.returns-in_default-2
returns-in_default-2 c b d is other joined =
    let told = (cut_told c.args.mark c.args.text.now b d c.requires (run_name b is) joined).0 in
    let first : c.cut.result.0.now ≡ b = c.cut.ensures.front ∙ told in
    let bad : IsName c.cut.result.0.now → ⊥ = rw c.in_default-2.is at c.in_ok-first.ensures.name in
    bad (subst IsName (sym first) is)

pub returns-in_default-3 : goal.returns-in_default-3
returns-in_default-3 c b d is other joined =
    let told = (cut_told c.args.mark c.args.text.now b d c.requires (run_name b is) joined).1 in
    let some : behind_byte c.args.mark c.args.text.now ≡ Some c.in-Some.second.now = sym c.cut.ensures.back ∙ rw c.in-Some.is refl in
    let second : c.in-Some.second.now ≡ d = cc in
    let bad : IsName c.in-Some.second.now → ⊥ = rw c.in_default-3.is at c.in_ok-second.ensures.name in
    bad (subst IsName (sym second) other)

pub returns : goal.returns
returns c =
    let first = rw c.in-Some-2.is at c.in_ok-first.ensures.name in
    let second = rw c.in-Some-3.is at c.in_ok-second.ensures.name in
    let some : behind_byte c.args.mark c.args.text.now ≡ Some c.in-Some.second.now = sym c.cut.ensures.back ∙ rw c.in-Some.is refl in (
      subst IsName (sym first.0) first.1,
      subst IsName (sym second.0) second.1,
      rw (first.0, second.0, c.cut.ensures.front) (cut_joined c.args.mark c.args.text.now c.in-Some.second.now some),
    )
