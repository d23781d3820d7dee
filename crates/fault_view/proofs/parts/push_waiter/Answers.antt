use Rattle.std.proofs.Common.{◌≡◌, ◌<◌, ◌++◌, [], ◌∷◌, ℕ, List, length, Some, None, Option, ap, sym, subst, ◌∙◌, arith}
use Rattle.std.specs.Prelude.{MatchOption, Vec}
use Rattle.std.specs.declared.alloc.Global.{Global}
use Rattle.std.proofs.lemmas.List.{length-map}
use Rattle.two_d.specs.Programs.{ModuleForm, Program, module_at, module_of, modules_of}
use Rattle.two_d.specs.Sound.{Reaches}
use Rattle.two_d.proofs.NamesFound.{module_at-modules}
use Rattle.text_picture.proofs.Added.{two_added}
use Rattle.box_ring.specs.Rings.{IsRing}
use Rattle.fault_view.specs.Subjects.{AddsWaiter, box_line, none, ring, shapes, waits_part}
use Rattle.fault_view.proofs.Named.{on_ok, waits_fit}
use Rattle.fault_view.proofs.parts.push_waiter.Goals as goal

pub returns-in_default : goal.returns-in_default
returns-in_default c ds are =
    let modules = c.args.drawn.now.modules.items in
    let lt : c.args.bx.0 < length modules = omega (arith, c.requires.there.0, length-map modules module_of) in
    let at : module_at (modules_of modules) c.args.bx.0 ≡ module_of c.index.result.now =
    module_at-modules modules c.args.bx.0 c.index.result.now lt ∙ ap module_of (sym c.index.ensures) in
    let own : Reaches (module_of c.index.result.now) c.args.bx.1 c.args.bx.1 → ⊥ =
    subst (λ (o : Option (Vec ℕ Global)). MatchOption o (Reaches (module_of c.index.result.now) c.args.bx.1 c.args.bx.1 → ⊥)
    (λ r. IsRing (module_of c.index.result.now) c.args.bx.1 r.items)) c.in_default.is c.in_ok-ring.ensures in (
      box_line ds c.args.bx,
      none (λ reaches. own
          (subst (λ (m : ModuleForm). Reaches m c.args.bx.1 c.args.bx.1) at (subst (λ (P : Program). Reaches (module_at P c.args.bx.0) c.args.bx.1 c.args.bx.1) (sym are.shapes) reaches))),
      c.in_ok-push_box_line.ensures ds are,
    )

pub push_waits-requires : goal.push_waits-requires
push_waits-requires c =
    let modules = c.args.drawn.now.modules.items in
    let lt : c.args.bx.0 < length modules = omega (arith, c.requires.there.0, length-map modules module_of) in
    let at : module_at (modules_of modules) c.args.bx.0 ≡ module_of c.index.result.now =
    module_at-modules modules c.args.bx.0 c.index.result.now lt ∙ ap module_of (sym c.index.ensures) in
    let own : IsRing (module_of c.index.result.now) c.args.bx.1 c.in-Some.ring.items =
    subst (λ (o : Option (Vec ℕ Global)). MatchOption o (Reaches (module_of c.index.result.now) c.args.bx.1 c.args.bx.1 → ⊥)
    (λ r. IsRing (module_of c.index.result.now) c.args.bx.1 r.items)) c.in-Some.is c.in_ok-ring.ensures in
    waits_fit (modules_of modules) c.args.bx.0 c.args.bx.1 c.in-Some.ring.items c.deref.result.now c.requires.there c.requires.sound
    (subst (λ (m : ModuleForm). IsRing m c.args.bx.1 c.in-Some.ring.items) (sym at) own) (c.deref.ensures.value ∙ c.in_ok-push.ensures.items)

pub returns : goal.returns
returns c ds are =
    let modules = c.args.drawn.now.modules.items in
    let lt : c.args.bx.0 < length modules = omega (arith, c.requires.there.0, length-map modules module_of) in
    let at : module_at (modules_of modules) c.args.bx.0 ≡ module_of c.index.result.now =
    module_at-modules modules c.args.bx.0 c.index.result.now lt ∙ ap module_of (sym c.index.ensures) in
    let own : IsRing (module_of c.index.result.now) c.args.bx.1 c.in-Some.ring.items =
    subst (λ (o : Option (Vec ℕ Global)). MatchOption o (Reaches (module_of c.index.result.now) c.args.bx.1 c.args.bx.1 → ⊥)
    (λ r. IsRing (module_of c.index.result.now) c.args.bx.1 r.items)) c.in-Some.is c.in_ok-ring.ensures in
    let shown : c.deref.result.now ≡ c.in-Some.ring.items ++ c.args.bx.1 ∷ [] = c.deref.ensures.value ∙ c.in_ok-push.ensures.items in
    let is : IsRing (module_at (shapes ds) c.args.bx.0) c.args.bx.1 c.in-Some.ring.items =
    subst (λ (P : Program). IsRing (module_at P c.args.bx.0) c.args.bx.1 c.in-Some.ring.items) are.shapes
    (subst (λ (m : ModuleForm). IsRing m c.args.bx.1 c.in-Some.ring.items) (sym at) own) in
    on_ok c.push_waits.result (λ added. (
      box_line ds c.args.bx ++ waits_part c.args.text.now ds c.args.bx.0 (c.in-Some.ring.items ++ c.args.bx.1 ∷ []),
      ring c.in-Some.ring.items is,
      two_added c.args.page.now.items (box_line ds c.args.bx) _ c.push_box_line.new.page.items c.push_waits.new.page.items (c.in_ok-push_box_line.ensures ds are)
          (added ∙ ap (λ (l : List ℕ). c.push_box_line.new.page.items ++ waits_part c.args.text.now ds c.args.bx.0 l) shown),
    )) (c.push_waits.ensures ds are)
