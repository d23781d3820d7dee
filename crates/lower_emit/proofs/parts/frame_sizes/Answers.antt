-- One module more.
use Rattle.std.specs.Prelude.{◌≡◌, ℕ, ◌+◌, ◌-◌, ◌^◌, ◌<◌, ◌≤◌, List, ◌∷◌, ◌++◌, [], length, map, min, slice_index_or, take}
use Rattle.std.proofs.Common.{ap, ◌∙◌, sym, arith}
use Rattle.std.proofs.lemmas.List.{length-map}
use Rattle.two_d.specs.declared.module.Module.{Module}
use Rattle.two_d.specs.Programs.{Program, module_of, modules_of}
use Rattle.two_d.specs.Weights.{part}
use Rattle.lower_emit.specs.Tables.{IsLight, frame_sizes}
use Rattle.lower_emit.proofs.Owned.{part_light}
use Rattle.lower_emit.proofs.Sums.{sizes_next}
use Rattle.lower_emit.proofs.parts.frame_sizes.Goals as goal

-- what was measured is the module's part, and small
measured : (P : Program) (all modules : List Module) → modules_of all ≡ P → modules ≡ all → IsLight P → (i : ℕ) (owner : Module) → i < length modules → owner ≡ slice_index_or modules i owner →
    (r : ℕ) → r ≡ min (part (module_of owner)) (2 ^ 64 - 1) → (r ≡ part (module_of owner)) × (r ≤ 262144)
measured P all modules are same light i owner lt is r m =
    let e : modules_of modules ≡ P = ap modules_of same ∙ are in
    let there : i < length P = omega (arith, lt, ap length e, length-map modules module_of) in
    let small = part_light P modules e i owner there is light in
    (omega (arith, small, m), omega (arith, small, m))

pub overflow_cast-part_of : goal.overflow_cast-part_of
overflow_cast-part_of c =
    omega (arith, (measured c.args.program.now _ _ c.modules.ensures.modules c.deref-owner-items.ensures.value c.requires.light c.loop-owner.owner-index _ c.loop-owner-test.true c.owner-item.is c.part_of.result c.part_of.ensures.part).1)

pub overflow_add-part_of : goal.overflow_add-part_of
overflow_add-part_of c =
    omega (arith, (measured c.args.program.now _ _ c.modules.ensures.modules c.deref-owner-items.ensures.value c.requires.light c.loop-owner.owner-index _ c.loop-owner-test.true c.owner-item.is c.part_of.result c.part_of.ensures.part).1)

pub loop-owner-preserved : goal.loop-owner-preserved
loop-owner-preserved c =
    let i = c.loop-owner.owner-index in
    let items = c.deref-owner-items.result.now in
    let owner = c.owner-item.result in
    let here = measured c.args.program.now _ _ c.modules.ensures.modules c.deref-owner-items.ensures.value c.requires.light i owner c.loop-owner-test.true c.owner-item.is c.part_of.result c.part_of.ensures.part in
    let one : 12 + c.part_of.result ≡ 12 + part (module_of owner) = ap (λ k. 12 + k) here.0 in
    let there = ap (λ (m : Module). 12 + part (module_of m)) c.owner-item.is in
    c.in_ok-push.ensures.items ∙ ap (λ sizes. sizes ++ (12 + c.part_of.result) ∷ []) c.loop-owner.invariant
    ∙ ap (λ k. frame_sizes (map module_of (take i items)) ++ k ∷ []) (one ∙ there)
    ∙ sym (sizes_next items i owner c.loop-owner-test.true)
