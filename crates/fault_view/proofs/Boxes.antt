-- The boxes of a program are fewer than its weight.
use Rattle.std.proofs.Common.{◌≡◌, ℕ, ◌+◌, ◌<◌, ◌≤◌, List, [], ◌∷◌, length, take, get_or, sum_by, refl, sym, ap, ◌∙◌, arith}
use Rattle.std.proofs.lemmas.List.{length-map}
use Rattle.std.proofs.lemmas.List.Sums.{sum_by-cons, sum_by_more_le}
use Rattle.two_d.specs.declared.module.Module.{Module}
use Rattle.two_d.specs.Programs.{BoxForm, ModuleForm, box_of, module_of, modules_of}
use Rattle.two_d.specs.Weights.{boxes_part, weight}
use Rattle.fault_view.specs.Boxes.{boxes_in}

-- the boxes of modules as they are kept
abbrev pub boxes_kept : List Module → ℕ
boxes_kept modules = sum_by (λ (m : Module). length m.boxes.items) modules

pub kept_boxes : (modules : List Module) → boxes_kept modules ≡ boxes_in (modules_of modules)
kept_boxes [] = refl
kept_boxes (m ∷ modules) =
    sum_by-cons (λ (n : Module). length n.boxes.items) m modules
    ∙ ap (λ n. length m.boxes.items + n) (kept_boxes modules)
    ∙ ap (λ n. n + boxes_in (modules_of modules)) (sym (length-map m.boxes.items box_of))
    ∙ sym (sum_by-cons (λ (n : ModuleForm). length n.boxes) (module_of m) (modules_of modules))

boxes_light : (rows : List BoxForm) → length rows ≤ boxes_part rows
boxes_light [] = omega arith
boxes_light (row ∷ rows) = let rest = boxes_light rows in omega (arith, rest)

pub program_boxes : (P : List ModuleForm) → boxes_in P ≤ weight P
program_boxes [] = omega arith
program_boxes (m ∷ P) =
    let all = sum_by-cons (λ (n : ModuleForm). length n.boxes) m P in
    let rest = program_boxes P in
    let own = boxes_light m.boxes in
    omega (arith, all, rest, own)

-- the boxes of one module more are as few
pub more_boxes : (modules : List Module) (k : ℕ) (d : Module) (w : ℕ) → k < length modules → weight (modules_of modules) ≤ w →
    boxes_kept (take k modules) + length (get_or modules k d).boxes.items ≤ w
more_boxes modules k d w lt light =
    let more = sum_by_more_le (λ (n : Module). length n.boxes.items) modules k d lt in
    let all = kept_boxes modules in
    let few = program_boxes (modules_of modules) in
    omega (arith, more, all, few, light)
