-- A program is drawn module by module.
use Rattle.std.specs.Prelude.{◌≡◌, ◌+◌, ◌*◌, ◌<◌, ◌≤◌, ◌^◌, ℕ, zero, suc, List, [], ◌∷◌, ◌++◌, length, map, slice_get, slice_index_or, Some, All}
use Rattle.std.specs.List.{flat_map, sum_by}
use Rattle.std.proofs.Common.{arith, refl, sym, ap, subst, ◌∙◌, append_assoc, get_or, drop, inl, inr}
use Rattle.std.proofs.Math.Nat.{mul-le-mul}
use Rattle.std.proofs.lemmas.Bool.{cases_lt}
use Rattle.std.proofs.lemmas.List.{at_drop_more, at_drop_all, length-map}
use Rattle.std.proofs.lemmas.List.Elements.{All-get_or}
use Rattle.std.proofs.lemmas.List.Sums.{sum_by-cons}
use Rattle.std.proofs.lemmas.Option.{same_Some, slice_get_within, get_or_from_slice_get}
use Rattle.two_d.specs.Good.{IsGood}
use Rattle.two_d.specs.Places.{IsLeast}
use Rattle.two_d.specs.Programs.{ModuleForm, Program, module_of, modules_of}
use Rattle.two_d.specs.Sound.{IsSound}
use Rattle.two_d.specs.Weights.{part, weight}
use Rattle.two_d.specs.declared.module.Module.{Module}
use Rattle.two_d.proofs.TableLemmas.{module_there}
use Rattle.grid_picture.specs.Lined.{lined}
use Rattle.grid_draw.specs.Answers.{IsTooWide, NoneTooWide}
use Rattle.grid_draw.specs.Layout.{columns, drawing_of, drawn_lines, rows}
use Rattle.grid_draw.specs.inner.Layouts.{IsFit}
use Rattle.grid_draw.specs.inner.Sizes.{size_of, sizes_of}
use Rattle.grid_draw.proofs.LayoutNumbers.{module_small}
use Rattle.grid_draw.proofs.Sizes.{lined_append}

part_at : (P : Program) (k : ℕ) (m : ModuleForm) → slice_get P k ≡ Some m → part m ≤ weight P
part_at [] k m is = absurd (cc)
part_at (first ∷ P) zero m is = omega (arith, ap part (same_Some first m is))
part_at (first ∷ P) (suc k) m is = omega (arith, part_at P k m is)

-- a module of a good program of small weight may be drawn
pub fit_at : (P : Program) (k : ℕ) (m : ModuleForm) → IsGood P → weight P ≤ 262144 → slice_get P k ≡ Some m → IsFit m
fit_at P k m good light is = record {
  sound = subst IsSound (get_or_from_slice_get P k m m is) (All-get_or IsSound P k m (slice_get_within P k m is) good.sound);
  light = omega (arith, part_at P k m is);
}

size_at : (P : Program) (k : ℕ) (m : ModuleForm) → slice_get P k ≡ Some m → size_of m ≤ sizes_of P
size_at [] k m is = absurd (cc)
size_at (first ∷ P) zero m is = omega (arith, ap size_of (same_Some first m is), sum_by-cons size_of first P)
size_at (first ∷ P) (suc k) m is = omega (arith, size_at P k m is, sum_by-cons size_of first P)

-- its cells are no more than the bytes of the whole drawing
pub cells_at : (P : Program) (k : ℕ) (m : ModuleForm) → sizes_of P ≤ 262144 → slice_get P k ≡ Some m → (rows m + 2) * (columns m + 2) ≤ 262144
cells_at P k m short is =
    let all = size_at P k m is in
    let cells : (rows m + 2) * (columns m + 2) ≤ (columns m + 3) * (rows m + 2) = more_columns (rows m + 2) (columns m) in
    omega (arith, all, cells)
  where
    more_columns : (n k : ℕ) → n * (k + 2) ≤ (k + 3) * n
    more_columns n k = omega arith

pub narrow_at : (P : Program) (k : ℕ) (m : ModuleForm) → NoneTooWide P → slice_get P k ≡ Some m → columns m ≤ 4094
narrow_at P k m none is = elim (cases_lt 4096 (columns m + 2)) [
  | inl wide ↦ absurd (none k (m, is, wide))
  | inr narrow ↦ omega arith
]

-- the first of the modules that are left
pub next_module : {Y : Type 0} (F : Program → Y) (modules : List Module) (k : ℕ) (one : Module) → k < length modules → one ≡ slice_index_or modules k one
    → F (modules_of (drop k modules)) ≡ F (module_of one ∷ modules_of (drop (k + 1) modules))
next_module F modules k one lt is =
    at_drop_more (λ (ms : List Module). F (modules_of ms)) modules k one lt ∙ ap (λ (x : Module). F (module_of x ∷ modules_of (drop (k + 1) modules))) (sym is)

-- one module more is drawn
pub drawn_next : (before now : List ℕ) (modules : List Module) (k : ℕ) (one : Module) → k < length modules → one ≡ slice_index_or modules k one
    → before ++ drawing_of (modules_of (drop k modules)) ≡ drawing_of (modules_of modules)
    → now ≡ before ++ lined (drawn_lines (module_of one))
    → now ++ drawing_of (modules_of (drop (k + 1) modules)) ≡ drawing_of (modules_of modules)
drawn_next before now modules k one lt is drawn pushed =
    let rest = modules_of (drop (k + 1) modules) in
    ap (λ (t : List ℕ). t ++ drawing_of rest) pushed
    ∙ (append_assoc before (lined (drawn_lines (module_of one))) (drawing_of rest)
    ∙ (ap (λ (t : List ℕ). before ++ t) (sym (lined_append (drawn_lines (module_of one)) (flat_map drawn_lines rest)))
    ∙ (ap (λ (t : List ℕ). before ++ t) (sym (next_module drawing_of modules k one lt is)) ∙ drawn)))

-- some modules are counted, and are narrow; the rest isn't counted yet
pub record Counted (modules : List Module) (k n : ℕ) : Type 0 where
  pub sum : n + sizes_of (modules_of (drop k modules)) ≡ sizes_of (modules_of modules)
  pub small : n + 4097 * weight (modules_of (drop k modules)) ≤ 4097 * weight (modules_of modules)
  pub narrow : (i : ℕ) → i < k → IsTooWide (modules_of modules) i → ⊥

size_small : (m : ModuleForm) → part m ≤ 262144 → columns m ≤ 4094 → size_of m ≤ 4097 * part m
size_small m light narrow =
    let high : rows m + 2 ≤ part m = omega (arith, module_small m light) in
    mul-le-mul (omega arith) high

pub counted_first : (modules : List Module) → Counted modules 0 0
counted_first modules = record { sum = omega arith; small = omega arith; narrow = λ i lt wide. absurd (omega arith) }

pub counted_next : (modules : List Module) (k n size : ℕ) (one : Module) → k < length modules → one ≡ slice_index_or modules k one
    → Counted modules k n → part (module_of one) ≤ 262144 → columns (module_of one) ≤ 4094 → size ≡ size_of (module_of one) → Counted modules (k + 1) (n + size)
counted_next modules k n size one lt is before light narrow same =
    let m = module_of one in
    let rest = modules_of (drop (k + 1) modules) in
    let sum = next_module sizes_of modules k one lt is ∙ sum_by-cons size_of m rest in
    let heavy : weight (modules_of (drop k modules)) ≡ part m + weight rest = next_module weight modules k one lt is in
    let small = size_small m light narrow in
    record {
      sum = omega (arith, before.sum);
      small = omega (arith, before.small);
      narrow = λ i less wide. elim (cases_lt i k) [
        | inl lower ↦ before.narrow i lower wide
        | inr there ↦ (
            let same_m : m ≡ wide.0 = same_Some m wide.0 (sym (module_there modules k one lt is) ∙ (ap (slice_get (modules_of modules)) (omega arith) ∙ wide.1)) in
            let columns_are = ap columns same_m in
            omega (arith, wide.2)
            )
      ];
    }

pub counted_all : (modules : List Module) (k n : ℕ) → length modules ≤ k → Counted modules k n
    → (n ≡ sizes_of (modules_of modules)) × NoneTooWide (modules_of modules)
counted_all modules k n le done = (
  omega (arith, at_drop_all (λ (ms : List Module). sizes_of (modules_of ms)) modules k le, done.sum),
  λ i wide. done.narrow i (let lt = slice_get_within (modules_of modules) i wide.0 wide.1 in omega (arith, length-map modules module_of)) wide,
)

-- the sum of what is counted and one module more is a number that the code can hold
pub counted_fits : (modules : List Module) (k n size : ℕ) (one : Module) → k < length modules → one ≡ slice_index_or modules k one
    → Counted modules k n → weight (modules_of modules) ≤ 262144 → part (module_of one) ≤ 262144 → columns (module_of one) ≤ 4094 → size ≡ size_of (module_of one) → n + size ≤ 2 ^ 40
counted_fits modules k n size one lt is before light own narrow same =
    let next = counted_next modules k n size one lt is before own narrow same in
    omega (arith, next.small)

pub too_wide : (modules : List Module) (k n : ℕ) (one : Module) → k < length modules → one ≡ slice_index_or modules k one
    → Counted modules k n → 4096 < columns (module_of one) + 2 → IsLeast (IsTooWide (modules_of modules)) k
too_wide modules k n one lt is before wide = record {
  holds = (module_of one, module_there modules k one lt is, wide);
  none_below = before.narrow;
}
