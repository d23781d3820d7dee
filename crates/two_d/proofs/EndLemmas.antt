-- Ends of wires by number, and what they say of a module's soundness.
use Rattle.std.specs.Prelude.{◌≡◌, ℕ, ◌+◌, ◌-◌, ◌<◌, ◌^◌, length, slice_get, Option, Some, None, All, [], slice_index_or}
use Rattle.std.proofs.Common.{arith, refl, sym, ap, ◌∙◌, inl, inr}
use Rattle.std.proofs.lemmas.Bool.{cases_eq, cases_lt, cases_order, lt-ltb, le-ltb}
use Rattle.std.proofs.lemmas.Option.{slice_get_within, slice_get-get_or}
use Rattle.two_d.specs.inner.Ends.{end_count, end_number, origin_at, AreKnown, AreApartFrom}
use Rattle.two_d.specs.Names.{IsName}
use Rattle.two_d.specs.Programs.{BoxForm, ModuleForm}
use Rattle.two_d.specs.Sound.{IsSound, Comes}
use Rattle.two_d.specs.Trees.{IsWithin, send}
use Rattle.two_d.specs.declared.module.Origin.{Origin}
use Rattle.two_d.specs.declared.module.To.{To}
use Rattle.two_d.specs.declared.module.To.TheVariants.{N, W, Exit}

pub at_north : (m : ModuleForm) (b : ℕ) (row : BoxForm) → b < length m.boxes → slice_get m.boxes b ≡ Some row → origin_at m b ≡ row.n
at_north m b row lt is = rw (lt-ltb b (length m.boxes) lt, is) refl

pub at_west : (m : ModuleForm) (b : ℕ) (row : BoxForm) → b < length m.boxes → slice_get m.boxes b ≡ Some row → origin_at m (length m.boxes + b) ≡ row.w
at_west m b row lt is =
    let n = length m.boxes in
    let same : n + b - n ≡ b = omega arith in
    rw (le-ltb (n + b) n (omega arith), lt-ltb (n + b) (n + n) (omega arith), same, is) refl

pub at_exit : (m : ModuleForm) (i : ℕ) (o : Option Origin) → slice_get m.exits i ≡ Some o → origin_at m (length m.boxes + length m.boxes + i) ≡ o
at_exit m i o is =
    let n = length m.boxes in
    let same : n + n + i - n - n ≡ i = omega arith in
    rw (le-ltb (n + n + i) n (omega arith), le-ltb (n + n + i) (n + n) (omega arith), same, is) refl

-- an end of a wire has a number, and there the wire's origin
pub comes_at : (m : ModuleForm) (o : Origin) (e : To) → Comes m o e → (end_number m e < end_count m) × (origin_at m (end_number m e) ≡ Some o)
comes_at m o (N b) (row, here, is) =
    let lt = slice_get_within m.boxes b row here in
    (omega arith, at_north m b row lt here ∙ is)
comes_at m o (W b) (row, here, is) =
    let lt = slice_get_within m.boxes b row here in
    (omega arith, at_west m b row lt here ∙ is)
comes_at m o (Exit i) is =
    let lt = slice_get_within m.exits i (Some o) is in
    (omega arith, at_exit m i (Some o) is)

-- two ends with one number are one
pub same_end : (m : ModuleForm) (o p : Origin) (e f : To) → Comes m o e → Comes m p f → end_number m e ≡ end_number m f → e ≡ f
same_end m o p (N a) (N b) ce cf is = ap (λ k. N k) is
same_end m o p (N a) (W b) ce cf is = absurd (let lt = slice_get_within m.boxes a ce.0 ce.1 in omega arith)
same_end m o p (N a) (Exit b) ce cf is = absurd (let lt = slice_get_within m.boxes a ce.0 ce.1 in omega arith)
same_end m o p (W a) (N b) ce cf is = absurd (let lt = slice_get_within m.boxes b cf.0 cf.1 in omega arith)
same_end m o p (W a) (W b) ce cf is = ap (λ k. W k) (omega arith)
same_end m o p (W a) (Exit b) ce cf is = absurd (let lt = slice_get_within m.boxes a ce.0 ce.1 in omega arith)
same_end m o p (Exit a) (N b) ce cf is = absurd (let lt = slice_get_within m.boxes b cf.0 cf.1 in omega arith)
same_end m o p (Exit a) (W b) ce cf is = absurd (let lt = slice_get_within m.boxes b cf.0 cf.1 in omega arith)
same_end m o p (Exit a) (Exit b) ce cf is = ap (λ k. Exit k) (omega arith)

no_box : BoxForm
no_box = record { command = send []; n = None; w = None }

-- each number below the count is that of an end
pub end_at : (m : ModuleForm) (k : ℕ) (o : Origin) → k < end_count m → origin_at m k ≡ Some o → (e : To) × (end_number m e ≡ k) × Comes m o e
end_at m k o lt is = elim (cases_lt k (length m.boxes)) [
  | inl low ↦
      let row = slice_index_or m.boxes k no_box in
      let here : slice_get m.boxes k ≡ Some row = slice_get-get_or m.boxes k no_box low in
      (N k, refl, (row, here, sym (at_north m k row low here) ∙ is))
  | inr high ↦ elim (cases_lt k (length m.boxes + length m.boxes)) [
    | inl mid ↦
        let b = k - length m.boxes in
        let row = slice_index_or m.boxes b no_box in
        let here : slice_get m.boxes b ≡ Some row = slice_get-get_or m.boxes b no_box (omega arith) in
        let back : length m.boxes + b ≡ k = omega arith in
        (W b, back, (row, here, sym (at_west m b row (omega arith) here) ∙ (ap (origin_at m) back ∙ is)))
    | inr top ↦
        let i = k - length m.boxes - length m.boxes in
        let x = slice_index_or m.exits i None in
        let here : slice_get m.exits i ≡ Some x = slice_get-get_or m.exits i None (omega arith) in
        let back : length m.boxes + length m.boxes + i ≡ k = omega arith in
        (Exit i, back, here ∙ ap (λ y. Some y) (sym (at_exit m i x here) ∙ (ap (origin_at m) back ∙ is)))
  ]
]

abbrev pub AreAllApart : ModuleForm → Type 0
AreAllApart m = (k : ℕ) → k < end_count m → AreApartFrom m k k

-- what the tests say is soundness
pub sound_from : (m : ModuleForm) → IsName m.name → AreKnown m (end_count m) → AreAllApart m → All (λ row. IsWithin row.command) m.boxes → length m.boxes < 2 ^ 32 → length m.exits < 2 ^ 32 → IsSound m
sound_from m named known apart commands few_boxes few_exits = record {
  named = named;
  known = λ o e comes. let (lt, is) = comes_at m o e comes in known (end_number m e) o lt is;
  once = once;
  commands = commands;
  few_boxes = few_boxes;
  few_exits = few_exits;
}
  where
    once : (o : Origin) (e f : To) → Comes m o e → Comes m o f → e ≡ f
    once o e f ce cf =
        let (elt, eis) = comes_at m o e ce in
        let (flt, fis) = comes_at m o f cf in
        elim (cases_order (end_number m e) (end_number m f)) [
          | inl same ↦ same_end m o o e f ce cf same
          | inr (inl less) ↦ absurd (apart (end_number m f) flt (end_number m e) o less eis fis)
          | inr (inr more) ↦ absurd (apart (end_number m e) elt (end_number m f) o more fis eis)
        ]

pub known_of : (m : ModuleForm) → IsSound m → AreKnown m (end_count m)
known_of m sound k o lt is = let (e, at, comes) = end_at m k o lt is in sound.known o e comes

pub apart_of : (m : ModuleForm) → IsSound m → AreAllApart m
apart_of m sound k lt j o low at_j at_k =
    let (e, e_is, e_comes) = end_at m j o (omega arith) at_j in
    let (f, f_is, f_comes) = end_at m k o lt at_k in
    let same = ap (end_number m) (sound.once o e f e_comes f_comes) in
    omega arith

-- one more end has a wire that begins elsewhere
pub apart_more : (m : ModuleForm) (k i : ℕ) (here : Origin) → AreApartFrom m k i → origin_at m k ≡ Some here → (origin_at m i ≡ Some here → ⊥) → AreApartFrom m k (i + 1)
apart_more m k i here before at_k other j o lt at_j at_k' = elim (cases_eq j i) [
  | inl same ↦ other (ap (origin_at m) (sym same) ∙ at_j ∙ sym at_k' ∙ at_k)
  | inr apart ↦ before j o (omega arith) at_j at_k'
]
