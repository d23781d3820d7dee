-- A sum over an order of a module's boxes is at most that over the boxes.
use Rattle.std.specs.Prelude.{Option, Some, None, ◌≡◌, ◌≢◌, ℕ, zero, suc, ◌+◌, ◌<◌, ◌≤◌, ◌==◌, if◌then◌else◌, List, [], ◌∷◌, length, slice_get}
use Rattle.std.specs.List.{Contains}
use Rattle.std.proofs.Common.{refl, ◌∙◌, ap, arith, inl, inr}
use Rattle.std.proofs.lemmas.Bool.{cases_eq, eq-eqb, ne_eqb}
use Rattle.two_d.specs.Meaning.{sum_below}
use Rattle.two_d.specs.Programs.{BoxForm, ModuleForm}
use Rattle.two_d.specs.Sound.{IsOrder}
use Rattle.two_d.proofs.Below.{sum_below-change}
use Rattle.two_d.proofs.Sourced.{IsAmong}
use Rattle.lower_plan.proofs.Holes.{one, times, times_below, few, many, once, no_other}

abbrev pub sum_at : (ℕ → ℕ) → List ℕ → ℕ
sum_at f [] = 0
sum_at f (x ∷ xs) = f x + sum_at f xs

-- where each number below n stands in a list as long as n, it stands there once
each_once : (n : ℕ) (xs : List ℕ) → ((b : ℕ) → b < n → Contains xs b) → times_below n xs ≤ n → (b : ℕ) → b < n → times b xs ≤ 1
each_once zero xs h le b lt = absurd (omega arith)
each_once (suc n) xs h le b lt =
    let below = many n xs (λ c l. h c (omega (arith, l))) in
    let all = many (suc n) xs h in
    elim (cases_eq b n) [
      | inl is ↦ omega (arith, below, le, ap (λ c. times c xs) is)
      | inr other ↦ each_once n xs (λ c l. h c (omega (arith, l))) (omega (arith, all, below, le, let c = h n (omega arith) in once n xs c.0 c.1 c.2)) b (omega (arith, lt, other))
    ]

not_here : (x : ℕ) (xs : List ℕ) → times x xs ≡ 0 → (y : ℕ) → IsAmong y xs → y ≢ x
not_here x [] none y among = absurd among
not_here x (z ∷ xs) none y (inl is) = λ same. omega (arith, none, ap one (eq-eqb z x (is ∙ same)))
not_here x (z ∷ xs) none y (inr among) = not_here x xs (omega (arith, none)) y among

abbrev without : ℕ → (ℕ → ℕ) → ℕ → ℕ
without x f b = if b == x then 0 else f b

same_sum : (x : ℕ) (f : ℕ → ℕ) (xs : List ℕ) → ((y : ℕ) → IsAmong y xs → y ≢ x) → sum_at f xs ≡ sum_at (without x f) xs
same_sum x f [] h = refl
same_sum x f (y ∷ xs) h =
    let here : without x f y ≡ f y = ap (λ t. if t then 0 else f y) (ne_eqb y x (h y (inl refl))) in
    omega (arith, here, same_sum x f xs (λ z a. h z (inr a)))

sum_once : (n : ℕ) (xs : List ℕ) (f : ℕ → ℕ) → ((b : ℕ) → b < n → times b xs ≤ 1) → ((y : ℕ) → IsAmong y xs → y < n) → sum_at f xs ≤ sum_below n f
sum_once n [] f single low = omega arith
sum_once n (x ∷ xs) f single low =
    let lt = low x (inl refl) in
    let hit : one (x == x) ≡ 1 = ap one (eq-eqb x x refl) in
    let gone : times x xs ≡ 0 = omega (arith, single x lt, hit) in
    let rest = sum_once n xs (without x f) (λ b l. omega (arith, single b l)) (λ y a. low y (inr a)) in
    let change = sum_below-change n (without x f) f x lt (λ c other. ap (λ t. if t then 0 else f c) (ne_eqb c x other)) in
    let zero_there : without x f x ≡ 0 = ap (λ t. if t then 0 else f x) (eq-eqb x x refl) in
    omega (arith, same_sum x f xs (not_here x xs gone), rest, change, zero_there)

-- what is summed of the boxes
abbrev pub sum_boxes : (BoxForm → ℕ) → List BoxForm → ℕ
sum_boxes f [] = 0
sum_boxes f (row ∷ rows) = f row + sum_boxes f rows

abbrev pub of_box : (BoxForm → ℕ) → Option BoxForm → ℕ
of_box f None = 0
of_box f (Some row) = f row

pub front_sum : (n : ℕ) (g : ℕ → ℕ) → sum_below (suc n) g ≡ g 0 + sum_below n (λ b. g (suc b))
unfolding sum_below
front_sum zero g = omega arith
front_sum (suc n) g = omega (arith, front_sum n g)

rows_sum : (f : BoxForm → ℕ) (rows : List BoxForm) → sum_below (length rows) (λ b. of_box f (slice_get rows b)) ≡ sum_boxes f rows
unfolding sum_below
rows_sum f [] = refl
rows_sum f (row ∷ rows) = omega (arith, front_sum (length rows) (λ b. of_box f (slice_get (row ∷ rows) b)), rows_sum f rows)

pub order_sum : (m : ModuleForm) (order : List ℕ) → IsOrder m order → (f : BoxForm → ℕ) → sum_at (λ b. of_box f (slice_get m.boxes b)) order ≤ sum_boxes f m.boxes
order_sum m order is f =
    let n = length m.boxes in
    omega (
      arith,
      rows_sum f m.boxes,
      sum_once n order (λ b. of_box f (slice_get m.boxes b)) (each_once n order is.each (omega (arith, few n order, is.once))) (no_other n order is.each is.once),
    )
