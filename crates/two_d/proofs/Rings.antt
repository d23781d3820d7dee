-- Where no further box is open, some box that isn't placed reaches itself.
use Rattle.std.specs.Prelude.{◌≡◌, ℕ, zero, suc, ◌+◌, ◌<◌, ◌≤◌, ◌⊎◌, List, [], ◌∷◌, length, slice_get, slice_index_or, Option, Some, None}
use Rattle.std.specs.List.{Contains}
use Rattle.std.proofs.Common.{arith, refl, sym, ap, ◌∙◌, inl, inr, subst}
use Rattle.std.proofs.lemmas.Option.{slice_get_within, slice_get-get_or}
use Rattle.two_d.specs.Programs.{BoxForm, ModuleForm}
use Rattle.two_d.specs.Sound.{IsSound, Feeds, Reaches, by_one, by_more, IsOrder}
use Rattle.two_d.specs.Trees.{send}
use Rattle.std.proofs.lemmas.Map.Steps.{le-length_from_below}
use Rattle.two_d.specs.declared.module.Origin.{Origin}
use Rattle.two_d.specs.declared.module.Origin.TheVariants.{North, West, South, East}
use Rattle.two_d.specs.declared.module.To.TheVariants.{N, W}
use Rattle.two_d.proofs.Decide.{Decided, first_from}
use Rattle.two_d.proofs.NumberLists.{any_in, decided_in, AreApart, AreBelow, HasAllBelow, few, place_of, all_once}
use Rattle.two_d.proofs.LeastOrder.{IsOpen, IsGreedy}

-- the box at which a wire begins, if it does at one
abbrev pub start_of : Option Origin → Option ℕ
start_of None = None
start_of (Some North) = None
start_of (Some West) = None
start_of (Some (South a)) = Some a
start_of (Some (East a)) = Some a

south_or_east : (o : Option Origin) (a : ℕ) → start_of o ≡ Some a → (o ≡ Some (South a)) ⊎ (o ≡ Some (East a))
south_or_east None a e = absurd (cc)
south_or_east (Some North) a e = absurd (cc)
south_or_east (Some West) a e = absurd (cc)
south_or_east (Some (South b)) a e = inl (let f : b ≡ a = cc in ap (λ x. Some (South x)) f)
south_or_east (Some (East b)) a e = inr (let f : b ≡ a = cc in ap (λ x. Some (East x)) f)

pub feeds_of : (m : ModuleForm) (a b : ℕ) (row : BoxForm) → slice_get m.boxes b ≡ Some row → (start_of row.n ≡ Some a) ⊎ (start_of row.w ≡ Some a) → Feeds m a b
feeds_of m a b row is (inl n) = elim (south_or_east row.n a n) [ inl s ↦ inl (inl (row, is, s)) | inr e ↦ inl (inr (row, is, e)) ]
feeds_of m a b row is (inr w) = elim (south_or_east row.w a w) [ inl s ↦ inr (inl (row, is, s)) | inr e ↦ inr (inr (row, is, e)) ]

same_row : (m : ModuleForm) (b : ℕ) (row other : BoxForm) → slice_get m.boxes b ≡ Some row → slice_get m.boxes b ≡ Some other → other ≡ row
same_row m b row other is too = let e : Some row ≡ Some other = sym is ∙ too in cc

pub of_feeds : (m : ModuleForm) (a b : ℕ) (row : BoxForm) → slice_get m.boxes b ≡ Some row → Feeds m a b → (start_of row.n ≡ Some a) ⊎ (start_of row.w ≡ Some a)
of_feeds m a b row is (inl (inl (other, too, s))) = inl (ap (λ (r : BoxForm). start_of r.n) (sym (same_row m b row other is too)) ∙ ap start_of s)
of_feeds m a b row is (inl (inr (other, too, s))) = inl (ap (λ (r : BoxForm). start_of r.n) (sym (same_row m b row other is too)) ∙ ap start_of s)
of_feeds m a b row is (inr (inl (other, too, s))) = inr (ap (λ (r : BoxForm). start_of r.w) (sym (same_row m b row other is too)) ∙ ap start_of s)
of_feeds m a b row is (inr (inr (other, too, s))) = inr (ap (λ (r : BoxForm). start_of r.w) (sym (same_row m b row other is too)) ∙ ap start_of s)

pub feeder_there : (m : ModuleForm) (a b : ℕ) → IsSound m → Feeds m a b → a < length m.boxes
feeder_there m a b sound (inl (inl c)) = sound.known (South a) (N b) c
feeder_there m a b sound (inl (inr c)) = sound.known (East a) (N b) c
feeder_there m a b sound (inr (inl c)) = sound.known (South a) (W b) c
feeder_there m a b sound (inr (inr c)) = sound.known (East a) (W b) c

source_in : (o : Option ℕ) (order : List ℕ) → ((a : ℕ) → o ≡ Some a → Contains order a) ⊎ ((a : ℕ) × (o ≡ Some a) × (Contains order a → ⊥))
source_in None order = inl (λ a e. absurd (cc))
source_in (Some x) order = elim (decided_in x order) [
  | inl there ↦ inl (λ a e. let f : x ≡ a = cc in subst (Contains order) f there)
  | inr bare ↦ inr (x, refl, bare)
]

abbrev pub no_box : BoxForm
no_box = record { command = send []; n = None; w = None }

-- a box that isn't placed is open, or one that feeds it isn't placed
pub open_or : (m : ModuleForm) (order : List ℕ) (b : ℕ) → b < length m.boxes → (Contains order b → ⊥) → IsOpen m order b ⊎ ((a : ℕ) × Feeds m a b × (Contains order a → ⊥))
open_or m order b lt bare =
    let row = slice_index_or m.boxes b no_box in
    let is : slice_get m.boxes b ≡ Some row = slice_get-get_or m.boxes b no_box lt in
    elim (source_in (start_of row.n) order) [
      | inr (a, e, out) ↦ inr (a, feeds_of m a b row is (inl e), out)
      | inl all_n ↦ elim (source_in (start_of row.w) order) [
        | inr (a, e, out) ↦ inr (a, feeds_of m a b row is (inr e), out)
        | inl all_w ↦ inl (record {
          within = lt;
          new = bare;
          fed = λ a feeds. elim (of_feeds m a b row is feeds) [ inl n ↦ all_n a n | inr w ↦ all_w a w ];
        })
      ]
    ]

-- a box reaches each of a list
abbrev pub ReachesEach : ModuleForm → ℕ → List ℕ → Type 0
ReachesEach m h xs = (i x : ℕ) → slice_get xs i ≡ Some x → Reaches m h x

-- a way back over boxes that aren't placed, as long as one likes
pub record IsBack (m : ModuleForm) (order : List ℕ) (h : ℕ) (tail : List ℕ) : Type 0 where
  pub out : Contains order h → ⊥
  pub apart : AreApart (h ∷ tail)
  pub below : AreBelow (h ∷ tail) (length m.boxes)
  pub reaches : ReachesEach m h tail

module _ (m : ModuleForm) (order : List ℕ) (sound : IsSound m) (none : (q : ℕ) → IsOpen m order q → ⊥) (ringless : (b : ℕ) → Reaches m b b → ⊥) where
  back_more : (h : ℕ) (tail : List ℕ) → IsBack m order h tail → (a : ℕ) → Feeds m a h → (Contains order a → ⊥) → IsBack m order a (h ∷ tail)
  back_more h tail back a feeds out = record { out = out; apart = apart; below = below; reaches = reaches }
    where
      reaches : ReachesEach m a (h ∷ tail)
      reaches zero x is = let e : h ≡ x = cc in subst (Reaches m a) e (by_one feeds)
      reaches (suc i) x is = by_more feeds (back.reaches i x is)

      below : AreBelow (a ∷ h ∷ tail) (length m.boxes)
      below zero x is = let e : a ≡ x = cc in let lt = feeder_there m a h sound feeds in omega arith
      below (suc i) x is = back.below i x is

      apart : AreApart (a ∷ h ∷ tail)
      apart zero zero x at_i at_j less = omega arith
      apart zero (suc j) x at_i at_j less = let e : x ≡ a = cc in ringless a (subst (Reaches m a) e (reaches j x at_j))
      apart (suc i) zero x at_i at_j less = omega arith
      apart (suc i) (suc j) x at_i at_j less = back.apart i j x at_i at_j (omega arith)

  back_far : (n h : ℕ) (tail : List ℕ) → IsBack m order h tail → n + length (h ∷ tail) ≡ suc (length m.boxes) → ⊥
  back_far zero h tail back long = let le = few (h ∷ tail) (length m.boxes) back.apart back.below in omega arith
  back_far (suc n) h tail back long = elim (open_or m order h (back.below 0 h refl) back.out) [
    | inl free ↦ none h free
    | inr (a, feeds, out) ↦ back_far n a (h ∷ tail) (back_more h tail back a feeds out) (omega arith)
  ]

  one_back : (b : ℕ) → b < length m.boxes → (Contains order b → ⊥) → IsBack m order b []
  one_back b lt out = record {
    out = out;
    apart = λ i j x at_i at_j less. let le = slice_get_within (b ∷ []) j x at_j in omega arith;
    below = λ i x is. below_one i x is;
    reaches = λ i x is. absurd (cc);
  }
    where
      below_one : (i x : ℕ) → slice_get (b ∷ []) i ≡ Some x → x < length m.boxes
      below_one zero x is = let e : b ≡ x = cc in omega arith
      below_one (suc i) x is = absurd (cc)

  no_one_out : (b : ℕ) → b < length m.boxes → (Contains order b → ⊥) → ⊥
  no_one_out b lt out = back_far (length m.boxes) b [] (one_back b lt out) (omega arith)

-- where some box isn't placed and none is open, it isn't so that no box reaches itself
pub ring_where_stuck : (m : ModuleForm) (order : List ℕ) → IsSound m → IsGreedy m order → length order < length m.boxes → ((q : ℕ) → IsOpen m order q → ⊥) → ((b : ℕ) → Reaches m b b → ⊥) → ⊥
ring_where_stuck m order sound greedy short none ringless =
    elim (first_from (λ q. Contains order q → ⊥) (λ q. turned (decided_in q order)) 0 (length m.boxes)) [
      | inl (b, low, high, out, first) ↦ no_one_out m order sound none ringless b (omega arith) out
      | inr all ↦ omega (arith, le_all (λ q lt. elim (decided_in q order) [ inl there ↦ there | inr out ↦ absurd (all q (omega arith) (omega arith) out) ]))
    ]
  where
    turned : {P : Type 0} → Decided P → Decided (P → ⊥)
    turned (inl p) = inr (λ np. np p)
    turned (inr np) = inl np

    le_all : HasAllBelow order (length m.boxes) → length m.boxes ≤ length order
    le_all all = le-length_from_below order (length m.boxes) (λ q below. any_in q order (all q below))

-- in an order of its boxes each box stands behind those that reach it
pub earlier : (m : ModuleForm) (order : List ℕ) → IsOrder m order → {a b : ℕ} → Reaches m a b → (j : ℕ) → slice_get order j ≡ Some b → (i : ℕ) × (i < j) × (slice_get order i ≡ Some a)
earlier m order is (by_one {a} {b} feeds) j at = is.behind j a b at feeds
earlier m order is (by_more {a} {b} feeds more) j at =
    let (k, less, at_k) = earlier m order is more j at in
    let (i, under, at_i) = is.behind k a b at_k feeds in
    (i, omega arith, at_i)

-- so none reaches itself
pub ringless_of : (m : ModuleForm) (order : List ℕ) → IsOrder m order → (b : ℕ) → b < length m.boxes → Reaches m b b → ⊥
ringless_of m order is b lt reaches =
    let (i, within, at) = place_of order b (is.each b lt) in
    let (k, less, at_k) = earlier m order is reaches i at in
    all_once order (length m.boxes) k i b is.once is.each at_k at less

pub reacher_there : (m : ModuleForm) → IsSound m → {a b : ℕ} → Reaches m a b → a < length m.boxes
reacher_there m sound (by_one {a} {b} feeds) = feeder_there m a b sound feeds
reacher_there m sound (by_more {a} {b} feeds more) = feeder_there m a b sound feeds
