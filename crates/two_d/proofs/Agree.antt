-- How far two texts agree, and what that says of the parts of a grammar that are read from them.
use Rattle.codex_values.specs.Tokens.{EndsWord}
use Rattle.std.proofs.Common.{◌≡◌, ℕ, ◌+◌, ◌≤◌, ◌⊎◌, inl, inr, cond, eqb, List, [], ◌∷◌, ◌++◌, length, refl, sym, ap, subst, ◌∙◌, arith, append_assoc, length-append}

-- the length of the longest common beginning
abbrev pub agree : List ℕ → List ℕ → ℕ
agree [] c = 0
agree (x ∷ a) [] = 0
agree (x ∷ a) (y ∷ c) = cond (eqb x y) (1 + agree a c) 0

-- a part of a grammar: from a text it reads a value and leaves a rest
abbrev pub Part : Type 0 → Type 1
Part V = List ℕ → List ℕ → V → Type 0

-- what is left is the end of the text
abbrev pub LeavesEnd : {V : Type 0} → Part V → Type 0
LeavesEnd {V} P = (a b : List ℕ) (v : V) → P a b v → (front : List ℕ) × (a ≡ front ++ b)

-- a text is read in one way
abbrev pub IsFunctional : {V : Type 0} → Part V → Type 0
IsFunctional {V} P = (a b c : List ℕ) (v w : V) → P a b v → P a c w → (b ≡ c) × (v ≡ w)

-- two texts of the part differ in what was read, or else they were read alike and agree as far as the rests do
abbrev pub IsLocal : {V : Type 0} → Part V → Type 0
IsLocal {V} P = (a b : List ℕ) (v : V) (c d : List ℕ) (w : V) → P a b v → P c d w → (agree a c + length b ≤ length a) ⊎ ((v ≡ w) × (agree a c + length b ≡ length a + agree b d))

-- c may follow whatever stands before a: it goes on as a does, or ends a word
abbrev pub MayFollow : List ℕ → List ℕ → Type 0
MayFollow a c = (1 ≤ agree a c) ⊎ EndsWord c

-- the rest of a text of the part may be another one
abbrev pub IsFree : {V : Type 0} → Part V → Type 0
IsFree {V} P = (a b : List ℕ) (v : V) (d : List ℕ) → P a b v → MayFollow b d → (c : List ℕ) × P c d v × (agree a c + length b ≡ length a + agree b d) × MayFollow a c

-- before any ending there is a text of the part
abbrev pub IsFillable : {V : Type 0} → Part V → Type 0
IsFillable {V} P = (v : V) × ((e : List ℕ) → EndsWord e → (c : List ℕ) × P c e v × EndsWord c)

-- what all parts of the grammar of commands have
pub record IsRegular {V : Type 0} (P : Part V) : Type 0 where
  pub leaves : LeavesEnd P
  pub functional : IsFunctional P
  pub local : IsLocal P
  pub free : IsFree P
  pub fillable : IsFillable P

-- no text of the part agrees with a beyond the last `left` bytes
abbrev pub IsStuck : {V : Type 0} → Part V → List ℕ → ℕ → Type 0
IsStuck {V} P a left = (left ≤ length a) × ((c d : List ℕ) (w : V) → P c d w → agree a c + left ≤ length a)

-- all but the last `left` bytes begin some text of the part, before any ending
abbrev pub IsOpenAt : {V : Type 0} → Part V → List ℕ → ℕ → Type 0
IsOpenAt {V} P a left = (v : V) × ((e : List ℕ) → EndsWord e → (c : List ℕ) × P c e v × (length a ≤ agree a c + left) × MayFollow a c)

-- one part, then another that may depend on what the first one gave
pub record After {V W : Type 0} (P : Part V) (Q : V → Part W) (a b : List ℕ) (w : W) : Type 0 where
  pub middle : List ℕ
  pub value : V
  pub first : P a middle value
  pub second : Q value middle b w

-- nothing is read
pub record Done {V : Type 0} (v : V) (a b : List ℕ) (w : V) : Type 0 where
  pub rest : a ≡ b
  pub value : v ≡ w

pub shrinks : {V : Type 0} (P : Part V) → LeavesEnd P → (a b : List ℕ) (v : V) → P a b v → length b ≤ length a
shrinks P leaves a b v p = (let (front, is) = leaves a b v p in omega (arith, ap length is, length-append front b))

pub stuck_first : {V W : Type 0} (P : Part V) (Q : V → Part W) (a : List ℕ) (left : ℕ) → IsStuck P a left → IsStuck (After P Q) a left
stuck_first P Q a left h = (h.0, λ c d w t. h.1 c t.middle t.value t.first)

pub stuck_second : {V W : Type 0} (P : Part V) (Q : V → Part W) → IsRegular P → (a b : List ℕ) (v : V) (left : ℕ) → P a b v → IsStuck (Q v) b left → IsStuck (After P Q) a left
stuck_second P Q regular a b v left p h = (
  (let s = shrinks P regular.leaves a b v p in omega (arith, h.0)),
  (λ c d w t. elim (regular.local a b v c t.middle t.value p t.first) [
    | inl apart ↦ omega (arith, h.0)
    | inr alike ↦ (let q : Q v t.middle d w = subst (λ x. Q x t.middle d w) (sym alike.0) t.second in omega (arith, h.1 t.middle d w q, alike.1))
  ]),
)

pub none_first : {V W : Type 0} (P : Part V) (Q : V → Part W) (a : List ℕ) → ((b : List ℕ) (v : V) → P a b v → ⊥) → (c : List ℕ) (w : W) → After P Q a c w → ⊥
none_first P Q a none c w t = none t.middle t.value t.first

pub none_second : {V W : Type 0} (P : Part V) (Q : V → Part W) → IsRegular P → (a b : List ℕ) (v : V) → P a b v → ((c : List ℕ) (w : W) → Q v b c w → ⊥) → (c : List ℕ) (w : W) → After P Q a c w → ⊥
none_second P Q regular a b v p none c w t =
    let same = regular.functional a b t.middle v t.value p t.first in
    none c w (subst (λ u. Q u b c w) (sym same.1) (subst (λ m. Q t.value m c w) (sym same.0) t.second))

pub open_first : {V W : Type 0} (P : Part V) (Q : V → Part W) (a : List ℕ) (left : ℕ) → ((v : V) → IsFillable (Q v)) → IsOpenAt P a left → IsOpenAt (After P Q) a left
open_first P Q a left fill (v, h) = (
  (fill v).0,
  λ e ends.
      let (b, q, begins) = (fill v).1 e ends in
      let (c, p, far, may) = h b begins in
      (c, record { middle = b; value = v; first = p; second = q }, far, may),
)

pub open_second : {V W : Type 0} (P : Part V) (Q : V → Part W) → IsRegular P → (a b : List ℕ) (v : V) (left : ℕ) → P a b v → IsOpenAt (Q v) b left → IsOpenAt (After P Q) a left
open_second P Q regular a b v left p (w, h) = (
  w,
  λ e ends.
      let (d, q, far, may) = h e ends in
      let (c, first, same, begins) = regular.free a b v d p may in
      (c, record { middle = d; value = v; first = first; second = q }, omega (arith, far, same), begins),
)

functional_after : {V W : Type 0} (P : Part V) (Q : V → Part W) → IsFunctional P → ((v : V) → IsFunctional (Q v)) → IsFunctional (After P Q)
functional_after {V} {W} P Q fp fq a b c x y s t =
    let same = fp a s.middle t.middle s.value t.value s.first t.first in
    let second : Q s.value s.middle c y = subst (λ u. Q u s.middle c y) (sym same.1) (subst (λ m. Q t.value m c y) (sym same.0) t.second) in
    fq s.value s.middle b c x y s.second second

local_after : {V W : Type 0} (P : Part V) (Q : V → Part W) → IsLocal P → ((v : V) → IsLocal (Q v)) → ((v : V) → LeavesEnd (Q v)) → IsLocal (After P Q)
local_after P Q lp lq sq a b x c d y s t = elim (lp a s.middle s.value c t.middle t.value s.first t.first) [
  | inl apart ↦ inl (let shrunk = shrinks (Q s.value) (sq s.value) s.middle b x s.second in omega arith)
  | inr alike ↦ (let q : Q s.value t.middle d y = subst (λ v. Q v t.middle d y) (sym alike.0) t.second in
      elim (lq s.value s.middle b x t.middle d y s.second q) [
        | inl apart ↦ inl (omega (arith, alike.1))
        | inr also ↦ inr (also.0, omega (arith, alike.1, also.1))
      ])
]

free_after : {V W : Type 0} (P : Part V) (Q : V → Part W) → IsFree P → ((v : V) → IsFree (Q v)) → IsFree (After P Q)
free_after P Q fp fq a b w d t may =
    let (e, q, same, begins) = fq t.value t.middle b w d t.second may in
    let (c, p, also, starts) = fp a t.middle t.value e t.first begins in
    (c, record { middle = e; value = t.value; first = p; second = q }, omega (arith, same, also), starts)

fillable_after : {V W : Type 0} (P : Part V) (Q : V → Part W) → IsFillable P → ((v : V) → IsFillable (Q v)) → IsFillable (After P Q)
fillable_after P Q (v, h) fill = (
  (fill v).0,
  λ e ends.
      let (b, q, begins) = (fill v).1 e ends in
      let (c, p, starts) = h b begins in
      (c, record { middle = b; value = v; first = p; second = q }, starts),
)

pub leaves_join : (a b c front back : List ℕ) → a ≡ front ++ b → b ≡ back ++ c → a ≡ (front ++ back) ++ c
leaves_join a b c front back is also = is ∙ ap (λ x. front ++ x) also ∙ sym (append_assoc front back c)

leaves_after : {V W : Type 0} (P : Part V) (Q : V → Part W) → LeavesEnd P → ((v : V) → LeavesEnd (Q v)) → LeavesEnd (After P Q)
leaves_after P Q lp lq a b w t =
    let (front, is) = lp a t.middle t.value t.first in
    let (back, also) = lq t.value t.middle b w t.second in
    (front ++ back, leaves_join a t.middle b front back is also)

pub regular_after : {V W : Type 0} (P : Part V) (Q : V → Part W) → IsRegular P → ((v : V) → IsRegular (Q v)) → IsRegular (After P Q)
regular_after P Q rp rq = record {
  leaves = leaves_after P Q rp.leaves (λ v. (rq v).leaves);
  functional = functional_after P Q rp.functional (λ v. (rq v).functional);
  local = local_after P Q rp.local (λ v. (rq v).local) (λ v. (rq v).leaves);
  free = free_after P Q rp.free (λ v. (rq v).free);
  fillable = fillable_after P Q rp.fillable (λ v. (rq v).fillable);
}

local_done : {V : Type 0} (v : V) → IsLocal (Done v)
local_done v a b x c d y s t = inr (sym s.value ∙ t.value, (let rests : agree a c ≡ agree b d = cc in omega (arith, ap length s.rest)))

free_done : {V : Type 0} (v : V) → IsFree (Done v)
free_done v a b w d t may = (d, record { rest = refl; value = t.value }, (let same : agree a d ≡ agree b d = cc in omega (arith, ap length t.rest)), subst (λ x. MayFollow x d) (sym t.rest) may)

pub regular_done : {V : Type 0} (v : V) → IsRegular (Done v)
regular_done {V} v = record {
  leaves = λ a b w t. ([], t.rest);
  functional = λ a b c x y s t. (sym s.rest ∙ t.rest, sym s.value ∙ t.value);
  local = local_done v;
  free = free_done v;
  fillable = (v, λ e ends. (e, record { rest = refl; value = refl }, ends));
}
