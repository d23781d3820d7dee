-- Where the boxes of a module have an order, pulling through as many boxes as there are is far enough.
use Rattle.std.specs.Prelude.{Option, Some, None, ◌≡◌, ℕ, zero, suc, ◌+◌, ◌≤◌, List, [], ◌∷◌, length}
use Rattle.std.specs.Option.{option_map, option_and_then}
use mathlib.Core.Path.{fun_ext}
use Rattle.std.proofs.Common.{refl, sym, ◌∙◌, ap, arith, ◌⊎◌, inl, inr}
use Rattle.std.proofs.lemmas.Bool.{cases_lt}
use Rattle.std.proofs.lemmas.Option.{slice_get_past}
use Rattle.codex_values.specs.Value.{Value}
use Rattle.two_d.specs.Programs.{Origin, North, West, South, East, BoxForm, Program, module_at, box_at, box_count}
use Rattle.two_d.specs.Meaning.{Inputs, Answers, effect_of, with_input, inputs_of, act, cell_of, cells_from, look_in, pulled, look_of}
use Rattle.two_d.specs.Sound.{IsOrder}
use Rattle.two_d.proofs.Sourced.{IsAmong, IsFrom, SourcesAmong, IsSourced, sourced, among_order}

-- the two agree on what comes from these boxes and from the entries
pub record Agree (before : List ℕ) (look look' : Origin → Option Value) : Type 0 where
  pub at : (o : Origin) → IsFrom before (Some o) → look o ≡ look' o

pub with_input-agree : (w : Option Origin) (before : List ℕ) (look look' : Origin → Option Value) → Agree before look look' → IsFrom before w →
    (go go' : Option Value → Option Inputs) → ((x : Option Value) → go x ≡ go' x) → with_input w look go ≡ with_input w look' go'
with_input-agree None before look look' agree from go go' same = same None
with_input-agree (Some o) before look look' agree from go go' same = rw (agree.at o from, with_input) (by (look' o))
  where
    by : (x : Option Value) → with_input (Some o) (λ _. x) go ≡ with_input (Some o) (λ _. x) go'
    by None = refl
    by (Some v) = same (Some v)

pub act-agree : (P : Program) (m b : ℕ) (before : List ℕ) (look look' : Origin → Option Value) → Agree before look look' →
    SourcesAmong before (box_at P m b) → act P m look b ≡ act P m look' b
act-agree P m b before look look' agree sources = by (box_at P m b) sources
  where
    by : (row : Option BoxForm) → SourcesAmong before row →
        option_and_then (λ row. option_map (effect_of P m b row.command) (inputs_of look row)) row
        ≡ option_and_then (λ row. option_map (effect_of P m b row.command) (inputs_of look' row)) row
    by None s = refl
    by (Some row) s = ap (option_map (effect_of P m b row.command))
        (with_input-agree row.n before look look' agree s.0 _ _ (λ n. with_input-agree row.w before look look' agree s.1 _ _ (λ w. refl)))

pub act-past : (P : Program) (m : ℕ) (look : Origin → Option Value) (b : ℕ) → box_count P m ≤ b → act P m look b ≡ None
act-past P m look b past = rw (slice_get_past (module_at P m).boxes b past) refl

-- through k boxes and more, what comes from these boxes stays as it is
pub record IsSettled (P : Program) (answer : Answers) (m : ℕ) (a : Inputs) (before : List ℕ) : Type 0 where
  pub at : (k : ℕ) → length before ≤ k → Agree before (pulled P answer m a k) (pulled P answer m a (suc k))

pub pulled-north : (P : Program) (answer : Answers) (m : ℕ) (a : Inputs) (k : ℕ) → pulled P answer m a k North ≡ a.north
unfolding pulled
pulled-north P answer m a zero = refl
pulled-north P answer m a (suc k) = refl

pub pulled-west : (P : Program) (answer : Answers) (m : ℕ) (a : Inputs) (k : ℕ) → pulled P answer m a k West ≡ a.west
unfolding pulled
pulled-west P answer m a zero = refl
pulled-west P answer m a (suc k) = refl

pub settled-nil : (P : Program) (answer : Answers) (m : ℕ) (a : Inputs) → IsSettled P answer m a []
settled-nil P answer m a = record { at = λ k le. record { at = at k } }
  where
    at : (k : ℕ) (o : Origin) → IsFrom [] (Some o) → pulled P answer m a k o ≡ pulled P answer m a (suc k) o
    at k North from = pulled-north P answer m a k ∙ sym (pulled-north P answer m a (suc k))
    at k West from = pulled-west P answer m a k ∙ sym (pulled-west P answer m a (suc k))
    at k (South c) from = absurd from
    at k (East c) from = absurd from

-- one more box, whose sources stand before it
pub settled-cons : (P : Program) (answer : Answers) (m : ℕ) (a : Inputs) (before : List ℕ) (b : ℕ) → IsSettled P answer m a before →
    SourcesAmong before (box_at P m b) → IsSettled P answer m a (b ∷ before)
unfolding pulled
settled-cons P answer m a before b settled sources = record { at = at }
  where
    same : (k : ℕ) → length before ≤ k → cells_from P answer m (pulled P answer m a k) b ≡ cells_from P answer m (pulled P answer m a (suc k)) b
    same k le = ap (option_map (cell_of m b answer)) (act-agree P m b before (pulled P answer m a k) (pulled P answer m a (suc k)) (settled.at k le) sources)

    at : (k : ℕ) → length (b ∷ before) ≤ k → Agree (b ∷ before) (pulled P answer m a k) (pulled P answer m a (suc k))
    at zero le = absurd (omega arith)
    at (suc k) le = record { at = on }
      where
        on : (o : Origin) → IsFrom (b ∷ before) (Some o) → pulled P answer m a (suc k) o ≡ pulled P answer m a (suc (suc k)) o
        on North from = refl
        on West from = refl
        on (South c) (inl is) = rw (← is, same k (omega arith)) refl
        on (South c) (inr from) = (settled.at (suc k) (omega arith)).at (South c) from
        on (East c) (inl is) = rw (← is, same k (omega arith)) refl
        on (East c) (inr from) = (settled.at (suc k) (omega arith)).at (East c) from

-- the boxes of the second list, last first, before those of the first
abbrev pub behind : List ℕ → List ℕ → List ℕ
behind before [] = before
behind before (b ∷ bs) = behind (b ∷ before) bs

pub settled-all : (P : Program) (answer : Answers) (m : ℕ) (a : Inputs) (before bs : List ℕ) → IsSettled P answer m a before → IsSourced P m before bs →
    IsSettled P answer m a (behind before bs)
settled-all P answer m a before [] settled sources = settled
settled-all P answer m a before (b ∷ bs) settled sources =
    settled-all P answer m a (b ∷ before) bs (settled-cons P answer m a before b settled sources.0) sources.1

pub among-behind : (c : ℕ) (before bs : List ℕ) → IsAmong c before ⊎ IsAmong c bs → IsAmong c (behind before bs)
among-behind c before [] (inl h) = h
among-behind c before [] (inr h) = absurd h
among-behind c before (b ∷ bs) (inl h) = among-behind c (b ∷ before) bs (inl (inr h))
among-behind c before (b ∷ bs) (inr (inl is)) = among-behind c (b ∷ before) bs (inl (inl is))
among-behind c before (b ∷ bs) (inr (inr h)) = among-behind c (b ∷ before) bs (inr h)

pub length-behind : (before bs : List ℕ) → length (behind before bs) ≡ length before + length bs
length-behind before [] = omega arith
length-behind before (b ∷ bs) = omega (arith, length-behind (b ∷ before) bs)

-- the value at an origin is what its box gives, at the values at the origins
pub pulled-whole : (P : Program) (answer : Answers) (m : ℕ) (a : Inputs) (order : List ℕ) → IsOrder (module_at P m) order →
    look_of P answer m a ≡ look_in a (cells_from P answer m (look_of P answer m a))
unfolding pulled
pulled-whole P answer m a order is = fun_ext at
  where
    settled : IsSettled P answer m a (behind [] order)
    settled = settled-all P answer m a [] order (settled-nil P answer m a) (sourced P m order is)

    agree : Agree (behind [] order) (pulled P answer m a (box_count P m)) (pulled P answer m a (suc (box_count P m)))
    agree = settled.at (box_count P m) (omega (arith, length-behind [] order, is.once))

    past-none : (b : ℕ) → box_count P m ≤ b → (k : ℕ) → (pulled P answer m a k (South b) ≡ None) × (pulled P answer m a k (East b) ≡ None)
    past-none b past zero = (refl, refl)
    past-none b past (suc k) = (rw (act-past P m (pulled P answer m a k) b past) refl, rw (act-past P m (pulled P answer m a k) b past) refl)

    at : (o : Origin) → pulled P answer m a (box_count P m) o ≡ pulled P answer m a (suc (box_count P m)) o
    at North = agree.at North tt
    at West = agree.at West tt
    at (South b) = elim (cases_lt b (box_count P m)) [
      | inl lt ↦ agree.at (South b) (among-behind b [] order (inr (among_order P m order is b lt)))
      | inr past ↦ (past-none b past (box_count P m)).0 ∙ sym (past-none b past (suc (box_count P m))).0
    ]
    at (East b) = elim (cases_lt b (box_count P m)) [
      | inl lt ↦ agree.at (East b) (among-behind b [] order (inr (among_order P m order is b lt)))
      | inr past ↦ (past-none b past (box_count P m)).1 ∙ sym (past-none b past (suc (box_count P m))).1
    ]
