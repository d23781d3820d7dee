-- Boxes that have their turns in an order in which each stands behind its sources come to what is pulled.
use Rattle.std.specs.Prelude.{Option, Some, None, ◌≡◌, ℕ, ◌==◌, if◌then◌else◌, Bool, true, false, List, [], ◌∷◌, ◌++◌}
use Rattle.std.specs.Option.{option_map}
use mathlib.Core.Path.{fun_ext}
use Rattle.std.proofs.Common.{refl, sym, ◌∙◌, ap, ◌⊎◌, inl, inr}
use Rattle.std.proofs.lemmas.Bool.{cases_lt, eqb-true, eqb-false}
use Rattle.codex_values.specs.Value.{Value}
use Rattle.two_d.specs.Programs.{Origin, North, West, South, East, Program, module_at, box_at, box_count}
use Rattle.two_d.specs.Meaning.{Inputs, Cells, Answers, act, cell_of, cells_from, look_in, none_fired, south_of, east_of, look_of, outcome_of}
use Rattle.two_d.specs.Sound.{IsOrder}
use Rattle.two_d.proofs.Sourced.{IsAmong, IsFrom, SourcesAmong, IsSourced, sourced, among_order}
use Rattle.two_d.proofs.Pulling.{Agree, act-agree, act-past, pulled-north, pulled-west, pulled-whole, behind, among-behind}

-- box b has had its turn: it has come to something if it is enabled
abbrev pub turned : Program → Answers → ℕ → Inputs → Cells → ℕ → Cells
turned P answer m a cells b = λ c. if c == b then cells_from P answer m (look_in a cells) b else cells c

-- these boxes have had their turns, one after the other
abbrev pub pushed : Program → Answers → ℕ → Inputs → Cells → List ℕ → Cells
pushed P answer m a cells [] = cells
pushed P answer m a cells (b ∷ bs) = pushed P answer m a (turned P answer m a cells b) bs

-- each of these boxes has come to what is pulled, and no other has come to anything else
pub record IsPushed (P : Program) (answer : Answers) (m : ℕ) (a : Inputs) (before : List ℕ) (cells : Cells) : Type 0 where
  pub at : (b : ℕ) → (cells b ≡ cells_from P answer m (look_of P answer m a) b) ⊎ ((IsAmong b before → ⊥) × (cells b ≡ None))

pub pushed_none : (P : Program) (answer : Answers) (m : ℕ) (a : Inputs) → IsPushed P answer m a [] none_fired
pushed_none P answer m a = record { at = λ b. inr ((λ among. among), refl) }

module _ (P : Program) (answer : Answers) (m : ℕ) (a : Inputs) (whole : look_of P answer m a ≡ look_in a (cells_from P answer m (look_of P answer m a))) where
  -- on what comes from these boxes the wires carry what is pulled
  pub agree_pushed : (before : List ℕ) (cells : Cells) → IsPushed P answer m a before cells → Agree before (look_in a cells) (look_of P answer m a)
  agree_pushed before cells is = record { at = at }
    where
      cell : (c : ℕ) → IsAmong c before → cells c ≡ cells_from P answer m (look_of P answer m a) c
      cell c among = elim (is.at c) [ inl e ↦ e | inr other ↦ absurd (other.0 among) ]

      at : (o : Origin) → IsFrom before (Some o) → look_in a cells o ≡ look_of P answer m a o
      at North from = sym (pulled-north P answer m a (box_count P m))
      at West from = sym (pulled-west P answer m a (box_count P m))
      at (South c) from = ap south_of (cell c from) ∙ sym (ap (λ (f : Origin → Option Value). f (South c)) whole)
      at (East c) from = ap east_of (cell c from) ∙ sym (ap (λ (f : Origin → Option Value). f (East c)) whole)

  -- the box whose turn it is does what it does at the pulled values
  pub act_pushed : (before : List ℕ) (cells : Cells) (b : ℕ) → IsPushed P answer m a before cells → SourcesAmong before (box_at P m b) →
      act P m (look_in a cells) b ≡ act P m (look_of P answer m a) b
  act_pushed before cells b is sources = act-agree P m b before (look_in a cells) (look_of P answer m a) (agree_pushed before cells is) sources

  pub pushed_one : (before : List ℕ) (cells : Cells) (b : ℕ) → IsPushed P answer m a before cells → SourcesAmong before (box_at P m b) →
      IsPushed P answer m a (b ∷ before) (turned P answer m a cells b)
  pushed_one before cells b is sources = record { at = λ c. by c (c == b) refl }
    where
      by : (c : ℕ) (t : Bool) → (c == b) ≡ t →
          ((if t then cells_from P answer m (look_in a cells) b else cells c) ≡ cells_from P answer m (look_of P answer m a) c)
          ⊎ ((IsAmong c (b ∷ before) → ⊥) × ((if t then cells_from P answer m (look_in a cells) b else cells c) ≡ None))
      by c true e = inl (ap (option_map (cell_of m b answer)) (act_pushed before cells b is sources) ∙ ap (cells_from P answer m (look_of P answer m a)) (sym (eqb-true c b e)))
      by c false e = elim (is.at c) [
        | inl same ↦ inl same
        | inr other ↦ inr ((λ among. elim among [ inl here ↦ eqb-false c b e (sym here) | inr more ↦ other.0 more ]), other.1)
      ]

  pub pushed_all : (before : List ℕ) (cells : Cells) (bs : List ℕ) → IsPushed P answer m a before cells → IsSourced P m before bs →
      IsPushed P answer m a (behind before bs) (pushed P answer m a cells bs)
  pushed_all before cells [] is sources = is
  pushed_all before cells (b ∷ bs) is sources =
      pushed_all (b ∷ before) (turned P answer m a cells b) bs (pushed_one before cells b is sources.0) sources.1

pub sourced_front : (P : Program) (m : ℕ) (before bs cs : List ℕ) → IsSourced P m before (bs ++ cs) → IsSourced P m before bs × IsSourced P m (behind before bs) cs
sourced_front P m before [] cs is = (tt, is)
sourced_front P m before (b ∷ bs) cs is = let rest = sourced_front P m (b ∷ before) bs cs is.1 in ((is.0, rest.0), rest.1)

module _ (P : Program) (answer : Answers) (m : ℕ) (a : Inputs) (order : List ℕ) (is : IsOrder (module_at P m) order) where
  -- After all turns each box has come to what is pulled.
  pub push : pushed P answer m a none_fired order ≡ cells_from P answer m (look_of P answer m a)
  push = fun_ext (λ b. at b (all.at b))
    where
      all : IsPushed P answer m a (behind [] order) (pushed P answer m a none_fired order)
      all = pushed_all P answer m a (pulled-whole P answer m a order is) [] none_fired order (pushed_none P answer m a) (sourced P m order is)

      at : (b : ℕ) → (pushed P answer m a none_fired order b ≡ cells_from P answer m (look_of P answer m a) b) ⊎ ((IsAmong b (behind [] order) → ⊥) × (pushed P answer m a none_fired order b ≡ None)) →
          pushed P answer m a none_fired order b ≡ cells_from P answer m (look_of P answer m a) b
      at b (inl e) = e
      at b (inr other) = elim (cases_lt b (box_count P m)) [
        | inl lt ↦ absurd (other.0 (among-behind b [] order (inr (among_order P m order is b lt))))
        | inr past ↦ other.1 ∙ sym (ap (option_map (cell_of m b answer)) (act-past P m (look_of P answer m a) b past))
      ]

  -- and each wire carries what is pulled,
  pub push_wires : look_in a (pushed P answer m a none_fired order) ≡ look_of P answer m a
  push_wires = ap (look_in a) push ∙ sym (pulled-whole P answer m a order is)

  -- so the outcome is that of the instance.
  pub push_outcome : outcome_of P m (pushed P answer m a none_fired order) (look_in a (pushed P answer m a none_fired order))
      ≡ outcome_of P m (cells_from P answer m (look_of P answer m a)) (look_of P answer m a)
  push_outcome = ap (λ (c : Cells). outcome_of P m c (look_in a c)) push ∙ ap (outcome_of P m (cells_from P answer m (look_of P answer m a))) (sym (pulled-whole P answer m a order is))

  -- At each turn on the way the box does what it does at the pulled values.
  pub push_turn : (bs : List ℕ) (b : ℕ) (cs : List ℕ) → order ≡ bs ++ b ∷ cs →
      act P m (look_in a (pushed P answer m a none_fired bs)) b ≡ act P m (look_of P answer m a) b
  push_turn bs b cs e =
      let s = sourced_front P m [] bs (b ∷ cs) (rw e at (sourced P m order is)) in
      let whole = pulled-whole P answer m a order is in
      act_pushed P answer m a whole (behind [] bs) _ b (pushed_all P answer m a whole [] none_fired bs (pushed_none P answer m a) s.0) s.1.0
