-- Rows that stand at places.
use Rattle.std.specs.Prelude.{◌≡◌, ◌≢◌, ◌+◌, ◌<◌, ◌≤◌, ℕ, Bool, true, Option, Some, None, is_some, IsSomeAnd, List, [], ◌∷◌, ◌++◌, length, map, count_by, slice_index_or, slice_set}
use Rattle.std.proofs.Common.{refl, sym, ◌∙◌, ap, arith, inl, inr, cond}
use Rattle.std.proofs.lemmas.Bool.{cases_eq, cases_lt}
use Rattle.std.proofs.lemmas.List.{map-set, get_or-map, length-map, map-append, length-set, get_or-set_same, get_or-set_other, get_or_append_left, get_or_push, length_push, get_or_past, get_or_default, ext_get_or, set-get_or}
use Rattle.std.proofs.lemmas.List.Sums.{sum_by-set}
use Rattle.fire_core.specs.declared.rows.Place.{Place}
use Rattle.fire_core.specs.declared.rows.Place.TheVariants.{Live, Ended}
use Rattle.fire_core.specs.declared.rows.Row.{Row}
use Rattle.fire_core.specs.inner.Rows.{RowForm, row_of, row_at, no_row}
use Rattle.fire_core.specs.inner.Places.{standing, form_of, rows_at, is_of_ended, IsThere, place_at, AreHeld}

abbrev pub number_of : Place → ℕ
number_of (Live key) = key
number_of (Ended at) = at

pub IsSomeAnd-row : {X : Type 0} (o : Option X) (P : X → Type 0) → IsSomeAnd o P → (x : X) × (o ≡ Some x) × P x
IsSomeAnd-row None P holds = elim holds [ ]
IsSomeAnd-row (Some x) P holds = (x, refl, holds)

pub IsSomeAnd-from : {X : Type 0} (o : Option X) (P : X → Type 0) (x : X) → o ≡ Some x → P x → IsSomeAnd o P
IsSomeAnd-from o P x is holds = rw is holds

pub standing-ended : (live : List (Option Row)) (ended : List Row) (at : ℕ) (d : Row) → at < length ended → standing live ended (Ended at) ≡ Some (slice_index_or ended at d)
standing-ended live ended at d lt = get_or-map Some ended at d None lt

pub ended-within : (live : List (Option Row)) (ended : List Row) (at : ℕ) (row : Row) → standing live ended (Ended at) ≡ Some row → at < length ended
ended-within live ended at row there = elim (cases_lt at (length ended)) [
  | inl lt ↦ lt
  | inr past ↦ absurd (cc (there, get_or_past (map Some ended) at None (omega (arith, past, length-map ended Some))))
]

pub live-within : (live : List (Option Row)) (key : ℕ) (row : Row) → slice_index_or live key None ≡ Some row → key < length live
live-within live key row there = elim (cases_lt key (length live)) [
  | inl lt ↦ lt
  | inr past ↦ absurd (cc (there, get_or_past live key None past))
]

-- a row that stands elsewhere still stands, where one slot has changed
pub standing-slot : (live new : List (Option Row)) (ended : List Row) (key : ℕ) (p : Place) → ((other : ℕ) → other ≢ key → slice_index_or new other None ≡ slice_index_or live other None) →
    p ≢ Live key → standing new ended p ≡ standing live ended p
standing-slot live new ended key (Live k) others differs = others k (λ same. differs (ap Live same))
standing-slot live new ended key (Ended at) others differs = refl

-- .. where an ended row has changed
pub standing-set : (live : List (Option Row)) (ended : List Row) (at : ℕ) (row : Row) (p : Place) → p ≢ Ended at → standing live (slice_set ended at row) p ≡ standing live ended p
standing-set live ended at row (Live k) differs = refl
standing-set live ended at row (Ended a) differs =
    ap (λ l. slice_index_or l a None) (map-set Some ended at row) ∙ get_or-set_other (map Some ended) at a (Some row) None (λ same. differs (ap Ended same))

-- .. where an ended row has come
pub standing-push : (live : List (Option Row)) (ended : List Row) (row old : Row) (p : Place) → standing live ended p ≡ Some old → standing live (ended ++ row ∷ []) p ≡ standing live ended p
standing-push live ended row old (Live k) there = refl
standing-push live ended row old (Ended a) there =
    let lt = ended-within live ended a old there in
    ap (λ l. slice_index_or l a None) (map-append Some ended (row ∷ [])) ∙ get_or_append_left (map Some ended) (Some row ∷ []) None a (omega (arith, lt, length-map ended Some))

module _ (live : List (Option Row)) (ended : List Row) (places : List Place) (room : ℕ) (held : AreHeld live ended places room) where
  pub there-row : (i : ℕ) → i < length places → (row : Row) × (standing live ended (place_at places i) ≡ Some row) × (is_some row.outcome ≡ is_of_ended (place_at places i))
  there-row i lt = IsSomeAnd-row _ _ (held.there i lt)

  pub others-apart : (i j : ℕ) → i < length places → j < length places → j ≢ i → place_at places j ≢ place_at places i
  others-apart i j il jl differs same = differs (held.apart j i jl il same)

-- the row at one place has changed, and all others stand as they did
module _ (live new : List (Option Row)) (ended newly : List Row) (places : List Place) (i : ℕ) (p : Place) (row : Row) (lt : i < length places)
    (others : (j : ℕ) → j < length places → j ≢ i → standing new newly (place_at places j) ≡ standing live ended (place_at places j))
    (stands : standing new newly p ≡ Some row) where
  pub rows_at-set : rows_at new newly (slice_set places i p) ≡ slice_set (rows_at live ended places) i (row_of row)
  rows_at-set =
      let f : Place → RowForm = λ place. form_of (standing live ended place) in
      let g : Place → RowForm = λ place. form_of (standing new newly place) in
      map-set g places i p
      ∙ ap (slice_set (map g places) i) (ap form_of stands)
      ∙ ext_get_or no_row _ _
      (length-set (map g places) i (row_of row) ∙ length-map places g ∙ sym (length-map places f) ∙ sym (length-set (map f places) i (row_of row)))
      (λ j jl. at j (omega (arith, jl, length-set (map g places) i (row_of row), length-map places g)))
    where
      at : (j : ℕ) → j < length places →
          slice_index_or (slice_set (map (λ place. form_of (standing new newly place)) places) i (row_of row)) j no_row
          ≡ slice_index_or (slice_set (map (λ place. form_of (standing live ended place)) places) i (row_of row)) j no_row
      at j jl =
          let f : Place → RowForm = λ place. form_of (standing live ended place) in
          let g : Place → RowForm = λ place. form_of (standing new newly place) in
          elim (cases_eq j i) [
            | inl same ↦ rw same (
                get_or-set_same (map g places) i (row_of row) no_row (omega (arith, lt, length-map places g))
                ∙ sym (get_or-set_same (map f places) i (row_of row) no_row (omega (arith, lt, length-map places f))))
            | inr differs ↦
                get_or-set_other (map g places) i j (row_of row) no_row differs
                ∙ get_or-map g places j (Live 0) no_row jl
                ∙ ap form_of (others j jl differs)
                ∙ sym (get_or-map f places j (Live 0) no_row jl)
                ∙ sym (get_or-set_other (map f places) i j (row_of row) no_row differs)
          ]

  pub there-set : is_some row.outcome ≡ is_of_ended p → ((j : ℕ) → j < length places → IsThere live ended (place_at places j)) →
      (j : ℕ) → j < length places → IsThere new newly (place_at (slice_set places i p) j)
  there-set fits there j jl = elim (cases_eq j i) [
    | inl same ↦ rw (same, get_or-set_same places i p (Live 0) lt) (IsSomeAnd-from _ _ row stands fits)
    | inr differs ↦ rw (get_or-set_other places i j p (Live 0) differs, others j jl differs) (there j jl)
  ]

pub within : (live : List (Option Row)) (ended : List Row) (places : List Place) (view : List RowForm) (i : ℕ) → rows_at live ended places ≡ view → i < length view → i < length places
within live ended places view i same lt = omega (arith, lt, ap length same, length-map places (λ place. form_of (standing live ended place)))

pub place_is : (places : List Place) (i : ℕ) (p q : Place) → p ≡ slice_index_or places i p → i < length places → p ≡ q → place_at places i ≡ q
place_is places i p q read lt is = get_or_default places i (Live 0) p lt ∙ sym read ∙ is

-- what is seen of the row at a place
pub seen : (live : List (Option Row)) (ended : List Row) (places : List Place) (view : List RowForm) (i : ℕ) (row : Row) → rows_at live ended places ≡ view → i < length view →
    standing live ended (place_at places i) ≡ Some row → row_of row ≡ row_at view i
seen live ended places view i row same lt stands =
    sym (ap form_of stands)
    ∙ sym (get_or-map (λ place. form_of (standing live ended place)) places i (Live 0) no_row (within live ended places view i same lt))
    ∙ ap (λ l. row_at l i) same

-- a write to the rows is one to the rows that are seen
pub changed_seen : (rows view : List RowForm) (i : ℕ) (row new : Row) (change : RowForm → RowForm) → rows ≡ view → row_of row ≡ row_at view i → row_of new ≡ change (row_of row) →
    slice_set rows i (row_of new) ≡ slice_set view i (change (row_at view i))
changed_seen rows view i row new change same is changed = ap (λ l. slice_set l i (row_of new)) same ∙ ap (slice_set view i) (changed ∙ ap change is)

apart-set : (places : List Place) (i : ℕ) (p : Place) → ((j : ℕ) → j < length places → j ≢ i → place_at places j ≢ p) → i < length places →
    ((a b : ℕ) → a < length places → b < length places → place_at places a ≡ place_at places b → a ≡ b) →
    (a b : ℕ) → a < length places → b < length places → place_at (slice_set places i p) a ≡ place_at (slice_set places i p) b → a ≡ b
apart-set places i p new lt apart a b al bl same = elim (cases_eq a i) [
  | inl ai ↦ elim (cases_eq b i) [
    | inl bi ↦ ai ∙ sym bi
    | inr bo ↦ elim (new b bl bo (sym (get_or-set_other places i b p (Live 0) bo) ∙ sym same ∙ ap (place_at (slice_set places i p)) ai ∙ get_or-set_same places i p (Live 0) lt)) [ ]
  ]
  | inr ao ↦ elim (cases_eq b i) [
    | inl bi ↦ elim (new a al ao (sym (get_or-set_other places i a p (Live 0) ao) ∙ same ∙ ap (place_at (slice_set places i p)) bi ∙ get_or-set_same places i p (Live 0) lt)) [ ]
    | inr bo ↦ apart a b al bl (sym (get_or-set_other places i a p (Live 0) ao) ∙ same ∙ get_or-set_other places i b p (Live 0) bo)
  ]
]

count-set_some : (live : List (Option Row)) (key : ℕ) (row new : Row) → slice_index_or live key None ≡ Some row → count_by is_some (slice_set live key (Some new)) ≡ count_by is_some live
count-set_some live key row new there =
    let both = sum_by-set (λ (o : Option Row). cond (is_some o) 1 0) live key (Some new) None (live-within live key row there) in
    let one = ap {B = ℕ} (λ (o : Option Row). cond (is_some o) 1 0) there in
    omega (arith, both, one)

-- a row has changed where it stands
module _ (live new : List (Option Row)) (ended newly : List Row) (places : List Place) (room i : ℕ) (row changed : Row) (held : AreHeld live ended places room) (lt : i < length places)
    (stood : standing live ended (place_at places i) ≡ Some row) (stands : standing new newly (place_at places i) ≡ Some changed)
    (others : (p : Place) → p ≢ place_at places i → standing new newly p ≡ standing live ended p) where
  elsewhere : (j : ℕ) → j < length places → j ≢ i → standing new newly (place_at places j) ≡ standing live ended (place_at places j)
  elsewhere j jl differs = others (place_at places j) (others-apart live ended places room held i j lt jl differs)

  unmoved : slice_set places i (place_at places i) ≡ places
  unmoved = set-get_or places i (Live 0)

  pub rows_at-in_place : rows_at new newly places ≡ slice_set (rows_at live ended places) i (row_of changed)
  rows_at-in_place =
      ap (rows_at new newly) (sym unmoved)
      ∙ rows_at-set live new ended newly places i (place_at places i) changed lt elsewhere stands

  pub AreHeld-in_place : is_some changed.outcome ≡ is_some row.outcome → length newly ≡ length ended → count_by is_some new ≡ count_by is_some live → AreHeld new newly places room
  AreHeld-in_place same long count =
      let there = there-row live ended places room held i lt in
      let is : there.0 ≡ row = ap (λ (o : Option Row). or_else row o) (sym there.1 ∙ stood) in
      record {
        there = λ j jl. ap_there (λ l. IsThere new newly (place_at l j)) unmoved (there-set live new ended newly places i (place_at places i) changed lt elsewhere stands
            (same ∙ ap (λ (r : Row). is_some r.outcome) (sym is) ∙ there.2) held.there j jl);
        apart = held.apart;
        all = omega (arith, held.all, long, count);
        fits = held.fits;
      }
    where
      or_else : Row → Option Row → Row
      or_else d None = d
      or_else d (Some x) = x

      ap_there : {X : Type 0} {a b : X} (P : X → Type 0) → a ≡ b → P a → P b
      ap_there P e p = rw (sym e) p

-- the row of a live instance has changed under its key
module _ (live : List (Option Row)) (ended : List Row) (places : List Place) (room i key : ℕ) (row new : Row) (held : AreHeld live ended places room) (lt : i < length places)
    (at : place_at places i ≡ Live key) (stood : slice_index_or live key None ≡ Some row) where
  live_stood : standing live ended (place_at places i) ≡ Some row
  live_stood = ap (standing live ended) at ∙ stood

  live_stands : standing (slice_set live key (Some new)) ended (place_at places i) ≡ Some new
  live_stands = ap (standing (slice_set live key (Some new)) ended) at ∙ get_or-set_same live key (Some new) None (live-within live key row stood)

  live_others : (p : Place) → p ≢ place_at places i → standing (slice_set live key (Some new)) ended p ≡ standing live ended p
  live_others p differs = standing-slot live (slice_set live key (Some new)) ended key p (λ other apart. get_or-set_other live key other (Some new) None apart) (λ same. differs (same ∙ sym at))

  pub rows_at-live : rows_at (slice_set live key (Some new)) ended places ≡ slice_set (rows_at live ended places) i (row_of new)
  rows_at-live = rows_at-in_place live (slice_set live key (Some new)) ended ended places room i row new held lt live_stood live_stands live_others

  pub AreHeld-live : is_some new.outcome ≡ is_some row.outcome → AreHeld (slice_set live key (Some new)) ended places room
  AreHeld-live same =
      AreHeld-in_place live (slice_set live key (Some new)) ended ended places room i row new held lt live_stood live_stands live_others
      same refl (count-set_some live key row new stood)

  pub live-seen : (view : List RowForm) → rows_at live ended places ≡ view → i < length view → row_of row ≡ row_at view i
  live-seen view same il = seen live ended places view i row same il live_stood

  -- the row has moved to the end of the list of ended rows
  module _ (after : List (Option Row)) (others : (other : ℕ) → other ≢ key → slice_index_or after other None ≡ slice_index_or live other None) where
    moved-elsewhere : (j : ℕ) → j < length places → j ≢ i → standing after (ended ++ new ∷ []) (place_at places j) ≡ standing live ended (place_at places j)
    moved-elsewhere j jl differs =
        let old = there-row live ended places room held j jl in
        let slot = standing-slot live after ended key (place_at places j) others (λ same. others-apart live ended places room held i j lt jl differs (same ∙ sym at)) in
        standing-push after ended new old.0 (place_at places j) (slot ∙ old.1) ∙ slot

    moved-stands : standing after (ended ++ new ∷ []) (Ended (length ended)) ≡ Some new
    moved-stands = standing-ended after (ended ++ new ∷ []) (length ended) new (omega (arith, length_push ended new)) ∙ ap Some (get_or_push ended new new (length ended) refl)

    pub rows_at-moved : (n : ℕ) → n ≡ length ended → rows_at after (ended ++ new ∷ []) (slice_set places i (Ended n)) ≡ slice_set (rows_at live ended places) i (row_of new)
    rows_at-moved n is = ap (λ n. rows_at after (ended ++ new ∷ []) (slice_set places i (Ended n))) is ∙ rows_at-set live after ended (ended ++ new ∷ []) places i (Ended (length ended)) new lt moved-elsewhere moved-stands

    AreHeld-moved_last : is_some new.outcome ≡ true → count_by is_some after + 1 ≡ count_by is_some live → AreHeld after (ended ++ new ∷ []) (slice_set places i (Ended (length ended))) room
    AreHeld-moved_last has count =
        let long = length-set places i (Ended (length ended)) in
        record {
          there = λ j jl. there-set live after ended (ended ++ new ∷ []) places i (Ended (length ended)) new lt moved-elsewhere moved-stands has held.there j (omega (arith, jl, long));
          apart = λ a b al bl. apart-set places i (Ended (length ended)) (λ j jl differs same.
              let old = there-row live ended places room held j jl in
              absurd (omega (arith, ended-within live ended (length ended) old.0 (sym (ap (standing live ended) same) ∙ old.1)))) lt held.apart a b (omega (arith, al, long)) (omega (arith, bl, long));
          all = omega (arith, held.all, long, count, length_push ended new);
          fits = omega (arith, held.fits, long);
        }

    pub AreHeld-moved : (n : ℕ) → n ≡ length ended → is_some new.outcome ≡ true → count_by is_some after + 1 ≡ count_by is_some live → AreHeld after (ended ++ new ∷ []) (slice_set places i (Ended n)) room
    AreHeld-moved n is has count = rw is (AreHeld-moved_last has count)

-- an ended row has changed
module _ (live : List (Option Row)) (ended : List Row) (places : List Place) (room i at : ℕ) (row new : Row) (held : AreHeld live ended places room) (lt : i < length places)
    (is : place_at places i ≡ Ended at) (read : row ≡ slice_index_or ended at row) where
  at-within : at < length ended
  at-within =
      let old = there-row live ended places room held i lt in
      ended-within live ended at old.0 (sym (ap (standing live ended) is) ∙ old.1)

  ended_stood : standing live ended (place_at places i) ≡ Some row
  ended_stood = ap (standing live ended) is ∙ standing-ended live ended at row at-within ∙ ap Some (sym read)

  ended_stands : standing live (slice_set ended at new) (place_at places i) ≡ Some new
  ended_stands =
      ap (standing live (slice_set ended at new)) is
      ∙ standing-ended live (slice_set ended at new) at new (omega (arith, at-within, length-set ended at new))
      ∙ ap Some (get_or-set_same ended at new new at-within)

  ended_others : (p : Place) → p ≢ place_at places i → standing live (slice_set ended at new) p ≡ standing live ended p
  ended_others p differs = standing-set live ended at new p (λ same. differs (same ∙ sym is))

  pub rows_at-ended : rows_at live (slice_set ended at new) places ≡ slice_set (rows_at live ended places) i (row_of new)
  rows_at-ended = rows_at-in_place live live ended (slice_set ended at new) places room i row new held lt ended_stood ended_stands ended_others

  pub has_outcome : is_some row.outcome ≡ true
  has_outcome =
      let old = there-row live ended places room held i lt in
      ap (λ (o : Option Row). ended_by o) (sym ended_stood ∙ old.1) ∙ old.2 ∙ ap is_of_ended is
    where
      ended_by : Option Row → Bool
      ended_by None = true
      ended_by (Some r) = is_some r.outcome

  pub AreHeld-ended : is_some new.outcome ≡ is_some row.outcome → AreHeld live (slice_set ended at new) places room
  AreHeld-ended same =
      AreHeld-in_place live live ended (slice_set ended at new) places room i row new held lt ended_stood ended_stands ended_others
      same (length-set ended at new) refl

  pub ended-seen : (view : List RowForm) → rows_at live ended places ≡ view → i < length view → row_of row ≡ row_at view i
  ended-seen view same il = seen live ended places view i row same il ended_stood

-- a row has come under a key that was vacant
module _ (live after : List (Option Row)) (ended : List Row) (places : List Place) (room more key : ℕ) (new : Row) (held : AreHeld live ended places room)
    (vacant : slice_index_or live key None ≡ None) (there : slice_index_or after key None ≡ Some new)
    (others : (other : ℕ) → other ≢ key → slice_index_or after other None ≡ slice_index_or live other None) where
  before-apart : (j : ℕ) → j < length places → place_at places j ≢ Live key
  before-apart j jl same =
      let old = there-row live ended places room held j jl in
      absurd (cc (vacant, ap (standing live ended) same, old.1))

  before-same : (j : ℕ) → j < length places → standing after ended (place_at places j) ≡ standing live ended (place_at places j)
  before-same j jl = standing-slot live after ended key (place_at places j) others (before-apart j jl)

  pub rows_at-pushed : rows_at after ended (places ++ Live key ∷ []) ≡ rows_at live ended places ++ row_of new ∷ []
  rows_at-pushed =
      let f : Place → RowForm = λ place. form_of (standing live ended place) in
      let g : Place → RowForm = λ place. form_of (standing after ended place) in
      map-append g places (Live key ∷ [])
      ∙ ap (λ l. l ++ form_of (slice_index_or after key None) ∷ []) (ext_get_or no_row (map g places) (map f places) (length-map places g ∙ sym (length-map places f))
      (λ j jl. get_or-map g places j (Live 0) no_row (omega (arith, jl, length-map places g))
      ∙ ap form_of (before-same j (omega (arith, jl, length-map places g)))
      ∙ sym (get_or-map f places j (Live 0) no_row (omega (arith, jl, length-map places g)))))
      ∙ ap (λ (o : Option Row). rows_at live ended places ++ form_of o ∷ []) there

  pub AreHeld-pushed : new.outcome ≡ None → count_by is_some after ≡ count_by is_some live + 1 → length places + 1 ≤ more → AreHeld after ended (places ++ Live key ∷ []) more
  AreHeld-pushed outcome count enough =
      let long = length_push places (Live key) in
      record {
        there = λ j jl. elim (cases_lt j (length places)) [
          | inl lt ↦ rw (get_or_append_left places (Live key ∷ []) (Live 0) j lt, before-same j lt) (held.there j lt)
          | inr past ↦ rw (get_or_push places (Live key) (Live 0) j (omega (arith, jl, long, past))) (IsSomeAnd-from _ _ new there (ap is_some outcome))
        ];
        apart = λ a b al bl same. elim (cases_lt a (length places)) [
          | inl ai ↦ elim (cases_lt b (length places)) [
            | inl bi ↦ held.apart a b ai bi (sym (get_or_append_left places (Live key ∷ []) (Live 0) a ai) ∙ same ∙ get_or_append_left places (Live key ∷ []) (Live 0) b bi)
            | inr past ↦ elim (before-apart a ai (sym (get_or_append_left places (Live key ∷ []) (Live 0) a ai) ∙ same ∙ get_or_push places (Live key) (Live 0) b (omega (arith, bl, long, past)))) [ ]
          ]
          | inr ao ↦ elim (cases_lt b (length places)) [
            | inl bi ↦ elim (before-apart b bi (sym (get_or_append_left places (Live key ∷ []) (Live 0) b bi) ∙ sym same ∙ get_or_push places (Live key) (Live 0) a (omega (arith, al, long, ao)))) [ ]
            | inr past ↦ omega (arith, al, bl, long, ao, past)
          ]
        ];
        all = omega (arith, held.all, long, count);
        fits = omega (arith, enough, long);
      }
