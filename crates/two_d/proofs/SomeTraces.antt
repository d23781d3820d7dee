-- A wire's start has one trace.
use Rattle.std.specs.Prelude.{◌≡◌, ◌+◌, ◌-◌, ◌*◌, ◌/◌, ◌<◌, ◌≤◌, ℕ, zero, suc, List, [], ◌∷◌, ◌++◌, length, map, slice_get, Some, All, Any}
use Rattle.std.proofs.Common.{arith, refl, sym, ap, subst, ◌∙◌, inl, inr, get_or}
use Rattle.std.proofs.lemmas.Bool.{cases_eq, cases_lt}
use Rattle.std.proofs.lemmas.List.{length-map, length-append, same_lists}
use Rattle.std.proofs.lemmas.List.Elements.{All-contains, All-filter, All-from_get_or}
use Rattle.std.proofs.lemmas.List.FromFn.{length-range_with_len, get_or-range_with_len}
use Rattle.std.proofs.lemmas.List.Quantifiers.{all_pairs_push}
use Rattle.std.proofs.lemmas.Nat.{div-mul-add, mul-le}
use Rattle.std.proofs.lemmas.Option.{slice_get_within, slice_get-get_or, get_or_from_slice_get, slice_get-map, same_Some}
use Rattle.umix_base.specs.declared.place.Place.{Place}
use Rattle.two_d.specs.Places.{at, Rect, Within, inner_rows, inner_columns}
use Rattle.two_d.specs.Frames.{north_entries, west_entries, exits_of}
use Rattle.two_d.specs.Ports.{Drawing, IsExit}
use Rattle.two_d.specs.Wires.{Position, Axis, horizontal, vertical, axis_of, IsStart, IsEnd, IsTaker, GoesOn, Step, Collide, Trace, IsWay, IsTrace}
use Rattle.two_d.proofs.Decide.{decided_both, decided_not}
use Rattle.two_d.proofs.Equal.{equal_places}
use Rattle.two_d.proofs.GoesOnOne.{goes_on_one}
use Rattle.two_d.proofs.NumberLists.{AreApart, AreBelow, few}
use Rattle.two_d.proofs.OneReading.{IsOne}
use Rattle.two_d.proofs.Options.{option_map_some}
use Rattle.two_d.proofs.SomeReading.{Found, decided_any}
use Rattle.two_d.proofs.SomeStarts.{StartsSouth, StartsEast, start_is}
use Rattle.two_d.proofs.SomeSteps.{end_is, decided_taker, decided_collide, collide_back, goes_on_some}

-- a list and one more
pub last_there : {A : Type 0} (xs : List A) (x : A) → slice_get (xs ++ x ∷ []) (length xs) ≡ Some x
last_there [] x = refl
last_there (y ∷ ys) x = last_there ys x

pub there_before : {A : Type 0} (xs : List A) (x : A) (k : ℕ) → k < length xs → slice_get (xs ++ x ∷ []) k ≡ slice_get xs k
there_before [] x k lt = absurd (omega arith)
there_before (y ∷ ys) x zero lt = refl
there_before (y ∷ ys) x (suc k) lt = there_before ys x k (omega arith)

long_more : {A : Type 0} (xs : List A) (x : A) → length (xs ++ x ∷ []) ≡ length xs + 1
long_more xs x = length-append xs (x ∷ [])

-- the position to which a way goes on
pub record IsNext (m : Drawing) (way : Trace) (t : Position) : Type 0 where
  pub last : Position
  pub is_last : slice_get way (length way - 1) ≡ Some last
  pub step : Step m last t
  pub apart : Any (Collide m t) way → ⊥

rows_below : (f : Rect) → All (λ r. r < f.bottom) (inner_rows f)
rows_below f = All-from_get_or (λ r. r < f.bottom) (inner_rows f) 0 (λ i lt.
    let long = length-range_with_len (f.top + 1) (f.bottom - f.top - 1) in
    let at = get_or-range_with_len (f.top + 1) (f.bottom - f.top - 1) i 0 (omega arith) in
    omega arith)

columns_below : (f : Rect) → All (λ c. c < f.right) (inner_columns f)
columns_below f = All-from_get_or (λ c. c < f.right) (inner_columns f) 0 (λ i lt.
    let long = length-range_with_len (f.left + 1) (f.right - f.left - 1) in
    let at = get_or-range_with_len (f.left + 1) (f.right - f.left - 1) i 0 (omega arith) in
    omega arith)

module _ (m : Drawing) where
  row_of_exit : (p : Place) → IsExit m p → p.row < m.frame.bottom
  row_of_exit p (is, there) = All-contains (λ r. r < m.frame.bottom) (exits_of m.grid m.frame) p.row (All-filter _ (λ r. r < m.frame.bottom) (inner_rows m.frame) (rows_below m.frame)) there

  -- a cell of the frame, or of its top or left border
  IsThere : Place → Type 0
  IsThere p = (p.row ≤ m.frame.top + m.frame.bottom) × (p.col < m.frame.left + m.frame.right + 1)

  within_there : (p : Place) → Within m.frame p → IsThere p
  unfolding IsThere
  within_there p w = let a = w.above_bottom in let b = w.before_right in (omega arith, omega arith)

  exit_there : (p : Place) → IsExit m p → IsThere p
  unfolding IsThere
  exit_there p exit = let a = row_of_exit p exit in let b = exit.0 in (omega arith, omega arith)

  south_there : (p : Place) → StartsSouth m p → IsThere p
  unfolding IsThere
  south_there p (inl (is, there)) =
      let b = All-contains (λ c. c < m.frame.right) (north_entries m.grid m.frame) p.col (All-filter _ (λ c. c < m.frame.right) (inner_columns m.frame) (columns_below m.frame)) there in
      (omega arith, omega arith)
  south_there p (inr (i, b, is, port)) = within_there p port.0.0

  east_there : (p : Place) → StartsEast m p → IsThere p
  unfolding IsThere
  east_there p (inl (is, there)) =
      let b = All-contains (λ r. r < m.frame.bottom) (west_entries m.grid m.frame) p.row (All-filter _ (λ r. r < m.frame.bottom) (inner_rows m.frame) (rows_below m.frame)) there in
      (omega arith, omega arith)
  east_there p (inr (i, b, is, (inl holds, after, along))) = within_there p holds.0
  east_there p (inr (i, b, is, (inr exit, after, along))) = exit_there p exit

  start_there : (s : Position) → IsStart m s → IsThere s.place
  start_there s (o, starts) = elim (start_is m s o starts) [ inl there ↦ south_there s.place there.1 | inr there ↦ east_there s.place there.1 ]

  end_there : (s : Position) → IsEnd m s → IsThere s.place
  end_there s (end, e) = elim (end_is m s end e) [
    | inl (to, (i, b, is, port)) ↦ within_there s.place port.0.0
    | inr (to, there) ↦ elim there [ inl (i, b, is, port) ↦ within_there s.place port.0.0 | inr exit ↦ exit_there s.place exit ]
  ]

  taker_there : (s : Position) → IsTaker m s → IsThere s.place
  taker_there s (inl (inl holds)) = within_there s.place holds.0
  taker_there s (inl (inr holds)) = within_there s.place holds.0
  taker_there s (inr (inl holds)) = within_there s.place holds.0
  taker_there s (inr (inr end)) = end_there s end

  -- the number of a cell and an axis
  axis_number : Axis → ℕ
  axis_number horizontal = 0
  axis_number vertical = 1

  axis_few : (a : Axis) → axis_number a < 2
  unfolding axis_number
  axis_few horizontal = omega arith
  axis_few vertical = omega arith

  axis_one : (a b : Axis) → axis_number a ≡ axis_number b → a ≡ b
  unfolding axis_number
  axis_one horizontal horizontal e = refl
  axis_one horizontal vertical e = absurd (omega arith)
  axis_one vertical horizontal e = absurd (omega arith)
  axis_one vertical vertical e = refl

  wide : ℕ
  wide = m.frame.left + m.frame.right + 1

  number : Position → ℕ
  number s = (s.place.row * wide + s.place.col) * 2 + axis_number (axis_of s.to)

  limit : ℕ
  limit = ((m.frame.top + m.frame.bottom) * wide + wide) * 2

  number_below : (s : Position) → IsThere s.place → number s < limit
  unfolding IsThere wide number limit
  number_below s (high, left) =
      let rows = mul-le s.place.row (m.frame.left + m.frame.right + 1) (m.frame.top + m.frame.bottom) (m.frame.left + m.frame.right + 1) high (omega arith) in
      let axis = axis_few (axis_of s.to) in
      omega arith

  number_apart : (s t : Position) → IsThere s.place → IsThere t.place → number s ≡ number t → Collide m s t
  unfolding IsThere wide number
  number_apart s t here there same =
      let w = m.frame.left + m.frame.right + 1 in
      let one = axis_few (axis_of s.to) in
      let other = axis_few (axis_of t.to) in
      let cells : s.place.row * w + s.place.col ≡ t.place.row * w + t.place.col = omega arith in
      let axes : axis_number (axis_of s.to) ≡ axis_number (axis_of t.to) = omega arith in
      let rows : s.place.row ≡ t.place.row = sym (div-mul-add s.place.row w s.place.col here.1) ∙ (ap (λ n. n / w) cells ∙ div-mul-add t.place.row w t.place.col there.1) in
      let products : s.place.row * w ≡ t.place.row * w = ap (λ r. r * w) rows in
      let columns : s.place.col ≡ t.place.col = omega arith in
      (equal_places s.place t.place rows columns, inl (axis_one (axis_of s.to) (axis_of t.to) axes))

  module _ (start : Position) (starts : IsStart m start) where
    way_there : (way : Trace) → IsWay m start way → (k : ℕ) (s : Position) → slice_get way k ≡ Some s → IsThere s.place
    way_there way is zero s here = let e : start ≡ s = same_Some start s (sym is.first ∙ here) in subst (λ z. IsThere z.place) e (start_there start starts)
    way_there way is (suc k) s here =
        let lt = slice_get_within way (suc k) s here in
        let before = slice_get-get_or way k start (omega arith) in
        let n : suc k ≡ k + 1 = omega arith in
        taker_there s (is.steps k (get_or way k start) s before (subst (λ j. slice_get way j ≡ Some s) n here)).1

    -- a way isn't longer than there are cells and axes
    way_short : (way : Trace) → IsWay m start way → length way ≤ limit
    way_short way is = let long = length-map way number in let le = few (map number way) limit apart below in omega arith
      where
        numbered : (i x : ℕ) → slice_get (map number way) i ≡ Some x → (s : Position) × (slice_get way i ≡ Some s) × (number s ≡ x)
        numbered i x here = option_map_some number (slice_get way i) x (sym (slice_get-map number way i) ∙ here)

        below : AreBelow (map number way) limit
        below i x here = let (s, at, same) = numbered i x here in subst (λ n. n < limit) same (number_below s (way_there way is i s at))

        apart : AreApart (map number way)
        apart i j x here there less =
            let (s, at_s, same_s) = numbered i x here in
            let (t, at_t, same_t) = numbered j x there in
            let e = get_or_from_slice_get way i s start at_s in
            let f = get_or_from_slice_get way j t start at_t in
            is.apart i j start less (slice_get_within way j t at_t)
            (subst (λ z. Collide m z (get_or way j start)) (sym e) (subst (Collide m s) (sym f)
            (number_apart s t (way_there way is i s at_s) (way_there way is j t at_t) (same_s ∙ sym same_t))))

    -- two ways from one start are alike as far as both go
    alike : (v w : Trace) → IsWay m start v → IsWay m start w → (k : ℕ) (s t : Position) → slice_get v k ≡ Some s → slice_get w k ≡ Some t → s ≡ t
    alike v w one other zero s t at_s at_t = same_Some s t (sym at_s ∙ (one.first ∙ (sym other.first ∙ at_t)))
    alike v w one other (suc k) s t at_s at_t =
        let lv = slice_get_within v (suc k) s at_s in
        let lw = slice_get_within w (suc k) t at_t in
        let before_s = slice_get-get_or v k start (omega arith) in
        let before_t = slice_get-get_or w k start (omega arith) in
        let same = alike v w one other k (get_or v k start) (get_or w k start) before_s before_t in
        let n : suc k ≡ k + 1 = omega arith in
        let to_s = one.steps k (get_or v k start) s before_s (subst (λ j. slice_get v j ≡ Some s) n at_s) in
        let to_t = other.steps k (get_or w k start) t before_t (subst (λ j. slice_get w j ≡ Some t) n at_t) in
        let e : s ∷ [] ≡ t ∷ [] = goes_on_one m (get_or w k start) (s ∷ []) (t ∷ []) (subst (λ z. GoesOn m z (s ∷ [])) same to_s.0) to_t.0 in
        cc

    pub trace_one : IsOne (IsTrace m start)
    trace_one v w one other =
        let le = one.longest w other.way in
        let ge = other.longest v one.way in
        same_lists v w (omega arith) (λ k d lt. alike v w one.way other.way k (get_or v k d) (get_or w k d) (slice_get-get_or v k d lt) (slice_get-get_or w k d (omega arith)))

    -- a way goes on in one way or not at all
    next_or_none : (way : Trace) → IsWay m start way → Found (IsNext m way)
    next_or_none way is =
        let lt = slice_get_within way 0 start is.first in
        let last = get_or way (length way - 1) start in
        let at : slice_get way (length way - 1) ≡ Some last = slice_get-get_or way (length way - 1) start (omega arith) in
        let (more, goes) = goes_on_some m last in
        by last at more goes
      where
        from_last : (last : Position) → slice_get way (length way - 1) ≡ Some last → (t : Position) → (n : IsNext m way t) → GoesOn m last (t ∷ [])
        from_last last at t n = subst (λ z. GoesOn m z (t ∷ [])) (same_Some n.last last (sym n.is_last ∙ at)) n.step.0

        by : (last : Position) → slice_get way (length way - 1) ≡ Some last → (more : List Position) → GoesOn m last more → Found (IsNext m way)
        by last at [] goes = inr (λ t n. let e : t ∷ [] ≡ [] = goes_on_one m last (t ∷ []) [] (from_last last at t n) goes in cc)
        by last at (t ∷ u ∷ more) goes = inr (λ s n. let e : s ∷ [] ≡ t ∷ u ∷ more = goes_on_one m last (s ∷ []) (t ∷ u ∷ more) (from_last last at s n) goes in cc)
        by last at (t ∷ []) goes = elim (decided_both (decided_taker m t) (decided_not (decided_any (Collide m t) (decided_collide m t) way))) [
          | inl both ↦ inl (t, record { last = last; is_last = at; step = (goes, both.0); apart = both.1 })
          | inr not_both ↦ inr (λ s n.
              let e : s ∷ [] ≡ t ∷ [] = goes_on_one m last (s ∷ []) (t ∷ []) (from_last last at s n) goes in
              let same : s ≡ t = cc in
              not_both (subst (IsTaker m) same n.step.1, subst (λ z. Any (Collide m z) way → ⊥) same n.apart))
        ]

    pub way_more : (way : Trace) (t : Position) → IsWay m start way → IsNext m way t → IsWay m start (way ++ t ∷ [])
    way_more way t is n = record {
      first = there_before way t 0 long ∙ is.first;
      steps = steps;
      apart = all_pairs_push (λ s u. Collide m s u → ⊥) way t is.apart (λ k d lt c. n.apart (k, get_or way k d, lt, get_or_from_slice_get way k (get_or way k d) (get_or way k d) (slice_get-get_or way k d lt), collide_back m (get_or way k d) t c));
    }
      where
        long : 0 < length way
        long = slice_get_within way 0 start is.first

        steps : (k : ℕ) (s u : Position) → slice_get (way ++ t ∷ []) k ≡ Some s → slice_get (way ++ t ∷ []) (k + 1) ≡ Some u → Step m s u
        steps k s u at_s at_u =
            let lt = slice_get_within (way ++ t ∷ []) (k + 1) u at_u in
            let l = long_more way t in
            let here : slice_get way k ≡ Some s = sym (there_before way t k (omega arith)) ∙ at_s in
            elim (cases_eq (k + 1) (length way)) [
              | inl end ↦
                  (let k_is : k ≡ length way - 1 = omega arith in
                  let same_last : n.last ≡ s = same_Some n.last s (sym n.is_last ∙ (ap (slice_get way) (sym k_is) ∙ here)) in
                  let same_next : t ≡ u = same_Some t u (sym (last_there way t) ∙ (ap (slice_get (way ++ t ∷ [])) (sym end) ∙ at_u)) in
                  subst (λ z. Step m z u) same_last (subst (Step m n.last) same_next n.step))
              | inr other ↦ is.steps k s u here (sym (there_before way t (k + 1) (omega arith)) ∙ at_u)
            ]

    -- a way that can't go on is the trace
    whole : (way : Trace) → IsWay m start way → ((t : Position) → IsNext m way t → ⊥) → IsTrace m start way
    whole way is none = record { way = is; longest = longest }
      where
        longest : (more : Trace) → IsWay m start more → length more ≤ length way
        longest more also = elim (cases_lt (length way) (length more)) [
          | inr short ↦ short
          | inl less ↦
              let lt = slice_get_within way 0 start is.first in
              let k = length way - 1 in
              let n : length way ≡ k + 1 = omega arith in
              let last = get_or way k start in
              let at_last : slice_get way k ≡ Some last = slice_get-get_or way k start (omega arith) in
              let at_other : slice_get more k ≡ Some (get_or more k start) = slice_get-get_or more k start (omega arith) in
              let t = get_or more (length way) start in
              let at_t : slice_get more (length way) ≡ Some t = slice_get-get_or more (length way) start less in
              let same : get_or more k start ≡ last = sym (alike way more is also k last (get_or more k start) at_last at_other) in
              let step : Step m last t = subst (λ z. Step m z t) same (also.steps k (get_or more k start) t at_other (subst (λ j. slice_get more j ≡ Some t) n at_t)) in
              absurd (none t (record {
                last = last;
                is_last = at_last;
                step = step;
                apart = λ (j, s, below, here, collide).
                    let at_j : slice_get way j ≡ Some s = slice_get-get_or way j s below ∙ ap (λ z. Some z) here in
                    let same_j : s ≡ get_or more j start = alike way more is also j s (get_or more j start) at_j (slice_get-get_or more j start (omega arith)) in
                    also.apart j (length way) start below less (subst (λ z. Collide m z t) same_j (collide_back m t s collide));
              }))
        ]

    -- a way goes on until it can't
    onward : (n : ℕ) (way : Trace) → IsWay m start way → limit < length way + n → (trace : Trace) × IsTrace m start trace
    onward zero way is past = absurd (let le = way_short way is in omega arith)
    onward (suc n) way is past = elim (next_or_none way is) [
      | inr none ↦ (way, whole way is none)
      | inl (t, next) ↦ onward n (way ++ t ∷ []) (way_more way t is next) (let l = long_more way t in omega arith)
    ]

    pub some_trace : (trace : Trace) × IsTrace m start trace
    some_trace = onward (limit + 1) (start ∷ []) (record {
      first = refl;
      steps = λ k s t at_s at_t. absurd (let lt = slice_get_within (start ∷ []) (k + 1) t at_t in omega arith);
      apart = λ i j d less lt. absurd (omega arith);
    }) (omega arith)
