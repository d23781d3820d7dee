-- A wire is followed cell by cell.
use Rattle.std.proofs.Common.{◌≡◌, ℕ, suc, ◌+◌, ◌-◌, ◌<◌, ◌≤◌, ◌++◌, inl, inr, List, [], ◌∷◌, length, drop, get_or, Result, Ok, Err, Some, refl, ap, sym, subst, ◌∙◌, append_assoc, arith}
use Rattle.std.specs.List.{Any, AllPairs, slice_get}
use Rattle.std.proofs.lemmas.List.{get_or_default, get_or_push, get_or_append_left, length_push}
use Rattle.std.proofs.lemmas.List.Quantifiers.{all_pairs_push}
use Rattle.std.proofs.lemmas.Option.{slice_get-get_or, slice_get_within}
use Rattle.umix_base.specs.declared.place.Place.{Place}
use Rattle.two_d.specs.Faults.{TextFault, broken_wire, merge, bad_turn}
use Rattle.two_d.specs.Reading.{each_after, goes_on, stops, gave, it, refused, passed}
use Rattle.two_d.specs.Ports.{Drawing, Holds}
use Rattle.two_d.specs.Wires.{Position, Trace, Collide, IsWay, IsTrace, IsTurn, IsTaker, IsEnd, GoesOn, ends}
use Rattle.two_d.specs.Clean.{tried_cell, wire_at}
use Rattle.two_d.proofs.GoesOnOne.{goes_on_one, end_no_turn}
use Rattle.wire_trace.proofs.Ways.{way_more, ways_agree, ends_longest}

-- a turn without one way to turn
abbrev pub Stands : Drawing → Position → Type 0
Stands m s = IsTurn m s × GoesOn m s []

-- A wire has come to a position: its cells so far are a way, and each of them passed, but that the last
-- may be a turn at which it stands.
pub record IsUnder (m : Drawing) (earlier : List Trace) (start here : Position) (way : Trace) : Type 0 where
  pub is_way : IsWay m start way
  pub last : slice_get way (length way - 1) ≡ Some here
  pub passes : (Stands m here → ⊥) → (rest : Trace) (r : Result Trace TextFault) → each_after (tried_cell m earlier) way rest r → each_after (tried_cell m earlier) (start ∷ []) (drop 1 way ++ rest) r
  pub stops_here : Stands m here → (rest : Trace) → each_after (tried_cell m earlier) (start ∷ []) (drop 1 way ++ rest) (Err (bad_turn here.place))

collide_back : (m : Drawing) (s t : Position) → Collide m s t → Collide m t s
collide_back m s t (same, inl axis) = (sym same, inl (sym axis))
collide_back m s t (same, inr turn) = (sym same, inr (subst (λ (p : Place). Holds m 43 p) same turn))

apart_more : (m : Drawing) (t : Position) (way : Trace) → AllPairs (λ s u. Collide m s u → ⊥) way → (Any (Collide m t) way → ⊥) → AllPairs (λ s u. Collide m s u → ⊥) (way ++ t ∷ [])
apart_more m t way apart free = all_pairs_push (λ s u. Collide m s u → ⊥) way t apart (λ k d less hit. free (k, get_or way k d, less, get_or_default way k (get_or way k d) d less, collide_back m (get_or way k d) t hit))

pub under_first : (m : Drawing) (earlier : List Trace) (start : Position) → (IsTurn m start → ⊥) → IsUnder m earlier start start (start ∷ [])
under_first m earlier start no_turn = record {
  is_way = record {
    first = refl;
    steps = λ k s t at_s at_t. absurd (let lt = slice_get_within (start ∷ []) (k + 1) t at_t in omega arith);
    apart = λ i j d less lt. absurd (omega arith);
  };
  last = refl;
  passes = λ _ rest r h. h;
  stops_here = λ stands rest. absurd (no_turn stands.0);
}

drop_more : (way : Trace) (t : Position) (rest : Trace) → 0 < length way → drop 1 (way ++ t ∷ []) ++ rest ≡ drop 1 way ++ (t ∷ rest)
drop_more [] t rest some = absurd (omega arith)
drop_more (s ∷ way) t rest some = append_assoc way (t ∷ []) rest

pub under_next : (m : Drawing) (earlier : List Trace) (start here t : Position) (way : Trace) → IsUnder m earlier start here way → GoesOn m here (t ∷ []) → IsTaker m t → (Any (Any (Collide m t)) (way ∷ earlier) → ⊥) → IsUnder m earlier start t (way ++ t ∷ [])
under_next m earlier start here t way under goes taker free = record {
  is_way = way_more m start here t way under.is_way under.last (goes, taker) (apart_more m t way under.is_way.apart own_free);
  last = (let len = length_push way t in slice_get-get_or (way ++ t ∷ []) (length (way ++ t ∷ []) - 1) t (omega arith) ∙ ap (λ x. Some x) (get_or_push way t t (length (way ++ t ∷ []) - 1) (omega arith)));
  passes = λ no_stand rest r h. subst (λ xs. each_after (tried_cell m earlier) (start ∷ []) xs r) (sym (drop_more way t rest some))
      (under.passes moves (t ∷ rest) r (goes_on t (goes_on tt (passed (λ isnt. isnt taker)) (goes_on tt (passed free) (goes_on tt (passed no_stand) gave))) h));
  stops_here = λ stands rest. subst (λ xs. each_after (tried_cell m earlier) (start ∷ []) xs (Err (bad_turn t.place))) (sym (drop_more way t rest some))
      (under.passes moves (t ∷ rest) (Err (bad_turn t.place)) (stops (bad_turn t.place) (goes_on tt (passed (λ isnt. isnt taker)) (goes_on tt (passed free) (stops (bad_turn t.place) (refused stands))))));
}
  where
    some : 0 < length way
    some = slice_get_within way 0 start under.is_way.first

    own_free : Any (Collide m t) way → ⊥
    own_free any = free (0, way, omega arith, refl, any)

    moves : Stands m here → ⊥
    moves stands = let e = goes_on_one m here (t ∷ []) [] goes stands.1 in cc

whole : (m : Drawing) (earlier : List Trace) (start here : Position) (way more : Trace) (r : Result Trace TextFault) → IsUnder m earlier start here way → IsTrace m start way → GoesOn m here more → each_after (tried_cell m earlier) (start ∷ []) (drop 1 way ++ more) r → wire_at m earlier start r
whole m earlier start here way more r under trace goes h =
    goes_on way (it way trace) (goes_on (drop 1 way ++ more) (it (drop 1 way ++ more) (record { last = here; more = more; is_last = under.last; goes_on = goes; all = refl })) h)

-- it ends
pub wire_ends : (m : Drawing) (earlier : List Trace) (start here : Position) (way : Trace) → IsUnder m earlier start here way → IsEnd m here → wire_at m earlier start (Ok way)
wire_ends m earlier start here way under end =
    whole m earlier start here way [] (Ok way) under
    (ends_longest m start here way under.is_way under.last (λ t step _. let e = goes_on_one m here (t ∷ []) [] step.0 (ends end) in cc))
    (ends end)
    (under.passes (λ stands. end_no_turn m here end.0 end.1 stands.0) [] (Ok way) gave)

-- it stands at a turn
pub wire_stands : (m : Drawing) (earlier : List Trace) (start here : Position) (way : Trace) → IsUnder m earlier start here way → Stands m here → wire_at m earlier start (Err (bad_turn here.place))
wire_stands m earlier start here way under stands =
    whole m earlier start here way [] (Err (bad_turn here.place)) under
    (ends_longest m start here way under.is_way under.last (λ t step _. let e = goes_on_one m here (t ∷ []) [] step.0 stands.1 in cc))
    stands.1 (under.stops_here stands [])

-- it comes to a cell that doesn't take it
pub wire_breaks : (m : Drawing) (earlier : List Trace) (start here t : Position) (way : Trace) → IsUnder m earlier start here way → GoesOn m here (t ∷ []) → (IsTaker m t → ⊥) → wire_at m earlier start (Err (broken_wire t.place))
wire_breaks m earlier start here t way under goes isnt =
    whole m earlier start here way (t ∷ []) (Err (broken_wire t.place)) under
    (ends_longest m start here way under.is_way under.last (λ u step _. let e = goes_on_one m here (u ∷ []) (t ∷ []) step.0 goes in let f : u ≡ t = cc in isnt (subst (IsTaker m) f step.1)))
    goes
    (under.passes (λ stands. let e = goes_on_one m here (t ∷ []) [] goes stands.1 in cc) (t ∷ []) (Err (broken_wire t.place)) (stops (broken_wire t.place) (stops (broken_wire t.place) (refused isnt))))

-- it comes to a cell that it occupies itself
pub wire_meets_itself : (m : Drawing) (earlier : List Trace) (start here t : Position) (way : Trace) → IsUnder m earlier start here way → GoesOn m here (t ∷ []) → IsTaker m t → Any (Collide m t) way → wire_at m earlier start (Err (merge t.place))
wire_meets_itself m earlier start here t way under goes taker (k, s, less, is, hit) =
    whole m earlier start here way (t ∷ []) (Err (merge t.place)) under
    (ends_longest m start here way under.is_way under.last (λ u step apart. let e = goes_on_one m here (u ∷ []) (t ∷ []) step.0 goes in let f : u ≡ t = cc in
    collides u f apart))
    goes
    (under.passes (λ stands. let e = goes_on_one m here (t ∷ []) [] goes stands.1 in cc) (t ∷ []) (Err (merge t.place))
    (stops (merge t.place) (goes_on tt (passed (λ isnt. isnt taker)) (stops (merge t.place) (refused (0, way, omega arith, refl, (k, s, less, is, hit)))))))
  where
    collides : (u : Position) → u ≡ t → AllPairs (λ s u. Collide m s u → ⊥) (way ++ u ∷ []) → ⊥
    collides u same apart = (let len = length_push way u in apart k (length way) s less (omega arith)
        (subst (λ x. Collide m x (get_or (way ++ u ∷ []) (length way) s)) (sym (get_or_append_left way (u ∷ []) s k less ∙ is))
        (subst (Collide m s) (sym (get_or_push way u s (length way) refl ∙ same)) (collide_back m t s hit))))

-- a list that agrees with a longer one begins it
begins : (xs ys : Trace) → ((k : ℕ) (s t : Position) → slice_get xs k ≡ Some s → slice_get ys k ≡ Some t → s ≡ t) → length xs ≤ length ys → (rest : Trace) × (ys ≡ xs ++ rest)
begins [] ys same short = (ys, refl)
begins (x ∷ xs) [] same short = absurd (omega arith)
begins (x ∷ xs) (y ∷ ys) same short =
    let (rest, is) = begins xs ys (λ k s t e f. same (suc k) s t e f) (omega arith) in
    let e : x ≡ y = same 0 x y refl refl in
    (rest, ap (λ z. z ∷ ys) (sym e) ∙ ap (λ zs. x ∷ zs) is)

cut : (way : Trace) (t : Position) (rest more : Trace) → 0 < length way → drop 1 ((way ++ t ∷ []) ++ rest) ++ more ≡ drop 1 way ++ (t ∷ (rest ++ more))
cut [] t rest more some = absurd (omega arith)
cut (s ∷ way) t rest more some = append_assoc (way ++ t ∷ []) rest more ∙ append_assoc way (t ∷ []) (rest ++ more)

-- it comes to a cell that an earlier wire occupies: the trace goes on behind it
pub wire_meets_earlier : (m : Drawing) (earlier : List Trace) (start here t : Position) (way trace : Trace) → IsUnder m earlier start here way → GoesOn m here (t ∷ []) → IsTaker m t → (Any (Collide m t) way → ⊥) → Any (Any (Collide m t)) earlier → IsTrace m start trace → ((s : Position) → (more : Trace) × GoesOn m s more) → wire_at m earlier start (Err (merge t.place))
wire_meets_earlier m earlier start here t way trace under goes taker free (k, own, less, is, hit) is_trace onward =
    let more_way = way_more m start here t way under.is_way under.last (goes, taker) (apart_more m t way under.is_way.apart free) in
    let short = is_trace.longest (way ++ t ∷ []) more_way in
    let (rest, same) = begins (way ++ t ∷ []) trace (ways_agree m start (way ++ t ∷ []) trace more_way is_trace.way) short in
    let len = length_push way t in
    let n = length trace - 1 in
    let last = get_or trace n start in
    let (more, on) = onward last in
    goes_on trace (it trace is_trace) (goes_on (drop 1 trace ++ more) (it (drop 1 trace ++ more) (record { last = last; more = more; is_last = slice_get-get_or trace n start (omega arith); goes_on = on; all = refl }))
    (subst (λ xs. each_after (tried_cell m earlier) (start ∷ []) (drop 1 xs ++ more) (Err (merge t.place))) (sym same)
    (subst (λ xs. each_after (tried_cell m earlier) (start ∷ []) xs (Err (merge t.place))) (sym (cut way t rest more some))
    (under.passes (λ stands. let e = goes_on_one m here (t ∷ []) [] goes stands.1 in cc) (t ∷ (rest ++ more)) (Err (merge t.place))
    (stops (merge t.place) (goes_on tt (passed (λ isnt. isnt taker)) (stops (merge t.place) (refused (suc k, own, omega arith, is, hit)))))))))
  where
    some : 0 < length way
    some = slice_get_within way 0 start under.is_way.first
