-- What the rule of identifiers keeps through each change of the arrays.
use Rattle.std.proofs.Common.{◌≡◌, ◌≢◌, ℕ, suc, ◌+◌, ◌-◌, ◌<◌, ◌≤◌, ◌⊎◌, List, [], ◌∷◌, ◌++◌, length, get_or, false, Option, Some, None, refl, sym, ap, subst, ◌∙◌, inl, inr, arith}
use Rattle.std.specs.Prelude.{Contains, IsSome, is_some, nat_eq, take, slice_get, unwrap_or}
use Rattle.std.specs.List.{IsDistinct}
use Rattle.std.specs.Ordering.{nat_cmp}
use Rattle.std.specs.FinMap as map
use Rattle.std.proofs.lemmas.Bool.{cases_eq, cases_lt, eq-eqb, ne_eqb, true≢false}
use Rattle.std.proofs.lemmas.List.{get_or_at, get_or_append_left, length_push, get_or_default}
use Rattle.std.proofs.lemmas.List.Elements.{All-push, All-pop, All-contains, Contains-push, Contains-append_left, Contains-push_cases}
use Rattle.std.proofs.lemmas.Map.Keys.{apart_from_distinct, IsDistinct-from_apart}
use Rattle.umix_base.specs.declared.limits.Limits.{Limits}
use Rattle.um_word.specs.State.{Arrays, live_arrays, live_words}
use Rattle.um_word.specs.Rule.{Identifiers, IsOrderly, none_made, next_identifier, taken, handed_back}
use Rattle.um_word.proofs.Arrays.{get-insert_same, get-insert_other, len-insert_new, len-insert_old}
use Rattle.um_word.proofs.Live.{get-remove_same, get-remove_other, live_words-empty, live_words-insert_new, live_words-insert_old, live_words-remove, len-remove_there, len_positive}

-- an identifier that was made and not abandoned since, or 0
abbrev IsTaken : ℕ → List ℕ → ℕ → Type 0
IsTaken made ids id = (id ≡ 0) ⊎ ((1 ≤ id) × (id ≤ made) × (Contains ids id → ⊥))

some : (o : Option (List ℕ)) (ws : List ℕ) → o ≡ Some ws → IsSome o
some o ws e = ap is_some e

pub there : (o : Option (List ℕ)) → IsSome o → (ws : List ℕ) × (o ≡ Some ws)
there None h = absurd (true≢false (sym h))
there (Some ws) h = (ws, refl)

pub none_of : (o : Option (List ℕ)) → (IsSome o → ⊥) → o ≡ None
none_of None h = refl
none_of (Some ws) h = absurd (h refl)

not_none : (o : Option (List ℕ)) → o ≡ None → IsSome o → ⊥
not_none o e h = true≢false (sym h ∙ ap is_some e)

no_element : (id : ℕ) → Contains [] id → ⊥
no_element id c = omega (arith, c.1)

module _ (L : Limits) (i : Identifiers) (arrays : Arrays) (o : IsOrderly L i arrays) where
  pub zero_there : (ws : List ℕ) × (map.get arrays 0 ≡ Some ws)
  zero_there = there _ ((o.active 0).1 (inl refl))

  pub some_array : 1 ≤ map.len arrays
  some_array = let z = zero_there in len_positive arrays 0 z.0 z.1

  -- an identifier above those made, and one that was abandoned, is not there
  pub unmade : (id : ℕ) → i.made < id → map.get arrays id ≡ None
  unmade id above = none_of _ (λ h. go ((o.active id).0 h))
    where
      go : IsTaken i.made i.abandoned id → ⊥
      go (inl e) = omega (arith, e, above)
      go (inr p) = omega (arith, p.1, above)

  pub absent : (id : ℕ) → Contains i.abandoned id → map.get arrays id ≡ None
  absent id c = none_of _ (λ h. go ((o.active id).0 h))
    where
      bounds : (1 ≤ id) × (id ≤ i.made)
      bounds = All-contains (λ id. (1 ≤ id) × (id ≤ i.made)) i.abandoned id o.abandoned c

      go : IsTaken i.made i.abandoned id → ⊥
      go (inl e) = let b = bounds.0 in omega (arith, e, b)
      go (inr p) = p.2 c

  -- a live array other than array 0
  pub active_is_made : (id : ℕ) (ws : List ℕ) → 1 ≤ id → map.get arrays id ≡ Some ws → (id ≤ i.made) × (Contains i.abandoned id → ⊥)
  active_is_made id ws positive e = go ((o.active id).0 (some _ ws e))
    where
      go : IsTaken i.made i.abandoned id → (id ≤ i.made) × (Contains i.abandoned id → ⊥)
      go (inl z) = absurd (omega (arith, z, positive))
      go (inr p) = (p.1, p.2)

  -- and then there is one
  pub some_live : (id : ℕ) (ws : List ℕ) → 1 ≤ id → map.get arrays id ≡ Some ws → 1 ≤ live_arrays arrays
  some_live id ws positive e =
      let z = zero_there in
      let ne : 0 ≢ id = λ h. omega (arith, h, positive) in
      let rest = len_positive (map.remove arrays id) 0 z.0 (get-remove_other arrays id 0 ne ∙ z.1) in
      let n = len-remove_there arrays id ws e in
      omega (arith, rest, n)

-- an array's words are replaced
pub replaced : (L : Limits) (i : Identifiers) (arrays : Arrays) (id : ℕ) (vs ws : List ℕ) → IsOrderly L i arrays →
    map.get arrays id ≡ Some vs → live_words arrays - length vs + length ws ≤ L.words → IsOrderly L i (map.insert arrays id ws)
replaced L i arrays id vs ws o e fits = record {
  active = λ q. (λ h. (o.active q).0 (before q h), λ p. after q ((o.active q).1 p));
  abandoned = o.abandoned;
  once = o.once;
  counted = ap (λ n. n - 1 + length i.abandoned) (len-insert_old arrays id ws vs e) ∙ o.counted;
  made = o.made;
  words = let n = live_words-insert_old arrays id vs ws e in omega (arith, n, fits);
}
  where
    before : (q : ℕ) → IsSome (map.get (map.insert arrays id ws) q) → IsSome (map.get arrays q)
    before q h = elim (cases_eq q id) as (λ _. IsSome (map.get arrays q)) [
      | inl same ↦ some _ vs (ap (map.get arrays) same ∙ e)
      | inr ne ↦ ap is_some (sym (get-insert_other arrays id ws q ne)) ∙ h
    ]

    after : (q : ℕ) → IsSome (map.get arrays q) → IsSome (map.get (map.insert arrays id ws) q)
    after q h = elim (cases_eq q id) as (λ _. IsSome (map.get (map.insert arrays id ws) q)) [
      | inl same ↦ some _ ws (ap (map.get (map.insert arrays id ws)) same ∙ get-insert_same arrays id ws)
      | inr ne ↦ ap is_some (get-insert_other arrays id ws q ne) ∙ h
    ]

-- a fresh identifier is taken
taken_new : (L : Limits) (made : ℕ) (arrays : Arrays) (ws : List ℕ) → IsOrderly L (record { made = made; abandoned = [] }) arrays →
    live_arrays arrays + 1 ≤ L.arrays → live_words arrays + length ws ≤ L.words →
    IsOrderly L (record { made = made + 1; abandoned = [] }) (map.insert arrays (made + 1) ws)
taken_new L made arrays ws o room fits = record {
  active = λ q. (before q, after q);
  abandoned = λ k d h. absurd (omega (arith, h));
  once = IsDistinct-from_apart nat_eq [] (λ i j d h k. absurd (omega (arith, k)));
  counted = let n = len-insert_new arrays (made + 1) ws fresh in let z = some_array L old arrays o in let c = o.counted in omega (arith, n, z, c);
  made = let c = o.counted in omega (arith, c, room);
  words = let n = live_words-insert_new arrays (made + 1) ws fresh in omega (arith, n, fits);
}
  where
    old : Identifiers
    old = record { made = made; abandoned = [] }

    fresh : map.get arrays (made + 1) ≡ None
    fresh = unmade L (record { made = made; abandoned = [] }) arrays o (made + 1) (omega arith)

    wider : (q : ℕ) → IsTaken made [] q → IsTaken (made + 1) [] q
    wider q (inl z) = inl z
    wider q (inr p) = inr (p.0, (let h = p.1 in omega (arith, h)), p.2)

    before : (q : ℕ) → IsSome (map.get (map.insert arrays (made + 1) ws) q) → IsTaken (made + 1) [] q
    before q h = elim (cases_eq q (made + 1)) as (λ _. IsTaken (made + 1) [] q) [
      | inl same ↦ inr (omega (arith, same), omega (arith, same), no_element q)
      | inr ne ↦ wider q ((o.active q).0 (ap is_some (sym (get-insert_other arrays (made + 1) ws q ne)) ∙ h))
    ]

    narrower : (q : ℕ) → q ≢ made + 1 → IsTaken (made + 1) [] q → IsTaken made [] q
    narrower q ne (inl z) = inl z
    narrower q ne (inr p) = inr (p.0, (let h = p.1 in omega (arith, h, ne)), p.2)

    after : (q : ℕ) → IsTaken (made + 1) [] q → IsSome (map.get (map.insert arrays (made + 1) ws) q)
    after q t = elim (cases_eq q (made + 1)) as (λ _. IsSome (map.get (map.insert arrays (made + 1) ws) q)) [
      | inl same ↦ some _ ws (ap (map.get (map.insert arrays (made + 1) ws)) same ∙ get-insert_same arrays (made + 1) ws)
      | inr ne ↦ ap is_some (get-insert_other arrays (made + 1) ws q ne) ∙ (o.active q).1 (narrower q ne t)
    ]

-- no number stands twice in a list and its last element
front_apart : (front : List ℕ) (y : ℕ) → IsDistinct nat_eq (front ++ y ∷ []) → Contains front y → ⊥
front_apart front y once c =
    let last : length front < length (front ++ y ∷ []) = let n = length_push front y in omega (arith, n) in
    let differ = apart_from_distinct nat_eq (front ++ y ∷ []) c.0 (length front) y once c.1 last in
    true≢false (sym (eq-eqb _ _ (get_or_append_left front (y ∷ []) y c.0 c.1 ∙ c.2 ∙ sym (get_or_at front y [] y (length front) refl))) ∙ differ)

front_once : (front : List ℕ) (y : ℕ) → IsDistinct nat_eq (front ++ y ∷ []) → IsDistinct nat_eq front
front_once front y once = IsDistinct-from_apart nat_eq front (λ i j d h k.
    let within : j < length (front ++ y ∷ []) = let n = length_push front y in omega (arith, n, k) in
    let low : i < length front = omega (arith, h, k) in
    (λ t. nat_eq (sym (get_or_append_left front (y ∷ []) d i low) t) (sym (get_or_append_left front (y ∷ []) d j k) t))
    ∙ apart_from_distinct nat_eq (front ++ y ∷ []) i j d once h within)

-- the identifier abandoned last is taken again
taken_again : (L : Limits) (made : ℕ) (front : List ℕ) (y : ℕ) (arrays : Arrays) (ws : List ℕ) →
    IsOrderly L (record { made = made; abandoned = front ++ y ∷ [] }) arrays →
    live_words arrays + length ws ≤ L.words →
    IsOrderly L (record { made = made; abandoned = front }) (map.insert arrays y ws)
taken_again L made front y arrays ws o fits = record {
  active = λ q. (before q, after q);
  abandoned = (All-pop (λ id. (1 ≤ id) × (id ≤ made)) (front ++ y ∷ []) front (Some y) refl o.abandoned).0;
  once = front_once front y o.once;
  counted =
      let n = len-insert_new arrays y ws fresh in let z = some_array L old arrays o in let c = o.counted in
      let p = length_push front y in omega (arith, n, z, c, p);
  made = o.made;
  words = let n = live_words-insert_new arrays y ws fresh in omega (arith, n, fits);
}
  where
    old : Identifiers
    old = record { made = made; abandoned = front ++ y ∷ [] }

    fresh : map.get arrays y ≡ None
    fresh = absent L (record { made = made; abandoned = front ++ y ∷ [] }) arrays o y (Contains-push front y)

    bounds : (1 ≤ y) × (y ≤ made)
    bounds = All-contains (λ id. (1 ≤ id) × (id ≤ made)) (front ++ y ∷ []) y o.abandoned (Contains-push front y)

    fewer : (q : ℕ) → IsTaken made (front ++ y ∷ []) q → IsTaken made front q
    fewer q (inl z) = inl z
    fewer q (inr p) = inr (p.0, p.1, λ c. p.2 (Contains-append_left front (y ∷ []) q c))

    before : (q : ℕ) → IsSome (map.get (map.insert arrays y ws) q) → IsTaken made front q
    before q h = elim (cases_eq q y) as (λ _. IsTaken made front q) [
      | inl same ↦ subst (IsTaken made front) (sym same) (inr (bounds.0, bounds.1, front_apart front y o.once))
      | inr ne ↦ fewer q ((o.active q).0 (ap is_some (sym (get-insert_other arrays y ws q ne)) ∙ h))
    ]

    apart : (q : ℕ) → q ≢ y → (Contains front q → ⊥) → Contains front q ⊎ (y ≡ q) → ⊥
    apart q ne not_in (inl c) = not_in c
    apart q ne not_in (inr e) = ne (sym e)

    more : (q : ℕ) → q ≢ y → IsTaken made front q → IsTaken made (front ++ y ∷ []) q
    more q ne (inl z) = inl z
    more q ne (inr p) = inr (p.0, p.1, λ c. apart q ne p.2 (Contains-push_cases front y q c))

    after : (q : ℕ) → IsTaken made front q → IsSome (map.get (map.insert arrays y ws) q)
    after q t = elim (cases_eq q y) as (λ _. IsSome (map.get (map.insert arrays y ws) q)) [
      | inl same ↦ some _ ws (ap (map.get (map.insert arrays y ws)) same ∙ get-insert_same arrays y ws)
      | inr ne ↦ ap is_some (get-insert_other arrays y ws q ne) ∙ (o.active q).1 (more q ne t)
    ]

once_more : (ids : List ℕ) (id : ℕ) → IsDistinct nat_eq ids → (Contains ids id → ⊥) → IsDistinct nat_eq (ids ++ id ∷ [])
once_more ids id once not_in = IsDistinct-from_apart nat_eq (ids ++ id ∷ []) (λ i j d h k.
    let n = length_push ids id in
    let low : i < length ids = omega (arith, h, k, n) in
    let at = get_or_append_left ids (id ∷ []) d i low in
    elim (cases_lt j (length ids)) as (λ _. nat_eq (get_or (ids ++ id ∷ []) i d) (get_or (ids ++ id ∷ []) j d) ≡ false) [
      | inl within ↦
          (λ t. nat_eq (at t) (get_or_append_left ids (id ∷ []) d j within t)) ∙ apart_from_distinct nat_eq ids i j d once h within
      | inr past ↦
          let end : length ids ≡ j = omega (arith, past, k, n) in
          (λ t. nat_eq (at t) (get_or_at ids id [] d j end t)) ∙ ne_eqb (get_or ids i d) id (λ e. not_in (i, low, same_default ids i d id low e))
    ])
  where
    same_default : (ids : List ℕ) (i d id : ℕ) → i < length ids → get_or ids i d ≡ id → get_or ids i id ≡ id
    same_default ids i d id low e = get_or_default ids i id d low ∙ e

-- an identifier is given back
pub given_back : (L : Limits) (i : Identifiers) (arrays : Arrays) (id : ℕ) (ws : List ℕ) → IsOrderly L i arrays →
    1 ≤ id → map.get arrays id ≡ Some ws → IsOrderly L (handed_back i id) (map.remove arrays id)
given_back L i arrays id ws o positive e = record {
  active = λ q. (before q, after q);
  abandoned = All-push (λ id. (1 ≤ id) × (id ≤ i.made)) i.abandoned id o.abandoned (positive, made.0);
  once = once_more i.abandoned id o.once made.1;
  counted =
      let n = len-remove_there arrays id ws e in let c = o.counted in let p = length_push i.abandoned id in
      omega (arith, n, c, p, left);
  made = o.made;
  words = let n = live_words-remove arrays id ws e in let w = o.words in omega (arith, n, w);
}
  where
    made : (id ≤ i.made) × (Contains i.abandoned id → ⊥)
    made = active_is_made L i arrays o id ws positive e

    left : 1 ≤ map.len (map.remove arrays id)
    left =
        let z = zero_there L i arrays o in
        let ne : 0 ≢ id = λ h. omega (arith, h, positive) in
        len_positive (map.remove arrays id) 0 z.0 (get-remove_other arrays id 0 ne ∙ z.1)

    apart : (q : ℕ) → q ≢ id → (Contains i.abandoned q → ⊥) → Contains i.abandoned q ⊎ (id ≡ q) → ⊥
    apart q ne not_in (inl c) = not_in c
    apart q ne not_in (inr same) = ne (sym same)

    more : (q : ℕ) → q ≢ id → IsTaken i.made i.abandoned q → IsTaken i.made (i.abandoned ++ id ∷ []) q
    more q ne (inl z) = inl z
    more q ne (inr p) = inr (p.0, p.1, λ c. apart q ne p.2 (Contains-push_cases i.abandoned id q c))

    before : (q : ℕ) → IsSome (map.get (map.remove arrays id) q) → IsTaken i.made (i.abandoned ++ id ∷ []) q
    before q h = elim (cases_eq q id) as (λ _. IsTaken i.made (i.abandoned ++ id ∷ []) q) [
      | inl same ↦ absurd (not_none _ (ap (map.get (map.remove arrays id)) same ∙ get-remove_same arrays id) h)
      | inr ne ↦ more q ne ((o.active q).0 (ap is_some (sym (get-remove_other arrays id q ne)) ∙ h))
    ]

    gone : (q : ℕ) → q ≡ id → IsTaken i.made (i.abandoned ++ id ∷ []) q → ⊥
    gone q same (inl z) = omega (arith, z, same, positive)
    gone q same (inr p) = p.2 (subst (Contains (i.abandoned ++ id ∷ [])) (sym same) (Contains-push i.abandoned id))

    fewer : (q : ℕ) → IsTaken i.made (i.abandoned ++ id ∷ []) q → IsTaken i.made i.abandoned q
    fewer q (inl z) = inl z
    fewer q (inr p) = inr (p.0, p.1, λ c. p.2 (Contains-append_left i.abandoned (id ∷ []) q c))

    after : (q : ℕ) → IsTaken i.made (i.abandoned ++ id ∷ []) q → IsSome (map.get (map.remove arrays id) q)
    after q t = elim (cases_eq q id) as (λ _. IsSome (map.get (map.remove arrays id) q)) [
      | inl same ↦ absurd (gone q same t)
      | inr ne ↦ ap is_some (get-remove_other arrays id q ne) ∙ (o.active q).1 (fewer q t)
    ]

-- a list that is not empty is what comes before its last element, and that element
pub record Ends (xs : List ℕ) (n y : ℕ) : Type 0 where
  pub last : slice_get xs n ≡ Some y
  pub split : xs ≡ take n xs ++ y ∷ []

pub ends : (x : ℕ) (xs : List ℕ) → (y : ℕ) × Ends (x ∷ xs) (length xs) y
ends x [] = (x, record { last = refl; split = refl })
ends x (z ∷ xs) = let e = ends z xs in (e.0, record { last = e.1.last; split = ap (λ ys. x ∷ ys) e.1.split })

-- the next identifier, and what is left when it is taken
pub record Takes (i : Identifiers) (arrays : Arrays) (L : Limits) : Type 0 where
  pub positive : 1 ≤ next_identifier i
  pub bound : live_arrays arrays + 1 ≤ L.arrays → next_identifier i ≤ L.arrays
  pub fresh : map.get arrays (next_identifier i) ≡ None
  pub kept : (ws : List ℕ) → live_arrays arrays + 1 ≤ L.arrays → live_words arrays + length ws ≤ L.words →
      IsOrderly L (taken i) (map.insert arrays (next_identifier i) ws)

takes_by : (L : Limits) (made : ℕ) (ids : List ℕ) (arrays : Arrays) → IsOrderly L (record { made = made; abandoned = ids }) arrays →
    Takes (record { made = made; abandoned = ids }) arrays L
takes_by L made [] arrays o = record {
  positive = omega arith;
  bound = λ room. (let c = o.counted in omega (arith, c, room));
  fresh = unmade L (record { made = made; abandoned = [] }) arrays o (made + 1) (omega arith);
  kept = λ ws room fits. taken_new L made arrays ws o room fits;
}
takes_by L made (x ∷ xs) arrays o =
    let front = take (length xs) (x ∷ xs) in
    let y = (ends x xs).0 in
    let i : Identifiers = record { made = made; abandoned = x ∷ xs } in
    let split : x ∷ xs ≡ front ++ y ∷ [] = (ends x xs).1.split in
    let back : IsOrderly L (record { made = made; abandoned = front ++ y ∷ [] }) arrays =
    subst (λ ids. IsOrderly L (record { made = made; abandoned = ids }) arrays) split o in
    let in_list : Contains (x ∷ xs) y = subst (λ ids. Contains ids y) (sym split) (Contains-push front y) in
    let bounds : (1 ≤ y) × (y ≤ made) = All-contains (λ id. (1 ≤ id) × (id ≤ made)) (x ∷ xs) y o.abandoned in_list in
    let place : suc (length xs) - 1 ≡ length xs = omega arith in
    let next : next_identifier i ≡ y =
    ap (λ n. unwrap_or (slice_get (x ∷ xs) n) (made + 1)) place ∙ ap (λ a. unwrap_or a (made + 1)) (ends x xs).1.last in
    record {
      positive = subst (λ id. 1 ≤ id) (sym next) bounds.0;
      bound = λ room. subst (λ id. id ≤ L.arrays) (sym next) (let b = bounds.1 in let m = o.made in omega (arith, b, m));
      fresh = ap (map.get arrays) next ∙ absent L i arrays o y in_list;
      kept = λ ws room fits.
          subst (λ id. IsOrderly L (taken i) (map.insert arrays id ws)) (sym next) (taken_again L made front y arrays ws back fits);
    }

pub takes : (L : Limits) (i : Identifiers) (arrays : Arrays) → IsOrderly L i arrays → Takes i arrays L
takes L i arrays o = takes_by L i.made i.abandoned arrays o

abbrev no_arrays : Arrays
no_arrays = map.empty

-- at the start of a run
pub none_made_is_orderly : (L : Limits) (words : List ℕ) → length words ≤ L.words → IsOrderly L none_made (map.insert no_arrays 0 words)
none_made_is_orderly L words fits = record {
  active = λ q. (before q, after q);
  abandoned = λ k d h. absurd (omega (arith, h));
  once = IsDistinct-from_apart nat_eq [] (λ i j d h k. absurd (omega (arith, k)));
  counted = let n = len-insert_new no_arrays 0 words nothing in let z = map.len-empty nat_cmp (List ℕ) in omega (arith, n, z);
  made = omega arith;
  words = let n = live_words-insert_new no_arrays 0 words nothing in let z = live_words-empty in omega (arith, n, z, fits);
}
  where
    nothing : map.get no_arrays 0 ≡ None
    nothing = map.get-empty nat_cmp 0

    before : (q : ℕ) → IsSome (map.get (map.insert no_arrays 0 words) q) → IsTaken 0 [] q
    before q h = elim (cases_eq q 0) as (λ _. IsTaken 0 [] q) [
      | inl same ↦ inl same
      | inr ne ↦ absurd (not_none _ (get-insert_other no_arrays 0 words q ne ∙ map.get-empty nat_cmp q) h)
    ]

    after : (q : ℕ) → IsTaken 0 [] q → IsSome (map.get (map.insert no_arrays 0 words) q)
    after q (inl z) = some _ words (ap (map.get (map.insert no_arrays 0 words)) z ∙ get-insert_same no_arrays 0 words)
    after q (inr p) = absurd (let a = p.0 in let b = p.1 in omega (arith, a, b))
