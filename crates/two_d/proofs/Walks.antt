-- Deeper walks go on from where a walk without a meaning stops.
use Rattle.std.specs.Prelude.{Option, Some, None, ◌≡◌, ℕ, zero, suc, ◌+◌, ◌≤◌, List, [], ◌∷◌, ◌++◌, true, false, is_some, if◌then◌else◌, length, map}
use Rattle.std.specs.Option.{option_map, unwrap_or}
use Rattle.std.proofs.Common.{refl, sym, ◌∙◌, ap, arith, zero-add, suc-add, append_assoc, inl, inr}
use Rattle.std.proofs.lemmas.Bool.{false_from_ne_true}
use Rattle.std.proofs.lemmas.List.{append-nil, length-append, map-append, length-map}
use Rattle.codex_values.specs.Value.{Value}
use Rattle.two_d.specs.Programs.{Origin, North, West, South, East, Program, main_of, box_count}
use Rattle.two_d.specs.Meaning.{Inputs, no_inputs, Effect, Done, Starts, Meaning, act, by_answer, is_known, cell_of, cells_from, look_in, south_of, east_of, look_of, all_known, test_of, mean, meaning_of, summary_of}
use Rattle.two_d.proofs.Sourced.{IsAmong, IsFrom, IsSourced, sourced, among_order}
use Rattle.two_d.specs.Walks.{AreOrders, IsPrefixOf, load_of, route, Visit, Calls, Returns, visit, visits, walk}
use Rattle.two_d.proofs.Below.{all_below-fails}
use Rattle.two_d.proofs.Depth.{known_at, by_answer-known, mean-more}
use Rattle.two_d.proofs.Pulling.{Agree, act-agree, pulled-whole, pulled-north, pulled-west}
use Rattle.two_d.proofs.Counts.{meaning_of-known}

-- how a walk goes on one deeper
pub record GoesOn (P : Program) (order : ℕ → List ℕ) (n : ℕ) : Type 0 where
  pub prefix : (m : ℕ) (a : Inputs) → IsPrefixOf (walk P order n m a) (walk P order (suc n) m a)
  pub whole : (m : ℕ) (a : Inputs) (r : Meaning) → mean P n m a ≡ Some r → walk P order (suc n) m a ≡ walk P order n m a

prefix-append : {A : Type 0} (zs xs ys : List A) → IsPrefixOf xs ys → IsPrefixOf (zs ++ xs) (zs ++ ys)
prefix-append zs xs ys (rest, is) = (rest, append_assoc zs xs rest ∙ ap (λ l. zs ++ l) is)

prefix-cons : {A : Type 0} (z : A) (xs ys : List A) → IsPrefixOf xs ys → IsPrefixOf (z ∷ xs) (z ∷ ys)
prefix-cons z xs ys (rest, is) = (rest, ap (λ l. z ∷ l) is)

prefix-longer : {A : Type 0} (xs ys zs : List A) → IsPrefixOf xs ys → IsPrefixOf (xs ++ []) (ys ++ zs)
prefix-longer xs ys zs (rest, is) = (rest ++ zs, rw append-nil (sym (append_assoc xs rest zs) ∙ ap (λ l. l ++ zs) is))

-- what a visit adds, where what follows is a prefix if the use is known
visit-more : (P : Program) (order : ℕ → List ℕ) (n : ℕ) → GoesOn P order n → (m : ℕ) (x : Option Effect) (rest rest' : List Visit) →
    (test_of (is_known (mean P n)) x ≡ true → IsPrefixOf rest rest') →
    IsPrefixOf (visit (walk P order n) (mean P n) m x rest) (visit (walk P order (suc n)) (mean P (suc n)) m x rest')
visit-more P order n goes_on m None rest rest' prefix = prefix refl
visit-more P order n goes_on m (Some (Done c)) rest rest' prefix = prefix refl
visit-more P order n goes_on m (Some (Starts j a)) rest rest' prefix = by (mean P n j a) refl
  where
    by : (o : Option Meaning) → mean P n j a ≡ o →
        IsPrefixOf (walk P order n j a ++ (if is_some o then Returns m ∷ rest else []))
        (visit (walk P order (suc n)) (mean P (suc n)) m (Some (Starts j a)) rest')
    by None is = prefix-longer _ _ _ (goes_on.prefix j a)
    by (Some r) is = rw (goes_on.whole j a r is, (mean-more P n).at j a r is, visit)
        (prefix-append (walk P order n j a) _ _ (prefix-cons (Returns m) rest rest' (prefix (rw (is, is_known, by_answer) refl))))

visit-same : (P : Program) (order : ℕ → List ℕ) (n : ℕ) → GoesOn P order n → (m : ℕ) (x : Option Effect) (rest rest' : List Visit) →
    test_of (is_known (mean P n)) x ≡ true → rest' ≡ rest →
    visit (walk P order (suc n)) (mean P (suc n)) m x rest' ≡ visit (walk P order n) (mean P n) m x rest
visit-same P order n goes_on m None rest rest' known same = same
visit-same P order n goes_on m (Some (Done c)) rest rest' known same = same
visit-same P order n goes_on m (Some (Starts j a)) rest rest' known same = by (mean P n j a) refl known
  where
    by : (o : Option Meaning) → mean P n j a ≡ o → unwrap_or (option_map (λ _. true) o) false ≡ true →
        visit (walk P order (suc n)) (mean P (suc n)) m (Some (Starts j a)) rest' ≡ walk P order n j a ++ (if is_some o then Returns m ∷ rest else [])
    by None is h = absurd (cc)
    by (Some r) is h = rw (goes_on.whole j a r is, (mean-more P n).at j a r is, same, visit) refl

module _ (P : Program) (order : ℕ → List ℕ) (are : AreOrders P order) where
  module _ (n : ℕ) (goes_on : GoesOn P order n) (m : ℕ) (a : Inputs) where
    abbrev now : Origin → Option Value
    now = look_of P (mean P n) m a

    abbrev later : Origin → Option Value
    later = look_of P (mean P (suc n)) m a

    -- a box that is known gives the same to its wires
    agree-cons : (before : List ℕ) (b : ℕ) → Agree before now later → act P m now b ≡ act P m later b →
        test_of (is_known (mean P n)) (act P m now b) ≡ true → Agree (b ∷ before) now later
    agree-cons before b agree same known = record { at = at }
      where
        by : (x : Option Effect) → test_of (is_known (mean P n)) x ≡ true → option_map (cell_of m b (mean P n)) x ≡ option_map (cell_of m b (mean P (suc n))) x
        by None sure = refl
        by (Some x) sure = ap Some (sym (by_answer-known _ _ _ (mean P n) (mean P (suc n)) (mean-more P n) x sure))

        cells : cells_from P (mean P n) m now b ≡ cells_from P (mean P (suc n)) m later b
        cells = by (act P m now b) known ∙ ap (option_map (cell_of m b (mean P (suc n)))) same

        whole_now : now ≡ look_in a (cells_from P (mean P n) m now)
        whole_now = pulled-whole P (mean P n) m a (order m) (are m)

        whole_later : later ≡ look_in a (cells_from P (mean P (suc n)) m later)
        whole_later = pulled-whole P (mean P (suc n)) m a (order m) (are m)

        at : (o : Origin) → IsFrom (b ∷ before) (Some o) → now o ≡ later o
        at North from = ap (λ (l : Origin → Option Value). l North) whole_now ∙ sym (ap (λ (l : Origin → Option Value). l North) whole_later)
        at West from = ap (λ (l : Origin → Option Value). l West) whole_now ∙ sym (ap (λ (l : Origin → Option Value). l West) whole_later)
        at (South c) (inl is) = rw (← is) (ap (λ (l : Origin → Option Value). l (South b)) whole_now ∙ (ap south_of cells ∙ sym (ap (λ (l : Origin → Option Value). l (South b)) whole_later)))
        at (South c) (inr from) = agree.at (South c) from
        at (East c) (inl is) = rw (← is) (ap (λ (l : Origin → Option Value). l (East b)) whole_now ∙ (ap east_of cells ∙ sym (ap (λ (l : Origin → Option Value). l (East b)) whole_later)))
        at (East c) (inr from) = agree.at (East c) from

    -- the visits of boxes whose sources agree
    visits-more : (before bs : List ℕ) → Agree before now later → IsSourced P m before bs →
        IsPrefixOf (visits (walk P order n) (mean P n) m (act P m now) bs) (visits (walk P order (suc n)) (mean P (suc n)) m (act P m later) bs)
    visits-more before [] agree sources = ([], refl)
    visits-more before (b ∷ bs) agree sources =
        let same : act P m now b ≡ act P m later b = act-agree P m b before now later agree sources.0 in
        rw (← same) (visit-more P order n goes_on m (act P m now b) _ _ (λ known.
        visits-more (b ∷ before) bs (agree-cons before b agree same known) sources.1))

    visits-same : all_known P (mean P n) m now ≡ true → (before bs : List ℕ) → Agree before now later → IsSourced P m before bs →
        visits (walk P order (suc n)) (mean P (suc n)) m (act P m later) bs ≡ visits (walk P order n) (mean P n) m (act P m now) bs
    visits-same known before [] agree sources = refl
    visits-same known before (b ∷ bs) agree sources =
        let same : act P m now b ≡ act P m later b = act-agree P m b before now later agree sources.0 in
        rw (← same) (visit-same P order n goes_on m (act P m now b) _ _ (known_at P (mean P n) m now known b)
        (visits-same known (b ∷ before) bs (agree-cons before b agree same (known_at P (mean P n) m now known b)) sources.1))

    agree-nil : Agree [] now later
    agree-nil = record { at = at }
      where
        at : (o : Origin) → IsFrom [] (Some o) → now o ≡ later o
        at North from = pulled-north P (mean P n) m a (box_count P m) ∙ sym (pulled-north P (mean P (suc n)) m a (box_count P m))
        at West from = pulled-west P (mean P n) m a (box_count P m) ∙ sym (pulled-west P (mean P (suc n)) m a (box_count P m))
        at (South c) from = absurd from
        at (East c) from = absurd from

  goes_on-suc : (n : ℕ) → GoesOn P order n → GoesOn P order (suc n)
  unfolding walk mean
  goes_on-suc n goes_on = record {
    prefix = λ m a. prefix-cons (Calls m) _ _ (visits-more n goes_on m a [] (order m) (agree-nil n goes_on m a) (sourced P m (order m) (are m)));
    whole = λ m a r e. ap (λ l. Calls m ∷ l)
        (visits-same n goes_on m a (meaning_of-known P (mean P n) m a r e).0 [] (order m) (agree-nil n goes_on m a) (sourced P m (order m) (are m)));
  }

  pub goes_on_at : (n : ℕ) → GoesOn P order n
  unfolding walk mean
  goes_on_at zero = record { prefix = λ m a. (walk P order 1 m a, refl); whole = λ m a r e. absurd (cc) }
  goes_on_at (suc n) = goes_on-suc n (goes_on_at n)

  -- a walk without a meaning is a prefix of each deeper one
  pub walk-prefix : (n d m : ℕ) (a : Inputs) → IsPrefixOf (walk P order n m a) (walk P order (d + n) m a)
  walk-prefix n zero m a = rw zero-add ([], append-nil (walk P order n m a))
  walk-prefix n (suc d) m a =
      let (r, e) = walk-prefix n d m a in
      let (s, f) = (goes_on_at (d + n)).prefix m a in
      rw suc-add (r ++ s, sym (append_assoc (walk P order n m a) r s) ∙ (ap (λ l. l ++ s) e ∙ f))

  -- a use that isn't known is walked
  visits_long : (n m : ℕ) (acts : ℕ → Option Effect) → ((j : ℕ) (a : Inputs) → mean P n j a ≡ None → n ≤ length (walk P order n j a)) →
      (b : ℕ) → test_of (is_known (mean P n)) (acts b) ≡ false → (bs : List ℕ) → IsAmong b bs →
      n ≤ length (visits (walk P order n) (mean P n) m acts bs)
  visits_long n m acts long b unknown [] h = absurd h
  visits_long n m acts long b unknown (c ∷ bs) h = by (acts c) (λ known. elim h [
    | inl is ↦ absurd (let q : true ≡ false = sym known ∙ (rw is unknown) in cc)
    | inr among ↦ visits_long n m acts long b unknown bs among
  ])
    where
      rest : List Visit
      rest = visits (walk P order n) (mean P n) m acts bs

      at : (j : ℕ) (a : Inputs) (o : Option Meaning) → mean P n j a ≡ o → (unwrap_or (option_map (λ _. true) o) false ≡ true → n ≤ length rest) →
          n ≤ length (walk P order n j a ++ (if is_some o then Returns m ∷ rest else []))
      at j a None is follow = rw append-nil (long j a is)
      at j a (Some r) is follow = rw length-append (omega (arith, follow refl))

      by : (x : Option Effect) → (test_of (is_known (mean P n)) x ≡ true → n ≤ length rest) → n ≤ length (visit (walk P order n) (mean P n) m x rest)
      by None follow = follow refl
      by (Some (Done c)) follow = follow refl
      by (Some (Starts j a)) follow = at j a (mean P n j a) refl follow

  pub walk_long : (n m : ℕ) (a : Inputs) → mean P n m a ≡ None → n ≤ length (walk P order n m a)
  unfolding walk mean meaning_of
  walk_long zero m a e = omega arith
  walk_long (suc n) m a e =
      let (b, lt, unknown) = all_below-fails (box_count P m) (λ b. test_of (is_known (mean P n)) (act P m (look_of P (mean P n) m a) b)) (not_known e) in
      omega (arith, visits_long n m (act P m (look_of P (mean P n) m a)) (walk_long n) b unknown (order m) (among_order P m (order m) (are m) b lt))
    where
      not_known : meaning_of P (mean P n) m a ≡ None → all_known P (mean P n) m (look_of P (mean P n) m a) ≡ false
      not_known e = false_from_ne_true _ (λ known. meant known e)
        where
          meant : all_known P (mean P n) m (look_of P (mean P n) m a) ≡ true → meaning_of P (mean P n) m a ≡ None → ⊥
          meant known e = let q : Some (summary_of P (mean P n) m (look_of P (mean P n) m a)) ≡ None = rw known at e in cc

prefix-map : {A B : Type 0} (f : A → B) (xs ys : List A) → IsPrefixOf xs ys → IsPrefixOf (map f xs) (map f ys)
prefix-map f xs ys (rest, is) = (map f rest, sym (map-append f xs rest) ∙ ap (map f) is)

prefix-before : {A : Type 0} (xs ys zs : List A) → IsPrefixOf xs ys → IsPrefixOf xs (ys ++ zs)
prefix-before xs ys zs (rest, is) = (rest ++ zs, sym (append_assoc xs rest zs) ∙ ap (λ l. l ++ zs) is)

module _ (P : Program) (order blocks : ℕ → List ℕ) (printer : List ℕ) (are : AreOrders P order) (n : ℕ) (none : mean P n (main_of P) no_inputs ≡ None) where
  -- where the program means nothing, its route is that of its walk
  route-none : route P order blocks printer n ≡ map (load_of blocks) (walk P order n (main_of P) no_inputs)
  route-none = rw none (append-nil (map (load_of blocks) (walk P order n (main_of P) no_inputs)))

  pub route_long : n ≤ length (route P order blocks printer n)
  route_long = rw (route-none, length-map) (walk_long P order are n (main_of P) no_inputs none)

  pub route-prefix : (d : ℕ) → IsPrefixOf (route P order blocks printer n) (route P order blocks printer (d + n))
  route-prefix d = rw route-none (prefix-before _ _ _ (prefix-map (load_of blocks) _ _ (walk-prefix P order are n d (main_of P) no_inputs)))
