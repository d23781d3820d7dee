-- The calls of a walk are the instances of a meaning.
use Rattle.std.proofs.Common.{◌≡◌, ◌≢◌, ℕ, zero, suc, ◌+◌, ◌*◌, ◌<◌, inl, inr, Bool, true, false, List, [], ◌∷◌, ◌++◌, length, Option, Some, None, refl, sym, ap, ◌∙◌, arith}
use Rattle.std.specs.Prelude.{if◌then◌else◌, is_some, map}
use Rattle.std.specs.Option.{option_map, unwrap_or}
use Rattle.std.proofs.lemmas.Bool.{true≢false}
use Rattle.two_d.specs.Programs.{Program, box_count}
use Rattle.two_d.specs.Meaning.{Inputs, Effect, Done, Starts, Meaning, act, look_of, test_of, is_known, count_of, instances_of, sum_below, mean}
use Rattle.two_d.specs.Walks.{AreOrders, Visit, Calls, Returns, visit, visits, walk, load_of}
use Rattle.two_d.proofs.Sourced.{IsAmong, among_order}
use Rattle.two_d.proofs.Counts.{meaning_of-known}
use Rattle.two_d.proofs.Depth.{known_at}
use Rattle.lower_link.proofs.Compiled.{owed}

sum_list : (ℕ → ℕ) → List ℕ → ℕ
sum_list f [] = 0
sum_list f (x ∷ xs) = f x + sum_list f xs

-- a list without the first place of a number
without : (b : ℕ) (xs : List ℕ) → IsAmong b xs → List ℕ
without b [] h = []
without b (c ∷ cs) (inl e) = cs
without b (c ∷ cs) (inr h) = c ∷ without b cs h

without_length : (b : ℕ) (xs : List ℕ) (h : IsAmong b xs) → suc (length (without b xs h)) ≡ length xs
unfolding without
without_length b [] h = absurd h
without_length b (c ∷ cs) (inl e) = refl
without_length b (c ∷ cs) (inr h) = ap suc (without_length b cs h)

without_sum : (f : ℕ → ℕ) (b : ℕ) (xs : List ℕ) (h : IsAmong b xs) → sum_list f xs ≡ f b + sum_list f (without b xs h)
unfolding without sum_list
without_sum f b [] h = absurd h
without_sum f b (c ∷ cs) (inl e) = ap (λ d. f d + sum_list f cs) e
without_sum f b (c ∷ cs) (inr h) = let s = without_sum f b cs h in omega (arith, s)

without_among : (b d : ℕ) (xs : List ℕ) (h : IsAmong b xs) → d ≢ b → IsAmong d xs → IsAmong d (without b xs h)
unfolding without
without_among b d [] h ne g = absurd h
without_among b d (c ∷ cs) (inl e) ne (inl g) = absurd (ne (sym g ∙ e))
without_among b d (c ∷ cs) (inl e) ne (inr g) = g
without_among b d (c ∷ cs) (inr h) ne (inl g) = inl g
without_among b d (c ∷ cs) (inr h) ne (inr g) = inr (without_among b d cs h ne g)

-- the sum over an order is that over all numbers
sum_order : (n : ℕ) (f : ℕ → ℕ) (xs : List ℕ) → length xs ≡ n → ((b : ℕ) → b < n → IsAmong b xs) → sum_list f xs ≡ sum_below n f
unfolding sum_list sum_below
sum_order zero f [] e all = refl
sum_order zero f (x ∷ xs) e all = absurd (omega (arith, e))
sum_order (suc n) f xs e all =
    let h = all n (omega arith) in
    let l = without_length n xs h in
    let s = without_sum f n xs h in
    let again = sum_order n f (without n xs h) (omega (arith, l, e)) (λ b lt. without_among n b xs h (λ same. omega (arith, same, lt)) (all b (omega (arith, lt)))) in
    omega (arith, s, again)

pub calls_in : List Visit → ℕ
calls_in [] = 0
calls_in (Calls m ∷ vs) = 1 + calls_in vs
calls_in (Returns m ∷ vs) = calls_in vs

calls_append : (vs ws : List Visit) → calls_in (vs ++ ws) ≡ calls_in vs + calls_in ws
unfolding calls_in
calls_append [] ws = omega arith
calls_append (Calls m ∷ vs) ws = let e = calls_append vs ws in omega (arith, e)
calls_append (Returns m ∷ vs) ws = calls_append vs ws

module _ (P : Program) (order : ℕ → List ℕ) (are : AreOrders P order) where
  module _ (n : ℕ) (again : (m : ℕ) (a : Inputs) (r : Meaning) → mean P n m a ≡ Some r → calls_in (walk P order n m a) ≡ r.instances) (m : ℕ) (acts : ℕ → Option Effect) where
    one_visit : (x : Option Effect) (rest : List Visit) → test_of (is_known (mean P n)) x ≡ true → calls_in (visit (walk P order n) (mean P n) m x rest) ≡ count_of (instances_of (mean P n)) x + calls_in rest
    unfolding calls_in
    one_visit None rest known = omega arith
    one_visit (Some (Done c)) rest known = omega arith
    one_visit (Some (Starts j a)) rest known = by (mean P n j a) refl known
      where
        by : (o : Option Meaning) → mean P n j a ≡ o → unwrap_or (option_map (λ _. true) o) false ≡ true →
            calls_in (walk P order n j a ++ (if is_some o then Returns m ∷ rest else [])) ≡ unwrap_or (option_map (λ (r : Meaning). r.instances) o) 0 + calls_in rest
        by None is h = absurd (true≢false (sym h))
        by (Some r) is h = let e = calls_append (walk P order n j a) (Returns m ∷ rest) in let i = again j a r is in omega (arith, e, i)

    all_visits : ((b : ℕ) → test_of (is_known (mean P n)) (acts b) ≡ true) → (bs : List ℕ) → calls_in (visits (walk P order n) (mean P n) m acts bs) ≡ sum_list (λ b. count_of (instances_of (mean P n)) (acts b)) bs
    unfolding calls_in sum_list
    all_visits known [] = refl
    all_visits known (b ∷ bs) =
        let one = one_visit (acts b) (visits (walk P order n) (mean P n) m acts bs) (known b) in
        let rest = all_visits known bs in
        omega (arith, one, rest)

  pub calls_are : (n m : ℕ) (a : Inputs) (r : Meaning) → mean P n m a ≡ Some r → calls_in (walk P order n m a) ≡ r.instances
  unfolding mean walk calls_in
  calls_are zero m a r e = absurd (cc)
  calls_are (suc n) m a r e =
      let known = meaning_of-known P (mean P n) m a r e in
      let look = look_of P (mean P n) m a in
      let all = all_visits n (calls_are n) m (act P m look) (known_at P (mean P n) m look known.0) (order m) in
      let sum = sum_order (box_count P m) (λ b. count_of (instances_of (mean P n)) (act P m look b)) (order m) (are m).once (λ b lt. among_order P m (order m) (are m) b lt) in
      let i : r.instances ≡ 1 + sum_below (box_count P m) (λ b. count_of (instances_of (mean P n)) (act P m look b)) = ap (λ (r : Meaning). r.instances) known.1 in
      omega (arith, all, sum, i)

-- the price of a walk
pub owed_calls : (price : ℕ) (blocks : ℕ → List ℕ) (vs : List Visit) → owed price (map (load_of blocks) vs) ≡ price * calls_in vs
unfolding calls_in
owed_calls price blocks [] = omega arith
owed_calls price blocks (Calls m ∷ vs) = let e = owed_calls price blocks vs in omega (arith, e)
owed_calls price blocks (Returns m ∷ vs) = let e = owed_calls price blocks vs in omega (arith, e)

pub owed_append : (price : ℕ) (xs ys : List (List ℕ × Bool)) → owed price (xs ++ ys) ≡ owed price xs + owed price ys
owed_append price [] ys = omega arith
owed_append price (x ∷ xs) ys = let e = owed_append price xs ys in omega (arith, e)
