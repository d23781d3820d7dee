-- Under limits that are large enough, words that realise and follow a program come to its text.
use Rattle.std.proofs.Common.{◌≡◌, ℕ, zero, suc, ◌+◌, ◌*◌, ◌≤◌, ◌⊎◌, inl, inr, Bool, true, List, [], ◌∷◌, ◌++◌, length, take, Option, Some, None, refl, sym, ap, ◌∙◌, arith, length-append}
use Rattle.std.specs.Prelude.{IsSome, IfSome, if◌then◌else◌, is_some, map}
use Rattle.std.proofs.lemmas.Bool.{true≢false}
use Rattle.umix_base.specs.declared.limits.Limits.{Limits}
use Rattle.um_word.specs.State.{start_of}
use Rattle.um_word.specs.Table.{Fault, ArraysFull, WordsFull, FingerOutside, BadOperator}
use Rattle.um_word.specs.Run.{Standing, Stands, Failed, run, first_of, ids_left, AreLegal}
use Rattle.um_word.specs.Free.{IsOver, FailsOver}
use Rattle.um_word.specs.Loads.{Loads, loads_by, entries, state_in, fault_in, IsLimit}
use Rattle.um_word.proofs.Over.{faults_are_over}
use Rattle.two_d.specs.Programs.{Program, main_of}
use Rattle.two_d.specs.Meaning.{Meaning, no_inputs, mean}
use Rattle.two_d.specs.Steps.{HasMeaning}
use Rattle.two_d.specs.Texts.{text_of}
use Rattle.two_d.specs.Walks.{AreOrders, load_of, walk, route}
use Rattle.two_d.specs.Weights.{weight}
use Rattle.two_d.proofs.Walks.{route-prefix}
use Rattle.lower_link.proofs.Compiled.{owed}
use Rattle.lower_link.specs.Realises.{units, Realised, Realises}
use Rattle.lower_link.specs.Follows.{block_at, IsCountWithin, Follows}
use Rattle.lower_link.specs.Completes.{Completed, IsAmple, CompletesLaw}
use Rattle.lower_link.proofs.Counting.{calls_are, owed_calls, owed_append}
use Rattle.two_d.proofs.Depth.{mean-add}
use Rattle.two_d.proofs.KeptOrders.{kept_valid}
use Rattle.two_d.proofs.OneMeaning as one
use Rattle.lower_link.proofs.Weighing.{times_le}
use Rattle.lower_link.proofs.Whole.{entries_owed}

owed_take : (price n : ℕ) (xs : List (List ℕ × Bool)) → owed price (take n xs) ≤ owed price xs
owed_take price zero xs = omega arith
owed_take price (suc n) [] = omega arith
owed_take price (suc n) (x ∷ xs) = let h = owed_take price n xs in omega (arith, h)

some_is : {A : Type 0} (x y : A) → Some x ≡ Some y → x ≡ y
some_is x y e = cc

module _ (P : Program) (order blocks : ℕ → List ℕ) (printer : List ℕ) (are : AreOrders P order) (r : Meaning) (has : HasMeaning P r) where
  abbrev to : ℕ → List (List ℕ × Bool)
  to = route P order blocks printer

  -- a program has one meaning
  one_meaning : (n : ℕ) (q : Meaning) → mean P n (main_of P) no_inputs ≡ Some q → q ≡ r
  one_meaning n q e = one.one_meaning P q r (record { depth = n; means = e }) has

  -- the entries of a route to a depth with a meaning
  whole_entries : (n : ℕ) (q : Meaning) → mean P n (main_of P) no_inputs ≡ Some q → owed 1 (to n) ≡ q.instances + 1
  whole_entries n q e =
      let w = map (load_of blocks) (walk P order n (main_of P) no_inputs) in
      let last : owed 1 (to n) ≡ owed 1 w + 1 = ap (λ o. owed 1 (w ++ (if is_some o then (printer, true) ∷ [] else []))) e ∙ owed_append 1 w ((printer, true) ∷ []) in
      let calls : owed 1 w ≡ 1 * q.instances = owed_calls 1 blocks (walk P order n (main_of P) no_inputs) ∙ ap (λ k. 1 * k) (calls_are P order are n (main_of P) no_inputs q e) in
      omega (arith, last, calls)

  -- and to any depth
  few_entries : (n : ℕ) → owed 1 (to n) ≤ r.instances + 1
  few_entries n = by (mean P n (main_of P) no_inputs) refl
    where
      by : (o : Option Meaning) → mean P n (main_of P) no_inputs ≡ o → owed 1 (to n) ≤ r.instances + 1
      by (Some q) e =
          let h = whole_entries n q e in
          let same = ap (λ (q : Meaning). q.instances) (one_meaning n q e) in
          omega (arith, h, same)
      by None e =
          let (more, goes) = route-prefix P order blocks printer are n e has.depth in
          let deep : n + has.depth ≡ has.depth + n = omega arith in
          let means : mean P (has.depth + n) (main_of P) no_inputs ≡ Some r = ap (λ k. mean P k (main_of P) no_inputs) (sym deep) ∙ (mean-add P has.depth n).at (main_of P) no_inputs r has.means in
          let h = whole_entries (has.depth + n) r means in
          let parts = owed_append 1 (to n) more in
          let all = ap (owed 1) goes in
          omega (arith, h, parts, all)

module _ (P : Program) (words : List ℕ) (blocks : List (ℕ × ℕ)) (realises : Realises P words) (follows : Follows P words blocks) (r : Meaning) (has : HasMeaning P r)
    (L : Limits) (ample : IsAmple P (r.instances + 1) (length (text_of P r.outcome)) L) (input : List ℕ) (n : ℕ) (ids : List ℕ)
    (long : 65_536 * units P r.instances (length (text_of P r.outcome)) ≤ n) (legal : AreLegal L n ids (start_of words input)) where
  abbrev text : List ℕ
  text = text_of P r.outcome

  abbrev standing : Standing (List ℕ)
  standing = run L n ids (start_of words input)

  abbrev loads : Loads
  loads = loads_by first_of ids_left L n ids (start_of words input)

  abbrev most : ℕ
  most = units P (r.instances + 1) (length text)

  abbrev now : ℕ
  now = units P (entries loads) (length (state_in standing).out)

  fits : length words ≤ L.words
  fits =
      let short = follows.short in
      let room = ample.words in
      let x : weight P * (r.instances + 1 + 1) ≡ weight P * r.instances + 2 * weight P = omega arith in
      omega (arith, short, room, x)

  realised : Realised P input n standing
  realised = realises L input n ids fits legal

  within : now ≤ most
  within =
      let order = follows.order in
      let are : AreOrders P order = kept_valid P order follows.kept in
      let codes = block_at words blocks in
      let first = (follows.runs L input n ids fits legal).on_route in
      let few = few_entries P order codes (codes (length P)) are r has (length loads + 1) in
      let taken = owed_take 1 (length loads) (route P order codes (codes (length P)) (length loads + 1)) in
      let count = entries_owed loads ∙ ap (owed 1) first in
      let begun = realised.begins r has in
      let bytes = sym (length-append (state_in standing).out begun.0) ∙ ap length begun.1 in
      let e : entries loads + 1 ≤ r.instances + 1 + 1 = omega (arith, few, taken, count) in
      let times = times_le (entries loads + 1) (r.instances + 1 + 1) (weight P) e in
      let x : weight P * (entries loads + 1) ≡ (entries loads + 1) * weight P = omega arith in
      let y : weight P * (r.instances + 1 + 1) ≡ (r.instances + 1 + 1) * weight P = omega arith in
      omega (arith, times, x, y, bytes)

  no_limit : (fault : Fault) → IsLimit fault → IsCountWithin now fault → IsOver L fault → ⊥
  no_limit (ArraysFull count) limit c over = let room = ample.arrays in let u = within in omega (arith, c, over, room, u)
  no_limit (WordsFull count) limit c over = let room = ample.words in let u = within in omega (arith, c, over, room, u)
  no_limit FingerOutside limit c over = absurd limit
  no_limit BadOperator limit c over = absurd limit
  no_limit _ limit c over = absurd limit

  faultless : fault_in standing ≡ None
  faultless = by standing realised.faults (follows.runs L input n ids fits legal).bounds.refused (faults_are_over first_of ids_left L n ids (start_of words input))
    where
      by : (x : Standing (List ℕ)) → IfSome (fault_in x) IsLimit → IfSome (fault_in x) (IsCountWithin now) → FailsOver L x → fault_in x ≡ None
      by (Stands t ids) limit c over = refl
      by (Failed t ids fault) limit c over = absurd (no_limit fault limit c over)

  has_halted : (state_in standing).halted ≡ true
  has_halted = by (realised.ends r has long)
    where
      by : ((state_in standing).halted ≡ true) ⊎ IsSome (fault_in standing) → (state_in standing).halted ≡ true
      by (inl h) = h
      by (inr some) = absurd (true≢false (sym some ∙ ap is_some faultless))

  completed : Completed text standing
  completed =
      let whole = realised.whole has_halted in
      let are : AreOrders P follows.order = kept_valid P follows.order follows.kept in
      let same = one_meaning P follows.order (block_at words blocks) [] are r has whole.1.depth whole.0 whole.1.means in
      record { faultless = faultless; halted = has_halted; writes = whole.2 ∙ ap (λ (q : Meaning). text_of P q.outcome) same }

pub completes : CompletesLaw
unfolding CompletesLaw
completes P words blocks realises follows r has L ample input n ids long legal = completed P words blocks realises follows r has L ample input n ids long legal
