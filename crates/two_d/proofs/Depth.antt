-- What a module means at some depth, it means at every greater depth.
use Rattle.std.specs.Prelude.{Option, Some, None, ◌≡◌, ℕ, zero, suc, ◌+◌, ◌-◌, ◌<◌, ◌≤◌, Bool, true, false, cond}
use Rattle.std.specs.Option.{option_map, option_and_then, unwrap_or}
use mathlib.Core.Path.{fun_ext}
use Rattle.std.proofs.Common.{refl, sym, ◌∙◌, ap, arith, zero-add, suc-add}
use Rattle.codex_values.specs.Value.{Value}
use Rattle.two_d.specs.Programs.{Origin, North, West, South, East, BoxForm, Program, module_at, box_at, box_count}
use Rattle.two_d.specs.Meaning.{effect_of, Inputs, Cell, Cells, Effect, Done, Starts, Meaning, Answers, with_input, inputs_of, act, by_answer, returned, quiet, cell_of, is_known, south_of, east_of, look_in, none_fired, cells_from, pulled, mean, meaning_of, all_known, summary_of, test_of, count_of, firings_of, instances_of, look_of}
use Rattle.std.proofs.lemmas.Option.{slice_get_within, same_Some}
use Rattle.two_d.proofs.Options.{option_map_some, same_option}
use Rattle.two_d.proofs.Below.{all_below-at, all_below-from, sum_below-other}

-- what the one wire carries, the other carries too
pub record Below (look look' : Origin → Option Value) : Type 0 where
  pub at : (o : Origin) (v : Value) → look o ≡ Some v → look' o ≡ Some v

pub record Extends (answer answer' : Answers) : Type 0 where
  pub at : (j : ℕ) (a : Inputs) (r : Meaning) → answer j a ≡ Some r → answer' j a ≡ Some r

pub with_input-more : (w : Option Origin) (look look' : Origin → Option Value) → Below look look' →
    (go go' : Option Value → Option Inputs) → ((x : Option Value) (a : Inputs) → go x ≡ Some a → go' x ≡ Some a) →
    (a : Inputs) → with_input w look go ≡ Some a → with_input w look' go' ≡ Some a
with_input-more None look look' h go go' more a e = more None a e
with_input-more (Some o) look look' h go go' more a e = by (look o) refl e
  where
    by : (x : Option Value) → look o ≡ x → with_input (Some o) (λ _. x) go ≡ Some a → with_input (Some o) look' go' ≡ Some a
    by None is e = absurd (cc)
    by (Some v) is e = rw (h.at o v is, with_input) (more (Some v) a e)

pub inputs_of-more : (row : BoxForm) (look look' : Origin → Option Value) → Below look look' →
    (a : Inputs) → inputs_of look row ≡ Some a → inputs_of look' row ≡ Some a
inputs_of-more row look look' h =
    with_input-more row.n look look' h _ _ (λ n. with_input-more row.w look look' h _ _ (λ w a e. e))

pub act-more : (P : Program) (m : ℕ) (look look' : Origin → Option Value) → Below look look' →
    (b : ℕ) (x : Effect) → act P m look b ≡ Some x → act P m look' b ≡ Some x
act-more P m look look' h b x e = by (box_at P m b) e
  where
    by : (row : Option BoxForm) → option_and_then (λ row. option_map (effect_of P m b row.command) (inputs_of look row)) row ≡ Some x →
        option_and_then (λ row. option_map (effect_of P m b row.command) (inputs_of look' row)) row ≡ Some x
    by None e = absurd (cc)
    by (Some row) e =
        let (a, there, is) = option_map_some (effect_of P m b row.command) (inputs_of look row) x e in
        rw (inputs_of-more row look look' h a there) (ap Some is)

-- a box that does something is there
pub act_there : (P : Program) (m : ℕ) (look : Origin → Option Value) (b : ℕ) (x : Effect) → act P m look b ≡ Some x → b < box_count P m
act_there P m look b x e = by (box_at P m b) refl e
  where
    by : (row : Option BoxForm) → box_at P m b ≡ row →
        option_and_then (λ row. option_map (effect_of P m b row.command) (inputs_of look row)) row ≡ Some x → b < box_count P m
    by None is e = absurd (cc)
    by (Some row) is e = slice_get_within (module_at P m).boxes b row is

pub south-more : (m b : ℕ) (answer answer' : Answers) → Extends answer answer' → (x : Effect) (v : Value) →
    (cell_of m b answer x).south ≡ Some v → (cell_of m b answer' x).south ≡ Some v
south-more m b answer answer' h (Done c) v e = e
south-more m b answer answer' h (Starts j a) v e = by (answer j a) refl e
  where
    by : (r : Option Meaning) → answer j a ≡ r → (cell_of m b (λ _ _. r) (Starts j a)).south ≡ Some v → (cell_of m b answer' (Starts j a)).south ≡ Some v
    by None is e = absurd (cc)
    by (Some r) is e = rw (h.at j a r is, cell_of) e

pub east-more : (m b : ℕ) (answer answer' : Answers) → Extends answer answer' → (x : Effect) (v : Value) →
    (cell_of m b answer x).east ≡ Some v → (cell_of m b answer' x).east ≡ Some v
east-more m b answer answer' h (Done c) v e = e
east-more m b answer answer' h (Starts j a) v e = by (answer j a) refl e
  where
    by : (r : Option Meaning) → answer j a ≡ r → (cell_of m b (λ _ _. r) (Starts j a)).east ≡ Some v → (cell_of m b answer' (Starts j a)).east ≡ Some v
    by None is e = absurd (cc)
    by (Some r) is e = rw (h.at j a r is, cell_of) e

-- one box further
pub look-step : (P : Program) (answer answer' : Answers) → Extends answer answer' → (m : ℕ) (a : Inputs)
    (look look' : Origin → Option Value) → Below look look' →
    Below (look_in a (cells_from P answer m look)) (look_in a (cells_from P answer' m look'))
look-step P answer answer' more m a look look' h = record { at = at }
  where
    south : (b : ℕ) (v : Value) (x : Option Effect) → act P m look b ≡ x →
        south_of (option_map (cell_of m b answer) x) ≡ Some v → south_of (cells_from P answer' m look' b) ≡ Some v
    south b v None is e = absurd (cc)
    south b v (Some x) is e = rw (act-more P m look look' h b x is) (south-more m b answer answer' more x v e)

    east : (b : ℕ) (v : Value) (x : Option Effect) → act P m look b ≡ x →
        east_of (option_map (cell_of m b answer) x) ≡ Some v → east_of (cells_from P answer' m look' b) ≡ Some v
    east b v None is e = absurd (cc)
    east b v (Some x) is e = rw (act-more P m look look' h b x is) (east-more m b answer answer' more x v e)

    at : (o : Origin) (v : Value) → look_in a (cells_from P answer m look) o ≡ Some v → look_in a (cells_from P answer' m look') o ≡ Some v
    at North v e = e
    at West v e = e
    at (South b) v e = south b v (act P m look b) refl e
    at (East b) v e = east b v (act P m look b) refl e

-- where each cell that the one has, the other has too
pub look-cells : (a : Inputs) (cells cells' : Cells) → ((b : ℕ) (c : Cell) → cells b ≡ Some c → cells' b ≡ Some c) →
    Below (look_in a cells) (look_in a cells')
look-cells a cells cells' h = record { at = at }
  where
    south : (b : ℕ) (v : Value) (c : Option Cell) → cells b ≡ c → south_of c ≡ Some v → south_of (cells' b) ≡ Some v
    south b v None is e = absurd (cc)
    south b v (Some c) is e = rw (h b c is) e

    east : (b : ℕ) (v : Value) (c : Option Cell) → cells b ≡ c → east_of c ≡ Some v → east_of (cells' b) ≡ Some v
    east b v None is e = absurd (cc)
    east b v (Some c) is e = rw (h b c is) e

    at : (o : Origin) (v : Value) → look_in a cells o ≡ Some v → look_in a cells' o ≡ Some v
    at North v e = e
    at West v e = e
    at (South b) v e = south b v (cells b) refl e
    at (East b) v e = east b v (cells b) refl e

pub look-none : (a : Inputs) (cells : Cells) → Below (look_in a none_fired) (look_in a cells)
look-none a cells = record { at = at }
  where
    at : (o : Origin) (v : Value) → look_in a none_fired o ≡ Some v → look_in a cells o ≡ Some v
    at North v e = e
    at West v e = e
    at (South b) v e = absurd (cc)
    at (East b) v e = absurd (cc)

pub same_answers : (answer : Answers) → Extends answer answer
same_answers answer = record { at = λ j a r e. e }

-- through more boxes and with more answers, no value is lost
pub pulled-more : (P : Program) (answer answer' : Answers) → Extends answer answer' → (m : ℕ) (a : Inputs) (k k' : ℕ) → k ≤ k' →
    Below (pulled P answer m a k) (pulled P answer' m a k')
unfolding pulled
pulled-more P answer answer' more m a zero zero le = look-none a none_fired
pulled-more P answer answer' more m a zero (suc k') le = look-none a (cells_from P answer' m (pulled P answer' m a k'))
pulled-more P answer answer' more m a (suc k) zero le = absurd (omega arith)
pulled-more P answer answer' more m a (suc k) (suc k') le =
    look-step P answer answer' more m a _ _ (pulled-more P answer answer' more m a k k' (omega arith))

pub known_at : (P : Program) (answer : Answers) (m : ℕ) (look : Origin → Option Value) → all_known P answer m look ≡ true →
    (b : ℕ) → test_of (is_known answer) (act P m look b) ≡ true
known_at P answer m look known b = by (act P m look b) refl
  where
    by : (x : Option Effect) → act P m look b ≡ x → test_of (is_known answer) x ≡ true
    by None is = refl
    by (Some x) is = rw is at (all_below-at (box_count P m) _ known b (act_there P m look b x is))

-- what is said of a known answer is the same in every extension
pub by_answer-known : {T : Type 0} (done : Cell → T) (some : Meaning → T) (none : T) (answer answer' : Answers) → Extends answer answer' →
    (x : Effect) → is_known answer x ≡ true → by_answer done some none answer' x ≡ by_answer done some none answer x
by_answer-known done some none answer answer' more (Done c) known = refl
by_answer-known done some none answer answer' more (Starts j a) known = by (answer j a) refl known
  where
    by : (r : Option Meaning) → answer j a ≡ r → unwrap_or (option_map (λ _. true) r) false ≡ true →
        by_answer done some none answer' (Starts j a) ≡ unwrap_or (option_map some r) none
    by None is known = absurd (cc)
    by (Some r) is known = rw (more.at j a r is, by_answer) refl

-- one box further, where what is enabled is known
pub look-step_known : (P : Program) (answer answer' : Answers) → Extends answer answer' → (m : ℕ) (a : Inputs)
    (look look' top : Origin → Option Value) → Below look' look → Below look top → all_known P answer m top ≡ true →
    Below (look_in a (cells_from P answer' m look')) (look_in a (cells_from P answer m look))
look-step_known P answer answer' more m a look look' top h high known = record { at = at }
  where
    same : (b : ℕ) (x : Effect) → act P m look' b ≡ Some x → cells_from P answer m look b ≡ Some (cell_of m b answer' x)
    same b x is =
        let here = act-more P m look' look h b x is in
        let there = act-more P m look top high b x here in
        let sure : is_known answer x ≡ true = rw there at (known_at P answer m top known b) in
        rw (here, by_answer-known (λ c. c) (λ r. returned m b r.outcome) quiet answer answer' more x sure) refl

    south : (b : ℕ) (v : Value) (x : Option Effect) → act P m look' b ≡ x →
        south_of (option_map (cell_of m b answer') x) ≡ Some v → south_of (cells_from P answer m look b) ≡ Some v
    south b v None is e = absurd (cc)
    south b v (Some x) is e = rw (same b x is) e

    east : (b : ℕ) (v : Value) (x : Option Effect) → act P m look' b ≡ x →
        east_of (option_map (cell_of m b answer') x) ≡ Some v → east_of (cells_from P answer m look b) ≡ Some v
    east b v None is e = absurd (cc)
    east b v (Some x) is e = rw (same b x is) e

    at : (o : Origin) (v : Value) → look_in a (cells_from P answer' m look') o ≡ Some v → look_in a (cells_from P answer m look) o ≡ Some v
    at North v e = e
    at West v e = e
    at (South b) v e = south b v (act P m look' b) refl e
    at (East b) v e = east b v (act P m look' b) refl e

-- where all answers are known, more answers carry no other values
pub pulled-known : (P : Program) (answer answer' : Answers) → Extends answer answer' → (m : ℕ) (a : Inputs) (top : ℕ) →
    all_known P answer m (pulled P answer m a top) ≡ true → (k : ℕ) → k ≤ top →
    Below (pulled P answer' m a k) (pulled P answer m a k)
unfolding pulled
pulled-known P answer answer' more m a top known zero le = look-none a none_fired
pulled-known P answer answer' more m a top known (suc k) le =
    look-step_known P answer answer' more m a (pulled P answer m a k) (pulled P answer' m a k) (pulled P answer m a top)
    (pulled-known P answer answer' more m a top known k (omega arith))
    (pulled-more P answer answer (same_answers answer) m a k top (omega arith)) known

pub look_of-known : (P : Program) (answer answer' : Answers) → Extends answer answer' → (m : ℕ) (a : Inputs) →
    all_known P answer m (look_of P answer m a) ≡ true → look_of P answer' m a ≡ look_of P answer m a
look_of-known P answer answer' more m a known =
    fun_ext (λ o. same_option (look_of P answer' m a o) (look_of P answer m a o)
    (λ v e. (pulled-known P answer answer' more m a (box_count P m) known (box_count P m) (omega arith)).at o v e)
    (λ v e. (pulled-more P answer answer' more m a (box_count P m) (box_count P m) (omega arith)).at o v e))

-- what depends on a known box alone is the same
pub of_known : {T : Type 0} (f : Answers → Effect → T) (P : Program) (answer answer' : Answers) (m : ℕ) (look : Origin → Option Value) →
    ((x : Effect) → is_known answer x ≡ true → f answer' x ≡ f answer x) → all_known P answer m look ≡ true →
    (b : ℕ) → option_map (f answer') (act P m look b) ≡ option_map (f answer) (act P m look b)
of_known f P answer answer' m look same known b = by (act P m look b) (known_at P answer m look known b)
  where
    by : (x : Option Effect) → test_of (is_known answer) x ≡ true → option_map (f answer') x ≡ option_map (f answer) x
    by None sure = refl
    by (Some x) sure = ap Some (same x sure)

pub all_known-more : (P : Program) (answer answer' : Answers) → Extends answer answer' → (m : ℕ) (look : Origin → Option Value) →
    all_known P answer m look ≡ true → all_known P answer' m look ≡ true
all_known-more P answer answer' more m look known =
    all_below-from (box_count P m) _ (λ b lt.
    ap (λ o. unwrap_or o true) (of_known is_known P answer answer' m look (by_answer-known _ _ _ answer answer' more) known b)
    ∙ known_at P answer m look known b)

pub summary_of-known : (P : Program) (answer answer' : Answers) → Extends answer answer' → (m : ℕ) (look : Origin → Option Value) →
    all_known P answer m look ≡ true → summary_of P answer' m look ≡ summary_of P answer m look
summary_of-known P answer answer' more m look known =
    let cells : cells_from P answer' m look ≡ cells_from P answer m look =
    fun_ext (λ b. of_known (cell_of m b) P answer answer' m look (by_answer-known _ _ _ answer answer' more) known b) in
    let firings = sum_below-other (box_count P m) (λ b. count_of (firings_of answer') (act P m look b)) (λ b. count_of (firings_of answer) (act P m look b))
    (λ b lt. ap (λ o. unwrap_or o 0) (of_known firings_of P answer answer' m look (by_answer-known _ _ _ answer answer' more) known b)) in
    let instances = sum_below-other (box_count P m) (λ b. count_of (instances_of answer') (act P m look b)) (λ b. count_of (instances_of answer) (act P m look b))
    (λ b lt. ap (λ o. unwrap_or o 0) (of_known instances_of P answer answer' m look (by_answer-known _ _ _ answer answer' more) known b)) in
    rw (cells, firings, instances) refl

-- an instance that means something means the same under more answers
pub meaning_of-more : (P : Program) (answer answer' : Answers) → Extends answer answer' → Extends (meaning_of P answer) (meaning_of P answer')
unfolding meaning_of
meaning_of-more P answer answer' more = record { at = at }
  where
    at : (m : ℕ) (a : Inputs) (r : Meaning) → meaning_of P answer m a ≡ Some r → meaning_of P answer' m a ≡ Some r
    at m a r e = by (all_known P answer m (look_of P answer m a)) refl e
      where
        by : (known : Bool) → all_known P answer m (look_of P answer m a) ≡ known →
            cond known (Some (summary_of P answer m (look_of P answer m a))) None ≡ Some r → meaning_of P answer' m a ≡ Some r
        by false is e = absurd (cc)
        by true is e =
            rw (look_of-known P answer answer' more m a is, all_known-more P answer answer' more m _ is, summary_of-known P answer answer' more m _ is) e

-- what isn't nothing at a depth is the same at every greater depth
pub mean-more : (P : Program) (n : ℕ) → Extends (mean P n) (mean P (suc n))
unfolding mean
mean-more P zero = record { at = λ m a r e. absurd (cc) }
mean-more P (suc n) = meaning_of-more P (mean P n) (mean P (suc n)) (mean-more P n)

pub mean-add : (P : Program) (n d : ℕ) → Extends (mean P n) (mean P (d + n))
mean-add P n zero = record { at = λ m a r e. rw zero-add e }
mean-add P n (suc d) = record { at = λ m a r e. rw suc-add ((mean-more P (d + n)).at m a r ((mean-add P n d).at m a r e)) }

pub mean-stable : (P : Program) (n n' : ℕ) → n ≤ n' → Extends (mean P n) (mean P n')
mean-stable P n n' le = let e : (n' - n) + n ≡ n' = omega arith in rw e at (mean-add P n (n' - n))

-- at two depths a module doesn't mean two things
pub mean-one : (P : Program) (n n' m : ℕ) (a : Inputs) (r r' : Meaning) → mean P n m a ≡ Some r → mean P n' m a ≡ Some r' → r ≡ r'
mean-one P n n' m a r r' e e' =
    same_Some r r' (sym ((mean-stable P n (n + n') (omega arith)).at m a r e) ∙ (mean-stable P n' (n + n') (omega arith)).at m a r' e')
