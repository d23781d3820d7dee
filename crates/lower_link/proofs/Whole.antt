-- From the start of the words to the end of the text.
use Rattle.std.proofs.Common.{◌≡◌, ℕ, suc, inl, inr, ◌+◌, ◌*◌, ◌<◌, ◌≤◌, Bool, true, false, List, [], ◌∷◌, ◌++◌, length, Option, Some, None, refl, sym, ap, ◌∙◌, subst, length-append, arith}
use Rattle.std.specs.Prelude.{◌==◌, if◌then◌else◌, codes, map, is_some, unwrap_or, All}
use Rattle.std.specs.List.{flat_map}
use Rattle.std.proofs.lemmas.Bool.{true≢false}
use Rattle.std.proofs.lemmas.List.{append_assoc, append-nil, length-map, map-append}
use Rattle.um_word.specs.State.{State, start_of}
use Rattle.um_word.specs.Table.{op_under}
use Rattle.um_word.specs.Loads.{Loads, seen, entries, Loaded}
use Rattle.um_word.specs.Leads.{Leads}
use Rattle.um_word.proofs.Arrays.{get-insert_same}
use Rattle.um_word.proofs.Leading.{weaken, weaken_along}
use Rattle.codex_values.specs.Value.{Value, unit, pair, show}
use Rattle.codex_values.specs.Value as value
use Rattle.two_d.specs.declared.trail.Site.{Site}
use Rattle.two_d.specs.declared.trail.Site.TheVariants.{NoSum, NoPair, NoResult, TwoResults}
use Rattle.two_d.specs.Programs.{Program, main_of}
use Rattle.two_d.specs.Meaning.{Outcome, Gives, Stuck, Meaning, no_inputs, mean}
use Rattle.two_d.specs.Walks.{Visit, Calls, load_of, walk, route}
use Rattle.two_d.specs.Texts.{site_line, text_of, caller_line, caller_lines}
use Rattle.lower_link.proofs.Sites.{IsCallerIn, IsOutcomeIn}
use Rattle.code_templates.specs.Lines.{IsOwn, IsOwnAt}
use Rattle.code_templates.specs.inner.Spent.{spent}
use Rattle.code_templates.proofs.Spent.{at_begin, all_along, prefix_back}
use Rattle.code_templates.proofs.Staying.{IsSame, own_stays}
use Rattle.code_templates.proofs.Holding.{spent_is, counted, loads_counted}
use Rattle.lower_emit.specs.Stands.{TextTrail, At, Via, Ending}
use Rattle.lower_emit.specs.Entered.{Return, Entered}
use Rattle.lower_emit.specs.inner.Uses.{Returned}
use Rattle.lower_emit.specs.inner.Trips.{Plans, Prices, due, Along, Backed, Ran, CallLaw, IsKnownOf}
use Rattle.lower_emit.proofs.Calling.{follow, due_entry}
use Rattle.lower_emit.proofs.Using.{blocks_stand}
use Rattle.lower_link.specs.inner.Boot.{Places, boot_cycles, boot_holds, Quiet, Booted, BootLaw}
use Rattle.lower_emit.specs.KnownOutcomes.{by_numbers, TextNumbers, through, came_of, known_of}
use Rattle.lower_link.specs.inner.Depth.{CallsLaw}
use Rattle.lower_link.specs.inner.Printer.{Shown, lines, line_cycles, print_cycles, members, IsPaid, AreTexts, Kept, IsKept, shown_came, shown_text, AreShown, shown_cycles, shown_credit, Over, PrinterLaw}
use Rattle.lower_link.proofs.Compiled.{may_spend, may_spend_all, AreTextsOf, IsCompiled, owed, shown_of, all_cycles, IsOnRoute}
use Rattle.lower_link.proofs.Booting.{boots}
use Rattle.lower_link.proofs.Counting.{calls_are, owed_calls, owed_append}
use Rattle.lower_link.proofs.Outcomes.{outcomes_are}
use Rattle.lower_link.proofs.Deep.{calls}
use Rattle.lower_link.proofs.Lining.{printer_law}
use Rattle.lower_link.proofs.Realising.{Sound, BlocksMade, loads_along, running_along}
use Rattle.two_d.proofs.Callers.{callers_few}

-- the price of loads by what is seen of them
owed_is : (price : ℕ) (l : Loads) → due price l ≡ owed price (seen l)
unfolding due
owed_is price [] = refl
owed_is price (x ∷ l) = ap (λ n. (if x.offset == 0 then price else 0) + n) (owed_is price l)

pub entries_owed : (l : Loads) → entries l ≡ owed 1 (seen l)
entries_owed [] = refl
entries_owed (x ∷ l) = ap (λ n. (if x.offset == 0 then 1 else 0) + n) (entries_owed l)

-- what is on the route with more loads is so with fewer
fewer : (whole : List (List ℕ × Bool)) (l k : Loads) → IsOnRoute whole (l ++ k) → IsOnRoute whole l
fewer whole l k h = (
  seen k ++ h.0,
  sym (append_assoc (seen l) (seen k) h.0) ∙ ap (λ x. x ++ h.0) (sym (map-append (λ (x : Loaded). (x.words, x.offset == 0)) l k)) ∙ h.1,
)

-- the texts of a trail are its lines
module _ (P : Program) (texts : TextNumbers) (text : ℕ → List ℕ) (count : ℕ) (are : AreTextsOf P texts text count) where
  all_tail : (b : ℕ × ℕ) (callers : List (ℕ × ℕ)) → All (IsCallerIn P) (b ∷ callers) → All (IsCallerIn P) callers
  all_tail b callers h = λ k d lt. h (suc k) d (omega (arith, lt))

  all_head : (b : ℕ × ℕ) (callers : List (ℕ × ℕ)) → All (IsCallerIn P) (b ∷ callers) → IsCallerIn P b
  all_head b callers h = h 0 b (omega arith)

  through_lines : (callers : List (ℕ × ℕ)) (trail : TextTrail) → All (IsCallerIn P) callers → lines text (through texts callers trail) ≡ lines text trail ++ caller_lines P callers
  through_lines [] trail h = sym (append-nil (lines text trail))
  through_lines (b ∷ callers) trail h =
      through_lines callers (Via (texts.caller b.0 b.1) trail) (all_tail b callers h)
      ∙ ap (λ x. (lines text trail ++ x) ++ caller_lines P callers) (are.callers b (all_head b callers h)).1
      ∙ append_assoc (lines text trail) (caller_line P b) (caller_lines P callers)

  through_texts : (callers : List (ℕ × ℕ)) (trail : TextTrail) → All (IsCallerIn P) callers → AreTexts count trail → AreTexts count (through texts callers trail)
  through_texts [] trail h t = t
  through_texts (b ∷ callers) trail h t = through_texts callers (Via (texts.caller b.0 b.1) trail) (all_tail b callers h) ((are.callers b (all_head b callers h)).0, t)

  shown_is : (o : Outcome) → IsOutcomeIn P o → shown_text text (shown_of texts o) ≡ text_of P o
  shown_is (Gives v) h = refl
  shown_is (Stuck trail) h = through_lines trail.callers (At (texts.site trail.site)) h.callers ∙ ap (λ x. x ++ caller_lines P trail.callers) (are.sites trail.site h.site).1

  shown_texts : (o : Outcome) → IsOutcomeIn P o → AreShown count (shown_of texts o)
  shown_texts (Gives v) h = tt
  shown_texts (Stuck trail) h = through_texts trail.callers (At (texts.site trail.site)) h.callers (are.sites trail.site h.site).0

  -- and no text is empty
  AreFull : TextTrail → Type 0
  AreFull (At j) = 1 ≤ length (text j)
  AreFull (Via j inner) = (1 ≤ length (text j)) × AreFull inner

  site_full : (s : Site) → 1 ≤ length (site_line P s)
  site_full (NoSum m b) = omega arith
  site_full (NoPair m b) = omega arith
  site_full (NoResult m) = omega arith
  site_full (TwoResults m) = omega arith

  through_full : (callers : List (ℕ × ℕ)) (trail : TextTrail) → All (IsCallerIn P) callers → AreFull trail → AreFull (through texts callers trail)
  unfolding AreFull
  through_full [] trail h t = t
  through_full (b ∷ callers) trail h t =
      let e = ap length (are.callers b (all_head b callers h)).1 in
      through_full callers (Via (texts.caller b.0 b.1) trail) (all_tail b callers h) (omega (arith, e), t)

  lines_within : (trail : TextTrail) → AreFull trail → line_cycles text trail ≤ 34 * length (lines text trail)
  unfolding AreFull
  lines_within (At j) h = omega (arith, h)
  lines_within (Via j inner) h =
      let rest = lines_within inner h.1 in
      let one = h.0 in
      let all = length-append (lines text inner) (text j) in
      omega (arith, rest, one, all)

  print_within : (v : Value) → print_cycles v ≤ 19 * length (show v)
  print_within unit = omega arith
  print_within (value.inl v) = let h = print_within v in omega (arith, h)
  print_within (value.inr v) = let h = print_within v in omega (arith, h)
  print_within (pair v w) =
      let h = print_within v in
      let g = print_within w in
      let a = length-append ((((codes "(" ++ show v) ++ codes ",") ++ show w)) (codes ")") in
      let b = length-append ((codes "(" ++ show v) ++ codes ",") (show w) in
      let c = length-append (codes "(" ++ show v) (codes ",") in
      omega (arith, h, g, a, b, c)

  -- so the printer's cycles are within the text's length
  shown_within : (o : Outcome) → IsOutcomeIn P o → shown_cycles text (shown_of texts o) ≤ 20 + 34 * length (text_of P o)
  unfolding AreFull
  shown_within (Gives v) h =
      let a = print_within v in
      let b = length-append (show v) (codes "\n") in
      omega (arith, a, b)
  shown_within (Stuck trail) h =
      let e = ap length (are.sites trail.site h.site).1 in
      let full = site_full trail.site in
      let t = lines_within (by_numbers texts trail) (through_full trail.callers (At (texts.site trail.site)) h.callers (omega (arith, e, full))) in
      let same = ap length (shown_is (Stuck trail) h) in
      omega (arith, t, same)

  -- the printer's credit
  through_members : (callers : List (ℕ × ℕ)) (trail : TextTrail) → members (through texts callers trail) ≡ length callers + members trail
  through_members [] trail = omega arith
  through_members (b ∷ callers) trail = let h = through_members callers (Via (texts.caller b.0 b.1) trail) in omega (arith, h)

  shown_paid : (o : Outcome) (n : ℕ) → ((t : Rattle.two_d.specs.Trails.Trail) → o ≡ Stuck t → length t.callers < n) → shown_credit (shown_of texts o) ≤ 111 + 108 * n
  shown_paid (Gives v) n few = omega arith
  shown_paid (Stuck trail) n few =
      let h = through_members trail.callers (At (texts.site trail.site)) in
      let lt = few trail refl in
      omega (arith, h, lt)

  shown_came_is : (o : Outcome) → came_of texts o ≡ shown_came (shown_of texts o)
  shown_came_is (Gives v) = refl
  shown_came_is (Stuck trail) = refl

-- what follows of where a way ends, if it doesn't depend on where that is
ends_so : (I Q : State → Loads → Type 0) (own : (t : State) (k : Loads) → I t k → IsOwn (op_under t)) (A : Type 0) → ((t : State) (k : Loads) → Q t k → A) → (n : ℕ) (s : State) (l : Loads) → (words : List ℕ) → Rattle.std.specs.FinMap.get s.arrays 0 ≡ Some words →
    Leads I n Q s l → A
ends_so I Q own A f n s l words there h = at_begin I Q own (λ t. A) (λ s t r x. x) f n s l (words, there) h

module _ (P : Program) (order : ℕ → List ℕ) (plans : Plans) (texts : TextNumbers) (blocks : ℕ → List ℕ) (c : Prices) (p : Places) (text : ℕ → List ℕ) (count : ℕ) (words : List ℕ)
    (is : IsCompiled P order plans texts blocks c p text count words) (input : List ℕ) where
  abbrev main : ℕ
  main = main_of P

  abbrev size : ℕ
  size = (plans (main_of P)).layout.size

  abbrev modules : ℕ
  modules = length P

  abbrev back : Return
  back = record { caller = 0; block = length P; offset = 0 }

  abbrev start : State
  start = start_of words input

  boot : Leads Quiet (boot_cycles p modules) (Booted blocks p modules main size input) start []
  unfolding BootLaw
  boot =
      let room = (is.blocks main is.good.main_there).good.size in
      boots blocks p modules main size words input is.linked is.good.main_there (omega (arith, room))

  told : (n : ℕ) → IsKnownOf blocks c plans (suc modules) (known_of texts (mean P n)) (walk P order n) main no_inputs
  unfolding CallsLaw
  told n = calls blocks c plans P order texts (suc modules) (omega arith) is.blocks is.push n main no_inputs is.good.main_there

  -- the way of `main`
  module _ (came : Option Ending) (visits : List Visit) (law : CallLaw blocks c plans (suc modules) main no_inputs came visits) where
    ran : (t : State) (k : Loads) (b : Booted blocks p modules main size input t k) → Leads (Along blocks b.ids c t k) law.0 (Ran blocks c b.table back came visits b.frame t k) t k
    ran t k b =
        law.1 b.table b.ids back b.frame t k
        (subst (λ o. Entered blocks b.table b.ids main size (plans main).north o back no_inputs b.frame t) (sym is.main_closed.1)
        (subst (λ o. Entered blocks b.table b.ids main size o None back no_inputs b.frame t) (sym is.main_closed.0) b.entered)) b.count_is (omega arith)

  along_own : (ids : List ℕ) (s : State) (l : Loads) (t : State) (k : Loads) → Along blocks ids c s l t k → IsOwn (op_under t)
  along_own ids s l t k h = h.own.own

  -- what may have been spent with these loads and so many bytes
  abbrev pub most_spent : Loads → ℕ → ℕ
  most_spent k bytes = may_spend_all P plans c p k bytes

  abbrev pub SoundFor : List (List ℕ × Bool) → (List ℕ → Type 0) → (List ℕ → Type 0) → State → Loads → Type 0
  SoundFor whole Written Ended = Sound input words whole Written Ended most_spent blocks (suc modules)

  abbrev Spends : State → Loads → Type 0
  Spends t k = IsOwnAt t × (spent t ≤ most_spent k (length t.out)) × BlocksMade blocks (suc modules) t k

  -- `main` was entered after these cycles
  abbrev EnteredMain : State → Loads → Type 0
  EnteredMain t k = Booted blocks p modules main size input t k × (t.cycles ≡ 0 + boot_cycles p modules)

  boot_spends : Leads (λ t k. Spends t k × (t.out ≡ [])) (boot_cycles p modules) EnteredMain start []
  boot_spends =
      let most = boot_cycles p modules + boot_holds p modules size in
      weaken_along (λ t k. Quiet t k × (spent t ≤ most)) (λ t k. Spends t k × (t.out ≡ [])) (boot_cycles p modules) EnteredMain
      (λ t k h. let s = h.1 in let none = ap length h.0.2 in ((h.0.0, omega (arith, s), λ some. absurd (omega (arith, some, none))), h.0.1)) start []
      (all_along Quiet EnteredMain (λ t k h. h.0.own) (λ t. spent t ≤ most) (λ s t r h. let x = r.1 in omega (arith, x, h))
      (λ t k h. let x = spent_is t in let a = h.0.held_is in let n = h.1 in omega (arith, x, a, n)) (boot_cycles p modules) start [] (words, get-insert_same Rattle.std.specs.FinMap.empty 0 words)
      (counted Quiet (Booted blocks p modules main size input) (boot_cycles p modules) start [] boot))

  due_main : (t : State) (k : Loads) → Booted blocks p modules main size input t k → due c.price k ≡ c.price
  due_main t k b = let none = owed_is c.price [] in ap (due c.price) b.loads ∙ due_entry c.price [] (blocks main) ∙ omega (arith, none)

  start_same : IsSame input words start []
  start_same = record {
    there = (words, get-insert_same Rattle.std.specs.FinMap.empty 0 words);
    rest_is = refl;
    zero_is = ap (λ (o : Option (List ℕ)). unwrap_or o []) (get-insert_same Rattle.std.specs.FinMap.empty 0 words);
  }

  module _ (n : ℕ) (r : Meaning) (means : mean P n main no_inputs ≡ Some r) where
    abbrev came : Ending
    came = came_of texts r.outcome

    abbrev shown : Shown
    shown = shown_of texts r.outcome

    outcome_of : IsOutcomeIn P r.outcome
    outcome_of = outcomes_are P is.good n main no_inputs r is.good.main_there means

    -- the calls of `main`, and what they cost
    module _ (visits : List Visit) (walk_is : walk P order n main no_inputs ≡ Calls main ∷ visits) (law : CallLaw blocks c plans (suc modules) main no_inputs (Some came) visits) where
      abbrev Left : (t : State) (k : Loads) → Booted blocks p modules main size input t k → State → Loads → Type 0
      Left t k b u j = Backed blocks c b.table back came visits b.frame t k u j

      seen_all : (t : State) (k : Loads) (b : Booted blocks p modules main size input t k) (u : State) (j : Loads) → Left t k b u j → seen j ≡ route P order blocks (blocks modules) n
      seen_all t k b u j h =
          h.loads ∙ ap (λ x. (seen x ++ map (load_of blocks) visits) ++ (blocks modules, true) ∷ []) b.loads
          ∙ ap (λ x. map (load_of blocks) x ++ (blocks modules, true) ∷ []) (sym walk_is)
          ∙ ap (λ o. map (load_of blocks) (walk P order n main no_inputs) ++ (if is_some o then (blocks modules, true) ∷ [] else [])) (sym means)

      abbrev most : ℕ
      most = boot_holds p modules size + owed c.price (route P order blocks (blocks modules) n) + c.price

      -- the number of cycles of `main` is within its price
      few : (t : State) (k : Loads) → Booted blocks p modules main size input t k → law.0 ≤ most
      few t k b =
          ends_so (Along blocks b.ids c t k) (λ u j. Left t k b u j × (u.cycles ≡ t.cycles + law.0)) (along_own b.ids t k) (law.0 ≤ most)
          (λ u j h.
          let bound = h.0.bound in
          let n = h.1 in
          let x = spent_is u in
          let y = spent_is t in
          let z = b.held_is in
          let e = owed_is c.price j ∙ ap (owed c.price) (seen_all t k b u j h.0) in
          omega (arith, bound, n, x, y, z, e))
          law.0 t k (blocks main) b.entered.code_is (counted (Along blocks b.ids c t k) (Left t k b) law.0 t k (ran (Some came) visits law t k b))

      few_all : law.0 ≤ most
      few_all =
          ends_so Quiet (Booted blocks p modules main size input) (λ t k h. h.0.own) (law.0 ≤ most) few (boot_cycles p modules) start [] words (get-insert_same Rattle.std.specs.FinMap.empty 0 words) boot

      abbrev cycles : ℕ
      cycles = boot_cycles p modules + (law.0 + shown_cycles text shown)

      abbrev whole : List (List ℕ × Bool)
      whole = route P order blocks (blocks modules) n

      abbrev T : List ℕ
      T = text_of P r.outcome

      -- the entries of all loads are the instances and the printer's
      entries_are : (k : Loads) → seen k ≡ whole → entries k ≡ r.instances + 1
      entries_are k e =
          let w = map (load_of blocks) (walk P order n main no_inputs) in
          let last : owed 1 whole ≡ owed 1 w + 1 = ap (λ o. owed 1 (w ++ (if is_some o then (blocks modules, true) ∷ [] else []))) means ∙ owed_append 1 w ((blocks modules, true) ∷ []) in
          let calls : owed 1 w ≡ 1 * r.instances = owed_calls 1 blocks (walk P order n main no_inputs) ∙ ap (λ k. 1 * k) (calls_are P order is.orders n main no_inputs r means) in
          let one = entries_owed k ∙ ap (owed 1) e in
          omega (arith, one, last, calls)

      abbrev Finished : State → Loads → Type 0
      Finished t k = (Over T t × (seen k ≡ whole)) × (spent t ≤ most_spent k (length t.out)) × BlocksMade blocks (suc modules) t k

      main_spends : (t : State) (k : Loads) (b : EnteredMain t k) → Leads Spends law.0 (Left t k b.0) t k
      main_spends t k b =
          weaken_along (Along blocks b.0.ids c t k) Spends law.0 (Left t k b.0)
          (λ u j h.
          let within = h.bound in
          let x = spent_is t in
          let a = b.0.held_is in
          let n = b.1 in
          let e = owed_is c.price j in
          let one = due_main t k b.0 in
          (h.own, omega (arith, within, x, a, n, e, one), λ some. (b.0.ids, b.0.count_is, h.blocks))) t k (ran (Some came) visits law t k b.0)

      -- in the printer each byte pays
      printer_spends : (t : State) (k : Loads) (b : EnteredMain t k) (u : State) (j : Loads) → Left t k b.0 u j → Leads Spends (shown_cycles text shown) Finished u j
      unfolding PrinterLaw
      printer_spends t k b u j h =
          let out : u.out ≡ [] = h.returned.out_is ∙ b.0.out_is in
          let on = seen_all t k b.0 u j h in
          let ret : Returned blocks b.0.table back (shown_came shown) b.0.frame t u = subst (λ o. Returned blocks b.0.table back o b.0.frame t u) (shown_came_is P texts text count is.text_numbers r.outcome) h.returned in
          let credit = shown_credit shown in
          let base = spent u + credit in
          let kept : Kept = record { words = blocks; ids = b.0.ids } in
          let stand = blocks_stand blocks b.0.table b.0.ids b.0.frame t u b.0.entered.apart b.0.entered.table_is (h.returned.table_is ∙ sym b.0.entered.table_is) h.returned.keeps b.0.entered.blocks in
          let printed = printer_law base kept blocks text count b.0.table modules shown b.0.frame j t u is.printer (shown_texts P texts text count is.text_numbers r.outcome outcome_of) ret (omega arith) stand in
          let enough : base ≤ may_spend P plans c p j + 111 + 108 * entries j =
          (let within = h.bound in
          let x = spent_is t in
          let a = b.0.held_is in
          let began = b.1 in
          let e = owed_is c.price j in
          let one = due_main t k b.0 in
          let all = entries_are j on in
          let few = shown_paid P texts text count is.text_numbers r.outcome r.instances (λ trail stuck. callers_few P n main no_inputs r trail means stuck) in
          omega (arith, within, x, a, began, e, one, all, few)) in
          let paid : (v : State) (q : Loads) → q ≡ j → IsPaid base 0 v → spent v ≤ most_spent q (length v.out) = λ v q same paid.
          (let o : owed c.price (seen q) ≡ owed c.price (seen j) = ap (λ x. owed c.price (seen x)) same in let e : entries q ≡ entries j = ap entries same in omega (arith, paid, enough, o, e)) in
          weaken_along (λ v q. IsOwnAt v × (q ≡ j) × IsPaid base 0 v × IsKept kept v) Spends (shown_cycles text shown) Finished (λ v q w. (w.0, paid v q w.1 w.2, λ some. (b.0.ids, b.0.count_is, w.3))) u j
          (weaken (λ v q. IsOwnAt v × (q ≡ j) × IsPaid base 0 v × IsKept kept v) (shown_cycles text shown) (λ v q. Over (u.out ++ shown_text text shown) v × (q ≡ j) × IsPaid base 0 v × IsKept kept v) Finished
          (λ v q w. (
            (
              record { halted = w.0.halted; out_is = w.0.out_is ∙ ap (λ o. o ++ shown_text text shown) out ∙ shown_is P texts text count is.text_numbers r.outcome outcome_of },
              ap seen w.1 ∙ on,
            ),
            paid v q w.1 w.2,
            λ some. (b.0.ids, b.0.count_is, w.3),
          )) u j printed)

      -- the whole way
      way : Leads Spends cycles Finished start []
      way =
          follow Spends (boot_cycles p modules) (law.0 + shown_cycles text shown) EnteredMain Finished start []
          (weaken_along (λ t k. Spends t k × (t.out ≡ [])) Spends (boot_cycles p modules) EnteredMain (λ t k h. h.0) start [] boot_spends) (λ t k b.
          follow Spends law.0 (shown_cycles text shown) (Left t k b.0) Finished t k (main_spends t k b) (λ u j h. printer_spends t k b u j h))

      abbrev Begins : List ℕ → Type 0
      Begins out = (more : List ℕ) × (out ++ more ≡ T)

      -- and all that holds along it
      sound : Leads (SoundFor whole Begins (λ out. out ≡ T)) cycles (λ t k. SoundFor whole Begins (λ out. out ≡ T) t k × (t.halted ≡ true)) start []
      sound =
          let J = SoundFor whole Begins (λ out. out ≡ T) in
          let S : State → Loads → Type 0 = IsSame input words in
          let I1 : State → Loads → Type 0 = λ t k. Spends t k × S t k in
          let Q1 : State → Loads → Type 0 = λ t k. Finished t k × S t k in
          let I2 : State → Loads → Type 0 = λ t k. I1 t k × IsOnRoute whole k in
          let I3 : State → Loads → Type 0 = λ t k. I2 t k × Begins t.out in
          let I4 : State → Loads → Type 0 = λ t k. (t.halted ≡ false) × I3 t k in
          weaken_along I4 J cycles (λ t k. J t k × (t.halted ≡ true))
          (λ t k h. record {
            own = λ running. h.1.0.0.0.0;
            same = h.1.0.0.1;
            begins = h.1.0.1;
            all = λ halted. absurd (true≢false (sym halted ∙ h.0));
            blocks = h.1.0.0.0.2;
            writes = h.1.1;
            wrote = λ halted. absurd (true≢false (sym halted ∙ h.0));
            spends = h.1.0.0.0.1;
          }) start []
          (weaken I4 cycles Q1 (λ t k. J t k × (t.halted ≡ true))
          (λ t k h. (
            record {
              own = λ running. absurd (true≢false (sym h.0.0.0.halted ∙ running));
              same = h.1;
              begins = ([], append-nil (seen k) ∙ h.0.0.1);
              all = λ halted. h.0.0.1;
              blocks = h.0.2;
              writes = ([], append-nil t.out ∙ h.0.0.0.out_is);
              wrote = λ halted. h.0.0.0.out_is;
              spends = h.0.1;
            },
            h.0.0.0.halted,
          )) start []
          (running_along I3 Q1 cycles start []
          (all_along I2 Q1 (λ t k h. h.0.0.0.own) (λ t. Begins t.out) (prefix_back T) (λ t k h. ([], append-nil t.out ∙ h.0.0.0.out_is)) cycles start [] (words, get-insert_same Rattle.std.specs.FinMap.empty 0 words)
          (loads_along I1 Q1 (IsOnRoute whole) (fewer whole) (λ t k h. ([], append-nil (seen k) ∙ h.0.0.1)) cycles start []
          (own_stays input words Spends Finished (λ t k h. h.0) cycles start [] start_same way)))))

      within : cycles ≤ all_cycles P plans c p r
      within =
          let f = few_all in
          let q = shown_within P texts text count is.text_numbers r.outcome outcome_of in
          let w = map (load_of blocks) (walk P order n main no_inputs) in
          let e : owed c.price (route P order blocks (blocks modules) n) ≡ owed c.price w + c.price =
          ap (λ o. owed c.price (w ++ (if is_some o then (blocks modules, true) ∷ [] else []))) means ∙ owed_append c.price w ((blocks modules, true) ∷ []) ∙ omega arith in
          let calls : owed c.price w ≡ c.price * r.instances = owed_calls c.price blocks (walk P order n main no_inputs) ∙ ap (λ k. c.price * k) (calls_are P order is.orders n main no_inputs r means) in
          omega (arith, f, e, calls, q)

    abbrev Wayed : Type 0
    Wayed =
        (N : ℕ) × (N ≤ all_cycles P plans c p r)
        × Leads (SoundFor (route P order blocks (blocks modules) n) (λ out. (more : List ℕ) × (out ++ more ≡ text_of P r.outcome)) (λ out. out ≡ text_of P r.outcome)) N
        (λ t k. SoundFor (route P order blocks (blocks modules) n) (λ out. (more : List ℕ) × (out ++ more ≡ text_of P r.outcome)) (λ out. out ≡ text_of P r.outcome) t k × (t.halted ≡ true)) start []

    by_told : IsKnownOf blocks c plans (suc modules) (known_of texts (mean P n)) (walk P order n) main no_inputs → Wayed
    by_told (inl h) = absurd (let e : Some (came_of texts r.outcome) ≡ None = ap (λ o. Rattle.std.specs.Option.option_map (λ (r : Meaning). came_of texts r.outcome) o) (sym means) ∙ h.0 in cc)
    by_told (inr h) =
        let law = subst (λ o. CallLaw blocks c plans (suc modules) main no_inputs o h.0) (ap (λ o. Rattle.std.specs.Option.option_map (λ (r : Meaning). came_of texts r.outcome) o) means) h.2 in
        (cycles h.0 h.1 law, within h.0 h.1 law, sound h.0 h.1 law)

    pub has_outcome : Wayed
    has_outcome = by_told (told n)

  -- where there is no meaning to this depth, the way is as long as it is deep
  module _ (n : ℕ) (none : mean P (suc n) main no_inputs ≡ None) (long : suc n ≤ length (route P order blocks (blocks modules) (suc n))) where
    abbrev walked : List (List ℕ × Bool)
    walked = map (load_of blocks) (walk P order (suc n) main no_inputs)

    route_is : route P order blocks (blocks modules) (suc n) ≡ walked
    route_is = ap (λ o. walked ++ (if is_some o then (blocks modules, true) ∷ [] else [])) none ∙ append-nil walked

    module _ (visits : List Visit) (walk_is : walk P order (suc n) main no_inputs ≡ Calls main ∷ visits) (law : CallLaw blocks c plans (suc modules) main no_inputs None visits) where
      -- each load takes a cycle
      many : (t : State) (k : Loads) → Booted blocks p modules main size input t k → n ≤ law.0
      many t k b =
          let R : State → Loads → Type 0 = λ u j. seen j ≡ seen k ++ map (load_of blocks) visits in
          ends_so (Along blocks b.ids c t k) (λ u j. R u j × (length j ≤ length k + law.0)) (along_own b.ids t k) (n ≤ law.0)
          (λ u j h.
          let all : seen j ≡ route P order blocks (blocks modules) (suc n) =
          h.0 ∙ ap (λ x. seen x ++ map (load_of blocks) visits) b.loads ∙ ap (map (load_of blocks)) (sym walk_is) ∙ sym route_is in
          let f : Loaded → List ℕ × Bool = λ x. (x.words, x.offset == 0) in
          let a = length-map j f in
          let e = ap length all in
          let m = h.1 in
          let one = ap length b.loads in
          omega (arith, a, e, m, one, long))
          law.0 t k (blocks main) b.entered.code_is (loads_counted (Along blocks b.ids c t k) R law.0 t k (ran None visits law t k b))

      many_all : n ≤ law.0
      many_all =
          ends_so Quiet (Booted blocks p modules main size input) (λ t k h. h.0.own) (n ≤ law.0) many (boot_cycles p modules) start [] words (get-insert_same Rattle.std.specs.FinMap.empty 0 words) boot

      abbrev deep : List (List ℕ × Bool)
      deep = route P order blocks (blocks modules) (suc n)

      abbrev Silent : State → Loads → Type 0
      Silent t k = Spends t k × (t.out ≡ [])

      abbrev Walked : State → Loads → Type 0
      Walked t k = seen k ≡ deep

      main_silent : (t : State) (k : Loads) → EnteredMain t k → Leads Silent law.0 Walked t k
      main_silent t k b =
          let R : State → Loads → Type 0 = λ u j. seen j ≡ seen k ++ map (load_of blocks) visits in
          weaken Silent law.0 R Walked (λ u j h. h ∙ ap (λ x. seen x ++ map (load_of blocks) visits) b.0.loads ∙ ap (map (load_of blocks)) (sym walk_is) ∙ sym route_is) t k
          (weaken_along (Along blocks b.0.ids c t k) Silent law.0 R
          (λ u j h.
          let within = h.bound in
          let x = spent_is t in
          let a = b.0.held_is in
          let n = b.1 in
          let e = owed_is c.price j in
          let one = due_main t k b.0 in
          ((h.own, omega (arith, within, x, a, n, e, one), λ some. (b.0.ids, b.0.count_is, h.blocks)), h.out_is ∙ b.0.out_is)) t k (ran None visits law t k b.0))

      abbrev lasts : ℕ
      lasts = boot_cycles p modules + law.0

      silent : Leads Silent lasts Walked start []
      silent = follow Silent (boot_cycles p modules) law.0 EnteredMain Walked start [] boot_spends main_silent

      never : (N : ℕ) × (n < N) × Leads (SoundFor deep (λ out. out ≡ []) (λ out. ⊥)) N (λ t k. Unit {0}) start []
      never =
          let J = SoundFor deep (λ out. out ≡ []) (λ out. ⊥) in
          let S : State → Loads → Type 0 = IsSame input words in
          let I1 : State → Loads → Type 0 = λ t k. Silent t k × S t k in
          let Q1 : State → Loads → Type 0 = λ t k. Walked t k × S t k in
          let I2 : State → Loads → Type 0 = λ t k. I1 t k × IsOnRoute deep k in
          let I3 : State → Loads → Type 0 = λ t k. (t.halted ≡ false) × I2 t k in (
            lasts,
            (let m = many_all in omega (arith, m)),
            weaken_along I3 J lasts (λ t k. Unit {0})
                (λ t k h. record {
                  own = λ running. h.1.0.0.0.0;
                  same = h.1.0.1;
                  begins = h.1.1;
                  all = λ halted. absurd (true≢false (sym halted ∙ h.0));
                  blocks = h.1.0.0.0.2;
                  writes = h.1.0.0.1;
                  wrote = λ halted. absurd (true≢false (sym halted ∙ h.0));
                  spends = h.1.0.0.0.1;
                }) start []
                (weaken I3 lasts Q1 (λ t k. Unit {0}) (λ t k h. tt) start []
                (running_along I2 Q1 lasts start []
                (loads_along I1 Q1 (IsOnRoute deep) (fewer deep) (λ t k h. ([], append-nil (seen k) ∙ h.0)) lasts start []
                (own_stays input words Silent Walked (λ t k h. h.0.0) lasts start [] start_same silent)))),
          )

    abbrev Lasting : Type 0
    Lasting = (N : ℕ) × (n < N) × Leads (SoundFor (route P order blocks (blocks modules) (suc n)) (λ out. out ≡ []) (λ out. ⊥)) N (λ t k. Unit {0}) start []

    never_by : IsKnownOf blocks c plans (suc modules) (known_of texts (mean P (suc n))) (walk P order (suc n)) main no_inputs → Lasting
    never_by (inl h) =
        let e : length (route P order blocks (blocks modules) (suc n)) ≡ 0 = ap length route_is ∙ ap (λ (w : List Visit). length (map (load_of blocks) w)) h.1 in
        absurd (omega (arith, e, long))
    never_by (inr h) =
        never h.0 h.1 (subst (λ o. CallLaw blocks c plans (suc modules) main no_inputs o h.0) (ap (λ o. Rattle.std.specs.Option.option_map (λ (r : Meaning). came_of texts r.outcome) o) none) h.2)

    pub goes_on : Lasting
    goes_on = never_by (told (suc n))
