-- A line of operators, row by row.
use Rattle.std.proofs.Common.{◌≡◌, ◌≢◌, ℕ, zero, suc, ◌+◌, ◌-◌, ◌%◌, ◌^◌, ◌<◌, ◌≤◌, Bool, true, false, List, [], ◌∷◌, ◌++◌, length, replicate, Option, Some, None, refl, sym, ap, subst, ◌∙◌, arith, true≢false}
use Rattle.std.specs.Prelude.{if◌then◌else◌, ◌==◌, bit_and, slice_get, slice_set, unwrap_or}
use Rattle.std.specs.FinMap as map
use Rattle.std.proofs.Math.Dec.{eqb-suc-zero}
use Rattle.std.proofs.lemmas.Bool.{lt-ltb}
use Rattle.std.proofs.lemmas.List.{append-nil, get_or-set_other}
use Rattle.um_word.specs.declared.op.Op.{Op}
use Rattle.um_word.specs.declared.op.Op.TheVariants.{Move, Index, Amend, Add, Mul, Div, Nand, Halt, Alloc, Abandon, Out, Input, Load, Set}
use Rattle.um_word.specs.Operators.{decode_word}
use Rattle.um_word.specs.State.{State, Arrays, array_at, reg, with_reg, with_array, platter}
use Rattle.um_word.specs.Table.{FingerOutside, BadOperator, LoadInactive, IndexInactive, IndexOutside, AmendInactive, AmendOutside, OutputTooLarge, Next, Goes, Stops, with_some, moved, op_of, op_under}
use Rattle.um_word.specs.Run.{is_allocation}
use Rattle.um_word.proofs.Arrays.{get-insert_same, get-insert_other}
use Rattle.um_word.proofs.Live.{insert_again}
use Rattle.um_word.specs.Free.{free_row, free_cycle}
use Rattle.um_word.specs.Loads.{Loads, next_load, load_by}
use Rattle.um_word.specs.Leads.{IsNew, OnGoing, Leads}
use Rattle.code_templates.specs.Lines.{StandsAt, StandStill, IsOwn}
use Rattle.code_templates.specs.Laws.{Quietly}
use Rattle.um_word.proofs.Leading.{no_step, one_more}
use Rattle.code_templates.proofs.Still.{MayAmend, still, still_amended, still_allocated}

-- where a line leaves: at the word after it, at a place of the same words, in the words of another array, or halted
pub data Exit : Type 0 where
  Falls : Exit
  Jumps : (place : ℕ) → Exit
  Enters : (words : List ℕ) (place : ℕ) → Exit
  Halts : Exit

abbrev pub exit_loads : Exit → Loads
exit_loads (Enters words place) = record { words = words; offset = place } ∷ []
exit_loads _ = []

-- the state with this finger and this number of cycles, running
abbrev pub at_place : State → ℕ → ℕ → State
at_place s place cycles = record s { finger = place; cycles = cycles; halted = false }

-- the state in which a line leaves, the word after it being next
abbrev pub left_by : Exit → State → ℕ → ℕ → State
left_by Falls t next cycles = at_place t next cycles
left_by (Jumps place) t next cycles = at_place t place cycles
left_by (Enters words place) t next cycles = at_place (with_array t 0 words) place cycles
left_by Halts t next cycles = record t { finger = next; cycles = cycles; halted = true }

abbrev pub at_zero : {A : Type 0} → ℕ → A → A → A
at_zero zero x y = x
at_zero (suc n) x y = y

-- where a load goes
abbrev Enter : (Exit → State → Type 0) → State → ℕ → ℕ → Type 0
Enter Q s zero place = Q (Jumps place) s
Enter Q s (suc n) place = (words : List ℕ) × (map.get s.arrays (suc n) ≡ Some words) × Q (Enters words place) s

-- What is to hold before a line, so that Q holds where it leaves, and of the arrays that stood
-- there none is amended but for these.
unfoldable line : (but : List ℕ) → Arrays → List Op → (Exit → State → Type 0) → State → Type 0
line but stood [] Q s = Q Falls s
line but stood (Set a value ∷ ops) Q s = line but stood ops Q (with_reg s a value)
line but stood (Move a b c ∷ ops) Q s = line but stood ops Q (at_zero (reg s c) s (with_reg s a (reg s b)))
line but stood (Index a b c ∷ ops) Q s =
    (words : List ℕ) × (word : ℕ) × (map.get s.arrays (reg s b) ≡ Some words) × (slice_get words (reg s c) ≡ Some word) × line but stood ops Q (with_reg s a word)
line but stood (Amend a b c ∷ ops) Q s =
    (words : List ℕ) × (word : ℕ) × MayAmend but stood (reg s a) × (map.get s.arrays (reg s a) ≡ Some words) × (slice_get words (reg s b) ≡ Some word)
    × line but stood ops Q (with_array s (reg s a) (slice_set words (reg s b) (reg s c)))
line but stood (Add a b c ∷ ops) Q s = line but stood ops Q (with_reg s a ((reg s b + reg s c) % 2 ^ 32))
line but stood (Nand a b c ∷ ops) Q s = line but stood ops Q (with_reg s a (2 ^ 32 - 1 - bit_and (reg s b) (reg s c)))
line but stood (Alloc b c ∷ ops) Q s = (id : ℕ) → IsNew s.arrays id → line but stood ops Q (with_reg (with_array s id (replicate (reg s c) 0)) b id)
line but stood (Out c ∷ []) Q s = (reg s c < 256) × Q Falls (record s { out = s.out ++ reg s c ∷ [] })
line but stood (Halt ∷ []) Q s = Q Halts s
line but stood (Load b c ∷ []) Q s = Enter Q s (reg s b) (reg s c)
line but stood _ Q s = ⊥

pub record Line (but : List ℕ) (stood : Arrays) (ops : List Op) (Q : Exit → State → Type 0) (s : State) : Type 0 where
  by : line but stood ops Q s

pub end : {but : List ℕ} {stood : Arrays} {Q : Exit → State → Type 0} {s : State} → Q Falls s → Line but stood [] Q s
unfolding line
end h = record { by = h }

pub set : {but : List ℕ} {stood : Arrays} {a v : ℕ} {ops : List Op} {Q : Exit → State → Type 0} {s : State} → Line but stood ops Q (with_reg s a v) → Line but stood (Set a v ∷ ops) Q s
unfolding line
set l = record { by = l.by }

pub index : {but : List ℕ} {stood : Arrays} {a b c word : ℕ} {words : List ℕ} {ops : List Op} {Q : Exit → State → Type 0} {s : State} →
    map.get s.arrays (reg s b) ≡ Some words → slice_get words (reg s c) ≡ Some word → Line but stood ops Q (with_reg s a word) → Line but stood (Index a b c ∷ ops) Q s
unfolding line
index {word = word} {words = words} h g l = record { by = (words, word, h, g, l.by) }

pub amend : {but : List ℕ} {stood : Arrays} {a b c word : ℕ} {words : List ℕ} {ops : List Op} {Q : Exit → State → Type 0} {s : State} →
    MayAmend but stood (reg s a) → map.get s.arrays (reg s a) ≡ Some words → slice_get words (reg s b) ≡ Some word →
    Line but stood ops Q (with_array s (reg s a) (slice_set words (reg s b) (reg s c))) → Line but stood (Amend a b c ∷ ops) Q s
unfolding line
amend {word = word} {words = words} n h g l = record { by = (words, word, n, h, g, l.by) }

-- the arrays are those with one put last
pub amend_last : {but : List ℕ} {stood : Arrays} {a b c word k : ℕ} {ops : List Op} {Q : Exit → State → Type 0} {s : State} (m : Arrays) (words : List ℕ) →
    s.arrays ≡ map.insert m k words → reg s a ≡ k → MayAmend but stood k → slice_get words (reg s b) ≡ Some word →
    Line but stood ops Q (record s { arrays = map.insert m k (slice_set words (reg s b) (reg s c)) }) → Line but stood (Amend a b c ∷ ops) Q s
amend_last {but = but} {stood = stood} {a = a} {b = b} {c = c} {k = k} {ops = ops} {Q = Q} {s = s} m words is e n g l =
    let there : map.get s.arrays (reg s a) ≡ Some words = ap (λ x. map.get x (reg s a)) is ∙ ap (map.get (map.insert m k words)) e ∙ get-insert_same m k words in
    let same : map.insert m k (slice_set words (reg s b) (reg s c)) ≡ map.insert s.arrays (reg s a) (slice_set words (reg s b) (reg s c)) =
    sym ((λ i. map.insert (is i) (e i) (slice_set words (reg s b) (reg s c))) ∙ insert_again m k words (slice_set words (reg s b) (reg s c))) in
    amend (subst (MayAmend but stood) (sym e) n) there g (subst (λ x. Line but stood ops Q (record s { arrays = x })) same l)

pub add : {but : List ℕ} {stood : Arrays} {a b c : ℕ} {ops : List Op} {Q : Exit → State → Type 0} {s : State} → Line but stood ops Q (with_reg s a ((reg s b + reg s c) % 2 ^ 32)) → Line but stood (Add a b c ∷ ops) Q s
unfolding line
add l = record { by = l.by }

-- the sum is x
pub add_to : {but : List ℕ} {stood : Arrays} {a b c : ℕ} {ops : List Op} {Q : Exit → State → Type 0} {s : State} (x : ℕ) → (reg s b + reg s c) % 2 ^ 32 ≡ x → Line but stood ops Q (with_reg s a x) → Line but stood (Add a b c ∷ ops) Q s
add_to {but = but} {stood = stood} {a = a} {ops = ops} {Q = Q} {s = s} x e l = add (subst (λ y. Line but stood ops Q (with_reg s a y)) (sym e) l)

pub nand : {but : List ℕ} {stood : Arrays} {a b c : ℕ} {ops : List Op} {Q : Exit → State → Type 0} {s : State} → Line but stood ops Q (with_reg s a (2 ^ 32 - 1 - bit_and (reg s b) (reg s c))) → Line but stood (Nand a b c ∷ ops) Q s
unfolding line
nand l = record { by = l.by }

pub alloc : {but : List ℕ} {stood : Arrays} {b c : ℕ} {ops : List Op} {Q : Exit → State → Type 0} {s : State} →
    ((id : ℕ) → IsNew s.arrays id → Line but stood ops Q (with_reg (with_array s id (replicate (reg s c) 0)) b id)) → Line but stood (Alloc b c ∷ ops) Q s
unfolding line
alloc l = record { by = λ id new. (l id new).by }

moves : (but : List ℕ) (stood : Arrays) (n : ℕ) (ops : List Op) (Q : Exit → State → Type 0) (s t : State) → n ≢ 0 → line but stood ops Q t → line but stood ops Q (at_zero n s t)
moves but stood zero ops Q s t ne l = absurd (ne refl)
moves but stood (suc n) ops Q s t ne l = l

pub move : {but : List ℕ} {stood : Arrays} {a b c : ℕ} {ops : List Op} {Q : Exit → State → Type 0} {s : State} → reg s c ≢ 0 → Line but stood ops Q (with_reg s a (reg s b)) → Line but stood (Move a b c ∷ ops) Q s
unfolding line
move {but = but} {stood = stood} {a = a} {b = b} {c = c} {ops = ops} {Q = Q} {s = s} ne l = record { by = moves but stood (reg s c) ops Q s (with_reg s a (reg s b)) ne l.by }

pub move_not : {but : List ℕ} {stood : Arrays} {a b c : ℕ} {ops : List Op} {Q : Exit → State → Type 0} {s : State} → reg s c ≡ 0 → Line but stood ops Q s → Line but stood (Move a b c ∷ ops) Q s
unfolding line
move_not {but = but} {stood = stood} {a = a} {b = b} {c = c} {ops = ops} {Q = Q} {s = s} e l = record { by = subst (λ n. line but stood ops Q (at_zero n s (with_reg s a (reg s b)))) (sym e) l.by }

pub out : {but : List ℕ} {stood : Arrays} {c : ℕ} {Q : Exit → State → Type 0} {s : State} → reg s c < 256 → Q Falls (record s { out = s.out ++ reg s c ∷ [] }) → Line but stood (Out c ∷ []) Q s
unfolding line
out lt h = record { by = (lt, h) }

pub halt : {but : List ℕ} {stood : Arrays} {Q : Exit → State → Type 0} {s : State} → Q Halts s → Line but stood (Halt ∷ []) Q s
unfolding line
halt h = record { by = h }

pub jump : {but : List ℕ} {stood : Arrays} {b c : ℕ} {Q : Exit → State → Type 0} {s : State} → reg s b ≡ 0 → Q (Jumps (reg s c)) s → Line but stood (Load b c ∷ []) Q s
unfolding line
jump {c = c} {Q = Q} {s = s} e h = record { by = subst (λ n. Enter Q s n (reg s c)) (sym e) h }

enters : (n : ℕ) (place : ℕ) (words : List ℕ) (Q : Exit → State → Type 0) (s : State) → n ≢ 0 → map.get s.arrays n ≡ Some words → Q (Enters words place) s → Enter Q s n place
enters zero place words Q s ne e h = absurd (ne refl)
enters (suc n) place words Q s ne e h = (words, e, h)

pub enter : {but : List ℕ} {stood : Arrays} {b c : ℕ} {words : List ℕ} {Q : Exit → State → Type 0} {s : State} → reg s b ≢ 0 → map.get s.arrays (reg s b) ≡ Some words → Q (Enters words (reg s c)) s → Line but stood (Load b c ∷ []) Q s
unfolding line
enter {b = b} {c = c} {words = words} {Q = Q} {s = s} ne e h = record { by = enters (reg s b) (reg s c) words Q s ne e h }

-- the machine makes the cycles of a line
-- a cycle at a place whose operator is known
fetch : (o : Option ℕ) (op : Op) (id : ℕ) (s : State) → op_of o ≡ Some op →
    with_some o FingerOutside (λ word. with_some (decode_word word) BadOperator (λ op. free_row op id s)) ≡ free_row op id s
fetch None op id s e = cc
fetch (Some word) op id s e = ap (λ d. with_some d BadOperator (λ op. free_row op id s)) e

pub cycle_is : (s : State) (op : Op) (id : ℕ) → op_under s ≡ Some op → free_cycle s id ≡ free_row op id (moved s)
cycle_is s op id e = fetch (platter s) op id (moved s) e

-- an operator that amends no word of array 0
abbrev IsBeside : Op → State → Type 0
IsBeside op s = (a b c : ℕ) → Some op ≡ Some (Amend a b c) → reg s a ≢ 0

abbrev amends : Option Op → Bool
amends (Some (Amend a b c)) = true
amends _ = false

no_amend : (op : Op) (s : State) → amends (Some op) ≡ false → IsBeside op s
no_amend op s none a b c e = absurd (true≢false (sym (ap amends e) ∙ none))

same_register : (a b c x y z : ℕ) → Some (Amend a b c) ≡ Some (Amend x y z) → a ≡ x
same_register a b c x y z e = cc

amend_beside : (a b c : ℕ) (s : State) → reg s a ≢ 0 → IsBeside (Amend a b c) s
amend_beside a b c s ne x y z e = subst (λ k. reg s k ≢ 0) (same_register a b c x y z e) ne

-- the operator writes register 1
abbrev writes_table : Op → Bool
writes_table (Set a value) = a == 1
writes_table (Move a b c) = a == 1
writes_table (Index a b c) = a == 1
writes_table (Add a b c) = a == 1
writes_table (Mul a b c) = a == 1
writes_table (Div a b c) = a == 1
writes_table (Nand a b c) = a == 1
writes_table (Alloc b c) = b == 1
writes_table (Input c) = c == 1
writes_table _ = false

-- no operator but the last writes register 1
abbrev pub keeps_table : List Op → Bool
keeps_table [] = true
keeps_table (op ∷ []) = true
keeps_table (op ∷ next ∷ ops) = if writes_table op then false else keeps_table (next ∷ ops)

keeps_rest : (op : Op) (ops : List Op) → keeps_table (op ∷ ops) ≡ true → keeps_table ops ≡ true
keeps_rest op [] e = refl
keeps_rest op (next ∷ ops) e = by (writes_table op) e
  where
    by : (b : Bool) → (if b then false else keeps_table (next ∷ ops)) ≡ true → keeps_table (next ∷ ops) ≡ true
    by true h = absurd (true≢false (sym h))
    by false h = h

keeps_now : (op next : Op) (ops : List Op) → keeps_table (op ∷ next ∷ ops) ≡ true → writes_table op ≡ false
keeps_now op next ops e = by (writes_table op) e
  where
    by : (b : Bool) → (if b then false else keeps_table (next ∷ ops)) ≡ true → b ≡ false
    by true h = absurd (true≢false (sym h))
    by false h = refl

-- another register is written
other_register : (a value : ℕ) (s : State) → (a == 1) ≡ false → reg (with_reg s a value) 1 ≡ reg s 1
other_register a value s other = get_or-set_other s.registers a 1 value 0 (λ e. true≢false (ap (λ k. k == 1) e ∙ other))

-- what a line comes to
pub record Left (Q : Exit → State → Type 0) (next cycles : ℕ) (loads : Loads) (u : State) (l : Loads) : Type 0 where
  pub exit : Exit
  pub state : State
  pub holds : Q exit state
  pub is : u ≡ left_by exit state next cycles
  pub loaded : l ≡ loads ++ exit_loads exit

module _ (place size : ℕ) (but : List ℕ) (code : List ℕ) (came : State) (loads : Loads) (Q : Exit → State → Type 0)
    (zero_there : map.get came.arrays 0 ≡ Some code) where
  abbrev Along : State → Loads → Type 0
  Along = Quietly place size but came loads

  -- register 1 is as it was, where operators come
  abbrev IsTable : List Op → State → Type 0
  IsTable [] s = Unit {0}
  IsTable (op ∷ ops) s = reg s 1 ≡ reg came 1

  next_table : (op : Op) (ops : List Op) (s t : State) → keeps_table (op ∷ ops) ≡ true → reg s 1 ≡ reg came 1 → (writes_table op ≡ false → reg t 1 ≡ reg s 1) → IsTable ops t
  next_table op [] s t keep h same = tt
  next_table op (next ∷ ops) s t keep h same = same (keeps_now op next ops keep) ∙ h

  -- the machine stands at the operators
  record Stood (ops : List Op) (s : State) (f : ℕ) : Type 0 where
    from : place ≤ f
    to : f + length ops ≤ place + size
    zero : map.get s.arrays 0 ≡ Some code
    stays : StandStill but came.arrays s.arrays
    table : IsTable ops s
    keep : keeps_table ops ≡ true
    out : s.out ≡ came.out
    rest : s.rest ≡ came.rest
    stand : StandsAt code f ops

  under : (op : Op) (ops : List Op) (s : State) (f c : ℕ) → Stood (op ∷ ops) s f → op_under (at_place s f c) ≡ Some op
  under op ops s f c h = ap (λ o. op_of (slice_get (unwrap_or o []) f)) h.zero ∙ h.stand.0

  within : (op : Op) (ops : List Op) (s : State) (f c : ℕ) → IsOwn (Some op) → IsBeside op s → Stood (op ∷ ops) s f → Along (at_place s f c) loads
  within op ops s f c own beside h = (
    record {
      from = h.from;
      to = let e = h.to in omega (arith, e);
      code = h.zero ∙ sym zero_there;
      stays = h.stays;
      table = h.table;
      out = h.out;
      rest = h.rest;
      own = record { own = subst IsOwn (sym (under op ops s f c h)) own; not_zero = λ a b c2 e. beside a b c2 (sym (under op ops s f c h) ∙ e) };
    },
    refl,
  )

  abbrev Comes : List Op → ℕ → ℕ → State → Loads → Type 0
  Comes ops f c t l = Leads Along (length ops) (Left Q (f + length ops) (c + length ops) loads) t l

  -- one row, after which the rest of the line stands, and nothing was loaded
  then_line : (op : Op) (ops : List Op) (s t : State) (f c id : ℕ) → Stood (op ∷ ops) s f → free_row op id (moved (at_place s f c)) ≡ Goes (at_place t (f + 1) (c + 1)) →
      load_by (Some op) (at_place s f c) ≡ [] → Comes ops (f + 1) (c + 1) (at_place t (f + 1) (c + 1)) loads →
      OnGoing (free_cycle (at_place s f c) id) (λ u. Leads Along (length ops) (Left Q (f + suc (length ops)) (c + suc (length ops)) loads) u (loads ++ next_load (at_place s f c)))
  then_line op ops s t f c id h is none h2 =
      let e : f + 1 + length ops ≡ f + suc (length ops) = omega arith in
      let d : c + 1 + length ops ≡ c + suc (length ops) = omega arith in
      let l : loads ≡ loads ++ next_load (at_place s f c) = sym (ap (λ o. loads ++ load_by o (at_place s f c)) (under op ops s f c h) ∙ ap (λ x. loads ++ x) none ∙ append-nil loads) in
      subst (λ x. OnGoing x (λ u. Leads Along (length ops) (Left Q (f + suc (length ops)) (c + suc (length ops)) loads) u (loads ++ next_load (at_place s f c))))
      (sym (cycle_is (at_place s f c) op id (under op ops s f c h) ∙ is))
      (subst (λ x. Leads Along (length ops) (Left Q (f + suc (length ops)) (c + suc (length ops)) loads) (at_place t (f + 1) (c + 1)) x) l
      (subst (λ x. Leads Along (length ops) (Left Q x (c + suc (length ops)) loads) (at_place t (f + 1) (c + 1)) loads) e
      (subst (λ x. Leads Along (length ops) (Left Q (f + 1 + length ops) x loads) (at_place t (f + 1) (c + 1)) loads) d h2)))

  next : (op : Op) (ops : List Op) (s t : State) (f : ℕ) → Stood (op ∷ ops) s f → map.get t.arrays 0 ≡ map.get s.arrays 0 → StandStill but came.arrays t.arrays →
      (writes_table op ≡ false → reg t 1 ≡ reg s 1) → t.out ≡ s.out → t.rest ≡ s.rest → Stood ops t (f + 1)
  next op ops s t f h code stays same written input = record {
    from = let e = h.from in omega (arith, e);
    to = let e = h.to in omega (arith, e);
    zero = code ∙ h.zero;
    stays = stays;
    table = next_table op ops s t h.keep h.table same;
    keep = keeps_rest op ops h.keep;
    out = written ∙ h.out;
    rest = input ∙ h.rest;
    stand = h.stand.1;
  }

  -- a row that leads to the rest of a line
  row_leads : (op : Op) (ops : List Op) (s : State) (f c : ℕ) → Stood (op ∷ ops) s f → IsOwn (Some op) → IsBeside op s → load_by (Some op) (at_place s f c) ≡ [] →
      ((id : ℕ) → (is_allocation (Some op) ≡ true → IsNew s.arrays id) → (t : State) × (free_row op id (moved (at_place s f c)) ≡ Goes (at_place t (f + 1) (c + 1))) × Comes ops (f + 1) (c + 1) (at_place t (f + 1) (c + 1)) loads) →
      Comes (op ∷ ops) f c (at_place s f c) loads
  row_leads op ops s f c h own beside none go =
      one_more Along (length ops) (Left Q (f + suc (length ops)) (c + suc (length ops)) loads) (at_place s f c) loads refl (within op ops s f c own beside h)
      (λ id new.
      let g = go id (λ a. new (ap is_allocation (under op ops s f c h) ∙ a)) in
      then_line op ops s g.0 f c id h g.1 none g.2)

  -- the last row
  last_leads : (op : Op) (s : State) (f c : ℕ) → Stood (op ∷ []) s f → IsOwn (Some op) → IsBeside op s → (exit : Exit) (t : State) →
      ((id : ℕ) → free_row op id (moved (at_place s f c)) ≡ Goes (left_by exit t (f + 1) (c + 1))) → load_by (Some op) (at_place s f c) ≡ exit_loads exit → Q exit t →
      Comes (op ∷ []) f c (at_place s f c) loads
  last_leads op s f c h own beside exit t is loads_is holds =
      one_more Along 0 (Left Q (f + 1) (c + 1) loads) (at_place s f c) loads refl (within op [] s f c own beside h)
      (λ id new. subst (λ x. OnGoing x (λ u. Leads Along 0 (Left Q (f + 1) (c + 1) loads) u (loads ++ next_load (at_place s f c)))) (sym (cycle_is (at_place s f c) op id (under op [] s f c h) ∙ is id))
      (no_step Along (Left Q (f + 1) (c + 1) loads) (left_by exit t (f + 1) (c + 1)) (loads ++ next_load (at_place s f c))
      (record { exit = exit; state = t; holds = holds; is = refl; loaded = ap (λ o. loads ++ load_by o (at_place s f c)) (under op [] s f c h) ∙ ap (λ x. loads ++ x) loads_is })))

  moved_by : (n a b : ℕ) (s : State) (f c : ℕ) → Goes (if n == 0 then moved (at_place s f c) else with_reg (moved (at_place s f c)) a (reg s b)) ≡ Goes (at_place (at_zero n s (with_reg s a (reg s b))) (f + 1) (c + 1))
  moved_by zero a b s f c = refl
  moved_by (suc n) a b s f c = ap (λ x. Goes (if x then moved (at_place s f c) else with_reg (moved (at_place s f c)) a (reg s b))) (eqb-suc-zero n)

  kept : (n a b : ℕ) (s : State) (P : State → Type 0) → P s → P (with_reg s a (reg s b)) → P (at_zero n s (with_reg s a (reg s b)))
  kept zero a b s P h k = h
  kept (suc n) a b s P h k = k

  abbrev loaded_row : ℕ → Bool → State → ℕ → ℕ → ℕ → Next
  loaded_row n b s f c place =
      if b then Goes (record (moved (at_place s f c)) { finger = place }) else
      with_some (map.get s.arrays n) LoadInactive (λ words. Goes (record (with_array (moved (at_place s f c)) 0 words) { finger = place }))

  load_leads : (n b c : ℕ) (s : State) (f cycles : ℕ) → Stood (Load b c ∷ []) s f → reg s b ≡ n → Enter Q s n (reg s c) → Comes (Load b c ∷ []) f cycles (at_place s f cycles) loads
  load_leads zero b c s f cycles h e q =
      last_leads (Load b c) s f cycles h tt (no_amend (Load b c) s refl) (Jumps (reg s c)) s (λ id. ap (λ n. loaded_row n (n == 0) s f cycles (reg s c)) e)
      (ap (λ n. if n == 0 then [] else record { words = array_at s.arrays n; offset = reg s c } ∷ []) e) q
  load_leads (suc n) b c s f cycles h e q =
      last_leads (Load b c) s f cycles h tt (no_amend (Load b c) s refl) (Enters q.0 (reg s c)) s
      (λ id. ap (λ n. loaded_row n (n == 0) s f cycles (reg s c)) e ∙ ap (λ x. loaded_row (suc n) x s f cycles (reg s c)) (eqb-suc-zero n)
      ∙ ap (λ o. with_some o LoadInactive (λ words. Goes (record (with_array (moved (at_place s f cycles)) 0 words) { finger = reg s c }))) q.1)
      (ap (λ n. if n == 0 then [] else record { words = array_at s.arrays n; offset = reg s c } ∷ []) e ∙ ap (λ x. if x then [] else record { words = array_at s.arrays (suc n); offset = reg s c } ∷ []) (eqb-suc-zero n)
      ∙ ap (λ o. record { words = unwrap_or o []; offset = reg s c } ∷ []) q.1) q.2

  line_leads : (ops : List Op) (s : State) (f c : ℕ) → Stood ops s f → line but came.arrays ops Q s → Comes ops f c (at_place s f c) loads
  unfolding line
  line_leads [] s f c h q =
      let e : f ≡ f + 0 = omega arith in
      let d : c ≡ c + 0 = omega arith in
      no_step Along (Left Q (f + 0) (c + 0) loads) (at_place s f c) loads
      (record { exit = Falls; state = s; holds = q; is = λ i. at_place s (e i) (d i); loaded = sym (append-nil loads) })
  line_leads (Set a value ∷ ops) s f c h q =
      row_leads (Set a value) ops s f c h tt (no_amend (Set a value) s refl) refl (λ id new.
      (with_reg s a value, refl, line_leads ops (with_reg s a value) (f + 1) (c + 1) (next (Set a value) ops s (with_reg s a value) f h refl h.stays (other_register a value s) refl refl) q))
  line_leads (Move a b r ∷ ops) s f c h q =
      row_leads (Move a b r) ops s f c h tt (no_amend (Move a b r) s refl) refl (λ id new. (
        at_zero (reg s r) s (with_reg s a (reg s b)),
        moved_by (reg s r) a b s f c,
        line_leads ops (at_zero (reg s r) s (with_reg s a (reg s b))) (f + 1) (c + 1)
            (next (Move a b r) ops s (at_zero (reg s r) s (with_reg s a (reg s b))) f h
            (kept (reg s r) a b s (λ t. map.get t.arrays 0 ≡ map.get s.arrays 0) refl refl)
            (kept (reg s r) a b s (λ t. StandStill but came.arrays t.arrays) h.stays h.stays)
            (λ other. kept (reg s r) a b s (λ t. reg t 1 ≡ reg s 1) refl (other_register a (reg s b) s other))
            (kept (reg s r) a b s (λ t. t.out ≡ s.out) refl refl) (kept (reg s r) a b s (λ t. t.rest ≡ s.rest) refl refl)) q,
      ))
  line_leads (Index a b r ∷ ops) s f c h q =
      row_leads (Index a b r) ops s f c h tt (no_amend (Index a b r) s refl) refl (λ id new. (
        with_reg s a q.1,
        ap (λ o. with_some o IndexInactive (λ words. with_some (slice_get words (reg s r)) IndexOutside (λ word. Goes (with_reg (moved (at_place s f c)) a word)))) q.2
            ∙ ap (λ o. with_some o IndexOutside (λ word. Goes (with_reg (moved (at_place s f c)) a word))) q.3,
        line_leads ops (with_reg s a q.1) (f + 1) (c + 1) (next (Index a b r) ops s (with_reg s a q.1) f h refl h.stays (other_register a q.1 s) refl refl) q.4,
      ))
  line_leads (Amend a b r ∷ ops) s f c h q =
      let t = with_array s (reg s a) (slice_set q.0 (reg s b) (reg s r)) in
      row_leads (Amend a b r) ops s f c h tt (amend_beside a b r s q.2.not_zero) refl (λ id new. (
        t,
        ap (λ o. with_some o AmendInactive (λ words. with_some (slice_get words (reg s b)) AmendOutside (λ _. Goes (with_array (moved (at_place s f c)) (reg s a) (slice_set words (reg s b) (reg s r)))))) q.3
            ∙ ap (λ o. with_some o AmendOutside (λ _. Goes (with_array (moved (at_place s f c)) (reg s a) (slice_set q.0 (reg s b) (reg s r))))) q.4,
        line_leads ops t (f + 1) (c + 1)
            (next (Amend a b r) ops s t f h (get-insert_other s.arrays (reg s a) (slice_set q.0 (reg s b) (reg s r)) 0 (λ e. q.2.not_zero (sym e)))
            (still_amended but came.arrays s.arrays (reg s a) (slice_set q.0 (reg s b) (reg s r)) q.2 h.stays) (λ other. refl) refl refl) q.5,
      ))
  line_leads (Add a b r ∷ ops) s f c h q =
      let t = with_reg s a ((reg s b + reg s r) % 2 ^ 32) in
      row_leads (Add a b r) ops s f c h tt (no_amend (Add a b r) s refl) refl (λ id new. (t, refl, line_leads ops t (f + 1) (c + 1) (next (Add a b r) ops s t f h refl h.stays (other_register a ((reg s b + reg s r) % 2 ^ 32) s) refl refl) q))
  line_leads (Nand a b r ∷ ops) s f c h q =
      let t = with_reg s a (2 ^ 32 - 1 - bit_and (reg s b) (reg s r)) in
      row_leads (Nand a b r) ops s f c h tt (no_amend (Nand a b r) s refl) refl (λ id new. (t, refl, line_leads ops t (f + 1) (c + 1) (next (Nand a b r) ops s t f h refl h.stays (other_register a (2 ^ 32 - 1 - bit_and (reg s b) (reg s r)) s) refl refl) q))
  line_leads (Alloc b r ∷ ops) s f c h q =
      row_leads (Alloc b r) ops s f c h tt (no_amend (Alloc b r) s refl) refl (λ id new.
      let t = with_reg (with_array s id (replicate (reg s r) 0)) b id in
      let k = new refl in (
        t,
        refl,
        line_leads ops t (f + 1) (c + 1) (next (Alloc b r) ops s t f h (get-insert_other s.arrays id (replicate (reg s r) 0) 0 (λ e. k.not_zero (sym e)))
            (still_allocated but came.arrays s.arrays id (replicate (reg s r) 0) k h.stays) (other_register b id (with_array s id (replicate (reg s r) 0))) refl refl) (q id k),
      ))
  line_leads (Out r ∷ []) s f c h q =
      last_leads (Out r) s f c h tt (no_amend (Out r) s refl) Falls (record s { out = s.out ++ reg s r ∷ [] })
      (λ id. ap (λ b. if b then Goes (record (moved (at_place s f c)) { out = s.out ++ reg s r ∷ [] }) else Stops OutputTooLarge) (lt-ltb (reg s r) 256 q.0)) refl q.1
  line_leads (Halt ∷ []) s f c h q = last_leads Halt s f c h tt (no_amend Halt s refl) Halts s (λ id. refl) refl q
  line_leads (Load b r ∷ []) s f c h q = load_leads (reg s b) b r s f c h refl q
  line_leads (Out r ∷ op ∷ ops) s f c h q = absurd q
  line_leads (Halt ∷ op ∷ ops) s f c h q = absurd q
  line_leads (Load b r ∷ op ∷ ops) s f c h q = absurd q
  line_leads (Mul a b r ∷ ops) s f c h q = absurd q
  line_leads (Div a b r ∷ ops) s f c h q = absurd q
  line_leads (Abandon r ∷ ops) s f c h q = absurd q
  line_leads (Input r ∷ ops) s f c h q = absurd q

-- From a state where a line's operators stand under the finger, the machine comes to where the line leaves.
pub leads : (but : List ℕ) (ops : List Op) (Q : Exit → State → Type 0) (code : List ℕ) (s : State) (l : Loads) →
    s.halted ≡ false → map.get s.arrays 0 ≡ Some code → StandsAt code s.finger ops → keeps_table ops ≡ true → Line but s.arrays ops Q s →
    Leads (Quietly s.finger (length ops) but s l) (length ops) (Left Q (s.finger + length ops) (s.cycles + length ops) l) s l
leads but ops Q code s l running zero_there stand keep q =
    subst (λ x. Leads (Quietly s.finger (length ops) but s l) (length ops) (Left Q (s.finger + length ops) (s.cycles + length ops) l) x l)
    (λ i. record s { halted = sym running i })
    (line_leads s.finger (length ops) but code s l Q zero_there ops s s.finger s.cycles
    (record { from = omega arith; to = omega arith; zero = zero_there; stays = still but s.arrays; table = at_first ops; keep = keep; out = refl; rest = refl; stand = stand }) q.by)
  where
    at_first : (ops : List Op) → IsTable s.finger (length ops) but code s l Q zero_there ops s
    at_first [] = tt
    at_first (op ∷ ops) = refl
