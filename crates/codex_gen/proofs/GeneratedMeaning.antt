-- The program of forms gives the value that the forms make of `()`.
use Rattle.std.specs.Prelude.{Option, Some, None, ◌≡◌, ◌+◌, ◌*◌, ◌-◌, ◌<◌, ◌≤◌, ℕ, zero, suc, Bool, true, false, List, [], ◌∷◌, ◌++◌, length, slice_get, codes}
use Rattle.std.proofs.Common.{arith, refl, sym, ap, subst, ◌∙◌, get_or}
use Rattle.std.proofs.lemmas.Bool.{ne_eqb}
use Rattle.std.proofs.lemmas.List.{length-append}
use Rattle.codex_values.specs.Value as value
use Rattle.codex_values.specs.Value.{Value, show}
use Rattle.two_d.specs.Meaning.{Gives, Meaning, Answers, no_inputs, returned, sum_below, instances_of, is_known, cell_of, effect_of, inputs_of, Cell, mean, meaning_of}
use Rattle.two_d.specs.Programs.{Program, find, module_at}
use Rattle.two_d.specs.Trees as trees
use Rattle.two_d.specs.Trees.{Form}
use Rattle.two_d.specs.declared.command.Side.TheVariants.{E}
use Rattle.two_d.specs.declared.module.Origin.{Origin}
use Rattle.two_d.specs.declared.module.Origin.TheVariants.{West}
use Rattle.codex_gen.specs.Generated.{module_name, form_value, forms_value}
use Rattle.codex_gen.specs.inner.Strips.{source, strip_module}
use Rattle.codex_gen.proofs.FormTexts.{form_commands}
use Rattle.codex_gen.proofs.GeneratedProgram.{modules_of, program_of_forms, found_at, long_commands}
use Rattle.codex_gen.proofs.StripMeaning.{Passes, from_west, west_of, strip_means}

-- the value of the forms after the first four
last_value : (f : ℕ) (v : Value) → form_value (suc (suc (suc (suc f)))) v ≡ v
last_value f v = rw (ne_eqb (suc (suc (suc (suc f)))) 0 (omega arith), ne_eqb (suc (suc (suc (suc f)))) 1 (omega arith), ne_eqb (suc (suc (suc (suc f)))) 2 (omega arith)) refl

-- what the boxes of a form send
abbrev form_outs : ℕ → Value → List Value
form_outs zero v = value.inl v ∷ []
form_outs (suc zero) v = value.inr v ∷ []
form_outs (suc (suc zero)) v = value.pair v value.unit ∷ []
form_outs (suc (suc (suc zero))) v = value.inr v ∷ v ∷ []
form_outs (suc (suc (suc (suc f)))) v = value.pair value.unit v ∷ v ∷ []

abbrev form_counts : ℕ → List ℕ
form_counts zero = 0 ∷ []
form_counts (suc zero) = 0 ∷ []
form_counts (suc (suc zero)) = 0 ∷ []
form_counts (suc (suc (suc zero))) = 0 ∷ 0 ∷ []
form_counts (suc (suc (suc (suc f)))) = 0 ∷ 0 ∷ []

module _ (P : Program) (answer : Answers) (m : ℕ) where
  -- boxes from a number on that pass a value on, with what they send and the instances that they take
  data Chain : ℕ → Option Value → List Form → List Value → List ℕ → Type 0 where
    ends : {k : ℕ} {v : Option Value} → Chain k v [] [] []
    goes : {k : ℕ} {v : Option Value} {c : Form} {out : Value} {n : ℕ} {cs : List Form} {outs : List Value} {ns : List ℕ} → Passes P answer m k c v out n → Chain (suc k) (Some out) cs outs ns → Chain k v (c ∷ cs) (out ∷ outs) (n ∷ ns)

  passes_at : (k : ℕ) (v : Option Value) (cs : List Form) (outs : List Value) (ns : List ℕ) → Chain k v cs outs ns → (b n : ℕ) (c : Form) → n ≡ k + b → slice_get cs b ≡ Some c
      → Passes P answer m n c (west_of v (λ i. get_or outs i value.unit) b) (get_or outs b value.unit) (get_or ns b 0)
  passes_at k v [] outs ns ends b n c e at_b = absurd (cc)
  passes_at k v (d ∷ cs) [] ns x b n c e at_b = elim x [ ]
  passes_at k v (d ∷ cs) (out ∷ outs) [] x b n c e at_b = elim x [ ]
  passes_at k v (d ∷ cs) (out ∷ outs) (count ∷ ns) (goes here more) zero n c e at_b =
      subst (λ j. Passes P answer m j c v out count) (by e) (subst (λ x. Passes P answer m k x v out count) (same d c at_b) here)
    where
      by : n ≡ k + 0 → k ≡ n
      by e = omega arith

      same : (d c : Form) → ◌≡◌ {A = Option Form} (Some d) (Some c) → d ≡ c
      same d c e = cc
  passes_at k v (d ∷ cs) (out ∷ outs) (count ∷ ns) (goes here more) (suc zero) n c e at_b = passes_at (suc k) (Some out) cs outs ns more 0 n c (omega arith) at_b
  passes_at k v (d ∷ cs) (out ∷ outs) (count ∷ ns) (goes here more) (suc (suc b)) n c e at_b = passes_at (suc k) (Some out) cs outs ns more (suc b) n c (omega arith) at_b

  unit_passes : (k : ℕ) → Passes P answer m k (trees.send ((trees.unit, E) ∷ [])) None value.unit 0
  unit_passes k = record { known = refl; sends = refl; free = refl; instances = refl }

  form_chain : (f : ℕ) (v : Value) (cs : List Form) (outs : List Value) (ns : List ℕ) → Chain (length (form_commands f)) (Some (form_value f v)) cs outs ns → Chain 0 (Some v) (form_commands f ++ cs) (form_outs f v ++ outs) (form_counts f ++ ns)
  form_chain zero v cs outs ns more = goes (record { known = refl; sends = refl; free = refl; instances = refl }) more
  form_chain (suc zero) v cs outs ns more = goes (record { known = refl; sends = refl; free = refl; instances = refl }) more
  form_chain (suc (suc zero)) v cs outs ns more = goes (record { known = refl; sends = refl; free = refl; instances = refl }) more
  form_chain (suc (suc (suc zero))) v cs outs ns more = goes (record { known = refl; sends = refl; free = refl; instances = refl }) (goes (record { known = refl; sends = refl; free = refl; instances = refl }) more)
  form_chain (suc (suc (suc (suc f)))) v cs outs ns more =
      goes (record { known = refl; sends = refl; free = refl; instances = refl }) (goes (record { known = refl; sends = refl; free = refl; instances = refl }) (subst (λ x. Chain 2 (Some x) cs outs ns) (last_value f v) more))

  -- a use of a module that gives a value
  call_passes : (k : ℕ) (name : List ℕ) (v : Option Value) (r : Meaning) (out : Value) → answer (find P name) (from_west v) ≡ Some r → r.outcome ≡ Gives out → Passes P answer m k (trees.call name) v out r.instances
  unfolding returned
  call_passes k name v r out is gives = record {
    known = ap (λ o. by_known o) is;
    sends = ap (λ o. (cell_by o).east) is ∙ ap (λ o. (returned m k o).east) gives;
    free = ap (λ o. (cell_by o).stuck) is ∙ ap (λ o. (returned m k o).stuck) gives;
    instances = ap (λ o. count_by o) is;
  }
    where
      by_known : Option Meaning → Bool
      by_known o = is_known (λ _ _. o) (effect_of P m k (trees.call name) (from_west v))

      cell_by : Option Meaning → Cell
      cell_by o = cell_of m k (λ _ _. o) (effect_of P m k (trees.call name) (from_west v))

      count_by : Option Meaning → ℕ
      count_by o = instances_of (λ _ _. o) (effect_of P m k (trees.call name) (from_west v))

last_alone : (f : ℕ) (v : Value) → get_or (form_outs f v ++ []) (length (form_commands f ++ []) - 1) value.unit ≡ form_value f v
last_alone zero v = refl
last_alone (suc zero) v = refl
last_alone (suc (suc zero)) v = refl
last_alone (suc (suc (suc zero))) v = refl
last_alone (suc (suc (suc (suc f)))) v = sym (last_value f v)

last_with : (f : ℕ) (v w : Value) (c : Form) → get_or (form_outs f v ++ w ∷ []) (length (form_commands f ++ c ∷ []) - 1) value.unit ≡ w
last_with zero v w c = refl
last_with (suc zero) v w c = refl
last_with (suc (suc zero)) v w c = refl
last_with (suc (suc (suc zero))) v w c = refl
last_with (suc (suc (suc (suc f)))) v w c = refl

sum_alone : (f : ℕ) → sum_below (length (form_commands f ++ [])) (λ b. get_or (form_counts f ++ []) b 0) ≡ 0
unfolding sum_below
sum_alone zero = refl
sum_alone (suc zero) = refl
sum_alone (suc (suc zero)) = refl
sum_alone (suc (suc (suc zero))) = refl
sum_alone (suc (suc (suc (suc f)))) = refl

sum_with : (f n : ℕ) (c : Form) → sum_below (length (form_commands f ++ c ∷ [])) (λ b. get_or (form_counts f ++ n ∷ []) b 0) ≡ n
unfolding sum_below
sum_with zero n c = omega arith
sum_with (suc zero) n c = omega arith
sum_with (suc (suc zero)) n c = omega arith
sum_with (suc (suc (suc zero))) n c = omega arith
sum_with (suc (suc (suc (suc f)))) n c = omega arith

command_there : (cs : List Form) (b : ℕ) → b < length cs → (c : Form) × (slice_get cs b ≡ Some c)
command_there [] b lt = absurd (omega arith)
command_there (c ∷ cs) zero lt = (c, refl)
command_there (c ∷ cs) (suc b) lt = command_there cs b (omega arith)

-- a module gives the last value of its chain
abbrev pub IsGiven : Option Meaning → Value → ℕ → Type 0
IsGiven o v n = (r : Meaning) × (o ≡ Some r) × (r.outcome ≡ Gives v) × (r.instances ≡ n)

chain_means : (P : Program) (answer : Answers) (m : ℕ) (name : List ℕ) (w : Bool) (cs : List Form) → module_at P m ≡ strip_module name w cs → 0 < length cs → (v : Option Value)
    → ((look : Origin → Option Value) → look West ≡ v → (c : Form) → inputs_of look (record { command = c; n = None; w = source w 0 }) ≡ Some (from_west v))
    → (outs : List Value) (ns : List ℕ) → Chain P answer m 0 v cs outs ns
    → IsGiven (meaning_of P answer m (from_west v)) (get_or outs (length cs - 1) value.unit) (1 + sum_below (length cs) (λ b. get_or ns b 0))
chain_means P answer m name w cs is some v starts outs ns chain =
    strip_means P answer m name w cs is some v (λ i. get_or outs i value.unit) (λ b. get_or ns b 0) starts
    (λ b c at_b. passes_at P answer m 0 v cs outs ns chain b b c (omega arith) at_b) (command_there cs)

starts_west : (v : Value) (look : Origin → Option Value) → look West ≡ Some v → (c : Form) → inputs_of look (record { command = c; n = None; w = source true 0 }) ≡ Some (from_west (Some v))
starts_west v look e c = ap (λ o. elim o [ None ↦ None | Some x ↦ Some (from_west (Some x)) ]) e

module _ (P : Program) (answer : Answers) (m : ℕ) where
  given_alone : (name : List ℕ) (f : ℕ) (v : Value) → module_at P m ≡ strip_module name true (form_commands f ++ []) → 0 < length (form_commands f ++ [])
      → IsGiven (meaning_of P answer m (from_west (Some v))) (form_value f v) 1
  given_alone name f v is some =
      let (r, means, gives, n) = chain_means P answer m name true (form_commands f ++ []) is some (Some v) (starts_west v) (form_outs f v ++ []) (form_counts f ++ []) (form_chain P answer m f v [] [] [] ends) in
      (r, means, subst (λ x. r.outcome ≡ Gives x) (last_alone f v) gives, (let e = sum_alone f in omega arith))

  given_with : (name next : List ℕ) (f j : ℕ) (v w : Value) (r : Meaning) → module_at P m ≡ strip_module name true (form_commands f ++ trees.call next ∷ []) → 0 < length (form_commands f ++ trees.call next ∷ [])
      → find P next ≡ j → answer j (from_west (Some (form_value f v))) ≡ Some r → r.outcome ≡ Gives w
      → IsGiven (meaning_of P answer m (from_west (Some v))) w (1 + r.instances)
  given_with name next f j v w r is some number answered gives =
      let call = call_passes P answer m (length (form_commands f)) next (Some (form_value f v)) r w (subst (λ k. answer k (from_west (Some (form_value f v))) ≡ Some r) (sym number) answered) gives in
      let (s, s_means, s_gives, s_n) = chain_means P answer m name true (form_commands f ++ trees.call next ∷ []) is some (Some v) (starts_west v) (form_outs f v ++ w ∷ []) (form_counts f ++ r.instances ∷ [])
      (form_chain P answer m f v (trees.call next ∷ []) (w ∷ []) (r.instances ∷ []) (goes call ends)) in
      (s, s_means, subst (λ x. s.outcome ≡ Gives x) (last_with f v w (trees.call next)) s_gives, (let e = sum_with f r.instances (trees.call next) in omega arith))

  given_main : (next : List ℕ) (j : ℕ) (w : Value) (r : Meaning) → module_at P m ≡ strip_module (codes "main") false (trees.send ((trees.unit, E) ∷ []) ∷ trees.call next ∷ [])
      → find P next ≡ j → answer j (from_west (Some value.unit)) ≡ Some r → r.outcome ≡ Gives w
      → IsGiven (meaning_of P answer m no_inputs) w (1 + r.instances)
  unfolding sum_below
  given_main next j w r is number answered gives =
      let call = call_passes P answer m 1 next (Some value.unit) r w (subst (λ k. answer k (from_west (Some value.unit)) ≡ Some r) (sym number) answered) gives in
      let (s, s_means, s_gives, s_n) = chain_means P answer m (codes "main") false (trees.send ((trees.unit, E) ∷ []) ∷ trees.call next ∷ []) is (omega arith) None (λ look none c. refl) (value.unit ∷ w ∷ []) (0 ∷ r.instances ∷ [])
      (goes (unit_passes P answer m 0) (goes call ends)) in
      (s, s_means, s_gives, omega arith)

-- The modules from module i on give the value that their forms make, in as many instances as there are forms.
means_from : (P : Program) (i f : ℕ) (more : List ℕ) (v : Value)
    → ((k n : ℕ) → k < length (f ∷ more) → n ≡ suc i + k → module_at P n ≡ module_at (modules_of i (f ∷ more)) k)
    → ((j : ℕ) → i < j → j < i + length (f ∷ more) → find P (module_name j) ≡ suc j)
    → IsGiven (mean P (length (f ∷ more)) (suc i) (from_west (Some v))) (forms_value (f ∷ more) v) (length (f ∷ more))
unfolding mean
means_from P i f [] v mods finds = given_alone P (mean P 0) (suc i) (module_name i) f v (mods 0 (suc i) (omega arith) (omega arith)) (long_commands i f []).0
means_from P i f (g ∷ more) v mods finds =
    by (means_from P (suc i) g more (form_value f v) (λ k m lt e. mods (suc k) m (omega arith) (omega arith)) (λ j lt less. finds j (omega arith) (omega arith)))
  where
    by : IsGiven (mean P (length (g ∷ more)) (suc (suc i)) (from_west (Some (form_value f v)))) (forms_value (g ∷ more) (form_value f v)) (length (g ∷ more))
        → IsGiven (mean P (suc (length (g ∷ more))) (suc i) (from_west (Some v))) (forms_value (g ∷ more) (form_value f v)) (suc (length (g ∷ more)))
    by (r, is, gives, n) =
        let (s, s_is, s_gives, s_n) = given_with P (mean P (length (g ∷ more))) (suc i) (module_name i) (module_name (suc i)) f (suc (suc i)) v (forms_value (g ∷ more) (form_value f v)) r
        (mods 0 (suc i) (omega arith) (omega arith)) (long_commands i f (g ∷ more)).0 (finds (suc i) (omega arith) (omega arith)) is gives in
        (s, s_is, s_gives, omega arith)

-- The program gives the value that its forms make of `()`, in one instance for each module.
pub forms_mean : (f : ℕ) (more : List ℕ) → length (f ∷ more) < 100
    → IsGiven (mean (program_of_forms (f ∷ more)) (suc (length (f ∷ more))) 0 no_inputs) (forms_value (f ∷ more) value.unit) (1 + length (f ∷ more))
unfolding mean
forms_mean f more few = by (means_from (program_of_forms (f ∷ more)) 0 f more value.unit (λ k n lt e. ap (λ j. module_at (program_of_forms (f ∷ more)) j) (e ∙ one_more k)) (λ j lt less. found_at (f ∷ more) few j (omega arith)))
  where
    one_more : (k : ℕ) → suc 0 + k ≡ suc k
    one_more k = omega arith

    by : IsGiven (mean (program_of_forms (f ∷ more)) (length (f ∷ more)) 1 (from_west (Some value.unit))) (forms_value (f ∷ more) value.unit) (length (f ∷ more))
        → IsGiven (mean (program_of_forms (f ∷ more)) (suc (length (f ∷ more))) 0 no_inputs) (forms_value (f ∷ more) value.unit) (1 + length (f ∷ more))
    by (r, is, gives, n) =
        let (s, s_is, s_gives, s_n) = given_main (program_of_forms (f ∷ more)) (mean (program_of_forms (f ∷ more)) (length (f ∷ more))) 0 (module_name 0) 1 (forms_value (f ∷ more) value.unit) r refl
        (found_at (f ∷ more) few 0 (omega arith)) is gives in
        (s, s_is, s_gives, omega arith)

-- a form makes the text of a value at most five bytes longer
form_long : (f : ℕ) (v : Value) → length (show (form_value f v)) ≤ length (show v) + 5
form_long zero v = omega arith
form_long (suc zero) v = omega arith
form_long (suc (suc zero)) v =
    let a = length-append (((codes "(" ++ show v) ++ codes ",") ++ codes "()") (codes ")") in
    let b = length-append ((codes "(" ++ show v) ++ codes ",") (codes "()") in
    let c = length-append (codes "(" ++ show v) (codes ",") in
    omega arith
form_long (suc (suc (suc zero))) v = omega arith
form_long (suc (suc (suc (suc f)))) v = let e = ap (λ x. length (show x)) (last_value f v) in omega arith

pub forms_long : (forms : List ℕ) (v : Value) → length (show (forms_value forms v)) ≤ length (show v) + 5 * length forms
forms_long [] v = omega arith
forms_long (f ∷ more) v = let a = form_long f v in let b = forms_long more (form_value f v) in omega arith
