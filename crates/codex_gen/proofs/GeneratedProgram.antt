-- The program of forms is good, and its strips are those of the generated grid.
use Rattle.std.specs.Prelude.{◌≡◌, ◌≢◌, ◌+◌, ◌<◌, ◌≤◌, ℕ, zero, suc, Bool, true, false, IsSome, IsNone, List, [], ◌∷◌, ◌++◌, length, map, Some, None, All, AllPairs, Any, codes}
use Rattle.std.specs.List.{flat_map}
use Rattle.std.proofs.Common.{arith, refl, sym, ap, subst, ◌∙◌, get_or, inl, inr}
use Rattle.std.proofs.lemmas.Bool.{false_from_ne_true}
use Rattle.std.proofs.lemmas.Fmt.{decimal_digit}
use Rattle.two_d.specs.Good.{IsGood, UsesWell, IsUnwired, HasInputsOf, NamesN, NamesW, trees_of}
use Rattle.two_d.specs.Programs.{BoxForm, ModuleForm, Program, box_count, find, main_of, module_at, is_name}
use Rattle.two_d.specs.Sound.{IsSound, Reaches}
use Rattle.two_d.specs.Trees as trees
use Rattle.two_d.specs.Trees.{Form, IsWithin}
use Rattle.two_d.specs.declared.command.Side.TheVariants.{E}
use Rattle.two_d.specs.declared.module.Origin.{Origin}
use Rattle.two_d.specs.declared.module.Origin.TheVariants.{West, East}
use Rattle.two_d.proofs.Listed.{is_name-refl, is_name-true}
use Rattle.two_d.proofs.NamesFound.{found}
use Rattle.grid_picture.proofs.Pairs.{all_cons, pairs_cons}
use Rattle.codex_gen.specs.Generated.{form_texts, module_name, use_next, strip, modules_from, main_texts, strip_columns}
use Rattle.codex_gen.specs.inner.Strips.{source, rows_from, strip_module}
use Rattle.codex_gen.proofs.FormTexts.{form_commands, form_are, AreTexts, no_text, use_text, unit_text, spelled, all_plain_texts, all_filled, all_within, HasColumns, columns_alone, columns_with}
use Rattle.codex_gen.proofs.GoodStrip.{sound, acyclic}
use Rattle.codex_gen.proofs.ModuleNames.{name_is, name_long, use_plain, names_apart, not_main, main_is}
use Rattle.codex_gen.proofs.StripModule.{long_rows}
use Rattle.codex_gen.proofs.StripsRead.{Strip, lines_of, module_of}

-- the command that uses the next module, if a form follows
abbrev pub call_next : ℕ → List ℕ → List Form
call_next i [] = []
call_next i (f ∷ more) = trees.call (module_name (suc i)) ∷ []

-- the commands of module i, of this form, with others after it
abbrev pub commands_at : ℕ → ℕ → List ℕ → List Form
commands_at i f more = form_commands f ++ call_next i more

abbrev pub modules_of : ℕ → List ℕ → Program
modules_of i [] = []
modules_of i (f ∷ more) = strip_module (module_name i) true (commands_at i f more) ∷ modules_of (suc i) more

-- the texts of `main`, where module 0 has its number
abbrev pub named_texts : List (List ℕ)
named_texts = codes "send[((),E)]" ∷ (codes "use " ++ module_name 0) ∷ []

pub zero_name : module_name 0 ≡ codes "m0"
zero_name = ap (λ ds. 109 ∷ ds) (decimal_digit 0 (omega arith))

pub main_texts_are : main_texts ≡ named_texts
main_texts_are = ap (λ name. codes "send[((),E)]" ∷ (codes "use " ++ name) ∷ []) (sym zero_name)

abbrev pub main_commands : List Form
main_commands = trees.send ((trees.unit, E) ∷ []) ∷ trees.call (module_name 0) ∷ []

abbrev pub main_module : ModuleForm
main_module = strip_module (codes "main") false main_commands

-- the program that the forms make
abbrev pub program_of_forms : List ℕ → Program
program_of_forms forms = main_module ∷ modules_of 0 forms

-- the texts of module i are those of its commands
pub texts_are : (i f : ℕ) (more : List ℕ) → i + length more < 99 → AreTexts (form_texts f ++ use_next i more) (commands_at i f more)
texts_are i f [] lt = form_are f [] [] no_text
texts_are i f (g ∷ more) lt = form_are f _ _ (use_text (module_name (suc i)) (name_is (suc i) (omega arith)) (use_plain (suc i) (omega arith)))

pub columns_are : (i f : ℕ) (more : List ℕ) → i + length more < 99 → HasColumns (form_texts f ++ use_next i more)
columns_are i f [] lt = columns_alone f
columns_are i f (g ∷ more) lt = columns_with f (codes "use " ++ module_name (suc i)) (let e = name_long (suc i) (omega arith) in omega arith)

pub some_texts : (ts : List (List ℕ)) → 4 ≤ strip_columns ts → 0 < length ts
some_texts [] le = omega arith
some_texts (t ∷ ts) le = omega arith

pub main_are : AreTexts named_texts main_commands
main_are = unit_text _ _ (use_text (module_name 0) (name_is 0 (omega arith)) (use_plain 0 (omega arith)))

abbrev pub main_strip : Strip
main_strip = record {
  name = codes "main";
  west = false;
  texts = named_texts;
  commands = main_commands;
  fit = record { valid = main_is; fits = (let n = name_long 0 (omega arith) in omega arith); some = omega arith; plain = all_plain_texts _ _ main_are; filled = all_filled _ _ main_are };
  narrow = (let n = name_long 0 (omega arith) in omega arith);
  spell = spelled _ _ main_are;
}

abbrev pub strip_at : (i f : ℕ) (more : List ℕ) → i + length more < 99 → Strip
strip_at i f more lt = record {
  name = module_name i;
  west = true;
  texts = form_texts f ++ use_next i more;
  commands = commands_at i f more;
  fit = record {
    valid = name_is i (omega arith);
    fits = (let n = name_long i (omega arith) in let c = (columns_are i f more lt).0 in omega arith);
    some = some_texts (form_texts f ++ use_next i more) (columns_are i f more lt).0;
    plain = all_plain_texts _ _ (texts_are i f more lt);
    filled = all_filled _ _ (texts_are i f more lt);
  };
  narrow = (let c = (columns_are i f more lt).1 in omega arith);
  spell = spelled _ _ (texts_are i f more lt);
}

abbrev pub strips_from : (i : ℕ) (forms : List ℕ) → i + length forms < 100 → List Strip
strips_from i [] lt = []
strips_from i (f ∷ more) lt = strip_at i f more (omega arith) ∷ strips_from (suc i) more (omega arith)

pub lines_are : (i : ℕ) (forms : List ℕ) (lt : i + length forms < 100) → flat_map lines_of (strips_from i forms lt) ≡ modules_from i forms
lines_are i [] lt = refl
lines_are i (f ∷ more) lt = ap (λ l. strip (module_name i) true (form_texts f ++ use_next i more) ++ l) (lines_are (suc i) more (omega arith))

pub modules_are : (i : ℕ) (forms : List ℕ) (lt : i + length forms < 100) → map module_of (strips_from i forms lt) ≡ modules_of i forms
modules_are i [] lt = refl
modules_are i (f ∷ more) lt = ap (λ l. strip_module (module_name i) true (commands_at i f more) ∷ l) (modules_are (suc i) more (omega arith))

-- names by their numbers
name_at : (i : ℕ) (forms : List ℕ) (k : ℕ) (d : ModuleForm) → k < length forms → (get_or (modules_of i forms) k d).name ≡ module_name (i + k)
name_at i [] k d lt = absurd (omega arith)
name_at i (f ∷ more) zero d lt = ap module_name (by i)
  where
    by : (i : ℕ) → i ≡ i + 0
    by i = omega arith
name_at i (f ∷ more) (suc k) d lt = name_at (suc i) more k d (omega arith) ∙ ap module_name (by i k)
  where
    by : (i k : ℕ) → suc i + k ≡ i + suc k
    by i k = omega arith

-- each has the west entry, and no north entry
entries_at : (i : ℕ) (forms : List ℕ) (k : ℕ) (d : ModuleForm) → k < length forms → ((get_or (modules_of i forms) k d).north ≡ false) × ((get_or (modules_of i forms) k d).west ≡ true)
entries_at i [] k d lt = absurd (omega arith)
entries_at i (f ∷ more) zero d lt = (refl, refl)
entries_at i (f ∷ more) (suc k) d lt = entries_at (suc i) more k d (omega arith)

pub long_modules : (i : ℕ) (forms : List ℕ) → length (modules_of i forms) ≡ length forms
long_modules i [] = refl
long_modules i (f ∷ more) = ap suc (long_modules (suc i) more)

long_form : (f : ℕ) (cs : List Form) → (0 < length (form_commands f ++ cs)) × (length (form_commands f ++ cs) ≤ 2 + length cs)
long_form zero cs = (omega arith, omega arith)
long_form (suc zero) cs = (omega arith, omega arith)
long_form (suc (suc zero)) cs = (omega arith, omega arith)
long_form (suc (suc (suc zero))) cs = (omega arith, omega arith)
long_form (suc (suc (suc (suc f)))) cs = (omega arith, omega arith)

long_call : (i : ℕ) (more : List ℕ) → length (call_next i more) ≤ 1
long_call i [] = omega arith
long_call i (f ∷ more) = omega arith

pub long_commands : (i f : ℕ) (more : List ℕ) → (0 < length (commands_at i f more)) × (length (commands_at i f more) ≤ 3)
long_commands i f more = let (a, b) = long_form f (call_next i more) in let c = long_call i more in (omega arith, omega arith)

-- no module has more than three boxes
few_from : (i : ℕ) (forms : List ℕ) (m : ℕ) → box_count (modules_of i forms) m ≤ 3
few_from i [] m = omega arith
few_from i (f ∷ more) zero = let n = long_rows true 0 (commands_at i f more) in let few = (long_commands i f more).1 in omega arith
few_from i (f ∷ more) (suc m) = few_from (suc i) more m

pub few_boxes : (forms : List ℕ) (m : ℕ) → box_count (program_of_forms forms) m ≤ 3
few_boxes forms zero = omega arith
few_boxes forms (suc m) = few_from 0 forms m

sounds : (i : ℕ) (forms : List ℕ) → i + length forms < 100 → All IsSound (modules_of i forms)
sounds i [] lt = λ k d less. absurd (omega arith)
sounds i (f ∷ more) lt =
    let (some, few) = long_commands i f more in
    all_cons IsSound (strip_module (module_name i) true (commands_at i f more)) (modules_of (suc i) more)
    (sound (module_name i) true (commands_at i f more) some (name_is i (omega arith)) (all_within _ _ (texts_are i f more (omega arith))) (omega arith))
    (sounds (suc i) more (omega arith))

acyclics : (i : ℕ) (forms : List ℕ) → All (λ (m : ModuleForm). (b : ℕ) → Reaches m b b → ⊥) (modules_of i forms)
acyclics i [] = λ k d less. absurd (omega arith)
acyclics i (f ∷ more) =
    all_cons (λ (m : ModuleForm). (b : ℕ) → Reaches m b b → ⊥) (strip_module (module_name i) true (commands_at i f more)) (modules_of (suc i) more)
    (acyclic (module_name i) true (commands_at i f more) (long_commands i f more).0)
    (acyclics (suc i) more)

-- a command uses a module only if this holds of its name
abbrev Calls : (List ℕ → Type 0) → Form → Type 0
Calls T c = (name : List ℕ) → c ≡ trees.call name → T name

abbrev sends : trees.Tree → Form
sends x = trees.send ((x, E) ∷ [])

no_send : (T : List ℕ → Type 0) (x : trees.Tree) → Calls T (sends x)
no_send T x name e = absurd (by e)
  where
    by : sends x ≡ trees.call name → ⊥
    by e = cc

no_case : (T : List ℕ → Type 0) → Calls T (trees.case trees.w E E)
no_case T name e = absurd (by e)
  where
    by : trees.case trees.w E E ≡ trees.call name → ⊥
    by e = cc

no_split : (T : List ℕ → Type 0) → Calls T (trees.split trees.w)
no_split T name e = absurd (by e)
  where
    by : trees.split trees.w ≡ trees.call name → ⊥
    by e = cc

-- each command of a form, and those behind it
form_all : (Q : Form → Type 0) → ((x : trees.Tree) → (NamesN x → ⊥) → Q (sends x)) → Q (trees.case trees.w E E) → Q (trees.split trees.w) → (f : ℕ) (cs : List Form) → All Q cs → All Q (form_commands f ++ cs)
form_all Q a b c zero cs all = all_cons Q (sends (trees.inl trees.w)) cs (a (trees.inl trees.w) (λ there. there)) all
form_all Q a b c (suc zero) cs all = all_cons Q (sends (trees.inr trees.w)) cs (a (trees.inr trees.w) (λ there. there)) all
form_all Q a b c (suc (suc zero)) cs all = all_cons Q (sends (trees.pair trees.w trees.unit)) cs (a (trees.pair trees.w trees.unit) (λ there. elim there [ inl x ↦ x | inr x ↦ x ])) all
form_all Q a b c (suc (suc (suc zero))) cs all = all_cons Q (sends (trees.inr trees.w)) (trees.case trees.w E E ∷ cs) (a (trees.inr trees.w) (λ there. there)) (all_cons Q (trees.case trees.w E E) cs b all)
form_all Q a b c (suc (suc (suc (suc f)))) cs all = all_cons Q (sends (trees.pair trees.unit trees.w)) (trees.split trees.w ∷ cs) (a (trees.pair trees.unit trees.w) (λ there. elim there [ inl x ↦ x | inr x ↦ x ])) (all_cons Q (trees.split trees.w) cs c all)

form_calls : (T : List ℕ → Type 0) (f : ℕ) (cs : List Form) → All (Calls T) cs → All (Calls T) (form_commands f ++ cs)
form_calls T = form_all (Calls T) (λ x free. no_send T x) (no_case T) (no_split T)

one_call : (T : List ℕ → Type 0) (name : List ℕ) → T name → All (Calls T) (trees.call name ∷ [])
one_call T name is = all_cons (Calls T) (trees.call name) [] (λ other e. subst T (by other e) is) (λ k d lt. absurd (omega arith))
  where
    by : (other : List ℕ) → trees.call name ≡ trees.call other → name ≡ other
    by other e = cc

next_calls : (T : List ℕ → Type 0) (i : ℕ) (more : List ℕ) → (0 < length more → T (module_name (suc i))) → All (Calls T) (call_next i more)
next_calls T i [] is = λ k d lt. absurd (omega arith)
next_calls T i (f ∷ more) is = one_call T (module_name (suc i)) (is (omega arith))

-- no expression of a command names N
abbrev NoN : Form → Type 0
NoN c = Any NamesN (trees_of c) → ⊥

alone : (Q : trees.Tree → Type 0) (x : trees.Tree) → (Q x → ⊥) → Any Q (x ∷ []) → ⊥
alone Q x none (zero, y, lt, is, here) = none (subst Q (sym is) here)
alone Q x none (suc k, y, lt, is, here) = omega arith

no_tree : (name : List ℕ) → NoN (trees.call name)
no_tree name (k, y, lt, is, here) = omega arith

form_no_n : (f : ℕ) (cs : List Form) → All NoN cs → All NoN (form_commands f ++ cs)
form_no_n = form_all NoN (λ x free. alone NamesN x free) (alone NamesN trees.w (λ there. there)) (alone NamesN trees.w (λ there. there))

next_no_n : (i : ℕ) (more : List ℕ) → All NoN (call_next i more)
next_no_n i [] = λ k d lt. absurd (omega arith)
next_no_n i (f ∷ more) = all_cons NoN (trees.call (module_name (suc i))) [] (no_tree (module_name (suc i))) (λ k d lt. absurd (omega arith))

-- from this box on the west side of each is wired
abbrev AreFed : Bool → ℕ → Type 0
AreFed w k = (j : ℕ) → k ≤ j → (o : Origin) × (source w j ≡ Some o)

fed_all : AreFed true 0
fed_all zero le = (West, refl)
fed_all (suc j) le = (East j, refl)

fed_later : AreFed false 1
fed_later zero le = absurd (omega arith)
fed_later (suc j) le = (East j, refl)

fed_next : (w : Bool) (k : ℕ) → AreFed w k → AreFed w (suc k)
fed_next w k fed j le = fed j (omega arith)

-- what is owed where a box without wires uses a name
abbrev UseOf : Program → List ℕ → Type 0
UseOf P name = (find P name < length P) × HasInputsOf (record { command = sends trees.unit; n = None; w = None }) (module_at P (find P name))

-- the module of a name is there, and has just the west entry
abbrev IsTarget : Program → List ℕ → Type 0
IsTarget P name = (find P name < length P) × ((module_at P (find P name)).north ≡ false) × ((module_at P (find P name)).west ≡ true)

rows_use : (P : Program) (w : Bool) (k : ℕ) (cs : List Form) → AreFed w k → All (Calls (IsTarget P)) cs → All (UsesWell P) (rows_from w k cs)
rows_use P w k [] fed all = λ i d lt. absurd (omega arith)
rows_use P w k (c ∷ cs) fed all =
    all_cons (UsesWell P) (record { command = c; n = None; w = source w k }) (rows_from w (suc k) cs)
    (λ name e.
    let (there, north, west) = all 0 c (omega arith) name e in
    let (o, is) = fed k (omega arith) in
    (there, (((λ t. absurd (let f : true ≡ false = sym t ∙ north in cc)), (λ s. absurd (let f : false ≡ true = s in cc))), ((λ t. subst IsSome (sym is) refl), (λ s. west)))))
    (rows_use P w (suc k) cs (fed_next w k fed) (λ i d lt. all (suc i) d (omega arith)))

rows_wired : (w : Bool) (k : ℕ) (cs : List Form) → AreFed w k → All NoN cs → All (λ (row : BoxForm). IsUnwired row → ⊥) (rows_from w k cs)
rows_wired w k [] fed all = λ i d lt. absurd (omega arith)
rows_wired w k (c ∷ cs) fed all =
    all_cons (λ (row : BoxForm). IsUnwired row → ⊥) (record { command = c; n = None; w = source w k }) (rows_from w (suc k) cs)
    (λ unwired. elim unwired [
      | inl (named, none) ↦ all 0 c (omega arith) named
      | inr (named, none) ↦ (let (o, is) = fed k (omega arith) in let e : true ≡ false = subst IsNone is none in absurd (cc))
    ])
    (rows_wired w (suc k) cs (fed_next w k fed) (λ i d lt. all (suc i) d (omega arith)))

uses_from : (P : Program) (i : ℕ) (forms : List ℕ) → ((j : ℕ) → i ≤ j → j < i + length forms → IsTarget P (module_name j)) → All (λ (m : ModuleForm). All (UsesWell P) m.boxes) (modules_of i forms)
uses_from P i [] targets = λ k d lt. absurd (omega arith)
uses_from P i (f ∷ more) targets =
    all_cons (λ (m : ModuleForm). All (UsesWell P) m.boxes) (strip_module (module_name i) true (commands_at i f more)) (modules_of (suc i) more)
    (rows_use P true 0 (commands_at i f more) fed_all (form_calls (IsTarget P) f (call_next i more) (next_calls (IsTarget P) i more (λ some. targets (suc i) (omega arith) (omega arith)))))
    (uses_from P (suc i) more (λ j le lt. targets j (omega arith) (omega arith)))

wired_from : (i : ℕ) (forms : List ℕ) → All (λ (m : ModuleForm). All (λ (row : BoxForm). IsUnwired row → ⊥) m.boxes) (modules_of i forms)
wired_from i [] = λ k d lt. absurd (omega arith)
wired_from i (f ∷ more) =
    all_cons (λ (m : ModuleForm). All (λ (row : BoxForm). IsUnwired row → ⊥) m.boxes) (strip_module (module_name i) true (commands_at i f more)) (modules_of (suc i) more)
    (rows_wired true 0 (commands_at i f more) fed_all (form_no_n f (call_next i more) (next_no_n i more)))
    (wired_from (suc i) more)

module _ (forms : List ℕ) (few : length forms < 100) where
  abbrev P : Program
  P = program_of_forms forms

  apart : AllPairs (λ (m : ModuleForm). λ (other : ModuleForm). m.name ≢ other.name) P
  apart = pairs_cons (λ (m : ModuleForm). λ (other : ModuleForm). m.name ≢ other.name) main_module (modules_of 0 forms)
      (λ k d less. let n = long_modules 0 forms in let e = name_at 0 forms k d (omega arith) in λ same. not_main (0 + k) (omega arith) (same ∙ e))
      (λ i j d lt less. let n = long_modules 0 forms in let a = name_at 0 forms i d (omega arith) in let b = name_at 0 forms j d (omega arith) in
      λ same. names_apart (0 + i) (0 + j) (omega arith) (omega arith) (omega arith) (sym a ∙ same ∙ b))

  -- the number of module j of the names
  pub found_at : (j : ℕ) → j < length forms → find P (module_name j) ≡ suc j
  found_at j lt = found P (module_name j) (suc j) (record { within = (let n = long_modules 0 forms in omega arith); others = others }) there
    where
      there : is_name (module_at P (suc j)).name (module_name j) ≡ true
      there = subst (λ name. is_name name (module_name j) ≡ true) (sym (name_at 0 forms j _ lt ∙ ap module_name (by j))) (is_name-refl (module_name j))
        where
          by : (j : ℕ) → 0 + j ≡ j
          by j = omega arith

      others : (k : ℕ) → k < suc j → is_name (module_at P k).name (module_name j) ≡ false
      others zero less = false_from_ne_true (is_name (codes "main") (module_name j)) (λ e. not_main j (omega arith) (is_name-true (codes "main") (module_name j) e))
      others (suc k) less = false_from_ne_true _ (λ e. names_apart (0 + k) j (omega arith) (omega arith) (omega arith) (sym (name_at 0 forms k _ (omega arith)) ∙ is_name-true _ _ e))

  targets : (j : ℕ) → j < length forms → IsTarget P (module_name j)
  targets j lt =
      let e = found_at j lt in
      let n = long_modules 0 forms in
      let entries : ((module_at P (suc j)).north ≡ false) × ((module_at P (suc j)).west ≡ true) = entries_at 0 forms j _ lt in
      (omega arith, subst (λ k. (module_at P k).north ≡ false) (sym e) entries.0, subst (λ k. (module_at P k).west ≡ true) (sym e) entries.1)

  -- main is the first module
  pub main_first : main_of P ≡ 0
  main_first = refl

  pub is_good : 0 < length forms → IsGood P
  is_good some = record {
    few = (let n = long_modules 0 forms in omega arith);
    sound = all_cons IsSound main_module (modules_of 0 forms) (sound (codes "main") false main_commands (omega arith) main_is (all_within _ _ main_are) (omega arith)) (sounds 0 forms (omega arith));
    apart = apart;
    main_there = omega arith;
    main_closed = (refl, refl);
    uses = all_cons (λ (m : ModuleForm). All (UsesWell P) m.boxes) main_module (modules_of 0 forms)
        (all_cons (UsesWell P) (record { command = trees.send ((trees.unit, E) ∷ []); n = None; w = None }) (rows_from false 1 (trees.call (module_name 0) ∷ [])) (no_send (UseOf P) trees.unit)
        (rows_use P false 1 (trees.call (module_name 0) ∷ []) fed_later (one_call (IsTarget P) (module_name 0) (targets 0 some))))
        (uses_from P 0 forms (λ j le lt. targets j (omega arith)));
    wired = all_cons (λ (m : ModuleForm). All (λ (row : BoxForm). IsUnwired row → ⊥) m.boxes) main_module (modules_of 0 forms)
        (all_cons (λ (row : BoxForm). IsUnwired row → ⊥) (record { command = trees.send ((trees.unit, E) ∷ []); n = None; w = None }) (rows_from false 1 (trees.call (module_name 0) ∷ []))
        (λ unwired. elim unwired [
          | inl (named, none) ↦ alone NamesN trees.unit (λ there. there) named
          | inr (named, none) ↦ alone NamesW trees.unit (λ there. there) named
        ])
        (rows_wired false 1 (trees.call (module_name 0) ∷ []) fed_later (all_cons NoN (trees.call (module_name 0)) [] (no_tree (module_name 0)) (λ k d lt. absurd (omega arith)))))
        (wired_from 0 forms);
    acyclic = all_cons (λ (m : ModuleForm). (b : ℕ) → Reaches m b b → ⊥) main_module (modules_of 0 forms) (acyclic (codes "main") false main_commands (omega arith)) (acyclics 0 forms);
  }
