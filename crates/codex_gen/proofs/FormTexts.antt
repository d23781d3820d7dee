-- The texts of the forms: their commands, what they hold and how wide they are.
use Rattle.std.specs.Prelude.{◌≡◌, ◌<◌, ◌≤◌, ℕ, zero, suc, List, [], ◌∷◌, ◌++◌, length, All, codes}
use Rattle.std.proofs.Common.{arith, refl, sym, subst}
use Rattle.std.proofs.lemmas.Bool.{ne_eqb}
use Rattle.two_d.specs.Names.{IsName}
use Rattle.two_d.specs.Trees as trees
use Rattle.two_d.specs.Trees.{Form, IsWithin}
use Rattle.two_d.specs.declared.command.Side.TheVariants.{E}
use Rattle.grid_picture.proofs.Pairs.{all_cons}
use Rattle.codex_gen.specs.Generated.{strip_columns, form_texts}
use Rattle.codex_gen.proofs.BoxRow.{IsPlain}
use Rattle.codex_gen.proofs.Fitting.{plain_unit, plain_inl, plain_inr, plain_pair, plain_nested, plain_split, plain_case}
use Rattle.codex_gen.proofs.StripBoxes.{Spell, nothing, text_of}
use Rattle.codex_gen.proofs.Texts.{sends_unit, sends_inl, sends_inr, sends_pair, sends_nested, splits, cases, uses}

-- as many columns as a generated strip has
abbrev pub HasColumns : List (List ℕ) → Type 0
HasColumns texts = (4 ≤ strip_columns texts) × (strip_columns texts ≤ 46)

-- the commands of a form
abbrev pub form_commands : ℕ → List Form
form_commands zero = trees.send ((trees.inl trees.w, E) ∷ []) ∷ []
form_commands (suc zero) = trees.send ((trees.inr trees.w, E) ∷ []) ∷ []
form_commands (suc (suc zero)) = trees.send ((trees.pair trees.w trees.unit, E) ∷ []) ∷ []
form_commands (suc (suc (suc zero))) = trees.send ((trees.inr trees.w, E) ∷ []) ∷ trees.case trees.w E E ∷ []
form_commands (suc (suc (suc (suc f)))) = trees.send ((trees.pair trees.unit trees.w, E) ∷ []) ∷ trees.split trees.w ∷ []

-- the texts of the last form
pub last_form : (f : ℕ) → form_texts (suc (suc (suc (suc f)))) ≡ codes "send[(((),W),E)]" ∷ codes "split W" ∷ []
last_form f = rw (ne_eqb (suc (suc (suc (suc f)))) 0 (omega arith), ne_eqb (suc (suc (suc (suc f)))) 1 (omega arith), ne_eqb (suc (suc (suc (suc f)))) 2 (omega arith), ne_eqb (suc (suc (suc (suc f)))) 3 (omega arith)) refl

-- texts that can stand in a strip, of these commands
pub data AreTexts : List (List ℕ) → List Form → Type 0 where
  no_text : AreTexts [] []
  text : {t : List ℕ} {c : Form} {ts : List (List ℕ)} {cs : List Form} → All IsPlain t → 0 < length t → Spell (t ∷ []) (c ∷ []) → IsWithin c → AreTexts ts cs → AreTexts (t ∷ ts) (c ∷ cs)

pub spelled : (ts : List (List ℕ)) (cs : List Form) → AreTexts ts cs → Spell ts cs
spelled ts cs no_text = nothing
spelled ts cs (text plain some (text_of is nothing) within more) = text_of is (spelled _ _ more)

pub all_plain_texts : (ts : List (List ℕ)) (cs : List Form) → AreTexts ts cs → All (All IsPlain) ts
all_plain_texts ts cs no_text = λ k d lt. absurd (omega arith)
all_plain_texts (t ∷ ts) cs (text plain some is within more) = all_cons (All IsPlain) t ts plain (all_plain_texts _ _ more)

pub all_filled : (ts : List (List ℕ)) (cs : List Form) → AreTexts ts cs → All (λ t. 0 < length t) ts
all_filled ts cs no_text = λ k d lt. absurd (omega arith)
all_filled (t ∷ ts) cs (text plain some is within more) = all_cons (λ t. 0 < length t) t ts some (all_filled _ _ more)

pub all_within : (ts : List (List ℕ)) (cs : List Form) → AreTexts ts cs → All IsWithin cs
all_within ts cs no_text = λ k d lt. absurd (omega arith)
all_within ts (c ∷ cs) (text plain some is within more) = all_cons IsWithin c cs within (all_within _ _ more)

one_send : (x : trees.Tree) → trees.depth x ≤ 64 → IsWithin (trees.send ((x, E) ∷ []))
one_send x le = (all_cons (λ o. trees.depth o.0 ≤ 64) (x, E) [] le (λ k d lt. absurd (omega arith)), tt)

pub unit_text : (ts : List (List ℕ)) (cs : List Form) → AreTexts ts cs → AreTexts (codes "send[((),E)]" ∷ ts) (trees.send ((trees.unit, E) ∷ []) ∷ cs)
unit_text ts cs more = text plain_unit (omega arith) (text_of sends_unit nothing) (one_send trees.unit (omega arith)) more

pub use_text : (name : List ℕ) → IsName name → All IsPlain (codes "use " ++ name) → AreTexts ((codes "use " ++ name) ∷ []) (trees.call name ∷ [])
use_text name valid plain = text plain (omega arith) (text_of (uses name valid) nothing) valid no_text

-- the texts of a form, with others behind them
pub form_are : (f : ℕ) (ts : List (List ℕ)) (cs : List Form) → AreTexts ts cs → AreTexts (form_texts f ++ ts) (form_commands f ++ cs)
form_are zero ts cs more = text plain_inl (omega arith) (text_of sends_inl nothing) (one_send (trees.inl trees.w) (omega arith)) more
form_are (suc zero) ts cs more = text plain_inr (omega arith) (text_of sends_inr nothing) (one_send (trees.inr trees.w) (omega arith)) more
form_are (suc (suc zero)) ts cs more = text plain_pair (omega arith) (text_of sends_pair nothing) (one_send (trees.pair trees.w trees.unit) (omega arith)) more
form_are (suc (suc (suc zero))) ts cs more = text plain_inr (omega arith) (text_of sends_inr nothing) (one_send (trees.inr trees.w) (omega arith)) (text plain_case (omega arith) (text_of cases nothing) (omega arith) more)
form_are (suc (suc (suc (suc f)))) ts cs more = subst (λ t. AreTexts (t ++ ts) (form_commands (suc (suc (suc (suc f)))) ++ cs)) (sym (last_form f)) (text plain_nested (omega arith) (text_of sends_nested nothing) (one_send (trees.pair trees.unit trees.w) (omega arith)) (text plain_split (omega arith) (text_of splits nothing) (omega arith) more))

-- The columns of a form, alone and with one text behind it.
pub columns_alone : (f : ℕ) → HasColumns (form_texts f ++ [])
columns_alone zero = (omega arith, omega arith)
columns_alone (suc zero) = (omega arith, omega arith)
columns_alone (suc (suc zero)) = (omega arith, omega arith)
columns_alone (suc (suc (suc zero))) = (omega arith, omega arith)
columns_alone (suc (suc (suc (suc f)))) = subst (λ t. HasColumns (t ++ [])) (sym (last_form f)) (omega arith, omega arith)

pub columns_with : (f : ℕ) (u : List ℕ) → length u ≤ 7 → HasColumns (form_texts f ++ u ∷ [])
columns_with zero u le = (omega arith, omega arith)
columns_with (suc zero) u le = (omega arith, omega arith)
columns_with (suc (suc zero)) u le = (omega arith, omega arith)
columns_with (suc (suc (suc zero))) u le = (omega arith, omega arith)
columns_with (suc (suc (suc (suc f)))) u le = subst (λ t. HasColumns (t ++ u ∷ [])) (sym (last_form f)) (omega arith, omega arith)
