-- The words of a line, from left to right.
use Rattle.std.specs.Prelude.{◌≡◌, ℕ, ◌-◌, ◌<◌, ◌≤◌, ◌==◌, List, [], ◌∷◌, length, take, drop, slice_index_or, Option, Some, None, MatchOption, IfOk, Result, Ok, Err, codes}
use Rattle.std.specs.Borrow.{Bor}
use Rattle.std.specs.List.{slice_split}
use Rattle.std.proofs.Common.{refl, sym, ◌∙◌, ap, subst, arith, eq-eqb, true, false}
use Rattle.std.proofs.lemmas.List.{take_all}
use Rattle.two_d.specs.declared.command.Side.{Side}
use Rattle.type_sheet.specs.declared.line.Form.{Form as KindForm}
use Rattle.type_sheet.specs.declared.line.Line.{Line}
use Rattle.type_sheet.specs.declared.line.Line.TheVariants.{Kind, Module, Wire, Of}
use Rattle.type_sheet.specs.Lines.{IsLine, IsTextOf}
use Rattle.type_sheet.specs.inner.Words.{entry_words, words_read, AreSaid, AreWordsOf}
use Rattle.type_sheet.proofs.Worded.{words_of_text, text_of_words}

-- what stands where no word is
abbrev pub no_word : Bor (List ℕ)
no_word = record { ref_ptr = (0, 0); now = [] }

-- the first word and those behind it
pub one_word : (ws : List (Bor (List ℕ))) → 1 ≤ length ws →
    words_read ws ≡ (slice_index_or ws 0 no_word).now ∷ words_read (take (length ws - 1) (drop 1 ws))
one_word [] le = absurd (omega arith)
one_word (w ∷ ws) le = ap (λ (rest : List (Bor (List ℕ))). w.now ∷ words_read rest) (sym (take_all (length (w ∷ ws) - 1) ws (omega arith)))

-- the first two words and those behind them
pub two_words : (ws : List (Bor (List ℕ))) → 2 ≤ length ws →
    words_read ws ≡ (slice_index_or ws 0 no_word).now ∷ (slice_index_or ws 1 no_word).now ∷ words_read (take (length ws - 2) (drop 2 ws))
two_words [] le = absurd (omega arith)
two_words (w ∷ []) le = absurd (omega arith)
two_words (w ∷ x ∷ ws) le = ap (λ (rest : List (Bor (List ℕ))). w.now ∷ x.now ∷ words_read rest) (sym (take_all (length (w ∷ x ∷ ws) - 2) ws (omega arith)))

-- two words and no more
pub just_two : (ws : List (Bor (List ℕ))) → 2 ≤ length ws → length ws < 3 →
    words_read ws ≡ (slice_index_or ws 0 no_word).now ∷ (slice_index_or ws 1 no_word).now ∷ []
just_two [] le lt = absurd (omega arith)
just_two (w ∷ []) le lt = absurd (omega arith)
just_two (w ∷ x ∷ []) le lt = refl
just_two (w ∷ x ∷ y ∷ ws) le lt = absurd (omega arith)

-- three words and no more
pub just_three : (ws : List (Bor (List ℕ))) → 3 ≤ length ws → length ws < 4 →
    words_read ws ≡ (slice_index_or ws 0 no_word).now ∷ (slice_index_or ws 1 no_word).now ∷ (slice_index_or ws 2 no_word).now ∷ []
just_three [] le lt = absurd (omega arith)
just_three (w ∷ []) le lt = absurd (omega arith)
just_three (w ∷ x ∷ []) le lt = absurd (omega arith)
just_three (w ∷ x ∷ y ∷ []) le lt = refl
just_three (w ∷ x ∷ y ∷ z ∷ ws) le lt = absurd (omega arith)

-- the words behind the first
pub behind_first : (a b : List ℕ) (xs ys : List (List ℕ)) → a ∷ xs ≡ b ∷ ys → xs ≡ ys
behind_first a b xs ys e = cc

pub firsts : (a b : List ℕ) (xs ys : List (List ℕ)) → a ∷ xs ≡ b ∷ ys → a ≡ b
firsts a b xs ys e = cc

-- texts whose first bytes differ
pub differ : (a b : ℕ) (x y : List ℕ) → (a == b) ≡ false → a ∷ x ≡ b ∷ y → ⊥
differ a b x y other e =
    let same : a ≡ b = cc in
    let t : (a == b) ≡ true = eq-eqb a b same in
    cc

-- the words of a module are told by the line
pub module_one : (m m' e e' : List ℕ) (n n' w w' : Option (List ℕ)) →
    m ∷ entry_words (codes "n") n (entry_words (codes "w") w (codes "e" ∷ e ∷ [])) ≡ m' ∷ entry_words (codes "n") n' (entry_words (codes "w") w' (codes "e" ∷ e' ∷ [])) →
    Module m n w e ≡ Module m' n' w' e'
module_one m m' e e' None None None None is = cc
module_one m m' e e' None None None (Some b') is = absurd (cc)
module_one m m' e e' None None (Some b) None is = absurd (cc)
module_one m m' e e' None None (Some b) (Some b') is = cc
module_one m m' e e' None (Some a') None None is = absurd (cc)
module_one m m' e e' None (Some a') None (Some b') is = absurd (cc)
module_one m m' e e' None (Some a') (Some b) None is = absurd (differ 119 110 _ _ refl (firsts _ _ _ _ (behind_first _ _ _ _ is)))
module_one m m' e e' None (Some a') (Some b) (Some b') is = absurd (cc)
module_one m m' e e' (Some a) None None None is = absurd (cc)
module_one m m' e e' (Some a) None None (Some b') is = absurd (differ 110 119 _ _ refl (firsts _ _ _ _ (behind_first _ _ _ _ is)))
module_one m m' e e' (Some a) None (Some b) None is = absurd (cc)
module_one m m' e e' (Some a) None (Some b) (Some b') is = absurd (cc)
module_one m m' e e' (Some a) (Some a') None None is = cc
module_one m m' e e' (Some a) (Some a') None (Some b') is = absurd (cc)
module_one m m' e e' (Some a) (Some a') (Some b) None is = absurd (cc)
module_one m m' e e' (Some a) (Some a') (Some b) (Some b') is = cc

-- a module's line, by its words
pub module_read : {E : Type 0} (r : Result (Option Line) E) (words : List (List ℕ)) (m : List ℕ) (n w : Option (List ℕ)) (e : List ℕ) →
    words ≡ m ∷ entry_words (codes "n") n (entry_words (codes "w") w (codes "e" ∷ e ∷ [])) →
    IfOk r (λ found. MatchOption found (IsLine (Module m n w e) → ⊥) (λ l. (l ≡ Module m n w e) × IsLine (Module m n w e))) →
    IfOk r (λ found. MatchOption found ((m' : List ℕ) (n' w' : Option (List ℕ)) (e' : List ℕ) → AreSaid words (Module m' n' w' e') → ⊥) (λ l. AreWordsOf (codes "module" ∷ words) l))
module_read (Err f) words m n w e is h = h
module_read (Ok None) words m n w e is h = λ m' n' w' e' said.
    h (subst IsLine (sym (module_one m m' e e' n n' w w' (sym is ∙ said.written))) said.right)
module_read (Ok (Some l)) words m n w e is h =
    subst (AreWordsOf (codes "module" ∷ words)) (sym h.0) (record { right = h.1; written = ap (λ (ws : List (List ℕ)). codes "module" ∷ ws) is })

-- a line whose first word is the keyword of its kind
pub kind_read : {E : Type 0} (r : Result (Option Line) E) (words rest : List (List ℕ)) → words ≡ codes "type" ∷ rest →
    IfOk r (λ found. MatchOption found ((a : List ℕ) (form : KindForm) → AreSaid rest (Kind a form) → ⊥) (λ l. AreWordsOf (codes "type" ∷ rest) l)) →
    IfOk r (λ found. MatchOption found ((l : Line) → AreWordsOf words l → ⊥) (AreWordsOf words))
kind_read (Err f) words rest is h = h
kind_read (Ok None) words rest is h = by
  where
    by : (l : Line) → AreWordsOf words l → ⊥
    by (Kind a form) are = h a form (record { right = are.right; written = behind_first _ _ _ _ (sym is ∙ are.written) })
    by (Module m n w e) are = differ 116 109 _ _ refl (firsts _ _ _ _ (sym is ∙ are.written))
    by (Wire m k side a) are = differ 116 119 _ _ refl (firsts _ _ _ _ (sym is ∙ are.written))
    by (Of m k a) are = differ 116 111 _ _ refl (firsts _ _ _ _ (sym is ∙ are.written))
kind_read (Ok (Some l)) words rest is h = subst (λ (ws : List (List ℕ)). AreWordsOf ws l) (sym is) h

pub module_line_read : {E : Type 0} (r : Result (Option Line) E) (words rest : List (List ℕ)) → words ≡ codes "module" ∷ rest →
    IfOk r (λ found. MatchOption found ((m : List ℕ) (n w : Option (List ℕ)) (e : List ℕ) → AreSaid rest (Module m n w e) → ⊥) (λ l. AreWordsOf (codes "module" ∷ rest) l)) →
    IfOk r (λ found. MatchOption found ((l : Line) → AreWordsOf words l → ⊥) (AreWordsOf words))
module_line_read (Err f) words rest is h = h
module_line_read (Ok None) words rest is h = by
  where
    by : (l : Line) → AreWordsOf words l → ⊥
    by (Kind a form) are = differ 109 116 _ _ refl (firsts _ _ _ _ (sym is ∙ are.written))
    by (Module m n w e) are = h m n w e (record { right = are.right; written = behind_first _ _ _ _ (sym is ∙ are.written) })
    by (Wire m k side a) are = differ 109 119 _ _ refl (firsts _ _ _ _ (sym is ∙ are.written))
    by (Of m k a) are = differ 109 111 _ _ refl (firsts _ _ _ _ (sym is ∙ are.written))
module_line_read (Ok (Some l)) words rest is h = subst (λ (ws : List (List ℕ)). AreWordsOf ws l) (sym is) h

pub wire_read : {E : Type 0} (r : Result (Option Line) E) (words rest : List (List ℕ)) → words ≡ codes "wire" ∷ rest →
    IfOk r (λ found. MatchOption found ((m : List ℕ) (k : ℕ) (side : Side) (a : List ℕ) → AreSaid rest (Wire m k side a) → ⊥) (λ l. AreWordsOf (codes "wire" ∷ rest) l)) →
    IfOk r (λ found. MatchOption found ((l : Line) → AreWordsOf words l → ⊥) (AreWordsOf words))
wire_read (Err f) words rest is h = h
wire_read (Ok None) words rest is h = by
  where
    by : (l : Line) → AreWordsOf words l → ⊥
    by (Kind a form) are = differ 119 116 _ _ refl (firsts _ _ _ _ (sym is ∙ are.written))
    by (Module m n w e) are = differ 119 109 _ _ refl (firsts _ _ _ _ (sym is ∙ are.written))
    by (Wire m k side a) are = h m k side a (record { right = are.right; written = behind_first _ _ _ _ (sym is ∙ are.written) })
    by (Of m k a) are = differ 119 111 _ _ refl (firsts _ _ _ _ (sym is ∙ are.written))
wire_read (Ok (Some l)) words rest is h = subst (λ (ws : List (List ℕ)). AreWordsOf ws l) (sym is) h

pub of_read : {E : Type 0} (r : Result (Option Line) E) (words rest : List (List ℕ)) → words ≡ codes "of" ∷ rest →
    IfOk r (λ found. MatchOption found ((m : List ℕ) (k : ℕ) (a : List ℕ) → AreSaid rest (Of m k a) → ⊥) (λ l. AreWordsOf (codes "of" ∷ rest) l)) →
    IfOk r (λ found. MatchOption found ((l : Line) → AreWordsOf words l → ⊥) (AreWordsOf words))
of_read (Err f) words rest is h = h
of_read (Ok None) words rest is h = by
  where
    by : (l : Line) → AreWordsOf words l → ⊥
    by (Kind a form) are = differ 111 116 _ _ refl (firsts _ _ _ _ (sym is ∙ are.written))
    by (Module m n w e) are = differ 111 109 _ _ refl (firsts _ _ _ _ (sym is ∙ are.written))
    by (Wire m k side a) are = differ 111 119 _ _ refl (firsts _ _ _ _ (sym is ∙ are.written))
    by (Of m k a) are = h m k a (record { right = are.right; written = behind_first _ _ _ _ (sym is ∙ are.written) })
of_read (Ok (Some l)) words rest is h = subst (λ (ws : List (List ℕ)). AreWordsOf ws l) (sym is) h

-- a line, by the words of its text
pub text_read : {E : Type 0} (r : Result (Option Line) E) (words : List (List ℕ)) (text : List ℕ) → words ≡ slice_split (λ b. b == 32) text →
    IfOk r (λ found. MatchOption found ((l : Line) → AreWordsOf words l → ⊥) (AreWordsOf words)) →
    IfOk r (λ found. MatchOption found ((l : Line) → IsTextOf text l → ⊥) (IsTextOf text))
text_read (Err f) words text is h = h
text_read (Ok None) words text is h = λ l of. h l (subst (λ (ws : List (List ℕ)). AreWordsOf ws l) (sym is) (words_of_text text l of))
text_read (Ok (Some l)) words text is h = text_of_words text l (subst (λ (ws : List (List ℕ)). AreWordsOf ws l) is h)
