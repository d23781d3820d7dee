-- The words of a line are the parts of its text between spaces.
use Rattle.std.specs.Prelude.{◌≡◌, ℕ, ◌==◌, Bool, true, false, List, [], ◌∷◌, ◌++◌, Option, Some, None, IfSome, decimal}
use Rattle.std.specs.List.{join_with_byte, slice_split}
use Rattle.std.proofs.Common.{refl, sym, ◌∙◌, ap, subst, eq-eqb, eqb-true}
use Rattle.std.proofs.lemmas.List.Splits.{join_with_byte-slice_split}
use Rattle.two_d.specs.Canonical.{shown_side}
use Rattle.two_d.specs.Names.{IsName, IsNameByte}
use Rattle.two_d.specs.declared.command.Side.{Side}
use Rattle.two_d.specs.declared.command.Side.TheVariants.{S, E}
use Rattle.type_sheet.specs.declared.line.Form.{Form as KindForm}
use Rattle.type_sheet.specs.declared.line.Form.TheVariants.{Unit as UnitForm, Pair, Sum}
use Rattle.type_sheet.specs.declared.line.Line.{Line}
use Rattle.type_sheet.specs.declared.line.Line.TheVariants.{Kind, Module, Wire, Of}
use Rattle.type_sheet.specs.Lines.{IsForm, IsLine, IsTextOf}
use Rattle.type_sheet.specs.inner.Cut.{before, behind_byte}
use Rattle.type_sheet.specs.inner.Words.{entry_words, keyword, said_words, AreWordsOf}
use Rattle.type_sheet.proofs.Cuts.{parts_in, cut_parts}
use Rattle.type_sheet.proofs.OneLine.{IsRun, run_name, run_decimal, space_ends, form_right, form_same, line_right, line_same}

-- no byte is this one
abbrev pub Free : ℕ → List ℕ → Type 0
Free mark [] = Unit {0}
Free mark (b ∷ bs) = ((b == mark) ≡ false) × Free mark bs

-- no word has this byte
abbrev pub AllFree : ℕ → List (List ℕ) → Type 0
AllFree mark [] = Unit {0}
AllFree mark (word ∷ words) = Free mark word × AllFree mark words

split_at : (mark : ℕ) (word rest : List ℕ) → Free mark word → slice_split (λ b. b == mark) (word ++ mark ∷ rest) ≡ word ∷ slice_split (λ b. b == mark) rest
split_at mark [] rest none = rw (eq-eqb mark mark refl) refl
split_at mark (b ∷ bs) rest none = rw (none.0, split_at mark bs rest none.1) refl

split_none : (mark : ℕ) (word : List ℕ) → Free mark word → slice_split (λ b. b == mark) word ≡ word ∷ []
split_none mark [] none = refl
split_none mark (b ∷ bs) none = rw (none.0, split_none mark bs none.1) refl

-- words that a byte parts are the parts
split_joined : (mark : ℕ) (word : List ℕ) (words : List (List ℕ)) → Free mark word → AllFree mark words →
    slice_split (λ b. b == mark) (join_with_byte mark (word ∷ words)) ≡ word ∷ words
split_joined mark word [] none nones = split_none mark word none
split_joined mark word (next ∷ words) none nones =
    split_at mark word (join_with_byte mark (next ∷ words)) none ∙ ap (λ (ws : List (List ℕ)). word ∷ ws) (split_joined mark next words nones.0 nones.1)

not_mark : (mark b : ℕ) → (IsNameByte mark → ⊥) → IsNameByte b → (b == mark) ≡ false
not_mark mark b other byte = by (b == mark) refl
  where
    by : (t : Bool) → (b == mark) ≡ t → t ≡ false
    by false e = refl
    by true e = absurd (other (subst IsNameByte (eqb-true b mark e) byte))

run_free : (mark : ℕ) (run : List ℕ) → (IsNameByte mark → ⊥) → IsRun run → Free mark run
run_free mark [] other is = tt
run_free mark (b ∷ bs) other is = (not_mark mark b other is.0, run_free mark bs other is.1)

run_space : (run : List ℕ) → IsRun run → Free 32 run
run_space run is = run_free 32 run space_ends is

more_joined : (mark : ℕ) (x : List ℕ) (parts : List (List ℕ)) (y : List ℕ) (more : List (List ℕ)) → parts ≡ y ∷ more →
    join_with_byte mark (x ∷ parts) ≡ x ++ mark ∷ join_with_byte mark parts
more_joined mark x parts y more e = rw e refl

-- a text that is cut is what stands before and behind the mark
pub cut_joined : (mark : ℕ) (text rest : List ℕ) → behind_byte mark text ≡ Some rest → before mark text ++ mark ∷ rest ≡ text
cut_joined mark text rest e =
    let parts : slice_split (λ b. b == mark) text ≡ before mark text ∷ slice_split (λ b. b == mark) rest = cut_parts mark text ∙ rw e refl in
    sym (more_joined mark (before mark text) (slice_split (λ b. b == mark) rest) _ _ (cut_parts mark rest)
    ∙ ap (λ t. before mark text ++ mark ∷ t) (join_with_byte-slice_split mark rest))
    ∙ sym (ap (join_with_byte mark) parts) ∙ join_with_byte-slice_split mark text

heads : (a b : List ℕ) (xs ys : List (List ℕ)) → a ∷ xs ≡ b ∷ ys → (a ≡ b) × (xs ≡ ys)
heads a b xs ys e = (cc, cc)

-- a run, a mark and what is behind it are told by the text
pub cut_told : (mark : ℕ) (text run rest : List ℕ) → (IsNameByte mark → ⊥) → IsRun run → run ++ mark ∷ rest ≡ text →
    (before mark text ≡ run) × (behind_byte mark text ≡ Some rest)
cut_told mark text run rest other is e = by (behind_byte mark text) refl
  where
    there : slice_split (λ b. b == mark) text ≡ run ∷ slice_split (λ b. b == mark) rest
    there = ap (slice_split (λ b. b == mark)) (sym e) ∙ split_at mark run rest (run_free mark run other is)

    by : (o : Option (List ℕ)) → behind_byte mark text ≡ o → (before mark text ≡ run) × (o ≡ Some rest)
    by None none =
        let here : slice_split (λ b. b == mark) text ≡ before mark text ∷ [] = cut_parts mark text ∙ rw none refl in
        let more : slice_split (λ b. b == mark) rest ≡ before mark rest ∷ parts_in mark (behind_byte mark rest) = cut_parts mark rest in
        let e : before mark text ∷ [] ≡ run ∷ (before mark rest ∷ parts_in mark (behind_byte mark rest)) = sym here ∙ there ∙ ap (λ (ws : List (List ℕ)). run ∷ ws) more in
        absurd (cc)
    by (Some behind) some =
        let here : slice_split (λ b. b == mark) text ≡ before mark text ∷ slice_split (λ b. b == mark) behind = cut_parts mark text ∙ rw some refl in
        let e : before mark text ∷ slice_split (λ b. b == mark) behind ≡ run ∷ slice_split (λ b. b == mark) rest = sym here ∙ there in
        let (first, parts) = heads _ _ _ _ e in
        let same : behind ≡ rest = sym (join_with_byte-slice_split mark behind) ∙ ap (join_with_byte mark) parts ∙ join_with_byte-slice_split mark rest in
        (first, ap (λ (t : List ℕ). Some t) same)

name_space : (name : List ℕ) → IsName name → Free 32 name
name_space name is = run_space name (run_name name is)

both_space : (xs ys : List ℕ) → Free 32 xs → Free 32 ys → Free 32 (xs ++ ys)
both_space [] ys none nones = nones
both_space (b ∷ bs) ys none nones = (none.0, both_space bs ys none.1 nones)

form_space : (form : KindForm) → IsForm form → Free 32 (form_right form)
form_space UnitForm is = (refl, (refl, tt))
form_space (Pair b c) is = (refl, both_space b (44 ∷ (c ++ 41 ∷ [])) (name_space b is.0) (refl, both_space c (41 ∷ []) (name_space c is.1) (refl, tt)))
form_space (Sum b c) is = (refl, both_space b (124 ∷ (c ++ 93 ∷ [])) (name_space b is.0) (refl, both_space c (93 ∷ []) (name_space c is.1) (refl, tt)))

side_space : (side : Side) → Free 32 (shown_side side)
side_space S = (refl, tt)
side_space E = (refl, tt)

entry_space : (b : ℕ) (entry : Option (List ℕ)) (rest : List (List ℕ)) → (b == 32) ≡ false → IfSome entry IsName → AllFree 32 rest →
    AllFree 32 (entry_words (b ∷ []) entry rest)
entry_space b None rest byte is nones = nones
entry_space b (Some a) rest byte is nones = ((byte, tt), (name_space a is, nones))

line_space : (l : Line) → IsLine l → AllFree 32 (said_words l)
line_space (Kind a form) is = (name_space a is.0, ((refl, tt), (subst (Free 32) (sym (form_same form)) (form_space form is.1), tt)))
line_space (Module m n w e) is =
    (name_space m is.0, entry_space 110 n _ refl is.1 (entry_space 119 w _ refl is.2 ((refl, tt), (name_space e is.3, tt))))
line_space (Wire m k side a) is = (name_space m is.0, (run_space (decimal k) (run_decimal k is.1.1), (side_space side, (name_space a is.2, tt))))
line_space (Of m k a) is = (name_space m is.0, (run_space (decimal k) (run_decimal k is.1.1), (name_space a is.2, tt)))

keyword_space : (l : Line) → Free 32 (keyword l)
keyword_space (Kind a form) = (refl, (refl, (refl, (refl, tt))))
keyword_space (Module m n w e) = (refl, (refl, (refl, (refl, (refl, (refl, tt))))))
keyword_space (Wire m k side a) = (refl, (refl, (refl, (refl, tt))))
keyword_space (Of m k a) = (refl, (refl, tt))

line_joined : (l : Line) → line_right l ≡ join_with_byte 32 (keyword l ∷ said_words l)
line_joined (Kind a form) = ap (λ t. 116 ∷ 121 ∷ 112 ∷ 101 ∷ 32 ∷ (a ++ 32 ∷ 61 ∷ 32 ∷ t)) (sym (form_same form))
line_joined (Module m None None e) = refl
line_joined (Module m None (Some b) e) = refl
line_joined (Module m (Some a) None e) = refl
line_joined (Module m (Some a) (Some b) e) = refl
line_joined (Wire m k S a) = refl
line_joined (Wire m k E a) = refl
line_joined (Of m k a) = refl

-- the parts of a line's text are its words
pub words_of_text : (text : List ℕ) (l : Line) → IsTextOf text l → AreWordsOf (slice_split (λ b. b == 32) text) l
words_of_text text l is = record {
  right = is.right;
  written = ap (slice_split (λ b. b == 32)) (sym is.written ∙ line_same l ∙ line_joined l)
      ∙ split_joined 32 (keyword l) (said_words l) (keyword_space l) (line_space l is.right);
}

-- the text of a line, from its words
pub text_of_words : (text : List ℕ) (l : Line) → AreWordsOf (slice_split (λ b. b == 32) text) l → IsTextOf text l
text_of_words text l are = record {
  right = are.right;
  written = line_same l ∙ line_joined l ∙ sym (ap (join_with_byte 32) are.written) ∙ join_with_byte-slice_split 32 text;
}
