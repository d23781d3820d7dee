-- Each text has a reading as a sheet.
use Rattle.std.specs.Prelude.{◌≡◌, ◌==◌, ℕ, suc, ◌+◌, ◌<◌, ◌≤◌, List, [], ◌∷◌, ◌++◌, length, take, All, Option, Some, None, IfSome, MatchOption, codes, decimal, Ok}
use Rattle.std.specs.List.{slice_split}
use Rattle.std.specs.Str.Lines.{lines}
use Rattle.std.proofs.Common.{refl, sym, ◌∙◌, ap, subst, inl, inr, arith}
use Rattle.std.proofs.lemmas.Bool.{cases_eq}
use Rattle.std.proofs.lemmas.List.Elements.{All-nil, All-cons}
use Rattle.two_d.specs.Canonical.{shown_side}
use Rattle.two_d.specs.Names.{IsName, IsNameByte, BeginsWithLetter}
use Rattle.two_d.specs.declared.command.Side.{Side}
use Rattle.two_d.specs.declared.command.Side.TheVariants.{S, E}
use Rattle.two_d.proofs.Decide.{Decided, decided_both, decided_either, decided_lt, decided_not, first_from}
use Rattle.two_d.proofs.SomeFigures.{decided_le}
use Rattle.two_d.proofs.SomeReading.{HasAnswer, Found, then_some, refused_some, the_or_some, gave_some, each_some, decided_any}
use Rattle.type_sheet.specs.declared.fault.SheetFault.TheVariants.{TooLong, BadSheet, SameLine, NoType}
use Rattle.type_sheet.specs.declared.line.Form.{Form as KindForm}
use Rattle.type_sheet.specs.declared.line.Form.TheVariants.{Unit as UnitForm, Pair, Sum}
use Rattle.type_sheet.specs.declared.line.Line.{Line}
use Rattle.type_sheet.specs.declared.line.Line.TheVariants.{Kind, Module, Wire, Of}
use Rattle.type_sheet.specs.declared.line.SheetRow.{SheetRow}
use Rattle.type_sheet.specs.Lines.{form_text, IsBoxNumber, IsForm, IsLine, IsTextOf}
use Rattle.type_sheet.specs.Sheets.{Subject, a_type, a_module, port, expression, subject_of, types_used, Declares, most_sheet_bytes, row_of, rows_from, declares_anew, uses_declared, sheet_of}
use Rattle.type_sheet.specs.inner.Cut.{before, behind_byte}
use Rattle.type_sheet.specs.inner.Words.{entry_words, AreSaid, AreWordsOf}
use Rattle.type_sheet.proofs.Lined.{behind_first, differ, firsts, kind_read, module_line_read, module_read, of_read, text_read, wire_read}
use Rattle.type_sheet.proofs.OneLine.{run_name, mark_ends, bar_ends, bracket_ends, form_right, form_same}
use Rattle.type_sheet.proofs.Worded.{cut_joined, cut_told}

same_list : (xs ys : List ℕ) → Decided (xs ≡ ys)
same_list [] [] = inl refl
same_list [] (y ∷ ys) = inr (λ e. cc)
same_list (x ∷ xs) [] = inr (λ e. cc)
same_list (x ∷ xs) (y ∷ ys) = elim (cases_eq x y) [
  | inl head ↦ elim (same_list xs ys) [
    | inl tail ↦ inl (rw (head, tail) refl)
    | inr other ↦ inr (λ e. let tail : xs ≡ ys = cc in other tail)
  ]
  | inr other ↦ inr (λ e. let head : x ≡ y = cc in other head)
]

decided_all : {A : Type 0} (P : A → Type 0) → ((x : A) → Decided (P x)) → (xs : List A) → Decided (All P xs)
decided_all P d [] = inl (All-nil P)
decided_all P d (x ∷ xs) = elim (d x) [
  | inl here ↦ elim (decided_all P d xs) [
    | inl rest ↦ inl (All-cons P x xs here rest)
    | inr not_rest ↦ inr (λ all. not_rest (λ i d lt. all (suc i) d (omega (arith, lt))))
  ]
  | inr not_here ↦ inr (λ all. not_here (all 0 x (omega arith)))
]

decided_lowercase : (b : ℕ) → Decided ((97 ≤ b) × (b ≤ 122))
decided_lowercase b = decided_both (decided_le 97 b) (decided_le b 122)

decided_name_byte : (b : ℕ) → Decided (IsNameByte b)
decided_name_byte b = decided_either (decided_lowercase b) (decided_either (decided_both (decided_le 48 b) (decided_le b 57)) (cases_eq b 95))

decided_letter : (bs : List ℕ) → Decided (BeginsWithLetter bs)
decided_letter [] = inr (λ x. x)
decided_letter (b ∷ bs) = decided_lowercase b

decided_name : (bs : List ℕ) → Decided (IsName bs)
decided_name bs = elim (decided_both (decided_all IsNameByte decided_name_byte bs) (decided_both (decided_letter bs) (decided_le (length bs) 32))) [
  | inl is ↦ inl (record { letters = is.0; first = is.1.0; short = is.1.1 })
  | inr not_so ↦ inr (λ is. not_so (is.letters, (is.first, is.short)))
]

-- the word writes the number of a box, or none
number_some : (word : List ℕ) → Found (λ k. IsBoxNumber k × (decimal k ≡ word))
number_some word = elim (first_from (λ k. decimal k ≡ word) (λ k. same_list (decimal k) word) 1 4294967295) [
  | inl (k, low, high, here, none) ↦ inl (k, ((omega (arith, low), omega (arith, high)), here))
  | inr none ↦ inr (λ k is. none k (omega (arith, is.0.0)) (omega (arith, is.0.1)) is.1)
]

side_some : (word : List ℕ) → Found (λ side. shown_side side ≡ word)
side_some word = elim (same_list (shown_side S) word) [
  | inl s ↦ inl (S, s)
  | inr not_s ↦ elim (same_list (shown_side E) word) [
    | inl e ↦ inl (E, e)
    | inr not_e ↦ inr (none not_s not_e)
  ]
]
  where
    none : (shown_side S ≡ word → ⊥) → (shown_side E ≡ word → ⊥) → (side : Side) → shown_side side ≡ word → ⊥
    none not_s not_e S is = not_s is
    none not_s not_e E is = not_e is

-- two names that a mark parts, before a last byte
record AreNames (mark last : ℕ) (text : List ℕ) (names : List ℕ × List ℕ) : Type 0 where
  first : IsName names.0
  second : IsName names.1
  joined : names.0 ++ mark ∷ (names.1 ++ last ∷ []) ≡ text

module _ (mark last : ℕ) (other : IsNameByte mark → ⊥) (ends : IsNameByte last → ⊥) where
  -- the name before the last byte, which ends the text
  last_some : (text : List ℕ) → Found (λ c. IsName c × (c ++ last ∷ [] ≡ text))
  last_some text = by (behind_byte last text) refl (decided_name (before last text))
    where
      told : (c : List ℕ) → IsName c × (c ++ last ∷ [] ≡ text) → (before last text ≡ c) × (behind_byte last text ≡ Some [])
      told c is = cut_told last text c [] ends (run_name c is.0) is.1

      by : (o : Option (List ℕ)) → behind_byte last text ≡ o → Decided (IsName (before last text)) → Found (λ c. IsName c × (c ++ last ∷ [] ≡ text))
      by None e name = inr (λ c is. let f : None ≡ Some [] = sym e ∙ (told c is).1 in cc)
      by (Some (b ∷ bs)) e name = inr (λ c is. let f : Some (b ∷ bs) ≡ Some [] = sym e ∙ (told c is).1 in cc)
      by (Some []) e (inl name) = inl (before last text, (name, cut_joined last text [] e))
      by (Some []) e (inr none) = inr (λ c is. none (subst IsName (sym (told c is).0) is.0))

  names_some : (text : List ℕ) → Found (AreNames mark last text)
  names_some text = by (behind_byte mark text) refl (decided_name (before mark text))
    where
      told : (n : List ℕ × List ℕ) → AreNames mark last text n → (before mark text ≡ n.0) × (behind_byte mark text ≡ Some (n.1 ++ last ∷ []))
      told n are = cut_told mark text n.0 (n.1 ++ last ∷ []) other (run_name n.0 are.first) are.joined

      by : (o : Option (List ℕ)) → behind_byte mark text ≡ o → Decided (IsName (before mark text)) → Found (AreNames mark last text)
      by None e name = inr (λ n are. let f : None ≡ Some (n.1 ++ last ∷ []) = sym e ∙ (told n are).1 in cc)
      by (Some rest) e (inr none) = inr (λ n are. none (subst IsName (sym (told n are).0) are.first))
      by (Some rest) e (inl name) = elim (last_some rest) [
        | inl (c, is) ↦ inl (
          (before mark text, c),
          record {
            first = name;
            second = is.0;
            joined = ap (λ t. before mark text ++ mark ∷ t) is.1 ∙ cut_joined mark text rest e;
          },
        )
        | inr none ↦ inr (λ n are.
            let f : Some (n.1 ++ last ∷ []) ≡ Some rest = sym (told n are).1 ∙ e in
            let same : n.1 ++ last ∷ [] ≡ rest = cc in
            none n.1 (are.second, same))
      ]

-- the form that a text has, from left to right
form_read : (text : List ℕ) → Found (λ form. IsForm form × (form_right form ≡ text))
form_read text = elim (same_list (form_right UnitForm) text) [
  | inl unit ↦ inl (UnitForm, (tt, unit))
  | inr other ↦ by text other
]
  where
    no_pair : (rest : List ℕ) → (form_right UnitForm ≡ 40 ∷ rest → ⊥) → ((n : List ℕ × List ℕ) → AreNames 44 41 rest n → ⊥) →
        (form : KindForm) → IsForm form × (form_right form ≡ 40 ∷ rest) → ⊥
    no_pair rest unit none UnitForm is = unit is.1
    no_pair rest unit none (Pair b c) is =
        let joined : b ++ 44 ∷ (c ++ 41 ∷ []) ≡ rest = let e : 40 ∷ (b ++ 44 ∷ (c ++ 41 ∷ [])) ≡ 40 ∷ rest = is.1 in cc in
        none (b, c) (record { first = is.0.0; second = is.0.1; joined = joined })
    no_pair rest unit none (Sum b c) is = let e : 91 ∷ (b ++ 124 ∷ (c ++ 93 ∷ [])) ≡ 40 ∷ rest = is.1 in differ 91 40 _ _ refl e

    no_sum : (rest : List ℕ) → ((n : List ℕ × List ℕ) → AreNames 124 93 rest n → ⊥) →
        (form : KindForm) → IsForm form × (form_right form ≡ 91 ∷ rest) → ⊥
    no_sum rest none UnitForm is = let e : 40 ∷ 41 ∷ [] ≡ 91 ∷ rest = is.1 in differ 40 91 _ _ refl e
    no_sum rest none (Pair b c) is = let e : 40 ∷ (b ++ 44 ∷ (c ++ 41 ∷ [])) ≡ 91 ∷ rest = is.1 in differ 40 91 _ _ refl e
    no_sum rest none (Sum b c) is =
        let joined : b ++ 124 ∷ (c ++ 93 ∷ []) ≡ rest = let e : 91 ∷ (b ++ 124 ∷ (c ++ 93 ∷ [])) ≡ 91 ∷ rest = is.1 in cc in
        none (b, c) (record { first = is.0.0; second = is.0.1; joined = joined })

    neither : (x : ℕ) (rest : List ℕ) → (x ≡ 40 → ⊥) → (x ≡ 91 → ⊥) → (form : KindForm) → IsForm form × (form_right form ≡ x ∷ rest) → ⊥
    neither x rest round square UnitForm is = let e : 40 ∷ 41 ∷ [] ≡ x ∷ rest = is.1 in let f : x ≡ 40 = cc in round f
    neither x rest round square (Pair b c) is = let e : 40 ∷ (b ++ 44 ∷ (c ++ 41 ∷ [])) ≡ x ∷ rest = is.1 in let f : x ≡ 40 = cc in round f
    neither x rest round square (Sum b c) is = let e : 91 ∷ (b ++ 124 ∷ (c ++ 93 ∷ [])) ≡ x ∷ rest = is.1 in let f : x ≡ 91 = cc in square f

    nothing : (form : KindForm) → IsForm form × (form_right form ≡ []) → ⊥
    nothing UnitForm is = let e : 40 ∷ 41 ∷ [] ≡ [] = is.1 in cc
    nothing (Pair b c) is = let e : 40 ∷ (b ++ 44 ∷ (c ++ 41 ∷ [])) ≡ [] = is.1 in cc
    nothing (Sum b c) is = let e : 91 ∷ (b ++ 124 ∷ (c ++ 93 ∷ [])) ≡ [] = is.1 in cc

    by : (text : List ℕ) → (form_right UnitForm ≡ text → ⊥) → Found (λ form. IsForm form × (form_right form ≡ text))
    by [] unit = inr nothing
    by (x ∷ rest) unit = elim (cases_eq x 40) [
      | inl round ↦ elim (names_some 44 41 (mark_ends 44 (omega arith)) (mark_ends 41 (omega arith)) rest) [
        | inl (n, are) ↦ inl (Pair n.0 n.1, ((are.first, are.second), rw round (ap (λ t. 40 ∷ t) are.joined)))
        | inr none ↦ inr (λ form is. no_pair rest (subst (λ b. form_right UnitForm ≡ b ∷ rest → ⊥) round unit) none form
            (is.0, subst (λ b. form_right form ≡ b ∷ rest) round is.1))
      ]
      | inr not_round ↦ elim (cases_eq x 91) [
        | inl square ↦ elim (names_some 124 93 bar_ends bracket_ends rest) [
          | inl (n, are) ↦ inl (Sum n.0 n.1, ((are.first, are.second), rw square (ap (λ t. 91 ∷ t) are.joined)))
          | inr none ↦ inr (λ form is. no_sum rest none form (is.0, subst (λ b. form_right form ≡ b ∷ rest) square is.1))
        ]
        | inr not_square ↦ inr (neither x rest not_round not_square)
      ]
    ]

form_some : (text : List ℕ) → Found (λ form. IsForm form × (form_text form ≡ text))
form_some text = elim (form_read text) [
  | inl (form, is) ↦ inl (form, (is.0, form_same form ∙ is.1))
  | inr none ↦ inr (λ form is. none form (is.0, sym (form_same form) ∙ is.1))
]

-- the words of `type`, behind the first
kind_some : (rest : List (List ℕ)) → (found : Option Line) × MatchOption found ((a : List ℕ) (form : KindForm) → AreSaid rest (Kind a form) → ⊥)
    (λ l. AreWordsOf (codes "type" ∷ rest) l)
kind_some [] = (None, λ a form said. let e = said.written in cc)
kind_some (x ∷ []) = (None, λ a form said. let e = said.written in cc)
kind_some (x ∷ y ∷ []) = (None, λ a form said. let e = said.written in cc)
kind_some (x ∷ y ∷ z ∷ w ∷ ws) = (None, λ a form said. let e = said.written in cc)
kind_some (x ∷ y ∷ z ∷ []) = by (decided_name x) (same_list y (codes "=")) (form_some z)
  where
    by : Decided (IsName x) → Decided (y ≡ codes "=") → Found (λ form. IsForm form × (form_text form ≡ z)) →
        (found : Option Line) × MatchOption found ((a : List ℕ) (form : KindForm) → AreSaid (x ∷ y ∷ z ∷ []) (Kind a form) → ⊥)
        (λ l. AreWordsOf (codes "type" ∷ x ∷ y ∷ z ∷ []) l)
    by (inr none) equals form = (None, λ a f said. let e : x ≡ a = firsts _ _ _ _ said.written in none (subst IsName (sym e) said.right.0))
    by (inl name) (inr other) form = (None, λ a f said. other (firsts _ _ _ _ (behind_first _ _ _ _ said.written)))
    by (inl name) (inl equals) (inr none) = (
      None,
      λ a f said.
          let e : z ≡ form_text f = firsts _ _ _ _ (behind_first _ _ _ _ (behind_first _ _ _ _ said.written)) in none f (said.right.1, sym e),
    )
    by (inl name) (inl equals) (inl (f, is)) = (Some (Kind x f), record { right = (name, is.0); written = rw (equals, is.1) refl })

-- the words of `wire`
wire_some : (rest : List (List ℕ)) → (found : Option Line) × MatchOption found ((m : List ℕ) (k : ℕ) (side : Side) (a : List ℕ) → AreSaid rest (Wire m k side a) → ⊥)
    (λ l. AreWordsOf (codes "wire" ∷ rest) l)
wire_some [] = (None, λ m k side a said. let e = said.written in cc)
wire_some (x ∷ []) = (None, λ m k side a said. let e = said.written in cc)
wire_some (x ∷ y ∷ []) = (None, λ m k side a said. let e = said.written in cc)
wire_some (x ∷ y ∷ z ∷ []) = (None, λ m k side a said. let e = said.written in cc)
wire_some (x ∷ y ∷ z ∷ w ∷ v ∷ vs) = (None, λ m k side a said. let e = said.written in cc)
wire_some (x ∷ y ∷ z ∷ w ∷ []) = by (decided_name x) (number_some y) (side_some z) (decided_name w)
  where
    by : Decided (IsName x) → Found (λ k. IsBoxNumber k × (decimal k ≡ y)) → Found (λ side. shown_side side ≡ z) → Decided (IsName w) →
        (found : Option Line) × MatchOption found ((m : List ℕ) (k : ℕ) (side : Side) (a : List ℕ) → AreSaid (x ∷ y ∷ z ∷ w ∷ []) (Wire m k side a) → ⊥)
        (λ l. AreWordsOf (codes "wire" ∷ x ∷ y ∷ z ∷ w ∷ []) l)
    by (inr none) number side name = (None, λ m k s a said. let e : x ≡ m = firsts _ _ _ _ said.written in none (subst IsName (sym e) said.right.0))
    by (inl m) (inr none) side name = (
      None,
      λ m k s a said.
          let e : y ≡ decimal k = firsts _ _ _ _ (behind_first _ _ _ _ said.written) in none k (said.right.1, sym e),
    )
    by (inl m) (inl k) (inr none) name = (
      None,
      λ m k s a said.
          let e : z ≡ shown_side s = firsts _ _ _ _ (behind_first _ _ _ _ (behind_first _ _ _ _ said.written)) in none s (sym e),
    )
    by (inl m) (inl k) (inl s) (inr none) = (
      None,
      λ m k s a said.
          let e : w ≡ a = firsts _ _ _ _ (behind_first _ _ _ _ (behind_first _ _ _ _ (behind_first _ _ _ _ said.written))) in
          none (subst IsName (sym e) said.right.2),
    )
    by (inl m) (inl (k, is)) (inl (s, side)) (inl a) = (Some (Wire x k s w), record { right = (m, is.0, a); written = rw (is.1, side) refl })

-- the words of `of`
of_some : (rest : List (List ℕ)) → (found : Option Line) × MatchOption found ((m : List ℕ) (k : ℕ) (a : List ℕ) → AreSaid rest (Of m k a) → ⊥)
    (λ l. AreWordsOf (codes "of" ∷ rest) l)
of_some [] = (None, λ m k a said. let e = said.written in cc)
of_some (x ∷ []) = (None, λ m k a said. let e = said.written in cc)
of_some (x ∷ y ∷ []) = (None, λ m k a said. let e = said.written in cc)
of_some (x ∷ y ∷ z ∷ w ∷ ws) = (None, λ m k a said. let e = said.written in cc)
of_some (x ∷ y ∷ z ∷ []) = by (decided_name x) (number_some y) (decided_name z)
  where
    by : Decided (IsName x) → Found (λ k. IsBoxNumber k × (decimal k ≡ y)) → Decided (IsName z) →
        (found : Option Line) × MatchOption found ((m : List ℕ) (k : ℕ) (a : List ℕ) → AreSaid (x ∷ y ∷ z ∷ []) (Of m k a) → ⊥)
        (λ l. AreWordsOf (codes "of" ∷ x ∷ y ∷ z ∷ []) l)
    by (inr none) number name = (None, λ m k a said. let e : x ≡ m = firsts _ _ _ _ said.written in none (subst IsName (sym e) said.right.0))
    by (inl m) (inr none) name = (
      None,
      λ m k a said.
          let e : y ≡ decimal k = firsts _ _ _ _ (behind_first _ _ _ _ said.written) in none k (said.right.1, sym e),
    )
    by (inl m) (inl k) (inr none) = (
      None,
      λ m k a said.
          let e : z ≡ a = firsts _ _ _ _ (behind_first _ _ _ _ (behind_first _ _ _ _ said.written)) in none (subst IsName (sym e) said.right.2),
    )
    by (inl m) (inl (k, is)) (inl a) = (Some (Of x k z), record { right = (m, is.0, a); written = rw is.1 refl })

-- the type of an entry may stand before other words
entry_some : {A : Type 0} (entry : List ℕ) (words : A → List (List ℕ)) → ((xs : List (List ℕ)) → Found (λ x. xs ≡ words x)) →
    (xs : List (List ℕ)) → Found (λ (p : Option (List ℕ) × A). xs ≡ entry_words entry p.0 (words p.1))
entry_some {A} entry words some xs = elim (some xs) [
  | inl (x, is) ↦ inl ((None, x), is)
  | inr none ↦ behind xs none
]
  where
    none_here : (n : Option (List ℕ)) (x : A) → ((x : A) → [] ≡ words x → ⊥) → [] ≡ entry_words entry n (words x) → ⊥
    none_here None x none e = none x e
    none_here (Some a) x none e = cc

    none_alone : (k : List ℕ) (n : Option (List ℕ)) (x : A) → ((x : A) → k ∷ [] ≡ words x → ⊥) → k ∷ [] ≡ entry_words entry n (words x) → ⊥
    none_alone k None x none e = none x e
    none_alone k (Some a) x none e = cc

    none_other : (k b : List ℕ) (ys : List (List ℕ)) (n : Option (List ℕ)) (x : A) → ((x : A) → k ∷ b ∷ ys ≡ words x → ⊥) → (k ≡ entry → ⊥) →
        k ∷ b ∷ ys ≡ entry_words entry n (words x) → ⊥
    none_other k b ys None x none other e = none x e
    none_other k b ys (Some a) x none other e = other (firsts _ _ _ _ e)

    none_behind : (k b : List ℕ) (ys : List (List ℕ)) (n : Option (List ℕ)) (x : A) → ((x : A) → k ∷ b ∷ ys ≡ words x → ⊥) →
        ((x : A) → ys ≡ words x → ⊥) → k ∷ b ∷ ys ≡ entry_words entry n (words x) → ⊥
    none_behind k b ys None x none after e = none x e
    none_behind k b ys (Some a) x none after e = after x (behind_first _ _ _ _ (behind_first _ _ _ _ e))

    behind : (xs : List (List ℕ)) → ((x : A) → xs ≡ words x → ⊥) → Found (λ (p : Option (List ℕ) × A). xs ≡ entry_words entry p.0 (words p.1))
    behind [] none = inr (λ p e. none_here p.0 p.1 none e)
    behind (k ∷ []) none = inr (λ p e. none_alone k p.0 p.1 none e)
    behind (k ∷ b ∷ ys) none = elim (same_list k entry) [
      | inl same ↦ elim (some ys) [
        | inl (x, is) ↦ inl ((Some b, x), rw (same, is) refl)
        | inr after ↦ inr (λ p e. none_behind k b ys p.0 p.1 none after e)
      ]
      | inr other ↦ inr (λ p e. none_other k b ys p.0 p.1 none other e)
    ]

result_some : (xs : List (List ℕ)) → Found (λ e. xs ≡ codes "e" ∷ e ∷ [])
result_some [] = inr (λ e is. cc)
result_some (x ∷ []) = inr (λ e is. cc)
result_some (x ∷ y ∷ z ∷ zs) = inr (λ e is. cc)
result_some (x ∷ y ∷ []) = elim (same_list x (codes "e")) [
  | inl same ↦ inl (y, rw same refl)
  | inr other ↦ inr (λ e is. other (firsts _ _ _ _ is))
]

west_some : (xs : List (List ℕ)) → Found (λ (p : Option (List ℕ) × List ℕ). xs ≡ entry_words (codes "w") p.0 (codes "e" ∷ p.1 ∷ []))
west_some = entry_some (codes "w") (λ e. codes "e" ∷ e ∷ []) result_some

north_some : (xs : List (List ℕ)) →
    Found (λ (p : Option (List ℕ) × (Option (List ℕ) × List ℕ)). xs ≡ entry_words (codes "n") p.0 (entry_words (codes "w") p.1.0 (codes "e" ∷ p.1.1 ∷ [])))
north_some = entry_some (codes "n") (λ (p : Option (List ℕ) × List ℕ). entry_words (codes "w") p.0 (codes "e" ∷ p.1 ∷ [])) west_some

decided_entry : (n : Option (List ℕ)) → Decided (IfSome n IsName)
decided_entry None = inl tt
decided_entry (Some a) = decided_name a

-- the module of these words, if it can be written
module_said : (m : List ℕ) (n w : Option (List ℕ)) (e : List ℕ) → Decided (IsName m) → Decided (IfSome n IsName) → Decided (IfSome w IsName) → Decided (IsName e) →
    (found : Option Line) × MatchOption found (IsLine (Module m n w e) → ⊥) (λ l. (l ≡ Module m n w e) × IsLine (Module m n w e))
module_said m n w e (inl hm) (inl hn) (inl hw) (inl he) = (Some (Module m n w e), (refl, (hm, hn, hw, he)))
module_said m n w e (inr bad) hn hw he = (None, λ is. bad is.0)
module_said m n w e (inl hm) (inr bad) hw he = (None, λ is. bad is.1)
module_said m n w e (inl hm) (inl hn) (inr bad) he = (None, λ is. bad is.2)
module_said m n w e (inl hm) (inl hn) (inl hw) (inr bad) = (None, λ is. bad is.3)

-- the words of `module`
module_some : (rest : List (List ℕ)) → (found : Option Line) × MatchOption found
    ((m : List ℕ) (n w : Option (List ℕ)) (e : List ℕ) → AreSaid rest (Module m n w e) → ⊥)
    (λ l. AreWordsOf (codes "module" ∷ rest) l)
module_some [] = (None, λ m n w e said. let f = said.written in cc)
module_some (m ∷ xs) = elim (north_some xs) [
  | inl (p, is) ↦
      let (found, it) = module_said m p.0 p.1.0 p.1.1 (decided_name m) (decided_entry p.0) (decided_entry p.1.0) (decided_name p.1.1) in
      (found, module_read {E = Unit {0}} (Ok found) (m ∷ xs) m p.0 p.1.0 p.1.1 (rw is refl) it)
  | inr none ↦ (None, λ m' n w e said. none (n, (w, e)) (behind_first _ _ _ _ said.written))
]

-- the words of a line
words_some : (ws : List (List ℕ)) → (found : Option Line) × MatchOption found ((l : Line) → AreWordsOf ws l → ⊥) (AreWordsOf ws)
words_some [] = (None, no_words)
  where
    no_words : (l : Line) → AreWordsOf [] l → ⊥
    no_words l are = let e = are.written in cc
words_some (word ∷ rest) = elim (same_list word (codes "type")) [
  | inl e ↦ let (found, it) = kind_some rest in (found, kind_read {E = Unit {0}} (Ok found) (word ∷ rest) rest (rw e refl) it)
  | inr no_type ↦ elim (same_list word (codes "module")) [
    | inl e ↦ let (found, it) = module_some rest in (found, module_line_read {E = Unit {0}} (Ok found) (word ∷ rest) rest (rw e refl) it)
    | inr no_module ↦ elim (same_list word (codes "wire")) [
      | inl e ↦ let (found, it) = wire_some rest in (found, wire_read {E = Unit {0}} (Ok found) (word ∷ rest) rest (rw e refl) it)
      | inr no_wire ↦ elim (same_list word (codes "of")) [
        | inl e ↦ let (found, it) = of_some rest in (found, of_read {E = Unit {0}} (Ok found) (word ∷ rest) rest (rw e refl) it)
        | inr no_of ↦ (None, none no_type no_module no_wire no_of)
      ]
    ]
  ]
]
  where
    none : (word ≡ codes "type" → ⊥) → (word ≡ codes "module" → ⊥) → (word ≡ codes "wire" → ⊥) → (word ≡ codes "of" → ⊥) →
        (l : Line) → AreWordsOf (word ∷ rest) l → ⊥
    none a b c d (Kind x form) are = a (firsts _ _ _ _ are.written)
    none a b c d (Module m n w e) are = b (firsts _ _ _ _ are.written)
    none a b c d (Wire m k side x) are = c (firsts _ _ _ _ are.written)
    none a b c d (Of m k x) are = d (firsts _ _ _ _ are.written)

found_of : {A : Type 0} (Q : A → Type 0) (found : Option A) → MatchOption found ((x : A) → Q x → ⊥) Q → Found Q
found_of Q None none = inr none
found_of Q (Some x) is = inl (x, is)

line_some : (text : List ℕ) → Found (IsTextOf text)
line_some text =
    let words = slice_split (λ b. b == 32) text in
    let (found, it) = words_some words in
    found_of (IsTextOf text) found (text_read {E = Unit {0}} (Ok found) words text refl it)

row_some : (number : ℕ) (text : List ℕ) → HasAnswer (row_of number text)
row_some number [] = gave_some []
row_some number (b ∷ bs) = then_some _ _ (the_or_some (BadSheet number) (IsTextOf (b ∷ bs)) (line_some (b ∷ bs)))
    (λ line. gave_some (record { at = number; line = line } ∷ []))

rows_some : (number : ℕ) (texts : List (List ℕ)) → HasAnswer (rows_from number texts)
rows_some number [] = gave_some []
rows_some number (text ∷ texts) = then_some _ _ (row_some number text) (λ row. then_some _ _ (rows_some (number + 1) texts) (λ rows. gave_some (row ++ rows)))

same_side : (s t : Side) → Decided (s ≡ t)
same_side S S = inl refl
same_side E E = inl refl
same_side S E = inr (λ e. cc)
same_side E S = inr (λ e. cc)

same_subject : (s t : Subject) → Decided (s ≡ t)
same_subject (a_type a) (a_type b) = elim (same_list a b) [ inl e ↦ inl (ap a_type e) | inr other ↦ inr (λ e. let f : a ≡ b = cc in other f) ]
same_subject (a_module a) (a_module b) = elim (same_list a b) [ inl e ↦ inl (ap a_module e) | inr other ↦ inr (λ e. let f : a ≡ b = cc in other f) ]
same_subject (port a k s) (port b l t) = elim (same_list a b) [
  | inr other ↦ inr (λ e. let f : a ≡ b = cc in other f)
  | inl names ↦ elim (cases_eq k l) [
    | inr other ↦ inr (λ e. let f : k ≡ l = cc in other f)
    | inl numbers ↦ elim (same_side s t) [
      | inr other ↦ inr (λ e. let f : s ≡ t = cc in other f)
      | inl sides ↦ inl (rw (names, numbers, sides) refl)
    ]
  ]
]
same_subject (expression a k) (expression b l) = elim (same_list a b) [
  | inr other ↦ inr (λ e. let f : a ≡ b = cc in other f)
  | inl names ↦ elim (cases_eq k l) [
    | inr other ↦ inr (λ e. let f : k ≡ l = cc in other f)
    | inl numbers ↦ inl (rw (names, numbers) refl)
  ]
]
same_subject (a_type a) (a_module b) = inr (λ e. cc)
same_subject (a_type a) (port b l t) = inr (λ e. cc)
same_subject (a_type a) (expression b l) = inr (λ e. cc)
same_subject (a_module a) (a_type b) = inr (λ e. cc)
same_subject (a_module a) (port b l t) = inr (λ e. cc)
same_subject (a_module a) (expression b l) = inr (λ e. cc)
same_subject (port a k s) (a_type b) = inr (λ e. cc)
same_subject (port a k s) (a_module b) = inr (λ e. cc)
same_subject (port a k s) (expression b l) = inr (λ e. cc)
same_subject (expression a k) (a_type b) = inr (λ e. cc)
same_subject (expression a k) (a_module b) = inr (λ e. cc)
same_subject (expression a k) (port b l t) = inr (λ e. cc)

decided_declares : (rows : List SheetRow) (s : Subject) → Decided (Declares rows s)
decided_declares rows s = decided_any (λ (row : SheetRow). subject_of row.line ≡ s) (λ row. same_subject (subject_of row.line) s) rows

pub sheet_some : (text : List ℕ) → HasAnswer (sheet_of text)
sheet_some text =
    then_some _ _ (refused_some TooLong (most_sheet_bytes < length text) (decided_lt most_sheet_bytes (length text)))
    (λ _. then_some _ _ (rows_some 1 (lines text)) (λ rows.
    then_some _ _ (each_some (declares_anew rows) rows (λ n i row at. refused_some (SameLine row.at) _ (decided_declares (take n rows) (subject_of row.line))) 0)
    (λ _. then_some _ _ (each_some (λ _. uses_declared rows) rows (λ n i row at. refused_some (NoType row.at) _
    (decided_any (λ a. Declares rows (a_type a) → ⊥) (λ a. decided_not (decided_declares rows (a_type a))) (types_used row.line))) 0)
    (λ _. gave_some rows))))
