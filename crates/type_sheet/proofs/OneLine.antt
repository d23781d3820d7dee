-- A text is of at most one line, and a sheet has at most one answer.
use Rattle.std.specs.Prelude.{◌≡◌, ◌⊎◌, ℕ, suc, ◌+◌, ◌<◌, ◌^◌, ◌%◌, List, [], ◌∷◌, ◌++◌, length, Option, Some, None, IfSome, codes, decimal, All}
use Rattle.std.specs.Str.Lines.{lines}
use Rattle.std.proofs.Common.{refl, sym, ◌∙◌, ap, subst, arith, inl, inr, append_assoc}
use Rattle.std.proofs.lemmas.Fmt.{decimal_by_steps, decimal_injective}
use Rattle.std.proofs.lemmas.List.Elements.{All-nil, All-cons, All-append, All-get_or, All-from_get_or}
use Rattle.two_d.specs.Names.{IsName, IsNameByte}
use Rattle.two_d.specs.declared.command.Side.{Side}
use Rattle.two_d.specs.declared.command.Side.TheVariants.{S, E}
use Rattle.two_d.proofs.OneReading.{HasOneAnswer, gave_one, the_or_one, refused_one, then_one}
use Rattle.type_sheet.specs.declared.fault.SheetFault.TheVariants.{TooLong, BadSheet, SameLine, NoType}
use Rattle.type_sheet.specs.declared.line.Form.{Form}
use Rattle.type_sheet.specs.declared.line.Form.TheVariants.{Unit as UnitForm, Pair, Sum}
use Rattle.type_sheet.specs.declared.line.Line.{Line}
use Rattle.type_sheet.specs.declared.line.Line.TheVariants.{Kind, Module, Wire, Of}
use Rattle.type_sheet.specs.Lines.{entry_text, form_text, line_text, IsForm, IsLine, IsTextOf}
use Rattle.type_sheet.specs.Sheets.{most_sheet_bytes, row_of, rows_from, declares_anew, uses_declared, sheet_of}
use Rattle.type_sheet.proofs.Answered.{from_one}

-- letters, digits and `_`
abbrev pub IsRun : List ℕ → Type 0
IsRun [] = Unit {0}
IsRun (b ∷ bs) = IsNameByte b × IsRun bs

-- no run goes on here
abbrev pub Ends : List ℕ → Type 0
Ends [] = Unit {0}
Ends (b ∷ bs) = IsNameByte b → ⊥

run_of : (name : List ℕ) → All IsNameByte name → IsRun name
run_of [] all = tt
run_of (b ∷ bs) all = (
  All-get_or IsNameByte (b ∷ bs) 0 0 (omega arith) all,
  run_of bs (All-from_get_or IsNameByte bs 0 (λ i lt. All-get_or IsNameByte (b ∷ bs) (suc i) 0 (omega (arith, lt)) all)),
)

digit : (d : ℕ) → d < 10 → All IsNameByte ((48 + d) ∷ [])
digit d small = All-cons IsNameByte (48 + d) [] (inr (inl (omega (arith, small), omega (arith, small)))) (All-nil IsNameByte)

pub run_decimal : (n : ℕ) → n < 2 ^ 32 → IsRun (decimal n)
run_decimal n lt = run_of (decimal n) (decimal_by_steps (λ _ ds. All IsNameByte ds) digit
    (λ m ds ten all. All-append IsNameByte ds ((48 + m % 10) ∷ []) all (digit (m % 10) (omega arith))) n (omega (arith, lt)))

pub run_name : (name : List ℕ) → IsName name → IsRun name
run_name name is = run_of name is.letters

pub space_ends : IsNameByte 32 → ⊥
space_ends (inl h) = omega (arith, h.0)
space_ends (inr (inl h)) = omega (arith, h.0)
space_ends (inr (inr e)) = omega (arith, e)

pub mark_ends : (b : ℕ) → b < 48 → IsNameByte b → ⊥
mark_ends b lt (inl h) = omega (arith, h.0, lt)
mark_ends b lt (inr (inl h)) = omega (arith, h.0, lt)
mark_ends b lt (inr (inr e)) = omega (arith, e, lt)

pub bar_ends : IsNameByte 124 → ⊥
bar_ends (inl h) = omega (arith, h.1)
bar_ends (inr (inl h)) = omega (arith, h.1)
bar_ends (inr (inr e)) = omega (arith, e)

pub bracket_ends : IsNameByte 93 → ⊥
bracket_ends (inl h) = omega (arith, h.0)
bracket_ends (inr (inl h)) = omega (arith, h.1)
bracket_ends (inr (inr e)) = omega (arith, e)

no_longer : (b : ℕ) (bs y x : List ℕ) → IsNameByte b → Ends x → x ≡ b ∷ (bs ++ y) → ⊥
no_longer b bs y [] byte ends e = cc
no_longer b bs y (c ∷ cs) byte ends e = let same : b ≡ c = cc in ends (subst IsNameByte same byte)

-- a run and what stands behind it are told by the text
pub cut_once : (a b x y : List ℕ) → IsRun a → IsRun b → Ends x → Ends y → a ++ x ≡ b ++ y → (a ≡ b) × (x ≡ y)
cut_once [] [] x y ra rb ex ey e = (refl, e)
cut_once [] (b ∷ bs) x y ra rb ex ey e = absurd (no_longer b bs y x rb.0 ex e)
cut_once (a ∷ more) [] x y ra rb ex ey e = absurd (no_longer a more x y ra.0 ey (sym e))
cut_once (a ∷ more) (b ∷ bs) x y ra rb ex ey e =
    let first : a ≡ b = cc in
    let rest : more ++ x ≡ bs ++ y = cc in
    let (same, behind) = cut_once more bs x y ra.1 rb.1 ex ey rest in
    (cc, behind)

-- the text of a line, from left to right
abbrev pub form_right : Form → List ℕ
form_right UnitForm = 40 ∷ 41 ∷ []
form_right (Pair b c) = 40 ∷ (b ++ 44 ∷ (c ++ 41 ∷ []))
form_right (Sum b c) = 91 ∷ (b ++ 124 ∷ (c ++ 93 ∷ []))

abbrev pub entry_right : ℕ → Option (List ℕ) → List ℕ → List ℕ
entry_right entry None rest = rest
entry_right entry (Some a) rest = 32 ∷ entry ∷ 32 ∷ (a ++ rest)

abbrev pub side_byte : Side → ℕ
side_byte S = 83
side_byte E = 69

abbrev pub line_right : Line → List ℕ
line_right (Kind a form) = 116 ∷ 121 ∷ 112 ∷ 101 ∷ 32 ∷ (a ++ 32 ∷ 61 ∷ 32 ∷ form_right form)
line_right (Module m n w e) = 109 ∷ 111 ∷ 100 ∷ 117 ∷ 108 ∷ 101 ∷ 32 ∷ (m ++ entry_right 110 n (entry_right 119 w (32 ∷ 101 ∷ 32 ∷ e)))
line_right (Wire m k side a) = 119 ∷ 105 ∷ 114 ∷ 101 ∷ 32 ∷ (m ++ 32 ∷ (decimal k ++ 32 ∷ side_byte side ∷ 32 ∷ a))
line_right (Of m k a) = 111 ∷ 102 ∷ 32 ∷ (m ++ 32 ∷ (decimal k ++ 32 ∷ a))

pub form_same : (form : Form) → form_text form ≡ form_right form
form_same UnitForm = refl
form_same (Pair b c) = simp append_assoc
form_same (Sum b c) = simp append_assoc

kind_same : (a t : List ℕ) → codes "type " ++ a ++ codes " = " ++ t ≡ 116 ∷ 121 ∷ 112 ∷ 101 ∷ 32 ∷ (a ++ 32 ∷ 61 ∷ 32 ∷ t)
kind_same a t = simp append_assoc

module_same : (m n w e : List ℕ) → codes "module " ++ m ++ n ++ w ++ codes " e " ++ e ≡ 109 ∷ 111 ∷ 100 ∷ 117 ∷ 108 ∷ 101 ∷ 32 ∷ (m ++ (n ++ (w ++ 32 ∷ 101 ∷ 32 ∷ e)))
module_same m n w e = simp append_assoc

north_same : (n : Option (List ℕ)) (r : List ℕ) → entry_text (codes "n") n ++ r ≡ entry_right 110 n r
north_same None r = refl
north_same (Some a) r = refl

west_same : (w : Option (List ℕ)) (r : List ℕ) → entry_text (codes "w") w ++ r ≡ entry_right 119 w r
west_same None r = refl
west_same (Some a) r = refl

pub line_same : (l : Line) → line_text l ≡ line_right l
line_same (Kind a form) = kind_same a (form_text form) ∙ ap (λ t. 116 ∷ 121 ∷ 112 ∷ 101 ∷ 32 ∷ (a ++ 32 ∷ 61 ∷ 32 ∷ t)) (form_same form)
line_same (Module m n w e) = module_same m (entry_text (codes "n") n) (entry_text (codes "w") w) e
    ∙ (ap (λ t. 109 ∷ 111 ∷ 100 ∷ 117 ∷ 108 ∷ 101 ∷ 32 ∷ (m ++ (entry_text (codes "n") n ++ t))) (west_same w (32 ∷ 101 ∷ 32 ∷ e))
    ∙ ap (λ t. 109 ∷ 111 ∷ 100 ∷ 117 ∷ 108 ∷ 101 ∷ 32 ∷ (m ++ t)) (north_same n (entry_right 119 w (32 ∷ 101 ∷ 32 ∷ e))))
line_same (Wire m k S a) = simp append_assoc
line_same (Wire m k E a) = simp append_assoc
line_same (Of m k a) = simp append_assoc

-- the first bytes differ
apart : (a b : ℕ) (x y : List ℕ) → (a < b) ⊎ (b < a) → a ∷ x ≡ b ∷ y → ⊥
apart a b x y (inl lt) e = let n : a ≡ b = cc in omega (arith, n, lt)
apart a b x y (inr lt) e = let n : a ≡ b = cc in omega (arith, n, lt)

second : (a b : ℕ) (x y : List ℕ) → 32 ∷ a ∷ x ≡ 32 ∷ b ∷ y → a ≡ b
second a b x y e = cc

form_one : (f g : Form) → IsForm f → IsForm g → form_right f ≡ form_right g → f ≡ g
form_one UnitForm UnitForm hf hg e = refl
form_one UnitForm (Pair b c) hf hg e =
    let t : ◌≡◌ {A = List ℕ} (41 ∷ []) (b ++ 44 ∷ (c ++ 41 ∷ [])) = cc in
    let (same, behind) = cut_once [] b (41 ∷ []) (44 ∷ (c ++ 41 ∷ [])) tt (run_name b hg.0) (mark_ends 41 (omega arith)) (mark_ends 44 (omega arith)) t in
    absurd (apart 41 44 _ _ (inl (omega arith)) behind)
form_one UnitForm (Sum b c) hf hg e = absurd (apart 40 91 _ _ (inl (omega arith)) e)
form_one (Pair b c) UnitForm hf hg e =
    let t : b ++ 44 ∷ (c ++ 41 ∷ []) ≡ 41 ∷ [] = cc in
    let (same, behind) = cut_once b [] (44 ∷ (c ++ 41 ∷ [])) (41 ∷ []) (run_name b hf.0) tt (mark_ends 44 (omega arith)) (mark_ends 41 (omega arith)) t in
    absurd (apart 44 41 _ _ (inr (omega arith)) behind)
form_one (Pair b c) (Pair b' c') hf hg e =
    let t : b ++ 44 ∷ (c ++ 41 ∷ []) ≡ b' ++ 44 ∷ (c' ++ 41 ∷ []) = cc in
    let (first, behind) = cut_once b b' (44 ∷ (c ++ 41 ∷ [])) (44 ∷ (c' ++ 41 ∷ [])) (run_name b hf.0) (run_name b' hg.0) (mark_ends 44 (omega arith)) (mark_ends 44 (omega arith)) t in
    let u : c ++ 41 ∷ [] ≡ c' ++ 41 ∷ [] = cc in
    let (second, end) = cut_once c c' (41 ∷ []) (41 ∷ []) (run_name c hf.1) (run_name c' hg.1) (mark_ends 41 (omega arith)) (mark_ends 41 (omega arith)) u in
    cc
form_one (Pair b c) (Sum b' c') hf hg e = absurd (apart 40 91 _ _ (inl (omega arith)) e)
form_one (Sum b c) UnitForm hf hg e = absurd (apart 91 40 _ _ (inr (omega arith)) e)
form_one (Sum b c) (Pair b' c') hf hg e = absurd (apart 91 40 _ _ (inr (omega arith)) e)
form_one (Sum b c) (Sum b' c') hf hg e =
    let t : b ++ 124 ∷ (c ++ 93 ∷ []) ≡ b' ++ 124 ∷ (c' ++ 93 ∷ []) = cc in
    let (first, behind) = cut_once b b' (124 ∷ (c ++ 93 ∷ [])) (124 ∷ (c' ++ 93 ∷ [])) (run_name b hf.0) (run_name b' hg.0) bar_ends bar_ends t in
    let u : c ++ 93 ∷ [] ≡ c' ++ 93 ∷ [] = cc in
    let (second, end) = cut_once c c' (93 ∷ []) (93 ∷ []) (run_name c hf.1) (run_name c' hg.1) bracket_ends bracket_ends u in
    cc

-- the text doesn't begin with this entry
abbrev NotEntry : ℕ → List ℕ → Type 0
NotEntry entry rest = (t : List ℕ) → rest ≡ 32 ∷ entry ∷ t → ⊥

entry_one : (entry : ℕ) (n n' : Option (List ℕ)) (r r' : List ℕ) → IfSome n IsName → IfSome n' IsName → Ends r → Ends r' → NotEntry entry r → NotEntry entry r' →
    entry_right entry n r ≡ entry_right entry n' r' → (n ≡ n') × (r ≡ r')
entry_one entry None None r r' h h' ends ends' other other' e = (refl, e)
entry_one entry None (Some a) r r' h h' ends ends' other other' e = absurd (other (32 ∷ (a ++ r')) e)
entry_one entry (Some a) None r r' h h' ends ends' other other' e = absurd (other' (32 ∷ (a ++ r)) (sym e))
entry_one entry (Some a) (Some b) r r' h h' ends ends' other other' e =
    let t : a ++ r ≡ b ++ r' = cc in
    let (same, behind) = cut_once a b r r' (run_name a h) (run_name b h') ends ends' t in
    (ap (λ x. Some x) same, behind)

entry_ends : (entry : ℕ) (n : Option (List ℕ)) (r : List ℕ) → Ends r → Ends (entry_right entry n r)
entry_ends entry None r ends = ends
entry_ends entry (Some a) r ends = space_ends

no_west : (e : List ℕ) → NotEntry 119 (32 ∷ 101 ∷ 32 ∷ e)
no_west e t is = omega (arith, second 101 119 _ _ is)

no_north : (w : Option (List ℕ)) (e : List ℕ) → NotEntry 110 (entry_right 119 w (32 ∷ 101 ∷ 32 ∷ e))
no_north None e t is = omega (arith, second 101 110 _ _ is)
no_north (Some a) e t is = omega (arith, second 119 110 _ _ is)

side_one : (s t : Side) → side_byte s ≡ side_byte t → s ≡ t
side_one S S e = refl
side_one S E e = absurd (omega (arith, e))
side_one E S e = absurd (omega (arith, e))
side_one E E e = refl

right_one : (l m : Line) → IsLine l → IsLine m → line_right l ≡ line_right m → l ≡ m
right_one (Kind a f) (Kind b g) hl hm e =
    let t : a ++ 32 ∷ 61 ∷ 32 ∷ form_right f ≡ b ++ 32 ∷ 61 ∷ 32 ∷ form_right g = cc in
    let (name, behind) = cut_once a b (32 ∷ 61 ∷ 32 ∷ form_right f) (32 ∷ 61 ∷ 32 ∷ form_right g) (run_name a hl.0) (run_name b hm.0) space_ends space_ends t in
    let forms : form_right f ≡ form_right g = cc in
    let same = form_one f g hl.1 hm.1 forms in
    cc
right_one (Kind a f) (Module m n w e') hl hm e = absurd (apart 116 109 _ _ (inr (omega arith)) e)
right_one (Kind a f) (Wire m k s b) hl hm e = absurd (apart 116 119 _ _ (inl (omega arith)) e)
right_one (Kind a f) (Of m k b) hl hm e = absurd (apart 116 111 _ _ (inr (omega arith)) e)
right_one (Module m n w r) (Kind a f) hl hm e = absurd (apart 109 116 _ _ (inl (omega arith)) e)
right_one (Module m n w r) (Module m' n' w' r') hl hm e =
    let t : m ++ entry_right 110 n (entry_right 119 w (32 ∷ 101 ∷ 32 ∷ r)) ≡ m' ++ entry_right 110 n' (entry_right 119 w' (32 ∷ 101 ∷ 32 ∷ r')) = cc in
    let west = entry_ends 119 w (32 ∷ 101 ∷ 32 ∷ r) space_ends in
    let west' = entry_ends 119 w' (32 ∷ 101 ∷ 32 ∷ r') space_ends in
    let (name, behind) = cut_once m m' _ _ (run_name m hl.0) (run_name m' hm.0) (entry_ends 110 n _ west) (entry_ends 110 n' _ west') t in
    let (norths, wests) = entry_one 110 n n' _ _ hl.1 hm.1 west west' (no_north w r) (no_north w' r') behind in
    let (same, ends) = entry_one 119 w w' _ _ hl.2 hm.2 space_ends space_ends (no_west r) (no_west r') wests in
    let results : r ≡ r' = cc in
    cc
right_one (Module m n w r) (Wire m' k s b) hl hm e = absurd (apart 109 119 _ _ (inl (omega arith)) e)
right_one (Module m n w r) (Of m' k b) hl hm e = absurd (apart 109 111 _ _ (inl (omega arith)) e)
right_one (Wire m k s a) (Kind b f) hl hm e = absurd (apart 119 116 _ _ (inr (omega arith)) e)
right_one (Wire m k s a) (Module m' n w r) hl hm e = absurd (apart 119 109 _ _ (inr (omega arith)) e)
right_one (Wire m k s a) (Wire m' k' s' a') hl hm e =
    let t : m ++ 32 ∷ (decimal k ++ 32 ∷ side_byte s ∷ 32 ∷ a) ≡ m' ++ 32 ∷ (decimal k' ++ 32 ∷ side_byte s' ∷ 32 ∷ a') = cc in
    let (name, behind) = cut_once m m' _ _ (run_name m hl.0) (run_name m' hm.0) space_ends space_ends t in
    let u : decimal k ++ 32 ∷ side_byte s ∷ 32 ∷ a ≡ decimal k' ++ 32 ∷ side_byte s' ∷ 32 ∷ a' = cc in
    let (number, further) = cut_once (decimal k) (decimal k') _ _ (run_decimal k hl.1.1) (run_decimal k' hm.1.1) space_ends space_ends u in
    let numbers : k ≡ k' = decimal_injective k k' (omega (arith, hl.1.1)) (omega (arith, hm.1.1)) number in
    let byte : side_byte s ≡ side_byte s' = cc in
    let sides : s ≡ s' = side_one s s' byte in
    let types : a ≡ a' = cc in
    cc
right_one (Wire m k s a) (Of m' k' b) hl hm e = absurd (apart 119 111 _ _ (inr (omega arith)) e)
right_one (Of m k a) (Kind b f) hl hm e = absurd (apart 111 116 _ _ (inl (omega arith)) e)
right_one (Of m k a) (Module m' n w r) hl hm e = absurd (apart 111 109 _ _ (inr (omega arith)) e)
right_one (Of m k a) (Wire m' k' s b) hl hm e = absurd (apart 111 119 _ _ (inl (omega arith)) e)
right_one (Of m k a) (Of m' k' a') hl hm e =
    let t : m ++ 32 ∷ (decimal k ++ 32 ∷ a) ≡ m' ++ 32 ∷ (decimal k' ++ 32 ∷ a') = cc in
    let (name, behind) = cut_once m m' _ _ (run_name m hl.0) (run_name m' hm.0) space_ends space_ends t in
    let u : decimal k ++ 32 ∷ a ≡ decimal k' ++ 32 ∷ a' = cc in
    let (number, further) = cut_once (decimal k) (decimal k') _ _ (run_decimal k hl.1.1) (run_decimal k' hm.1.1) space_ends space_ends u in
    let numbers : k ≡ k' = decimal_injective k k' (omega (arith, hl.1.1)) (omega (arith, hm.1.1)) number in
    let types : a ≡ a' = cc in
    cc

pub line_one : (text : List ℕ) (l m : Line) → IsTextOf text l → IsTextOf text m → l ≡ m
line_one text l m hl hm = right_one l m hl.right hm.right (sym (line_same l) ∙ hl.written ∙ sym hm.written ∙ line_same m)

row_one : (number : ℕ) (text : List ℕ) → HasOneAnswer (row_of number text)
row_one number [] = gave_one []
row_one number (b ∷ bs) = then_one _ _ (the_or_one (BadSheet number) (IsTextOf (b ∷ bs)) (line_one (b ∷ bs))) (λ line. gave_one (record { at = number; line = line } ∷ []))

rows_one : (number : ℕ) (texts : List (List ℕ)) → HasOneAnswer (rows_from number texts)
rows_one number [] = gave_one []
rows_one number (text ∷ texts) = then_one _ _ (row_one number text) (λ row. then_one _ _ (rows_one (number + 1) texts) (λ rows. gave_one (row ++ rows)))

pub sheet_one : (text : List ℕ) → HasOneAnswer (sheet_of text)
sheet_one text =
    then_one _ _ (refused_one TooLong (most_sheet_bytes < length text)) (λ _. then_one _ _ (rows_one 1 (lines text)) (λ rows.
    then_one _ _ (from_one (declares_anew rows) (λ i row. refused_one (SameLine row.at) _) 0 rows)
    (λ _. then_one _ _ (from_one (λ _. uses_declared rows) (λ i row. refused_one (NoType row.at) _) 0 rows)
    (λ _. gave_one rows))))
