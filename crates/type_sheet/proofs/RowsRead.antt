-- The rows of a text, and what they declare and use.
use Rattle.std.specs.Prelude.{◌≡◌, ℕ, zero, suc, ◌+◌, ◌<◌, ◌≤◌, Bool, true, false, ◌&&◌, List, [], ◌∷◌, ◌++◌, length, take, slice_get, Any, Option, Some, None, is_some, if◌then◌else◌, Result, Ok, Err}
use Rattle.std.specs.List.{list_all}
use Rattle.std.specs.Option.{option_map}
use Rattle.std.specs.Str.Lines.{lines}
use Rattle.std.proofs.Common.{refl, sym, ◌∙◌, ap, subst, arith, append_assoc, get_or, eq-eqb}
use Rattle.std.proofs.lemmas.List.{append-nil}
use Rattle.std.proofs.lemmas.Option.{slice_get_within, get_or_from_slice_get}
use Rattle.std.proofs.lemmas.Slice.Eq.{bytes_eq-Decides}
use Rattle.two_d.specs.Reading.{Reading, Then, gave, goes_on, stops, refused, passed, found, missing, each_from, give}
use Rattle.two_d.specs.declared.command.Side.TheVariants.{S, E}
use Rattle.two_d.proofs.InOrder.{then_apart}
use Rattle.two_d.proofs.TableLemmas.{GoesOnAt, goes_on_first, goes_on_next}
use Rattle.type_sheet.specs.declared.fault.SheetFault.{SheetFault}
use Rattle.type_sheet.specs.declared.fault.SheetFault.TheVariants.{TooLong, BadSheet, SameLine, NoType}
use Rattle.type_sheet.specs.declared.index.Index.{Index}
use Rattle.type_sheet.specs.declared.line.Line.{Line}
use Rattle.type_sheet.specs.declared.line.SheetRow.{SheetRow}
use Rattle.type_sheet.specs.Lines.{IsTextOf}
use Rattle.type_sheet.specs.Sheets.{Subject, a_type, a_module, port, expression, subject_of, types_used, row_of, rows_from, declares_anew, uses_declared, most_sheet_bytes, sheet_of, Declares}
use Rattle.type_sheet.specs.inner.Subjects.{key_of, same_key, is_declared, place_of, place_in, has_kind}
use Rattle.type_sheet.proofs.Looked.{place-there}

-- what is read, behind rows that were read before
abbrev pub prepended : List SheetRow → Result (List SheetRow) SheetFault → Result (List SheetRow) SheetFault
prepended rows (Ok more) = Ok (rows ++ more)
prepended rows (Err fault) = Err fault

prepended_twice : (rows read : List SheetRow) (r : Result (List SheetRow) SheetFault) → prepended rows (prepended read r) ≡ prepended (rows ++ read) r
prepended_twice rows read (Ok more) = ap (λ (xs : List SheetRow). Ok xs) (sym (append_assoc rows read more))
prepended_twice rows read (Err fault) = refl

prepended_none : (r : Result (List SheetRow) SheetFault) → prepended [] r ≡ r
prepended_none (Ok more) = refl
prepended_none (Err fault) = refl

-- what the rest of a text gives is what the text gives behind the rows so far
abbrev pub ReadsOn : List (List ℕ) → List SheetRow → ℕ → List (List ℕ) → Type 0
ReadsOn all rows number rest = (r : Result (List SheetRow) SheetFault) → rows_from number rest r → rows_from 1 all (prepended rows r)

pub reads_first : (all : List (List ℕ)) → ReadsOn all [] 1 all
reads_first all r h = rw (prepended_none r) h

row_more : (number : ℕ) (line : List ℕ) (texts : List (List ℕ)) (read : List SheetRow) (r : Result (List SheetRow) SheetFault) →
    row_of number line (Ok read) → rows_from (number + 1) texts r → rows_from number (line ∷ texts) (prepended read r)
row_more number line texts read (Ok more) here there = goes_on read here (goes_on more there gave)
row_more number line texts read (Err fault) here there = goes_on read here (stops fault there)

pub reads_next : (all : List (List ℕ)) (rows read : List SheetRow) (number : ℕ) (rest : List (List ℕ)) (line : List ℕ) (texts : List (List ℕ)) →
    rest ≡ line ∷ texts → row_of number line (Ok read) → ReadsOn all rows number rest → ReadsOn all (rows ++ read) (number + 1) texts
reads_next all rows read number rest line texts is here before r h =
    subst (λ (s : Result (List SheetRow) SheetFault). rows_from 1 all s) (prepended_twice rows read r)
    (before (prepended read r) (rw is (row_more number line texts read r here h)))

pub reads_fault : (all : List (List ℕ)) (rows : List SheetRow) (number : ℕ) (rest : List (List ℕ)) (line : List ℕ) (texts : List (List ℕ)) →
    rest ≡ line ∷ texts → ReadsOn all rows number rest → (fault : SheetFault) → row_of number line (Err fault) → rows_from 1 all (Err fault)
reads_fault all rows number rest line texts is before fault bad = before (Err fault) (rw is (stops fault bad))

pub reads_end : (all : List (List ℕ)) (rows : List SheetRow) (number : ℕ) (rest : List (List ℕ)) →
    rest ≡ [] → ReadsOn all rows number rest → rows_from 1 all (Ok rows)
reads_end all rows number rest is before =
    subst (λ (xs : List SheetRow). rows_from 1 all (Ok xs)) (append-nil rows) (before (Ok []) (rw is gave))

pub empty_text : (text : List ℕ) → length text ≡ 0 → text ≡ []
empty_text [] e = refl
empty_text (b ∷ bs) e = absurd (omega (arith, e))

pub row_none : (number : ℕ) (text : List ℕ) → text ≡ [] → row_of number text (Ok [])
row_none number text is = rw is gave

pub row_good : (number : ℕ) (text : List ℕ) (l : Line) → 0 < length text → IsTextOf text l → row_of number text (Ok (record { at = number; line = l } ∷ []))
row_good number [] l lt of = absurd (omega arith)
row_good number (b ∷ bs) l lt of = goes_on l (found l of) gave

pub row_bad : (number : ℕ) (text : List ℕ) → 0 < length text → ((l : Line) → IsTextOf text l → ⊥) → row_of number text (Err (BadSheet number))
row_bad number [] lt none = absurd (omega arith)
row_bad number (b ∷ bs) lt none = stops (BadSheet number) (missing none)

key_refl : (s : Subject) → same_key (key_of s) (key_of s) ≡ true
key_refl (a_type a) = (bytes_eq-Decides a a).1 refl
key_refl (a_module a) = (bytes_eq-Decides a a).1 refl
key_refl (port a k S) = rw ((bytes_eq-Decides a a).1 refl) (eq-eqb k k refl)
key_refl (port a k E) = rw ((bytes_eq-Decides a a).1 refl) (eq-eqb k k refl)
key_refl (expression a k) = rw ((bytes_eq-Decides a a).1 refl) (eq-eqb k k refl)

placed : (rows : List SheetRow) (s : Subject) (i : ℕ) (row : SheetRow) → i < length rows → get_or rows i row ≡ row → subject_of row.line ≡ s → is_some (place_of rows s) ≡ true
placed [] s i row lt at is = absurd (omega arith)
placed (first ∷ rows) s i row lt at is = by (λ j lt at. placed rows s j row lt at is) (is_declared first s) refl i lt at
  where
    later : (o : Option ℕ) → is_some o ≡ true → is_some (option_map suc o) ≡ true
    later None e = absurd (cc)
    later (Some j) e = refl

    by : ((j : ℕ) → j < length rows → get_or rows j row ≡ row → is_some (place_of rows s) ≡ true) →
        (t : Bool) → is_declared first s ≡ t → (i : ℕ) → i < length (first ∷ rows) → get_or (first ∷ rows) i row ≡ row →
        is_some (if t then Some 0 else option_map suc (place_of rows s)) ≡ true
    by more true e i lt at = refl
    by more false e zero lt at =
        let same : subject_of first.line ≡ s = ap (λ (x : SheetRow). subject_of x.line) at ∙ is in
        let e' : is_declared first s ≡ true = ap (λ (t : Subject). same_key (key_of t) (key_of s)) same ∙ key_refl s in
        cc
    by more false e (suc i) lt at = later (place_of rows s) (more i (omega (arith, lt)) at)

-- what some row declares has a place
pub declares_placed : (rows : List SheetRow) (s : Subject) → Declares rows s → is_some (place_of rows s) ≡ true
declares_placed rows s (i, row, lt, at, is) = placed rows s i row lt at is

-- what has a place is declared by some row
pub placed_declares : (rows : List SheetRow) (s : Subject) → is_some (place_of rows s) ≡ true → Declares rows s
placed_declares rows s some = by (place_of rows s) refl some
  where
    by : (o : Option ℕ) → place_of rows s ≡ o → is_some o ≡ true → Declares rows s
    by None e t = absurd (cc)
    by (Some i) e t =
        let (row, at, is) = place-there rows s i e in
        (i, row, slice_get_within rows i row at, get_or_from_slice_get rows i row row at, is)

none_some : (o : Option ℕ) → o ≡ None → is_some o ≡ true → ⊥
none_some None e t = cc
none_some (Some x) e t = cc

some_none : (o : Option ℕ) → (o ≡ None → ⊥) → is_some o ≡ true
some_none None other = absurd (other refl)
some_none (Some x) other = refl

pub anew_ok : (rows : List SheetRow) (i : ℕ) (row : SheetRow) → place_of (take i rows) (subject_of row.line) ≡ None → declares_anew rows i row (Ok tt)
anew_ok rows i row none = passed (λ is. none_some (place_of (take i rows) (subject_of row.line)) none (declares_placed (take i rows) (subject_of row.line) is))

pub anew_err : (rows : List SheetRow) (i : ℕ) (row : SheetRow) → (place_of (take i rows) (subject_of row.line) ≡ None → ⊥) →
    declares_anew rows i row (Err (SameLine row.at))
anew_err rows i row some = refused (placed_declares (take i rows) (subject_of row.line) (some_none (place_of (take i rows) (subject_of row.line)) some))

-- rows that pass one after the other
pub goes_until : {F A : Type 0} (k : ℕ → A → Reading F (Unit {0})) (xs : List A) (n : ℕ) → n ≤ length xs →
    ((j : ℕ) (x : A) → j < n → slice_get xs j ≡ Some x → k j x (Ok tt)) → GoesOnAt k xs n
goes_until k xs zero le passes = goes_on_first k xs
goes_until {F = F} {A = A} k xs (suc n) le passes =
    by (goes_until k xs n (omega (arith, le)) (λ j y lt at. passes j y (omega (arith, lt)) at)) (slice_get xs n) refl
  where
    past : (xs : List A) (n : ℕ) → n < length xs → slice_get xs n ≡ None → ⊥
    past [] n lt e = omega (arith, lt)
    past (x ∷ xs) zero lt e = cc
    past (x ∷ xs) (suc n) lt e = past xs n (omega (arith, lt)) e

    by : GoesOnAt k xs n → (o : Option A) → slice_get xs n ≡ o → GoesOnAt k xs (suc n)
    by before None e = absurd (past xs n (omega (arith, le)) e)
    by before (Some x) e =
        let next : n + 1 ≡ suc n = omega arith in
        subst (GoesOnAt k xs) next (goes_on_next k xs n x e (passes n x (omega arith) e) before)

all_at : (p : List ℕ → Bool) (xs : List (List ℕ)) (i : ℕ) (x : List ℕ) → list_all p xs ≡ true → i < length xs → get_or xs i x ≡ x → p x ≡ true
all_at p [] i x all lt at = absurd (omega arith)
all_at p (y ∷ ys) i x all lt at = by (λ j all lt at. all_at p ys j x all lt at) (p y) refl i lt at all
  where
    by : ((j : ℕ) → list_all p ys ≡ true → j < length ys → get_or ys j x ≡ x → p x ≡ true) →
        (t : Bool) → p y ≡ t → (i : ℕ) → i < length (y ∷ ys) → get_or (y ∷ ys) i x ≡ x → t && list_all p ys ≡ true → p x ≡ true
    by more true e zero lt at all = let same : y ≡ x = at in ap p (sym same) ∙ e
    by more true e (suc i) lt at all = more i all (omega (arith, lt)) at
    by more false e i lt at all = absurd (cc)

some_fails : (p : List ℕ → Bool) (xs : List (List ℕ)) → list_all p xs ≡ false → Any (λ x. p x ≡ false) xs
some_fails p [] none = absurd (cc)
some_fails p (y ∷ ys) none = by (some_fails p ys) (p y) refl none
  where
    by : (list_all p ys ≡ false → Any (λ x. p x ≡ false) ys) → (t : Bool) → p y ≡ t → t && list_all p ys ≡ false → Any (λ x. p x ≡ false) (y ∷ ys)
    by more false e f = (0, y, omega arith, refl, e)
    by more true e f = let (i, x, lt, at, is) = more f in (suc i, x, omega (arith, lt), at, is)

module _ (rows : List SheetRow) (index : Index) (indexed : (s : Subject) → place_in index.places s ≡ place_of rows s) where
  pub uses_ok : (row : SheetRow) → list_all (has_kind index) (types_used row.line) ≡ true → uses_declared rows row (Ok tt)
  uses_ok row all = passed bad
    where
      bad : Any (λ a. Declares rows (a_type a) → ⊥) (types_used row.line) → ⊥
      bad (i, a, lt, at, none) =
          let there : has_kind index a ≡ true = all_at (has_kind index) (types_used row.line) i a all lt at in
          none (placed_declares rows (a_type a) (ap is_some (sym (indexed (a_type a))) ∙ there))

  pub uses_err : (row : SheetRow) → list_all (has_kind index) (types_used row.line) ≡ false → uses_declared rows row (Err (NoType row.at))
  uses_err row none = refused some
    where
      some : Any (λ a. Declares rows (a_type a) → ⊥) (types_used row.line)
      some =
          let (i, a, lt, at, fails) = some_fails (has_kind index) (types_used row.line) none in
          (i, a, lt, at, λ is. let there : has_kind index a ≡ true = ap is_some (indexed (a_type a)) ∙ declares_placed rows (a_type a) is in let e : false ≡ true = sym fails ∙ there in cc)

-- the first fault of a text
pub text_too_long : (text : List ℕ) → most_sheet_bytes < length text → sheet_of text (Err TooLong)
text_too_long text lt = stops TooLong (refused lt)

pub text_bad : (text : List ℕ) → (most_sheet_bytes < length text → ⊥) → (fault : SheetFault) → rows_from 1 (lines text) (Err fault) → sheet_of text (Err fault)
text_bad text short fault bad = goes_on tt (passed short) (stops fault bad)

-- what the rows of a text are tested for
abbrev pub rows_pass : List SheetRow → Reading SheetFault (Unit {0})
rows_pass rows = Then (each_from (declares_anew rows) 0 rows) (λ _. each_from (λ _. uses_declared rows) 0 rows)

pub text_fails : (text : List ℕ) (rows : List SheetRow) → (most_sheet_bytes < length text → ⊥) → rows_from 1 (lines text) (Ok rows) →
    (fault : SheetFault) → rows_pass rows (Err fault) → sheet_of text (Err fault)
text_fails text rows short read fault bad =
    goes_on tt (passed short) (goes_on rows read
    (then_apart (each_from (declares_anew rows) 0 rows) (λ _. each_from (λ _. uses_declared rows) 0 rows) (λ _. give rows) (Err fault) (stops fault bad)))

pub text_good : (text : List ℕ) (rows : List SheetRow) → (most_sheet_bytes < length text → ⊥) → rows_from 1 (lines text) (Ok rows) → rows_pass rows (Ok tt) →
    sheet_of text (Ok rows)
text_good text rows short read good =
    goes_on tt (passed short) (goes_on rows read
    (then_apart (each_from (declares_anew rows) 0 rows) (λ _. each_from (λ _. uses_declared rows) 0 rows) (λ _. give rows) (Ok rows) (goes_on tt good gave)))
