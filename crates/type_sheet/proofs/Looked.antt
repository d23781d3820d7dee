-- What the first row says that says something is what the row says that declares the subject.
use Rattle.std.specs.Prelude.{◌≡◌, ℕ, zero, suc, ◌+◌, ◌<◌, Bool, true, false, ◌&&◌, ◌==◌, List, [], ◌∷◌, take, Option, Some, None, slice_get, if◌then◌else◌, is_some}
use Rattle.std.specs.Option.{option_map, option_and_then, option_or}
use Rattle.std.specs.Str.{bytes_eq}
use Rattle.std.proofs.lemmas.Slice.Eq.{bytes_eq-Decides}
use Rattle.std.proofs.Common.{refl, sym, ◌∙◌, arith, eq-eqb}
use Rattle.two_d.specs.declared.command.Side.{Side}
use Rattle.two_d.specs.declared.command.Side.TheVariants.{S, E}
use Rattle.two_d.specs.Programs.{is_name}
use Rattle.two_d.proofs.Listed.{is_name-refl, is_name-true}
use Rattle.type_sheet.specs.declared.line.Line.{Line}
use Rattle.type_sheet.specs.declared.line.Line.TheVariants.{Kind, Module, Wire, Of}
use Rattle.type_sheet.specs.declared.line.SheetRow.{SheetRow}
use Rattle.type_sheet.specs.Sheets.{Subject, a_type, a_module, port, expression, subject_of, IsSheet}
use Rattle.type_sheet.specs.Said.{first_said, form_said, module_said, wire_said, of_said, form_in, is_side}
use Rattle.type_sheet.specs.inner.Subjects.{key_of, same_key, is_declared, place_of, line_of, form_in_line, module_in_line, wire_in_line, of_in_line}
use Rattle.two_d.proofs.Options.{option_map_some}
use Rattle.type_sheet.specs.Said.{module_line, wire_line, of_line}
use Rattle.type_sheet.proofs.TestLemmas.{is_side-refl}
use Rattle.type_sheet.proofs.Indexed.{key-same}
use Rattle.type_sheet.proofs.SheetRows.{rows_apart}

-- a line says something exactly where it declares the subject
pub record Says {A : Type 0} (says : Line → Option A) (s : Subject) : Type 0 where
  pub something : (row : SheetRow) → is_declared row s ≡ true → is_some (says row.line) ≡ true
  pub nothing : (row : SheetRow) → is_declared row s ≡ false → says row.line ≡ None

pub said-first : {A : Type 0} (says : Line → Option A) (s : Subject) → Says says s → (rows : List SheetRow) →
    first_said says rows ≡ option_and_then says (line_of rows s)
said-first says s are [] = refl
said-first says s are (row ∷ rows) = by (is_declared row s) refl (said-first says s are rows)
  where
    with_some : {A : Type 0} (o p : Option A) → is_some o ≡ true → option_or o p ≡ o
    with_some None p e = absurd (cc)
    with_some (Some x) p e = refl

    later : (o : Option ℕ) →
        option_and_then (λ i. option_map (λ (row : SheetRow). row.line) (slice_get (row ∷ rows) i)) (option_map suc o)
        ≡ option_and_then (λ i. option_map (λ (row : SheetRow). row.line) (slice_get rows i)) o
    later None = refl
    later (Some i) = refl

    by : (t : Bool) → is_declared row s ≡ t → first_said says rows ≡ option_and_then says (line_of rows s) →
        first_said says (row ∷ rows) ≡ option_and_then says (line_of (row ∷ rows) s)
    by true is more = rw is (with_some (says row.line) (first_said says rows) (are.something row is))
    by false is more = rw (is, are.nothing row is, later (place_of rows s)) more

pub line-declares : (rows : List SheetRow) (s : Subject) (line : Line) → line_of rows s ≡ Some line → subject_of line ≡ s
line-declares [] s line e = absurd (cc)
line-declares (row ∷ rows) s line e = by (is_declared row s) refl (line-declares rows s line) e
  where
    later : (o : Option ℕ) →
        option_and_then (λ i. option_map (λ (row : SheetRow). row.line) (slice_get (row ∷ rows) i)) (option_map suc o)
        ≡ option_and_then (λ i. option_map (λ (row : SheetRow). row.line) (slice_get rows i)) o
    later None = refl
    later (Some i) = refl

    by : (t : Bool) → is_declared row s ≡ t → (line_of rows s ≡ Some line → subject_of line ≡ s) →
        option_and_then (λ i. option_map (λ (row : SheetRow). row.line) (slice_get (row ∷ rows) i)) (if t then Some 0 else option_map suc (place_of rows s)) ≡ Some line →
        subject_of line ≡ s
    by true is more f = let same : row.line ≡ line = cc in rw (← same) (key-same (subject_of row.line) s is)
    by false is more f = more (sym (later (place_of rows s)) ∙ f)

pub bytes-name : (a b : List ℕ) → bytes_eq a b ≡ is_name a b
bytes-name a b = by (bytes_eq a b) refl (is_name a b) refl
  where
    by : (t : Bool) → bytes_eq a b ≡ t → (u : Bool) → is_name a b ≡ u → t ≡ u
    by true e true f = refl
    by false e false f = refl
    by true e false f = let same : a ≡ b = (bytes_eq-Decides a b).0 e in let g : true ≡ false = sym (rw same (is_name-refl b)) ∙ f in cc
    by false e true f = let same : a ≡ b = is_name-true a b f in let g : true ≡ false = sym ((bytes_eq-Decides a b).1 same) ∙ e in cc

some_if : {A : Type 0} (t : Bool) (x : A) → t ≡ true → is_some (if t then Some x else None) ≡ true
some_if true x e = refl
some_if false x e = absurd (cc)

none_if : {A : Type 0} (t : Bool) (x : A) → t ≡ false → (if t then Some x else None) ≡ None
none_if true x e = absurd (cc)
none_if false x e = refl

pub form-says : (a : List ℕ) → Says (form_said a) (a_type a)
form-says a = record { something = λ row e. something row.line e; nothing = λ row e. nothing row.line e }
  where
    something : (line : Line) → same_key (key_of (subject_of line)) (key_of (a_type a)) ≡ true → is_some (form_said a line) ≡ true
    something (Kind b form) e = some_if (is_name b a) form (sym (bytes-name b a) ∙ e)
    something (Module m n w r) e = absurd (cc)
    something (Wire m k S t) e = absurd (cc)
    something (Wire m k E t) e = absurd (cc)
    something (Of m k t) e = absurd (cc)

    nothing : (line : Line) → same_key (key_of (subject_of line)) (key_of (a_type a)) ≡ false → form_said a line ≡ None
    nothing (Kind b form) e = none_if (is_name b a) form (sym (bytes-name b a) ∙ e)
    nothing (Module m n w r) e = refl
    nothing (Wire m k side t) e = refl
    nothing (Of m k t) e = refl

pub module-says : (m : List ℕ) → Says (module_said m) (a_module m)
module-says m = record { something = λ row e. something row.line e; nothing = λ row e. nothing row.line e }
  where
    something : (line : Line) → same_key (key_of (subject_of line)) (key_of (a_module m)) ≡ true → is_some (module_said m line) ≡ true
    something (Module b n w r) e = some_if (is_name b m) _ (sym (bytes-name b m) ∙ e)
    something (Kind b form) e = absurd (cc)
    something (Wire b k S t) e = absurd (cc)
    something (Wire b k E t) e = absurd (cc)
    something (Of b k t) e = absurd (cc)

    nothing : (line : Line) → same_key (key_of (subject_of line)) (key_of (a_module m)) ≡ false → module_said m line ≡ None
    nothing (Module b n w r) e = none_if (is_name b m) _ (sym (bytes-name b m) ∙ e)
    nothing (Kind b form) e = refl
    nothing (Wire b k side t) e = refl
    nothing (Of b k t) e = refl

pub wire-says : (m : List ℕ) (k : ℕ) (side : Side) → Says (wire_said m k side) (port m k side)
wire-says m k S = record { something = λ row e. something row.line e; nothing = λ row e. nothing row.line e }
  where
    something : (line : Line) → same_key (key_of (subject_of line)) (key_of (port m k S)) ≡ true → is_some (wire_said m k S line) ≡ true
    something (Wire b l S t) e = some_if (is_name b m && (l == k)) t (rw (← bytes-name b m) e)
    something (Wire b l E t) e = absurd (cc)
    something (Kind b form) e = absurd (cc)
    something (Module b n w r) e = absurd (cc)
    something (Of b l t) e = absurd (cc)

    nothing : (line : Line) → same_key (key_of (subject_of line)) (key_of (port m k S)) ≡ false → wire_said m k S line ≡ None
    nothing (Wire b l S t) e = none_if (is_name b m && (l == k)) t (rw (← bytes-name b m) e)
    nothing (Wire b l E t) e = refl
    nothing (Kind b form) e = refl
    nothing (Module b n w r) e = refl
    nothing (Of b l t) e = refl
wire-says m k E = record { something = λ row e. something row.line e; nothing = λ row e. nothing row.line e }
  where
    something : (line : Line) → same_key (key_of (subject_of line)) (key_of (port m k E)) ≡ true → is_some (wire_said m k E line) ≡ true
    something (Wire b l E t) e = some_if (is_name b m && (l == k)) t (rw (← bytes-name b m) e)
    something (Wire b l S t) e = absurd (cc)
    something (Kind b form) e = absurd (cc)
    something (Module b n w r) e = absurd (cc)
    something (Of b l t) e = absurd (cc)

    nothing : (line : Line) → same_key (key_of (subject_of line)) (key_of (port m k E)) ≡ false → wire_said m k E line ≡ None
    nothing (Wire b l E t) e = none_if (is_name b m && (l == k)) t (rw (← bytes-name b m) e)
    nothing (Wire b l S t) e = refl
    nothing (Kind b form) e = refl
    nothing (Module b n w r) e = refl
    nothing (Of b l t) e = refl

pub of-says : (m : List ℕ) (k : ℕ) → Says (of_said m k) (expression m k)
of-says m k = record { something = λ row e. something row.line e; nothing = λ row e. nothing row.line e }
  where
    something : (line : Line) → same_key (key_of (subject_of line)) (key_of (expression m k)) ≡ true → is_some (of_said m k line) ≡ true
    something (Of b l t) e = some_if (is_name b m && (l == k)) t (rw (← bytes-name b m) e)
    something (Kind b form) e = absurd (cc)
    something (Module b n w r) e = absurd (cc)
    something (Wire b l S t) e = absurd (cc)
    something (Wire b l E t) e = absurd (cc)

    nothing : (line : Line) → same_key (key_of (subject_of line)) (key_of (expression m k)) ≡ false → of_said m k line ≡ None
    nothing (Of b l t) e = none_if (is_name b m && (l == k)) t (rw (← bytes-name b m) e)
    nothing (Kind b form) e = refl
    nothing (Module b n w r) e = refl
    nothing (Wire b l side t) e = refl

then_some : {A : Type 0} (t : Bool) (x : A) → t ≡ true → Some x ≡ (if t then Some x else None)
then_some true x e = refl
then_some false x e = absurd (cc)

-- what is looked up, by the line that declares it
pub form-told : (rows : List SheetRow) (a : List ℕ) → form_in_line (line_of rows (a_type a)) ≡ form_in rows a
form-told rows a = by (line_of rows (a_type a)) refl ∙ sym (said-first (form_said a) (a_type a) (form-says a) rows)
  where
    by : (line : Option Line) → line_of rows (a_type a) ≡ line → form_in_line line ≡ option_and_then (form_said a) line
    by None e = refl
    by (Some (Module b n w r)) e = refl
    by (Some (Wire b l side t)) e = refl
    by (Some (Of b l t)) e = refl
    by (Some (Kind b form)) e =
        let it : a_type b ≡ a_type a = line-declares rows (a_type a) (Kind b form) e in
        let same : b ≡ a = cc in
        then_some (is_name b a) form (rw same (is_name-refl a))

pub module-told : (rows : List SheetRow) (m : List ℕ) → module_in_line (line_of rows (a_module m)) ≡ module_line rows m
module-told rows m = by (line_of rows (a_module m)) refl ∙ sym (said-first (module_said m) (a_module m) (module-says m) rows)
  where
    by : (line : Option Line) → line_of rows (a_module m) ≡ line → module_in_line line ≡ option_and_then (module_said m) line
    by None e = refl
    by (Some (Kind b form)) e = refl
    by (Some (Wire b l side t)) e = refl
    by (Some (Of b l t)) e = refl
    by (Some (Module b n w r)) e =
        let it : a_module b ≡ a_module m = line-declares rows (a_module m) (Module b n w r) e in
        let same : b ≡ m = cc in
        then_some (is_name b m) (record { north = n; west = w; result = r }) (rw same (is_name-refl m))

pub wire-told : (rows : List SheetRow) (m : List ℕ) (b : ℕ) (side : Side) → wire_in_line (line_of rows (port m (b + 1) side)) ≡ wire_line rows m b side
wire-told rows m b side = by (line_of rows (port m (b + 1) side)) refl ∙ sym (said-first (wire_said m (b + 1) side) (port m (b + 1) side) (wire-says m (b + 1) side) rows)
  where
    by : (line : Option Line) → line_of rows (port m (b + 1) side) ≡ line → wire_in_line line ≡ option_and_then (wire_said m (b + 1) side) line
    by None e = refl
    by (Some (Kind c form)) e = refl
    by (Some (Module c n w r)) e = refl
    by (Some (Of c l t)) e = refl
    by (Some (Wire c l s t)) e =
        let it : port c l s ≡ port m (b + 1) side = line-declares rows (port m (b + 1) side) (Wire c l s t) e in
        let same : c ≡ m = cc in
        let number : l ≡ b + 1 = cc in
        let there : s ≡ side = cc in
        then_some (is_side s side && (is_name c m && (l == b + 1))) t (rw (same, number, there, is_side-refl side, is_name-refl m, eq-eqb (b + 1) (b + 1) refl) refl)

pub of-told : (rows : List SheetRow) (m : List ℕ) (b : ℕ) → of_in_line (line_of rows (expression m (b + 1))) ≡ of_line rows m b
of-told rows m b = by (line_of rows (expression m (b + 1))) refl ∙ sym (said-first (of_said m (b + 1)) (expression m (b + 1)) (of-says m (b + 1)) rows)
  where
    by : (line : Option Line) → line_of rows (expression m (b + 1)) ≡ line → of_in_line line ≡ option_and_then (of_said m (b + 1)) line
    by None e = refl
    by (Some (Kind c form)) e = refl
    by (Some (Module c n w r)) e = refl
    by (Some (Wire c l s t)) e = refl
    by (Some (Of c l t)) e =
        let it : expression c l ≡ expression m (b + 1) = line-declares rows (expression m (b + 1)) (Of c l t) e in
        let same : c ≡ m = cc in
        let number : l ≡ b + 1 = cc in
        then_some (is_name c m && (l == b + 1)) t (rw (same, number, is_name-refl m, eq-eqb (b + 1) (b + 1) refl) refl)

-- rows that declare nothing twice
pub place-there : (rows : List SheetRow) (s : Subject) (i : ℕ) → place_of rows s ≡ Some i → (row : SheetRow) × (slice_get rows i ≡ Some row) × (subject_of row.line ≡ s)
place-there [] s i e = absurd (cc)
place-there (row ∷ rows) s i e = by (is_declared row s) refl (place-there rows s) e
  where
    by : (t : Bool) → is_declared row s ≡ t → ((j : ℕ) → place_of rows s ≡ Some j → (other : SheetRow) × (slice_get rows j ≡ Some other) × (subject_of other.line ≡ s)) →
        (if t then Some 0 else option_map suc (place_of rows s)) ≡ Some i → (other : SheetRow) × (slice_get (row ∷ rows) i ≡ Some other) × (subject_of other.line ≡ s)
    by true is more f = let same : 0 ≡ i = cc in rw (← same) (row, refl, key-same (subject_of row.line) s is)
    by false is more f =
        let (j, there, same) = option_map_some suc (place_of rows s) i f in
        let (other, at, it) = more j there in
        rw (← same) (other, at, it)

slice_get-take : (rows : List SheetRow) (i j : ℕ) (row : SheetRow) → slice_get (take i rows) j ≡ Some row → (j < i) × (slice_get rows j ≡ Some row)
slice_get-take [] zero j row e = absurd (cc)
slice_get-take [] (suc i) j row e = absurd (cc)
slice_get-take (x ∷ xs) zero j row e = absurd (cc)
slice_get-take (x ∷ xs) (suc i) zero row e = (omega arith, e)
slice_get-take (x ∷ xs) (suc i) (suc j) row e = let (lt, at) = slice_get-take xs i j row e in (omega arith, at)

pub none_again : (rows : List SheetRow) → IsSheet rows → (i : ℕ) (row : SheetRow) → slice_get rows i ≡ Some row →
    (place_of (take i rows) (subject_of row.line) ≡ None → ⊥) → ⊥
none_again rows sheet i row at again = by (place_of (take i rows) (subject_of row.line)) refl
  where
    by : (o : Option ℕ) → place_of (take i rows) (subject_of row.line) ≡ o → ⊥
    by None e = again e
    by (Some j) e =
        let (other, there, same) = place-there (take i rows) (subject_of row.line) j e in
        let (lt, here) = slice_get-take rows i j other there in
        rows_apart rows sheet j i other row lt here at same
