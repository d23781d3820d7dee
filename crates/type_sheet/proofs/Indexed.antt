-- Places of rows by what they declare.
use Rattle.std.specs.Prelude.{◌≡◌, ℕ, zero, suc, ◌+◌, Bool, true, false, List, [], ◌∷◌, ◌++◌, length, take, Option, Some, None, slice_get, if◌then◌else◌, is_some}
use Rattle.std.specs.HashMap.{get, get_by}
use mathlib.Core.Path.{fun_ext}
use Rattle.type_sheet.specs.contracts.index.SubjectPartialEq.TheImpl.{eq-value}
use Rattle.std.specs.Option.{option_map, option_or}
use Rattle.std.proofs.Common.{refl, sym, ◌∙◌, ap, arith, cond, eqb-true}
use Rattle.std.proofs.lemmas.Slice.Eq.{bytes_eq-Decides}
use Rattle.two_d.specs.declared.command.Side.TheVariants.{S, E}
use Rattle.type_sheet.specs.declared.index.Subject.{Subject as Key}
use Rattle.type_sheet.specs.declared.index.Subject.TheVariants.{Kind, Module, South, East, Expression}
use Rattle.type_sheet.specs.declared.line.SheetRow.{SheetRow}
use Rattle.type_sheet.specs.Sheets.{Subject, a_type, a_module, port, expression, subject_of}
use Rattle.type_sheet.specs.inner.Subjects.{key_read, key_of, same_key, Places, place_in, is_declared, place_of}
use Rattle.type_sheet.proofs.TestLemmas.{both}

-- how the map compares keys
abbrev pub equal : Key → Key → Bool
equal = eq-value.it

equal-same : (k q : Key) → equal k q ≡ same_key k q
equal-same (Kind a) (Kind b) = refl
equal-same (Kind a) (Module b) = refl
equal-same (Kind a) (South b l) = refl
equal-same (Kind a) (East b l) = refl
equal-same (Kind a) (Expression b l) = refl
equal-same (Module a) (Kind b) = refl
equal-same (Module a) (Module b) = refl
equal-same (Module a) (South b l) = refl
equal-same (Module a) (East b l) = refl
equal-same (Module a) (Expression b l) = refl
equal-same (South a k) (Kind b) = refl
equal-same (South a k) (Module b) = refl
equal-same (South a k) (South b l) = refl
equal-same (South a k) (East b l) = refl
equal-same (South a k) (Expression b l) = refl
equal-same (East a k) (Kind b) = refl
equal-same (East a k) (Module b) = refl
equal-same (East a k) (South b l) = refl
equal-same (East a k) (East b l) = refl
equal-same (East a k) (Expression b l) = refl
equal-same (Expression a k) (Kind b) = refl
equal-same (Expression a k) (Module b) = refl
equal-same (Expression a k) (South b l) = refl
equal-same (Expression a k) (East b l) = refl
equal-same (Expression a k) (Expression b l) = refl

get-equal : (m : Places) (k : Key) → get_by (equal k) m ≡ get same_key m k
get-equal m k = ap (λ (p : Key → Bool). get_by p m) (fun_ext (equal-same k))

-- only what is said of a key counts
pub key-read : (k q : Key) → same_key k q ≡ same_key (key_of (key_read k)) q
key-read (Kind a) q = by q
  where
    by : (q : Key) → same_key (Kind a) q ≡ same_key (key_of (key_read (Kind a))) q
    by (Kind b) = refl
    by (Module b) = refl
    by (South b l) = refl
    by (East b l) = refl
    by (Expression b l) = refl
key-read (Module a) q = by q
  where
    by : (q : Key) → same_key (Module a) q ≡ same_key (key_of (key_read (Module a))) q
    by (Kind b) = refl
    by (Module b) = refl
    by (South b l) = refl
    by (East b l) = refl
    by (Expression b l) = refl
key-read (South a k) q = by q
  where
    by : (q : Key) → same_key (South a k) q ≡ same_key (key_of (key_read (South a k))) q
    by (Kind b) = refl
    by (Module b) = refl
    by (South b l) = refl
    by (East b l) = refl
    by (Expression b l) = refl
key-read (East a k) q = by q
  where
    by : (q : Key) → same_key (East a k) q ≡ same_key (key_of (key_read (East a k))) q
    by (Kind b) = refl
    by (Module b) = refl
    by (South b l) = refl
    by (East b l) = refl
    by (Expression b l) = refl
key-read (Expression a k) q = by q
  where
    by : (q : Key) → same_key (Expression a k) q ≡ same_key (key_of (key_read (Expression a k))) q
    by (Kind b) = refl
    by (Module b) = refl
    by (South b l) = refl
    by (East b l) = refl
    by (Expression b l) = refl

same_names : (a b : List ℕ) → Rattle.std.specs.Str.bytes_eq a b ≡ true → a ≡ b
same_names a b e = (bytes_eq-Decides a b).0 e

-- what the map takes for the same is the same
pub key-same : (s t : Subject) → same_key (key_of s) (key_of t) ≡ true → s ≡ t
key-same (a_type a) (a_type b) e = ap a_type (same_names a b e)
key-same (a_type a) (a_module b) e = absurd (cc)
key-same (a_type a) (port b l S) e = absurd (cc)
key-same (a_type a) (port b l E) e = absurd (cc)
key-same (a_type a) (expression b l) e = absurd (cc)
key-same (a_module a) (a_module b) e = ap a_module (same_names a b e)
key-same (a_module a) (a_type b) e = absurd (cc)
key-same (a_module a) (port b l S) e = absurd (cc)
key-same (a_module a) (port b l E) e = absurd (cc)
key-same (a_module a) (expression b l) e = absurd (cc)
key-same (port a k S) (port b l S) e =
    let parts = both _ _ e in rw (same_names a b parts.0, eqb-true k l parts.1) refl
key-same (port a k S) (port b l E) e = absurd (cc)
key-same (port a k S) (a_type b) e = absurd (cc)
key-same (port a k S) (a_module b) e = absurd (cc)
key-same (port a k S) (expression b l) e = absurd (cc)
key-same (port a k E) (port b l E) e =
    let parts = both _ _ e in rw (same_names a b parts.0, eqb-true k l parts.1) refl
key-same (port a k E) (port b l S) e = absurd (cc)
key-same (port a k E) (a_type b) e = absurd (cc)
key-same (port a k E) (a_module b) e = absurd (cc)
key-same (port a k E) (expression b l) e = absurd (cc)
key-same (expression a k) (expression b l) e =
    let parts = both _ _ e in rw (same_names a b parts.0, eqb-true k l parts.1) refl
key-same (expression a k) (a_type b) e = absurd (cc)
key-same (expression a k) (a_module b) e = absurd (cc)
key-same (expression a k) (port b l S) e = absurd (cc)
key-same (expression a k) (port b l E) e = absurd (cc)

or_map : (o : Option ℕ) (n : ℕ) (t : Bool) → option_map suc (option_or o (if t then Some n else None)) ≡ option_or (option_map suc o) (if t then Some (suc n) else None)
or_map None n true = refl
or_map None n false = refl
or_map (Some x) n t = refl

-- one row more
pub place-push : (rows : List SheetRow) (row : SheetRow) (s : Subject) →
    place_of (rows ++ row ∷ []) s ≡ option_or (place_of rows s) (if is_declared row s then Some (length rows) else None)
place-push [] row s = by (is_declared row s)
  where
    by : (t : Bool) → if◌then◌else◌ {A = Option ℕ} t (Some 0) None ≡ option_or None (if◌then◌else◌ {A = Option ℕ} t (Some 0) None)
    by true = refl
    by false = refl
place-push (first ∷ rows) row s = by (is_declared first s) (place-push rows row s)
  where
    by : (t : Bool) → place_of (rows ++ row ∷ []) s ≡ option_or (place_of rows s) (if is_declared row s then Some (length rows) else None) →
        (if t then Some 0 else option_map suc (place_of (rows ++ row ∷ []) s))
        ≡ option_or (if t then Some 0 else option_map suc (place_of rows s)) (if is_declared row s then Some (suc (length rows)) else None)
    by true e = refl
    by false e = rw e (or_map (place_of rows s) (length rows) (is_declared row s))

or_none : (o : Option ℕ) → option_or o None ≡ o
or_none None = refl
or_none (Some x) = refl

-- a row that declares something new is added
pub place-added : (m n : Places) (key : Key) (rows : List SheetRow) (row : SheetRow) (place : ℕ) →
    ((q : Key) → get_by (equal q) n ≡ cond (equal key q) (Some place) (get_by (equal q) m)) → key_read key ≡ subject_of row.line → place ≡ length rows →
    ((s : Subject) → place_in m s ≡ place_of rows s) → place_of rows (subject_of row.line) ≡ None →
    (s : Subject) → place_in n s ≡ place_of (rows ++ row ∷ []) s
place-added m n key rows row place updates reads size known absent s = sym (get-equal n (key_of s)) ∙ updates (key_of s) ∙ rw (equal-same key (key_of s), get-equal m (key_of s)) (by_test (same_key key (key_of s)) refl) ∙ sym (place-push rows row s)
  where
    same : same_key key (key_of s) ≡ is_declared row s
    same = key-read key (key_of s) ∙ ap (λ (t : Subject). same_key (key_of t) (key_of s)) reads

    by_test : (t : Bool) → same_key key (key_of s) ≡ t →
        cond t (Some place) (place_in m s) ≡ option_or (place_of rows s) (if is_declared row s then Some (length rows) else None)
    by_test true e =
        let is : is_declared row s ≡ true = sym same ∙ e in
        let it : subject_of row.line ≡ s = key-same (subject_of row.line) s is in
        rw (is, ← it, absent, size) refl
    by_test false e =
        let is : is_declared row s ≡ false = sym same ∙ e in
        rw (is, or_none) (known s)

take-after : (rows : List SheetRow) (i : ℕ) (row : SheetRow) → slice_get rows i ≡ Some row → take (suc i) rows ≡ take i rows ++ row ∷ []
take-after [] i row e = absurd (cc)
take-after (x ∷ xs) zero row e = let same : x ≡ row = cc in rw same refl
take-after (x ∷ xs) (suc i) row e = ap (λ (ys : List SheetRow). x ∷ ys) (take-after xs i row e)

pub take-next : (rows : List SheetRow) (i : ℕ) (row : SheetRow) → slice_get rows i ≡ Some row → take (i + 1) rows ≡ take i rows ++ row ∷ []
take-next rows i row e = let next : i + 1 ≡ suc i = omega arith in rw next (take-after rows i row e)

-- the key of a subject stands for it
get-read : (m : Places) (k : Key) → get same_key m k ≡ place_in m (key_read k)
get-read m (Kind a) = refl
get-read m (Module a) = refl
get-read m (South a k) = refl
get-read m (East a k) = refl
get-read m (Expression a k) = refl

not_there : (o : Option ℕ) → is_some o ≡ false → o ≡ None
not_there None e = refl
not_there (Some x) e = absurd (cc)

pub absent-read : (m : Places) (key : Key) (rows : List SheetRow) (row : SheetRow) → key_read key ≡ subject_of row.line →
    ((s : Subject) → place_in m s ≡ place_of rows s) → is_some (get_by (equal key) m) ≡ false → place_of rows (subject_of row.line) ≡ None
absent-read m key rows row reads known absent =
    let here : is_some (get same_key m key) ≡ false = ap is_some (sym (get-equal m key)) ∙ absent in
    let none : place_in m (key_read key) ≡ None = sym (get-read m key) ∙ not_there (get same_key m key) here in
    sym (known (subject_of row.line)) ∙ ap (place_in m) (sym reads) ∙ none

pub there-read : (m : Places) (key : Key) (rows : List SheetRow) (row : SheetRow) → key_read key ≡ subject_of row.line →
    ((s : Subject) → place_in m s ≡ place_of rows s) → is_some (get_by (equal key) m) ≡ true → place_of rows (subject_of row.line) ≡ None → ⊥
there-read m key rows row reads known there none =
    let same : get same_key m key ≡ None = get-read m key ∙ ap (place_in m) reads ∙ known (subject_of row.line) ∙ none in
    let e : false ≡ true = sym (ap is_some (get-equal m key ∙ same)) ∙ there in
    cc
