-- What stands in a strip is pushed part by part.
use Rattle.std.specs.Prelude.{◌≡◌, ◌≤◌, ℕ, List, [], ◌∷◌, ◌++◌, length, map, Result, Ok, Err, OnOk, Vec}
use Rattle.std.specs.declared.alloc.Global.{Global}
use Rattle.std.proofs.Common.{arith, sym, ap, ◌∙◌, append_assoc, append-nil, drop, get_or}
use Rattle.codex_gen.specs.Generated.{joined_by}
use Rattle.grid_picture.specs.Lined.{lined}
use Rattle.codex_gen.specs.declared.lines.Row.{Row}
use Rattle.codex_gen.specs.inner.Rows.{between, more_parts, part, texts_of}

joined-cons : (row : Row) (text : List ℕ) (more : List (List ℕ))
    → joined_by (between row) (map (part row) (text ∷ more)) ≡ part row text ++ more_parts row more
joined-cons row text [] = sym (append-nil (part row text))
joined-cons row text (other ∷ more) =
    ap (λ l. part row text ++ between row ++ l) (joined-cons row other more)
    ∙ (append_assoc (part row text) (between row) (part row other ++ more_parts row more)
    ∙ ap (λ l. part row text ++ l)
    (sym (append_assoc (between row) (part row other) (more_parts row more))))

-- the parts of all texts are that of the first and those behind it
split_parts : (row : Row) (texts : List (Vec ℕ Global)) (first : Vec ℕ Global) → 1 ≤ length texts
    → first ≡ get_or texts 0 first
    → joined_by (between row) (map (part row) (texts_of texts))
    ≡ part row first.items ++ more_parts row (texts_of (drop 1 texts))
split_parts row [] first some is = absurd (omega (arith, some))
split_parts row (text ∷ texts) first some is =
    joined-cons row text.items (texts_of texts)
    ∙ ap (λ (u : Vec ℕ Global). part row u.items ++ more_parts row (texts_of texts)) (sym is)

pub parts_join : (row : Row) (old mid now one : List ℕ) (texts more : List (Vec ℕ Global))
    (first : Vec ℕ Global) → 1 ≤ length texts → first ≡ get_or texts 0 first → one ≡ first.items
    → more ≡ drop 1 texts → mid ≡ old ++ part row one → now ≡ mid ++ more_parts row (texts_of more)
    → now ≡ old ++ joined_by (between row) (map (part row) (texts_of texts))
parts_join row old mid now one texts more first some is same rest wrote then =
    then ∙ (ap (λ u. u ++ more_parts row (texts_of more)) wrote
    ∙ (append_assoc old (part row one) (more_parts row (texts_of more))
    ∙ ap (λ u. old ++ u)
    (ap (λ u. part row u ++ more_parts row (texts_of more)) same
    ∙ (ap (λ u. part row first.items ++ more_parts row (texts_of u)) rest
    ∙ sym (split_parts row texts first some is)))))

pub on_ok_map : {X E P Q : Type 0} (r : Result X E) → (P → Q) → OnOk r P → OnOk r Q
on_ok_map (Ok x) f h = f h
on_ok_map (Err e) f h = h

-- a line is pushed, then others
pub line_before : (old mid now row : List ℕ) (rows : List (List ℕ)) → mid ≡ old ++ (row ++ 10 ∷ [])
    → now ≡ mid ++ lined rows → now ≡ old ++ lined (row ∷ rows)
line_before old mid now row rows here rest =
    rest ∙ (ap (λ l. l ++ lined rows) here ∙ append_assoc old (row ++ 10 ∷ []) (lined rows))

pub no_line : (now : List ℕ) → now ≡ now ++ lined []
no_line now = sym (append-nil now)
