-- The texts of a program have the numbers that its plans give them.
use Rattle.std.specs.Prelude.{◌≡◌, ℕ, zero, suc, ◌+◌, ◌<◌, ◌≤◌, List, [], ◌∷◌, ◌++◌, length, slice_index_or, slice_get, Some}
use Rattle.std.proofs.Common.{refl, sym, ◌∙◌, ap, subst, arith, inl, inr, length-append}
use Rattle.std.proofs.lemmas.Bool.{cases_eq}
use Rattle.std.proofs.lemmas.Option.{slice_get_within}
use Rattle.two_d.specs.declared.trail.Site.{Site}
use Rattle.two_d.specs.declared.trail.Site.TheVariants.{NoSum, NoPair, NoResult, TwoResults}
use Rattle.two_d.specs.Trees.{Form, send, case, split, call}
use Rattle.two_d.specs.Programs.{BoxForm, Program, module_at, box_count}
use Rattle.two_d.specs.Texts.{site_line, caller_line}
use Rattle.lower_emit.specs.KnownOutcomes.{first_text, texts_of}
use Rattle.lower_link.proofs.Sites.{IsCase, IsSplit, IsUse, HasBox, IsSiteIn, IsCallerIn}
use Rattle.lower_link.proofs.Compiled.{AreTextsOf}
use Rattle.lower_link.specs.inner.Lines.{box_line, box_lines, end_lines, module_lines, lines_below, all_lines, line_at}

box_lines_length : (P : Program) (m b : ℕ) (rows : List BoxForm) → length (box_lines P m b rows) ≡ length rows
box_lines_length P m b [] = refl
box_lines_length P m b (row ∷ rows) = ap suc (box_lines_length P m (suc b) rows)

module_length : (P : Program) (m : ℕ) → length (module_lines P m) ≡ box_count P m + 2
module_length P m = omega (arith, length-append (box_lines P m 0 (module_at P m).boxes) (end_lines P m), box_lines_length P m 0 (module_at P m).boxes)

pub lines_length : (P : Program) (n : ℕ) → length (lines_below P n) ≡ first_text P n
lines_length P zero = refl
lines_length P (suc n) = omega (arith, length-append (lines_below P n) (module_lines P n), lines_length P n, module_length P n)

at_back : (xs ys : List (List ℕ)) (j : ℕ) → slice_index_or (xs ++ ys) (length xs + j) [] ≡ slice_index_or ys j []
at_back [] ys j = ap (λ k. slice_index_or ys k []) (omega arith)
at_back (x ∷ xs) ys j = let e : suc (length xs) + j ≡ suc (length xs + j) = omega arith in ap (λ k. slice_index_or (x ∷ (xs ++ ys)) k []) e ∙ at_back xs ys j

at_front : (xs ys : List (List ℕ)) (k : ℕ) → k < length xs → slice_index_or (xs ++ ys) k [] ≡ slice_index_or xs k []
at_front [] ys k lt = absurd (omega (arith, lt))
at_front (x ∷ xs) ys zero lt = refl
at_front (x ∷ xs) ys (suc k) lt = at_front xs ys k (omega (arith, lt))

texts_grow : (P : Program) (m n : ℕ) → m < n → first_text P m + box_count P m + 2 ≤ first_text P n
texts_grow P m zero lt = absurd (omega (arith, lt))
texts_grow P m (suc n) lt = elim (cases_eq m n) [
  | inl is ↦ subst (λ k. first_text P k + box_count P k + 2 ≤ first_text P (suc n)) (sym is) (omega arith)
  | inr other ↦ omega (arith, texts_grow P m n (omega (arith, lt, other)))
]

line_of : (P : Program) (m j n : ℕ) → m < n → j < box_count P m + 2 → slice_index_or (lines_below P n) (first_text P m + j) [] ≡ slice_index_or (module_lines P m) j []
line_of P m j zero lt low = absurd (omega (arith, lt))
line_of P m j (suc n) lt low = elim (cases_eq m n) [
  | inl is ↦ subst (λ k. slice_index_or (lines_below P n ++ module_lines P n) (first_text P k + j) [] ≡ slice_index_or (module_lines P k) j []) (sym is)
      (subst (λ l. slice_index_or (lines_below P n ++ module_lines P n) (l + j) [] ≡ slice_index_or (module_lines P n) j []) (lines_length P n) (at_back (lines_below P n) (module_lines P n) j))
  | inr other ↦ at_front (lines_below P n) (module_lines P n) (first_text P m + j) (omega (arith, lines_length P n, texts_grow P m n (omega (arith, lt, other)), low)) ∙ line_of P m j n (omega (arith, lt, other)) low
]

box_at_line : (P : Program) (m b k : ℕ) (rows : List BoxForm) (row : BoxForm) → slice_get rows k ≡ Some row → slice_index_or (box_lines P m b rows) k [] ≡ box_line P m (b + k) row.command
box_at_line P m b k [] row e = absurd (cc)
box_at_line P m b zero (r ∷ rows) row e = let f : r ≡ row = cc in ap (λ (x : BoxForm). box_line P m b x.command) f ∙ ap (λ c. box_line P m c row.command) (omega arith)
box_at_line P m b (suc k) (r ∷ rows) row e = box_at_line P m (suc b) k rows row e ∙ ap (λ c. box_line P m c row.command) (omega arith)

module _ (P : Program) where
  -- a text of a box
  record Numbered (k : ℕ) (line : List ℕ) : Type 0 where
    below : k < length (all_lines P)
    is : line_at P k ≡ line

  box_text : (Is : Form → Type 0) (m b : ℕ) (h : HasBox P Is (m, b)) → Numbered (first_text P m + b) (box_line P m b h.1.command)
  box_text Is m b (inside, row, there, kind) =
      let lt = slice_get_within (module_at P m).boxes b row there in
      record {
        below = omega (arith, lines_length P (length P), texts_grow P m (length P) inside, lt);
        is = line_of P m b (length P) inside (omega (arith, lt))
            ∙ (at_front (box_lines P m 0 (module_at P m).boxes) (end_lines P m) b (omega (arith, lt, box_lines_length P m 0 (module_at P m).boxes))
            ∙ (box_at_line P m 0 b (module_at P m).boxes row there ∙ ap (λ c. box_line P m c row.command) (omega arith)));
      }

  end_text : (m j : ℕ) → m < length P → j < 2 → Numbered (first_text P m + (box_count P m + j)) (slice_index_or (end_lines P m) j [])
  end_text m j inside lt = record {
    below = omega (arith, lines_length P (length P), texts_grow P m (length P) inside, lt);
    is = line_of P m (box_count P m + j) (length P) inside (omega (arith, lt))
        ∙ (ap (λ k. slice_index_or (module_lines P m) (k + j) []) (sym (box_lines_length P m 0 (module_at P m).boxes))
        ∙ at_back (box_lines P m 0 (module_at P m).boxes) (end_lines P m) j);
  }

  case_line : (m b : ℕ) (form : Form) → IsCase form → box_line P m b form ≡ site_line P (NoSum m b)
  case_line m b (send outs) h = absurd h
  case_line m b (case x left right) h = refl
  case_line m b (split x) h = absurd h
  case_line m b (call name) h = absurd h

  split_line : (m b : ℕ) (form : Form) → IsSplit form → box_line P m b form ≡ site_line P (NoPair m b)
  split_line m b (send outs) h = absurd h
  split_line m b (case x left right) h = absurd h
  split_line m b (split x) h = refl
  split_line m b (call name) h = absurd h

  use_line : (m b : ℕ) (form : Form) → IsUse form → box_line P m b form ≡ caller_line P (m, b)
  use_line m b (send outs) h = absurd h
  use_line m b (case x left right) h = absurd h
  use_line m b (split x) h = absurd h
  use_line m b (call name) h = refl

  site_at : (s : Site) → IsSiteIn P s → Numbered ((texts_of P).site s) (site_line P s)
  site_at (NoSum m b) h = subst (Numbered (first_text P m + b)) (case_line m b h.1.command h.3) (box_text IsCase m b h)
  site_at (NoPair m b) h = subst (Numbered (first_text P m + b)) (split_line m b h.1.command h.3) (box_text IsSplit m b h)
  site_at (NoResult m) inside = subst (λ k. Numbered k (site_line P (NoResult m))) (omega arith) (end_text m 0 inside (omega arith))
  site_at (TwoResults m) inside = subst (λ k. Numbered k (site_line P (TwoResults m))) (omega arith) (end_text m 1 inside (omega arith))

  caller_at : (b : ℕ × ℕ) → IsCallerIn P b → Numbered ((texts_of P).caller b.0 b.1) (caller_line P b)
  caller_at b h = subst (Numbered (first_text P b.0 + b.1)) (use_line b.0 b.1 h.1.command h.3) (box_text IsUse b.0 b.1 h)

  -- The lines of a program are its texts.
  pub lines_are : AreTextsOf P (texts_of P) (line_at P) (length (all_lines P))
  lines_are = record {
    sites = λ s h. (let n = site_at s h in (n.below, n.is));
    callers = λ b h. (let n = caller_at b h in (n.below, n.is));
  }
