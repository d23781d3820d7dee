-- Texts cut at a byte.
use Rattle.std.proofs.Common.{◌≡◌, ℕ, ◌<◌, ◌≤◌, ◌==◌, nat_lt, Bool, true, false, List, [], ◌∷◌, length, Option, Some, None, refl, ◌∙◌, ap, arith}
use Rattle.std.specs.List.{slice_split, position_or_len}
use Rattle.std.specs.Str.Lines.{lines, lines_of_parts, strip_carriage_return}
use Rattle.std.proofs.lemmas.List.{take_all}
use Rattle.std.proofs.lemmas.List.Splits.{slice_split_first}
use Rattle.type_sheet.specs.inner.Cut.{before, behind_byte}

-- the parts behind the first mark
abbrev pub parts_in : ℕ → Option (List ℕ) → List (List ℕ)
parts_in mark None = []
parts_in mark (Some text) = slice_split (λ b. b == mark) text

-- where nothing passes, there is one part
uncut : {X : Type 0} (p : X → Bool) → (xs : List X) → nat_lt (position_or_len p xs) (length xs) ≡ false → slice_split p xs ≡ xs ∷ []
uncut p [] e = refl
uncut {X} p (x ∷ xs) e = by_first (uncut p xs) (p x) refl
  where
    by_first : (nat_lt (position_or_len p xs) (length xs) ≡ false → slice_split p xs ≡ xs ∷ []) → (b : Bool) → p x ≡ b → slice_split p (x ∷ xs) ≡ (x ∷ xs) ∷ []
    by_first behind true h = grind (arith, e, h)
    by_first behind false h =
        let rest : nat_lt (position_or_len p xs) (length xs) ≡ false = grind (arith, e, h) in
        rw (h, behind rest) refl

pub cut_parts : (mark : ℕ) (text : List ℕ) → parts_in mark (Some text) ≡ before mark text ∷ parts_in mark (behind_byte mark text)
cut_parts mark text = by_test (nat_lt (position_or_len p text) (length text)) refl
  where
    p : ℕ → Bool
    p = λ b. b == mark

    by_test : (b : Bool) → nat_lt (position_or_len p text) (length text) ≡ b → parts_in mark (Some text) ≡ before mark text ∷ parts_in mark (behind_byte mark text)
    by_test true e =
        let inside : position_or_len p text < length text = grind (arith, e) in
        rw e (slice_split_first p text 0 inside)
    by_test false e =
        let all : length text ≤ position_or_len p text = grind (arith, e) in
        rw (e, take_all (position_or_len p text) text all) (uncut p text e)

pub before_none : (mark : ℕ) (text : List ℕ) → behind_byte mark text ≡ None → before mark text ≡ text
before_none mark text none = by_test (nat_lt (position_or_len (λ b. b == mark) text) (length text)) refl
  where
    by_test : (b : Bool) → nat_lt (position_or_len (λ b. b == mark) text) (length text) ≡ b → before mark text ≡ text
    by_test true e = cc (rw e at none)
    by_test false e =
        let all : length text ≤ position_or_len (λ b. b == mark) text = grind (arith, e) in
        take_all (position_or_len (λ b. b == mark) text) text all

-- a line before another loses its carriage return
more_lines : (x : List ℕ) (parts : List (List ℕ)) (y : List ℕ) (more : List (List ℕ)) → parts ≡ y ∷ more → lines_of_parts (x ∷ parts) ≡ strip_carriage_return x ∷ lines_of_parts parts
more_lines x parts y more e = rw e refl

pub lines_some : (text rest : List ℕ) → behind_byte 10 text ≡ Some rest → lines text ≡ strip_carriage_return (before 10 text) ∷ lines rest
lines_some text rest e =
    let parts : slice_split (λ b. b == 10) text ≡ before 10 text ∷ slice_split (λ b. b == 10) rest = cut_parts 10 text ∙ rw e refl in
    ap lines_of_parts parts ∙ more_lines (before 10 text) (slice_split (λ b. b == 10) rest) _ _ (cut_parts 10 rest)

pub lines_none : (text : List ℕ) → behind_byte 10 text ≡ None → 0 < length text → lines text ≡ text ∷ []
lines_none text e some =
    let parts : slice_split (λ b. b == 10) text ≡ text ∷ [] = cut_parts 10 text ∙ rw (e, before_none 10 text e) refl in
    let test : (length text == 0) ≡ false = grind (arith, some) in
    ap lines_of_parts parts ∙ rw test refl
