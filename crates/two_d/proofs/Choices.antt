-- Where none of some tokens stands, how far the text may still become one of them.
use Rattle.codex_values.specs.Tokens.{IsWordByte, EndsWord}
use Rattle.std.proofs.Common.{◌≡◌, ◌≢◌, ℕ, suc, ◌+◌, ◌-◌, ◌≤◌, ◌<◌, ◌⊎◌, inl, inr, cond, eqb, List, [], ◌∷◌, ◌++◌, length, refl, sym, ap, subst, ◌∙◌, arith, max}
use Rattle.std.proofs.lemmas.Bool.Decides.{nat_tests}
use Rattle.std.proofs.lemmas.Bool.{cases_eq, cases_lt}
use Rattle.std.specs.List.{AllByRecursion}
use Rattle.two_d.proofs.Agree.{agree, IsStuck, IsOpenAt}
use Rattle.two_d.proofs.Tokens.{Token, symbol, word, quoted, Begins, Reads, IsProper, OneOf, agree_none, agree_some, agree-le, no_space, not_word_space, spaced_of, text_of, reads_text}

abbrev pub IsIn : List Token → Token → Type 0
IsIn [] t = ⊥
IsIn (s ∷ ts) t = (s ≡ t) ⊎ IsIn ts t

-- proper, and without quotation marks
abbrev pub IsPlain : Token → Type 0
IsPlain (symbol x) = IsProper (symbol x)
IsPlain (word xs) = IsProper (word xs)
IsPlain (quoted xs) = ⊥

pub proper_of : (t : Token) → IsPlain t → IsProper t
proper_of (symbol x) p = p
proper_of (word xs) p = p
proper_of (quoted xs) p = absurd p

abbrev pub ArePlain : List Token → Type 0
ArePlain ts = AllByRecursion IsPlain ts

pub plain_in : (ts : List Token) (t : Token) → ArePlain ts → IsIn ts t → IsPlain t
plain_in [] t p i = absurd i
plain_in (s ∷ ts) t p (inl e) = subst IsPlain e p.0
plain_in (s ∷ ts) t p (inr i) = plain_in ts t p.1 i

-- the bytes of a token without quotation marks
abbrev pub bytes_of : Token → List ℕ
bytes_of (symbol x) = x ∷ []
bytes_of (word xs) = xs
bytes_of (quoted xs) = xs

-- the longest beginning of one of the tokens
abbrev pub best : List Token → List ℕ → ℕ
best [] a = 0
best (t ∷ ts) a = max (agree (bytes_of t) a) (best ts a)

-- the bytes that are left after spaces and the longest beginning of one of the tokens
abbrev pub stuck_left : List Token → List ℕ → ℕ
stuck_left ts [] = 0
stuck_left ts (x ∷ a) = cond (eqb x 32) (stuck_left ts a) (length (x ∷ a) - best ts (x ∷ a))

-- A text that isn't the word agrees with one that is no further than with the word's bytes.
agree_word : (xs a c d : List ℕ) → ((b : List ℕ) → Begins xs a b → EndsWord b → ⊥) → Begins xs c d → EndsWord d → agree a c ≤ agree xs a
agree_word [] [] c d never s e = omega arith
agree_word [] (x ∷ a) [] d never s e = omega arith
agree_word [] (x ∷ a) (y ∷ c) d never s e = elim (cases_eq x y) [
  | inl same ↦ absurd (never (x ∷ a) refl (λ w. (subst EndsWord (sym s) e) (subst IsWordByte same w)))
  | inr differ ↦ omega (arith, agree_none x y a c differ)
]
agree_word (x ∷ xs) [] c d never s e = omega arith
agree_word (x ∷ xs) (p ∷ a) [] d never s e = absurd s
agree_word (x ∷ xs) (p ∷ a) (q ∷ c) d never s e = elim (cases_eq p q) [
  | inl same ↦ omega (arith, agree_some p q a c same, agree_some x p xs a (sym (same ∙ s.0)), agree_word xs a c d (λ b sp en. never b (same ∙ s.0, sp) en) s.1 e)
  | inr differ ↦ omega (arith, agree_none p q a c differ)
]

agree_token : (t : Token) (a c d : List ℕ) → IsPlain t → ((b : List ℕ) → Reads t a b → ⊥) → Reads t c d → agree a c ≤ agree (bytes_of t) a
agree_token (symbol x) [] c d p never s = omega arith
agree_token (symbol x) (q ∷ a) [] d p never s = omega arith
agree_token (symbol x) (q ∷ a) (y ∷ c) d p never s =
    omega (arith, agree_none q y a c (λ e. never a (e ∙ s.0, refl)))
agree_token (word xs) a c d p never s = agree_word xs a c d (λ b sp en. never b (sp, en)) s.0 s.1
agree_token (quoted xs) a c d p never s = absurd p

agree-le-best : (ts : List Token) (t : Token) (a : List ℕ) → IsIn ts t → agree (bytes_of t) a ≤ best ts a
agree-le-best [] t a i = absurd i
agree-le-best (s ∷ ts) t a (inl e) = omega (arith, ap (λ u. agree (bytes_of u) a) e)
agree-le-best (s ∷ ts) t a (inr i) = omega (arith, agree-le-best ts t a i)

pub best-le : (ts : List Token) (a : List ℕ) → best ts a ≤ length a
best-le [] a = omega arith
best-le (t ∷ ts) a = omega (arith, best-le ts a, agree-le (bytes_of t) a)

pub left_at_space : (ts : List Token) (x : ℕ) (a : List ℕ) → x ≡ 32 → stuck_left ts (x ∷ a) ≡ stuck_left ts a
left_at_space ts x a space = grind (arith, nat_tests)

pub left_at_other : (ts : List Token) (x : ℕ) (a : List ℕ) → x ≢ 32 → stuck_left ts (x ∷ a) ≡ length (x ∷ a) - best ts (x ∷ a)
left_at_other ts x a other = grind (arith, nat_tests)

-- Where none of the tokens stands, no text that has one agrees further than the longest beginning of one.
pub stuck_one_of : (ts : List Token) (a : List ℕ) → ArePlain ts → ((t : Token) (b : List ℕ) → OneOf (IsIn ts) a b t → ⊥) → IsStuck (OneOf (IsIn ts)) a (stuck_left ts a)
stuck_one_of ts [] plain never = (omega arith, λ c d t r. omega arith)
stuck_one_of ts (x ∷ a) plain never = elim (cases_eq x 32) [
  | inl space ↦ (let rest : IsStuck (OneOf (IsIn ts)) a (stuck_left ts a) = stuck_one_of ts a plain (λ t b r. never t b (r.0, inr (space, r.1))) in
      let left = left_at_space ts x a space in
      (omega (arith, rest.0, left), λ c d t r. omega (arith, left, at_space rest space c d t r)))
  | inr other ↦ (let left = left_at_other ts x a other in
      (omega (arith, left), λ c d t r. omega (arith, left, best-le ts (x ∷ a), at_other other c d t r)))
]
  where
    at_space : IsStuck (OneOf (IsIn ts)) a (stuck_left ts a) → x ≡ 32 → (c d : List ℕ) (t : Token) → OneOf (IsIn ts) c d t → agree (x ∷ a) c + stuck_left ts a ≤ suc (length a)
    at_space rest space [] d t r = omega (arith, rest.0)
    at_space rest space (y ∷ c) d t r = elim r.1 [
      | inl begins ↦ omega (arith, rest.0, agree_none x y a c (λ e. no_space t y c d (proper_of t (plain_in ts t plain r.0)) begins (sym e ∙ space)))
      | inr more ↦ omega (arith, agree_some x y a c (space ∙ sym more.0), rest.1 c d t (r.0, more.1))
    ]

    at_other : (x ≢ 32) → (c d : List ℕ) (t : Token) → OneOf (IsIn ts) c d t → agree (x ∷ a) c ≤ best ts (x ∷ a)
    at_other other [] d t r = omega arith
    at_other other (y ∷ c) d t r = elim r.1 [
      | inl begins ↦ omega (arith, agree_token t (x ∷ a) (y ∷ c) d (plain_in ts t plain r.0) (λ b reads. never t b (r.0, inl reads)) begins, agree-le-best ts t (x ∷ a) r.0)
      | inr more ↦ omega (arith, agree_none x y a c (λ e. other (e ∙ more.0)))
    ]

-- some token has the longest beginning
best_token : (t : Token) (ts : List Token) (a : List ℕ) → (s : Token) × IsIn (t ∷ ts) s × (best (t ∷ ts) a ≤ agree (bytes_of s) a)
best_token t [] a = (t, inl refl, omega arith)
best_token t (u ∷ ts) a = (let (s, there, most) = best_token u ts a in pick s there most (cases_lt (agree (bytes_of s) a) (agree (bytes_of t) a)))
  where
    pick : (s : Token) → IsIn (u ∷ ts) s → (best (u ∷ ts) a ≤ agree (bytes_of s) a) → ((agree (bytes_of s) a < agree (bytes_of t) a) ⊎ (agree (bytes_of t) a ≤ agree (bytes_of s) a)) → (s : Token) × IsIn (t ∷ u ∷ ts) s × (best (t ∷ u ∷ ts) a ≤ agree (bytes_of s) a)
    pick s there most (inl less) = (t, inl refl, omega (arith, most, less))
    pick s there most (inr more) = (s, inr there, omega (arith, most, more))

agree_text : (t : Token) (a e : List ℕ) → IsPlain t → agree (bytes_of t) a ≤ agree a (text_of t e)
agree_text (symbol x) a e p = along (x ∷ []) a
  where
    along : (xs b : List ℕ) → agree xs b ≤ agree b (xs ++ e)
    along [] b = omega arith
    along (y ∷ xs) [] = omega arith
    along (y ∷ xs) (z ∷ b) = elim (cases_eq y z) [
      | inl same ↦ omega (arith, agree_some y z xs b same, agree_some z y b (xs ++ e) (sym same), along xs b)
      | inr differ ↦ omega (arith, agree_none y z xs b differ)
    ]
agree_text (word xs) a e p = along xs a
  where
    along : (ys b : List ℕ) → agree ys b ≤ agree b (ys ++ e)
    along [] b = omega arith
    along (y ∷ ys) [] = omega arith
    along (y ∷ ys) (z ∷ b) = elim (cases_eq y z) [
      | inl same ↦ omega (arith, agree_some y z ys b same, agree_some z y b (ys ++ e) (sym same), along ys b)
      | inr differ ↦ omega (arith, agree_none y z ys b differ)
    ]
agree_text (quoted xs) a e p = absurd p

-- What was read up to there begins one of the tokens.
pub open_one_of : (t : Token) (ts : List Token) (a : List ℕ) → ArePlain (t ∷ ts) → IsOpenAt (OneOf (IsIn (t ∷ ts))) a (stuck_left (t ∷ ts) a)
open_one_of t ts [] plain = (t, λ e ends. (32 ∷ text_of t e, (inl refl, inr (refl, spaced_of t (text_of t e) e (reads_text t e ends))), omega arith, inr not_word_space))
open_one_of t ts (x ∷ a) plain = elim (cases_eq x 32) [
  | inl space ↦ (let (s, rest) = open_one_of t ts a plain in (
    s,
    λ e ends.
        let (c, has, far, may) = rest e ends in
        let here = agree_some x x a c refl in
        (x ∷ c, (has.0, inr (space, has.1)), omega (arith, here, far, left_at_space (t ∷ ts) x a space), inl (omega (arith, here))),
  ))
  | inr other ↦ (let (s, there, most) = best_token t ts (x ∷ a) in
      (s, λ e ends. at_other s there most (left_at_other (t ∷ ts) x a other) e ends (cases_eq (best (t ∷ ts) (x ∷ a)) 0)))
]
  where
    at_other : (s : Token) → IsIn (t ∷ ts) s → (best (t ∷ ts) (x ∷ a) ≤ agree (bytes_of s) (x ∷ a)) → (stuck_left (t ∷ ts) (x ∷ a) ≡ length (x ∷ a) - best (t ∷ ts) (x ∷ a)) → (e : List ℕ) → EndsWord e → ((best (t ∷ ts) (x ∷ a) ≡ 0) ⊎ (best (t ∷ ts) (x ∷ a) ≢ 0)) → (c : List ℕ) × OneOf (IsIn (t ∷ ts)) c e s × (length (x ∷ a) ≤ agree (x ∷ a) c + stuck_left (t ∷ ts) (x ∷ a)) × ((1 ≤ agree (x ∷ a) c) ⊎ EndsWord c)
    at_other s there most left e ends (inl none) = (32 ∷ text_of s e, (there, inr (refl, spaced_of s (text_of s e) e (reads_text s e ends))), omega (arith, left, none), inr not_word_space)
    at_other s there most left e ends (inr some) = (let far = agree_text s (x ∷ a) e (plain_in (t ∷ ts) s plain there) in
        (text_of s e, (there, spaced_of s (text_of s e) e (reads_text s e ends)), omega (arith, left, far, most, best-le (t ∷ ts) (x ∷ a)), inl (omega (arith, far, most, some))))
