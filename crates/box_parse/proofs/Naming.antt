-- A name is read exactly.
use Rattle.codex_values.specs.Tokens.{IsWordByte, EndsWord}
use Rattle.std.proofs.Common.{◌≡◌, ◌≢◌, ℕ, zero, suc, ◌+◌, ◌-◌, ◌≤◌, ◌⊎◌, inl, inr, Bool, true, false, cond, ◌==◌, List, [], ◌∷◌, ◌++◌, length, take, drop, refl, sym, ap, subst, ◌∙◌, arith, Result, Ok, Err, length-take}
use Rattle.std.proofs.lemmas.Bool.Decides.{nat_tests}
use Rattle.std.proofs.lemmas.Bool.{cases_eq, cases_Bool}
use Rattle.std.specs.Char.{is_ascii_lowercase, IsAsciiLowercase}
use Rattle.std.specs.List.{AllByRecursion}
use Rattle.box_parse.proofs.Answers.{IsAnswer, opens_some, last_bytes, answer_mapped}
use Rattle.box_parse.proofs.Choosing.{ends_word_is, ends_word_not, skip_space, skip_other}
use Rattle.box_parse.proofs.Exact.{Reads}
use Rattle.box_parse.proofs.Runs.{run-nil, run-at_true, run-at_false, run-le, name_taken}
use Rattle.box_parse.specs.inner.ReaderOnLists.{Refusal, bad, ◌>>=◌, mapped, skip, is_word_byte, ends_word, is_name_byte, run, name_len, named, begins_quote, quoted_at, bare_at, name_at}
use Rattle.two_d.proofs.Agree.{agree, Part, IsRegular, IsStuck, IsOpenAt, MayFollow}
use Rattle.two_d.proofs.Parts.{IsNameToken, name_in, name_part, proper_name, name_a, all_of, regular_name}
use Rattle.two_d.proofs.Tokens.{Token, symbol, word, quoted, Begins, Reads as Reading, IsProper, Spaced, OneOf, agree_none, agree_some, agree_ends', no_space, not_word_space, not_word_quote, spaced_of, text_of, reads_text, regular_one_of}
use Rattle.two_d.specs.Names.{IsNameByte, IsName}

-- Tests on bytes.
name_byte_true : (x : ℕ) → IsNameByte x → is_name_byte x ≡ true
name_byte_true x is = grind (arith, nat_tests)

name_byte_false : (x : ℕ) → (IsWordByte x → ⊥) → is_name_byte x ≡ false
name_byte_false x not_word = grind (arith, nat_tests)

name_word : (x : ℕ) → is_name_byte x ≡ true → IsWordByte x
name_word x is = grind (arith, nat_tests)

word_byte_true : (x : ℕ) → is_word_byte x ≡ true → IsWordByte x
word_byte_true x is = grind (arith, nat_tests)

word_byte_false : (x : ℕ) → is_word_byte x ≡ false → IsWordByte x → ⊥
word_byte_false x is there = grind (arith, nat_tests)

lower_true : (x : ℕ) → IsAsciiLowercase x → is_ascii_lowercase x ≡ true
lower_true x is = grind (arith, nat_tests)

-- A name stands at the front of r, and then d: the run of name bytes is the name.
run_stands : (m : ℕ) (xs r d : List ℕ) → AllByRecursion IsNameByte xs → length xs ≤ m → Begins xs r d → EndsWord d → run m r ≡ length xs
run_stands m [] [] d all le b ends = run-nil m
run_stands m [] (x ∷ r) d all le b ends = run-at_false m x r (name_byte_false x (subst EndsWord (sym b) ends))
run_stands zero (y ∷ xs) r d all le b ends = absurd (omega (arith, le))
run_stands (suc m) (y ∷ xs) [] d all le b ends = absurd b
run_stands (suc m) (y ∷ xs) (x ∷ r) d all le b ends =
    run-at_true m x r (name_byte_true x (subst IsNameByte (sym b.0) all.0)) ∙ ap suc (run_stands m xs r d all.1 (omega (arith, le)) b.1 ends)

-- How far r agrees with a text that begins with a name.
abbrev Far : ℕ → List ℕ → List ℕ → List ℕ → List ℕ → Type 0
Far k xs r c d = (agree r c ≤ k) ⊎ (Begins xs r (drop k r) × EndsWord (drop k r) × (k ≡ length xs) × (agree r c ≡ k + agree (drop k r) d))

run_far : (m : ℕ) (xs r c d : List ℕ) → AllByRecursion IsNameByte xs → length xs ≤ m → Begins xs c d → EndsWord d → Far (run m r) xs r c d
run_far m [] [] c d all le b ends = inl (omega arith)
run_far m [] (x ∷ r) c d all le b ends = elim (cases_Bool (is_word_byte x)) [
  | inl is ↦ inl (omega (arith, ap (agree (x ∷ r)) b, agree_ends' d x r ends (word_byte_true x is)))
  | inr isn't ↦ (let none = run-at_false m x r (name_byte_false x (word_byte_false x isn't)) in
      subst (λ k. Far k [] (x ∷ r) c d) (sym none) (inr (refl, word_byte_false x isn't, refl, omega (arith, ap (agree (x ∷ r)) b))))
]
run_far zero (y ∷ xs) r c d all le b ends = absurd (omega (arith, le))
run_far (suc m) (y ∷ xs) r [] d all le b ends = absurd b
run_far (suc m) (y ∷ xs) [] (q ∷ c) d all le b ends = inl (omega arith)
run_far (suc m) (y ∷ xs) (x ∷ r) (q ∷ c) d all le b ends = elim (cases_eq x q) [
  | inr differ ↦ inl (omega (arith, agree_none x q r c differ))
  | inl same ↦
      let more = run-at_true m x r (name_byte_true x (subst IsNameByte (sym (same ∙ b.0)) all.0)) in
      let here = agree_some x q r c same in
      subst (λ k. Far k (y ∷ xs) (x ∷ r) (q ∷ c) d) (sym more) (elim (run_far m xs r c d all.1 (omega (arith, le)) b.1 ends) [
        | inl near ↦ inl (omega (arith, near, here))
        | inr far ↦ inr ((same ∙ b.0, far.0), far.1, omega (arith, far.2), omega (arith, far.3, here))
      ])
]

name_len_lower : (x : ℕ) (r : List ℕ) → is_ascii_lowercase x ≡ true → name_len (x ∷ r) ≡ run 32 (x ∷ r)
unfolding name_len
name_len_lower x r is = ap (λ b. cond b (run 32 (x ∷ r)) 0) is

pub name_stands : (xs r d : List ℕ) → IsName xs → Begins xs r d → EndsWord d → name_len r ≡ length xs
name_stands [] r d is b ends = absurd is.first
name_stands (y ∷ xs) [] d is b ends = absurd b
name_stands (y ∷ xs) (x ∷ r) d is b ends =
    name_len_lower x r (lower_true x (subst IsAsciiLowercase (sym b.0) is.first)) ∙ run_stands 32 (y ∷ xs) (x ∷ r) d (all_of (y ∷ xs) is.letters) is.short b ends

pub name_far : (xs r c d : List ℕ) → IsName xs → Begins xs c d → EndsWord d → Far (name_len r) xs r c d
name_far [] r c d is b ends = absurd is.first
name_far (y ∷ xs) r [] d is b ends = absurd b
name_far (y ∷ xs) [] (q ∷ c) d is b ends = inl (omega arith)
name_far (y ∷ xs) (x ∷ r) (q ∷ c) d is b ends = elim (cases_eq x q) [
  | inr differ ↦ inl (omega (arith, agree_none x q r c differ))
  | inl same ↦ subst (λ k. Far k (y ∷ xs) (x ∷ r) (q ∷ c) d) (sym (name_len_lower x r (lower_true x (subst IsAsciiLowercase (sym (same ∙ b.0)) is.first)))) (run_far 32 (y ∷ xs) (x ∷ r) (q ∷ c) d (all_of (y ∷ xs) is.letters) is.short b ends)
]

name_len-le : (r : List ℕ) → name_len r ≤ length r
unfolding name_len
name_len-le [] = omega arith
name_len-le (x ∷ r) = elim (cases_Bool (is_ascii_lowercase x)) [
  | inl is ↦ omega (arith, name_len_lower x r is, run-le 32 (x ∷ r))
  | inr isn't ↦ (let e : name_len (x ∷ r) ≡ 0 = ap (λ b. cond b (run 32 (x ∷ r)) 0) isn't in omega (arith, e))
]

begins_take : (k : ℕ) (r : List ℕ) → k ≤ length r → Begins (take k r) r (drop k r)
begins_take zero r le = refl
begins_take (suc k) [] le = absurd (omega (arith, le))
begins_take (suc k) (x ∷ r) le = (refl, begins_take k r (omega (arith, le)))

pub agree_take : (k : ℕ) (r e : List ℕ) → k ≤ length r → k ≤ agree r (take k r ++ e)
agree_take zero r e le = omega arith
agree_take (suc k) [] e le = absurd (omega (arith, le))
agree_take (suc k) (x ∷ r) e le = omega (arith, agree_some x x r (take k r ++ e) refl, agree_take k r e (omega (arith, le)))

-- Behind spaces.
abbrev Names : Part Token
Names = OneOf IsNameToken

stuck_spaced : (n : ℕ) (a : List ℕ) → n ≤ length (skip a) → ((t : Token) (c d : List ℕ) → IsNameToken t → Reading t c d → agree (skip a) c + n ≤ length (skip a)) → IsStuck Names a n
stuck_spaced n [] le each = (le, λ c d t r. omega (arith, le))
stuck_spaced n (x ∷ a) le each = elim (cases_eq x 32) [
  | inl space ↦
      let same = skip_space x a space in
      let rest = stuck_spaced n a (subst (λ u. n ≤ length u) same le) (λ t c d is r. subst (λ u. agree u c + n ≤ length u) same (each t c d is r)) in
      (omega (arith, rest.0), λ c d t r. at_space space rest c d t r)
  | inr other ↦
      let same = skip_other x a other in
      (subst (λ u. n ≤ length u) same le, λ c d t r. at_other other (subst (λ u. n ≤ length u) same le) (λ s e f is q. subst (λ u. agree u e + n ≤ length u) same (each s e f is q)) c d t r)
]
  where
    at_space : x ≡ 32 → IsStuck Names a n → (c d : List ℕ) (t : Token) → Names c d t → agree (x ∷ a) c + n ≤ suc (length a)
    at_space space rest [] d t r = omega (arith, rest.0)
    at_space space rest (y ∷ c) d t r = elim r.1 [
      | inl begins ↦ omega (arith, rest.0, agree_none x y a c (λ e. no_space t y c d (proper_name t r.0) begins (sym e ∙ space)))
      | inr more ↦ omega (arith, agree_some x y a c (space ∙ sym more.0), rest.1 c d t (r.0, more.1))
    ]

    at_other : x ≢ 32 → n ≤ suc (length a) → ((t : Token) (c d : List ℕ) → IsNameToken t → Reading t c d → agree (x ∷ a) c + n ≤ suc (length a)) → (c d : List ℕ) (t : Token) → Names c d t → agree (x ∷ a) c + n ≤ suc (length a)
    at_other other le each [] d t r = omega (arith, le)
    at_other other le each (y ∷ c) d t r = elim r.1 [
      | inl begins ↦ each t (y ∷ c) d r.0 begins
      | inr more ↦ omega (arith, le, agree_none x y a c (λ e. other (e ∙ more.0)))
    ]

open_spaced : (t : Token) → IsNameToken t → (n : ℕ) (a : List ℕ) → n ≤ length (skip a) → ((e : List ℕ) → length (skip a) ≤ agree (skip a) (text_of t e) + n) → IsOpenAt Names a n
open_spaced t is n [] le each = (t, λ e ends. (32 ∷ text_of t e, (is, inr (refl, spaced_of t (text_of t e) e (reads_text t e ends))), omega arith, inr not_word_space))
open_spaced t is n (x ∷ a) le each = elim (cases_eq x 32) [
  | inl space ↦
      let same = skip_space x a space in
      let (s, rest) = open_spaced t is n a (subst (λ u. n ≤ length u) same le) (λ e. subst (λ u. length u ≤ agree u (text_of t e) + n) same (each e)) in (
        s,
        λ e ends. (let (c, has, far, may) = rest e ends in
            let here = agree_some x x a c refl in
            (x ∷ c, (has.0, inr (space, has.1)), omega (arith, here, far), inl (omega (arith, here)))),
      )
  | inr other ↦
      let same = skip_other x a other in
      (t, λ e ends. at_other e ends (subst (λ u. length u ≤ agree u (text_of t e) + n) same (each e)) (cases_eq (agree (x ∷ a) (text_of t e)) 0))
]
  where
    at_other : (e : List ℕ) → EndsWord e → suc (length a) ≤ agree (x ∷ a) (text_of t e) + n → ((agree (x ∷ a) (text_of t e) ≡ 0) ⊎ (agree (x ∷ a) (text_of t e) ≢ 0)) → (c : List ℕ) × Names c e t × (suc (length a) ≤ agree (x ∷ a) c + n) × MayFollow (x ∷ a) c
    at_other e ends far (inl none) = (32 ∷ text_of t e, (is, inr (refl, spaced_of t (text_of t e) e (reads_text t e ends))), omega (arith, far, none), inr not_word_space)
    at_other e ends far (inr some) = (text_of t e, (is, spaced_of t (text_of t e) e (reads_text t e ends)), far, inl (omega (arith, some)))

skip_names : (t : Token) → IsProper t → (a b : List ℕ) → Spaced t a b → Reading t (skip a) b
skip_names t p [] b r = r
skip_names t p (x ∷ a) b (inl r) = subst (λ u. Reading t u b) (sym (skip_other x a (no_space t x a b p r))) r
skip_names t p (x ∷ a) b (inr r) = subst (λ u. Reading t u b) (sym (skip_space x a r.0)) (skip_names t p a b r.1)

names_skip : (t : Token) (a b : List ℕ) → Reading t (skip a) b → Spaced t a b
names_skip t [] b r = r
names_skip t (x ∷ a) b r = elim (cases_eq x 32) [
  | inl space ↦ inr (space, names_skip t a b (subst (λ u. Reading t u b) (skip_space x a space) r))
  | inr other ↦ inl (subst (λ u. Reading t u b) (skip_other x a other) r)
]

-- What is left where no name stands.
dead_name : (a s : List ℕ) → skip a ≡ s → (n : ℕ) → n ≤ length s
    → ((t : Token) (c d : List ℕ) → IsNameToken t → Reading t c d → agree s c + n ≤ length s)
    → ((t : Token) (b : List ℕ) → IsNameToken t → Reading t s b → ⊥)
    → (t : Token) → IsNameToken t → ((e : List ℕ) → length s ≤ agree s (text_of t e) + n)
    → IsAnswer Names Names a (Err (bad n))
dead_name a s same n le each none t is far =
    let stuck = stuck_spaced n a (subst (λ u. n ≤ length u) (sym same) le) (λ u c d named_u r. subst (λ v. agree v c + n ≤ length v) (sym same) (each u c d named_u r)) in
    let (rest, front, whole, long) = last_bytes a n stuck.0 in
    let begins = open_spaced t is n a (subst (λ u. n ≤ length u) (sym same) le) (λ e. subst (λ u. length u ≤ agree u (text_of t e) + n) (sym same) (far e)) in (
      rest,
      record {
        front = front;
        whole = whole;
        long = long;
        stuck = stuck;
        begins = begins;
        none = λ b u r. none u b r.0 (subst (λ v. Reading u v b) same (skip_names u (proper_name u r.0) a b r.1));
      },
      λ m opens_it. (n, omega (arith, opens_some rest m opens_it), stuck),
    )

-- what names end with
quote_is : (r : List ℕ) → begins_quote r ≡ true → r ≡ 34 ∷ drop 1 r
quote_is [] is = cc
quote_is (x ∷ r) is = (let e : x ≡ 34 = grind (arith, nat_tests) in ap (λ y. y ∷ r) e)

quote_not : (r d : List ℕ) → begins_quote r ≡ false → agree r (34 ∷ d) ≡ 0
quote_not [] d is = refl
quote_not (x ∷ r) d is = agree_none x 34 r d (λ e. (let test : (x == 34) ≡ true = grind (arith, nat_tests) in cc (test, is)))

not_empty_name : (xs : List ℕ) → IsName xs → length xs ≡ 0 → ⊥
not_empty_name [] is e = is.first
not_empty_name (x ∷ xs) is e = absurd (omega (arith, e))

begins_drop : (xs r b : List ℕ) → Begins xs r b → drop (length xs) r ≡ b
begins_drop [] r b s = s
begins_drop (x ∷ xs) [] b s = absurd s
begins_drop (x ∷ xs) (y ∷ r) b s = begins_drop xs r b s.1

named_cases : (xs : List ℕ) (n : ℕ) → ((length xs ≡ 0) × (named xs n ≡ Err (bad n))) ⊎ ((1 ≤ length xs) × (named xs n ≡ Ok xs))
named_cases [] n = inl (refl, refl)
named_cases (x ∷ xs) n = inr (omega arith, refl)

length_taken : (r : List ℕ) → length (take (name_len r) r) ≡ name_len r
length_taken r = omega (arith, length-take (name_len r) r, name_len-le r)

-- Without quotation marks.
abbrev BareCase : List ℕ → Result (List ℕ × List ℕ) Refusal → Type 0
BareCase s r = ((1 ≤ name_len s) × (ends_word (drop (name_len s) s) ≡ true) × (r ≡ Ok (take (name_len s) s, drop (name_len s) s)))
    ⊎ ((r ≡ Err (bad (length s - name_len s))) × ((name_len s ≡ 0) ⊎ (ends_word (drop (name_len s) s) ≡ false)))

bare_case : (s : List ℕ) → BareCase s (bare_at s)
unfolding bare_at
bare_case s = by_end (ends_word (drop (name_len s) s)) refl
  where
    by_end : (e : Bool) → ends_word (drop (name_len s) s) ≡ e → BareCase s (cond e (named (take (name_len s) s) (length s) >>= λ name. Ok (name, drop (name_len s) s)) (Err (bad (length s - name_len s))))
    by_end false is = inr (refl, inr is)
    by_end true is = elim (named_cases (take (name_len s) s) (length s)) [
      | inl none ↦ (let zero_len : name_len s ≡ 0 = omega (arith, none.0, length_taken s) in
          inr (ap (λ r. r >>= λ name. Ok (name, drop (name_len s) s)) none.1 ∙ ap (λ n. Err (bad n)) (omega (arith, zero_len)), inl zero_len))
      | inr some ↦ inl (omega (arith, some.0, length_taken s), is, ap (λ r. r >>= λ name. Ok (name, drop (name_len s) s)) some.1)
    ]

abbrev NameAnswer : List ℕ → Result (List ℕ × List ℕ) Refusal → Type 0
NameAnswer a r = (t : Result (Token × List ℕ) Refusal) × (r ≡ mapped name_in t) × IsAnswer Names Names a t

word_apart : (s : List ℕ) → begins_quote s ≡ false → (xs c d : List ℕ) → Reading (quoted xs) c d → agree s c ≡ 0
word_apart s is xs [] d r = absurd r
word_apart s is xs (y ∷ c) d r = subst (λ z. agree s (z ∷ c) ≡ 0) (sym r.0) (quote_not s c is)

bare_answer : (a s : List ℕ) → skip a ≡ s → begins_quote s ≡ false → NameAnswer a (bare_at s)
bare_answer a s same no_quote = elim (bare_case s) [
  | inl found ↦ (let is = name_taken s (omega (arith, found.0, length_taken s)) in
      let reads = names_skip (word (take (name_len s) s)) a (drop (name_len s) s) (subst (λ u. Reading (word (take (name_len s) s)) u (drop (name_len s) s)) (sym same) (begins_take (name_len s) s (name_len-le s), ends_word_is (drop (name_len s) s) found.1)) in
      (Ok (word (take (name_len s) s), drop (name_len s) s), found.2, ((is, reads), (is, reads))))
  | inr none ↦ (Err (bad (length s - name_len s)), none.0, dead none.1 (cases_eq (name_len s) 0))
]
  where
    near : ((name_len s ≡ 0) ⊎ (ends_word (drop (name_len s) s) ≡ false)) → (t : Token) (c d : List ℕ) → IsNameToken t → Reading t c d → agree s c + (length s - name_len s) ≤ length s
    near why (symbol x) c d is r = absurd is
    near why (quoted xs) c d is r = omega (arith, word_apart s no_quote xs c d r)
    near why (word xs) c d is r = elim (name_far xs s c d is r.0 r.1) [
      | inl close ↦ omega (arith, close, name_len-le s)
      | inr far ↦ elim why [
        | inl zero_len ↦ absurd (not_empty_name xs is (sym far.2 ∙ zero_len))
        | inr goes_on ↦ absurd (ends_word_not (drop (name_len s) s) goes_on far.1)
      ]
    ]

    none_stands : ((name_len s ≡ 0) ⊎ (ends_word (drop (name_len s) s) ≡ false)) → (t : Token) (b : List ℕ) → IsNameToken t → Reading t s b → ⊥
    none_stands why (symbol x) b is r = is
    none_stands why (quoted xs) b is r = quoted_not s no_quote b r
      where
        quoted_not : (u : List ℕ) → begins_quote u ≡ false → (v : List ℕ) → Reading (quoted xs) u v → ⊥
        quoted_not [] e v q = q
        quoted_not (y ∷ u) e v q = (let test : (y == 34) ≡ true = grind (arith, nat_tests, q.0) in cc (test, e))
    none_stands why (word xs) b is r = (let long = name_stands xs s b is r.0 r.1 in elim why [
      | inl zero_len ↦ not_empty_name xs is (sym long ∙ zero_len)
      | inr goes_on ↦ ends_word_not (drop (name_len s) s) goes_on (subst EndsWord (sym (ap (λ k. drop k s) long ∙ begins_drop xs s b r.0)) r.1)
    ])

    dead : ((name_len s ≡ 0) ⊎ (ends_word (drop (name_len s) s) ≡ false)) → ((name_len s ≡ 0) ⊎ (name_len s ≢ 0)) → IsAnswer Names Names a (Err (bad (length s - name_len s)))
    dead why (inl zero_len) = dead_name a s same (length s - name_len s) (omega arith) (near why) (none_stands why) (word (97 ∷ [])) name_a (λ e. omega (arith, zero_len))
    dead why (inr some) = dead_name a s same (length s - name_len s) (omega arith) (near why) (none_stands why) (word (take (name_len s) s)) (name_taken s (omega (arith, some, length_taken s)))
        (λ e. omega (arith, agree_take (name_len s) s e (name_len-le s)))

-- In quotation marks.
abbrev QuotedCase : List ℕ → Result (List ℕ × List ℕ) Refusal → Type 0
QuotedCase s r = ((1 ≤ name_len s) × (begins_quote (drop (name_len s) s) ≡ true) × (r ≡ Ok (take (name_len s) s, drop 1 (drop (name_len s) s))))
    ⊎ ((r ≡ Err (bad (length s - name_len s))) × ((name_len s ≡ 0) ⊎ (begins_quote (drop (name_len s) s) ≡ false)))

quoted_case : (s : List ℕ) → QuotedCase s (quoted_at s)
unfolding quoted_at
quoted_case s = by_end (begins_quote (drop (name_len s) s)) refl
  where
    by_end : (e : Bool) → begins_quote (drop (name_len s) s) ≡ e → QuotedCase s (cond e (named (take (name_len s) s) (length s) >>= λ name. Ok (name, drop 1 (drop (name_len s) s))) (Err (bad (length s - name_len s))))
    by_end false is = inr (refl, inr is)
    by_end true is = elim (named_cases (take (name_len s) s) (length s)) [
      | inl none ↦ (let zero_len : name_len s ≡ 0 = omega (arith, none.0, length_taken s) in
          inr (ap (λ r. r >>= λ name. Ok (name, drop 1 (drop (name_len s) s))) none.1 ∙ ap (λ n. Err (bad n)) (omega (arith, zero_len)), inl zero_len))
      | inr some ↦ inl (omega (arith, some.0, length_taken s), is, ap (λ r. r >>= λ name. Ok (name, drop 1 (drop (name_len s) s))) some.1)
    ]

quoted_answer : (a r : List ℕ) → skip a ≡ 34 ∷ r → NameAnswer a (quoted_at r)
quoted_answer a r same = elim (quoted_case r) [
  | inl found ↦ (let is = name_taken r (omega (arith, found.0, length_taken r)) in
      let rest = drop 1 (drop (name_len r) r) in
      let reads : Reading (quoted (take (name_len r) r)) (34 ∷ r) rest = (refl, subst (Begins (take (name_len r) r) r) (quote_is (drop (name_len r) r) found.1) (begins_take (name_len r) r (name_len-le r))) in
      let spaced = names_skip (quoted (take (name_len r) r)) a rest (subst (λ u. Reading (quoted (take (name_len r) r)) u rest) (sym same) reads) in
      (Ok (quoted (take (name_len r) r), rest), found.2, ((is, spaced), (is, spaced))))
  | inr none ↦ (Err (bad (length r - name_len r)), none.0, dead none.1 (cases_eq (name_len r) 0))
]
  where
    letter_apart : (xs c d : List ℕ) → IsName xs → Begins xs c d → agree (34 ∷ r) c ≡ 0
    letter_apart [] c d is b = absurd is.first
    letter_apart (x ∷ xs) [] d is b = absurd b
    letter_apart (x ∷ xs) (y ∷ c) d is b = agree_none 34 y r c (λ e. omega (arith, e, b.0, is.first))

    near : ((name_len r ≡ 0) ⊎ (begins_quote (drop (name_len r) r) ≡ false)) → (t : Token) (c d : List ℕ) → IsNameToken t → Reading t c d → agree (34 ∷ r) c + (length r - name_len r) ≤ suc (length r)
    near why (symbol x) c d is q = absurd is
    near why (word xs) c d is q = omega (arith, letter_apart xs c d is q.0)
    near why (quoted xs) [] d is q = absurd q
    near why (quoted xs) (y ∷ c) d is q = (let here = agree_some 34 y r c (sym q.0) in elim (name_far xs r c (34 ∷ d) is q.1 not_word_quote) [
      | inl close ↦ omega (arith, here, close, name_len-le r)
      | inr far ↦ elim why [
        | inl zero_len ↦ absurd (not_empty_name xs is (sym far.2 ∙ zero_len))
        | inr goes_on ↦ omega (arith, here, far.3, quote_not (drop (name_len r) r) d goes_on, name_len-le r)
      ]
    ])

    none_stands : ((name_len r ≡ 0) ⊎ (begins_quote (drop (name_len r) r) ≡ false)) → (t : Token) (b : List ℕ) → IsNameToken t → Reading t (34 ∷ r) b → ⊥
    none_stands why (symbol x) b is q = is
    none_stands why (word []) b is q = is.first
    none_stands why (word (x ∷ xs)) b is q = omega (arith, q.0.0, is.first)
    none_stands why (quoted xs) b is q = (let long = name_stands xs r (34 ∷ b) is q.1 not_word_quote in elim why [
      | inl zero_len ↦ not_empty_name xs is (sym long ∙ zero_len)
      | inr goes_on ↦ quote_there (drop (name_len r) r) (ap (λ k. drop k r) long ∙ begins_drop xs r (34 ∷ b) q.1) goes_on
    ])
      where
        quote_there : (u : List ℕ) → u ≡ 34 ∷ b → begins_quote u ≡ false → ⊥
        quote_there u e f = (let test : begins_quote u ≡ true = ap begins_quote e in cc (test, f))

    dead : ((name_len r ≡ 0) ⊎ (begins_quote (drop (name_len r) r) ≡ false)) → ((name_len r ≡ 0) ⊎ (name_len r ≢ 0)) → IsAnswer Names Names a (Err (bad (length r - name_len r)))
    dead why (inl zero_len) = dead_name a (34 ∷ r) same (length r - name_len r) (omega arith) (near why) (none_stands why) (quoted (97 ∷ [])) name_a
        (λ e. omega (arith, zero_len, agree_some 34 34 r ((97 ∷ []) ++ 34 ∷ e) refl))
    dead why (inr some) = dead_name a (34 ∷ r) same (length r - name_len r) (omega arith) (near why) (none_stands why) (quoted (take (name_len r) r)) (name_taken r (omega (arith, some, length_taken r)))
        (λ e. omega (arith, agree_some 34 34 r (take (name_len r) r ++ 34 ∷ e) refl, agree_take (name_len r) r (34 ∷ e) (name_len-le r)))

name_answer : (a : List ℕ) → NameAnswer a (name_at a)
unfolding name_at
name_answer a = by_quote (begins_quote (skip a)) refl
  where
    by_quote : (q : Bool) → begins_quote (skip a) ≡ q → NameAnswer a (cond q (quoted_at (drop 1 (skip a))) (bare_at (skip a)))
    by_quote true is = quoted_answer a (drop 1 (skip a)) (quote_is (skip a) is)
    by_quote false is = bare_answer a (skip a) refl is

regular_names : IsRegular Names
regular_names = regular_one_of IsNameToken proper_name (word (97 ∷ [])) name_a

pub reads_name : Reads name_part name_part name_at
reads_name = record {
  regular = regular_name;
  loose = regular_name;
  exact = λ a. (let (t, is, answers) = name_answer a in
      subst (IsAnswer name_part name_part a) (sym is) (answer_mapped name_in Names Names regular_names regular_names a t answers));
}
