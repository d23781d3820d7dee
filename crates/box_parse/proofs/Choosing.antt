-- A choice of tokens is answered exactly, also where no token may stand that opens a level.
use Rattle.codex_values.specs.Tokens.{IsWordByte, EndsWord}
use Rattle.std.proofs.Common.{◌≡◌, ◌≢◌, ℕ, zero, suc, ◌+◌, ◌-◌, ◌<◌, ◌≤◌, ◌⊎◌, inl, inr, max, Bool, true, false, cond, not, ◌||◌, ◌&&◌, nat_lt, List, [], ◌∷◌, ◌++◌, length, drop, refl, sym, ap, subst, ◌∙◌, arith, Option, Some, None, Result, Ok, Err, is_some, length-append}
use Rattle.std.proofs.lemmas.Bool.Decides.{nat_tests}
use Rattle.std.proofs.lemmas.Bool.{cases_eq, cases_lt, cases_Bool}
use Rattle.box_parse.proofs.Answers.{IsAnswer, IsDeadEnd, open_read, opens_some, last_bytes}
use Rattle.box_parse.specs.inner.ReaderOnLists.{Refusal, bad, deep, skip, is_word_byte, ends_word, is_word, head_bytes, after_head, found, choose_from, choose_at, opens, innermost_at, head_at, first_at}
use Rattle.two_d.proofs.Agree.{agree, Part, IsRegular, IsStuck, IsOpenAt}
use Rattle.two_d.proofs.Choices.{best, proper_of, stuck_left, left_at_space, left_at_other}
use Rattle.two_d.proofs.Heads.{Head, IsAmong, OneHead, spelled, spelt, plain, regular_head, stuck_head, open_head, paren, paren_end, bracket, bracket_end, comma, north, west, left, right}
use Rattle.two_d.proofs.Parts.{heads}
use Rattle.two_d.proofs.Tokens.{Begins, Reads, IsProper, Spaced, begins_is, agree_none, agree_some, no_space}
use Rattle.two_d.specs.Grammar as grammar
use Rattle.two_d.specs.Grammar.{OpensLevel}

-- Words end where the test says so.
word_byte_is : (x : ℕ) → is_word_byte x ≡ true → IsWordByte x
word_byte_is x is = grind (arith, nat_tests)

word_byte_not : (x : ℕ) → is_word_byte x ≡ false → IsWordByte x → ⊥
word_byte_not x is there = grind (arith, nat_tests)

pub ends_word_is : (a : List ℕ) → ends_word a ≡ true → EndsWord a
ends_word_is [] is = tt
ends_word_is (x ∷ a) is = elim (cases_Bool (is_word_byte x)) [
  | inl yes_it_is ↦ absurd (true_not_false (sym is ∙ ap not yes_it_is))
  | inr no_it_isn't ↦ word_byte_not x no_it_isn't
]
  where
    true_not_false : true ≡ false → ⊥
    true_not_false e = cc

pub ends_word_not : (a : List ℕ) → ends_word a ≡ false → EndsWord a → ⊥
ends_word_not [] is ends = cc
ends_word_not (x ∷ a) is ends = elim (cases_Bool (is_word_byte x)) [
  | inl yes_it_is ↦ ends (word_byte_is x yes_it_is)
  | inr no_it_isn't ↦ true_not_false (sym (ap not no_it_isn't) ∙ is)
]
  where
    true_not_false : true ≡ false → ⊥
    true_not_false e = cc

-- The bytes stand there exactly where the texts agree on all of them.
agrees_begins : (xs a : List ℕ) → length xs ≤ agree xs a → Begins xs a (drop (length xs) a)
agrees_begins [] a all = refl
agrees_begins (x ∷ xs) [] all = absurd (omega (arith, all))
agrees_begins (x ∷ xs) (y ∷ a) all = elim (cases_eq x y) [
  | inl same ↦ (sym same, agrees_begins xs a (omega (arith, all, agree_some x y xs a same)))
  | inr differ ↦ absurd (omega (arith, all, agree_none x y xs a differ))
]

begins_agrees : (xs a b : List ℕ) → Begins xs a b → (length xs ≤ agree xs a) × (drop (length xs) a ≡ b)
begins_agrees [] a b r = (omega arith, r)
begins_agrees (x ∷ xs) [] b r = absurd r
begins_agrees (x ∷ xs) (y ∷ a) b r = (let rest = begins_agrees xs a b r.1 in (omega (arith, rest.0, agree_some x y xs a (sym r.0)), rest.1))

-- what a token reads, by its bytes and whether it is a word
abbrev ReadsBytes : List ℕ → Bool → List ℕ → List ℕ → Type 0
ReadsBytes xs true a b = Begins xs a b × EndsWord b
ReadsBytes xs false a b = Begins xs a b

reads_bytes : (h : Head) (a b : List ℕ) → ReadsBytes (head_bytes h) (is_word h) a b → Reads (spelled h) a b
reads_bytes paren a b r = r
reads_bytes paren_end a b r = r
reads_bytes bracket a b r = r
reads_bytes bracket_end a b r = r
reads_bytes comma a b r = r
reads_bytes h a b r = r

bytes_read : (h : Head) (a b : List ℕ) → Reads (spelled h) a b → ReadsBytes (head_bytes h) (is_word h) a b
bytes_read paren a b r = r
bytes_read paren_end a b r = r
bytes_read bracket a b r = r
bytes_read bracket_end a b r = r
bytes_read comma a b r = r
bytes_read h a b r = r

-- as `after_head`, of bytes
abbrev after_bytes : List ℕ → Bool → List ℕ → Option (List ℕ)
after_bytes xs w a = cond (nat_lt (agree xs a) (length xs)) None (cond (w && not (ends_word (drop (length xs) a))) None (Some (drop (length xs) a)))

lt-true : (m n : ℕ) → nat_lt m n ≡ true → m < n
lt-true m n e = grind (arith, nat_tests)

lt-false : (m n : ℕ) → nat_lt m n ≡ false → n ≤ m
lt-false m n e = grind (arith, nat_tests)

-- the token stands there, or it doesn't
abbrev Stands : List ℕ → Bool → List ℕ → Option (List ℕ) → Type 0
Stands xs w a (Some b) = ReadsBytes xs w a b
Stands xs w a None = (b : List ℕ) → ReadsBytes xs w a b → ⊥

begins_of : (xs : List ℕ) (w : Bool) (a b : List ℕ) → ReadsBytes xs w a b → Begins xs a b
begins_of xs true a b r = r.0
begins_of xs false a b r = r

stands : (xs : List ℕ) (w : Bool) (a : List ℕ) → Stands xs w a (after_bytes xs w a)
stands xs w a = by_length (nat_lt (agree xs a) (length xs)) refl
  where
    by_end : (e : Bool) → ends_word (drop (length xs) a) ≡ e → (v : Bool) → length xs ≤ agree xs a → Stands xs v a (cond (v && not e) None (Some (drop (length xs) a)))
    by_end true is true all = (agrees_begins xs a all, ends_word_is (drop (length xs) a) is)
    by_end true is false all = agrees_begins xs a all
    by_end false is true all = λ b r. ends_word_not (drop (length xs) a) is (subst EndsWord (sym (begins_agrees xs a b r.0).1) r.1)
    by_end false is false all = agrees_begins xs a all

    by_length : (less : Bool) → nat_lt (agree xs a) (length xs) ≡ less → Stands xs w a (cond less None (cond (w && not (ends_word (drop (length xs) a))) None (Some (drop (length xs) a))))
    by_length true is = λ b r. (let all = (begins_agrees xs a b (begins_of xs w a b r)).0 in absurd (omega (arith, all, lt-true (agree xs a) (length xs) is)))
    by_length false is = by_end (ends_word (drop (length xs) a)) refl w (lt-false (agree xs a) (length xs) is)

pub after_some : (h : Head) (a b : List ℕ) → after_head h a ≡ Some b → Reads (spelled h) a b
unfolding after_head
after_some h a b is = reads_bytes h a b (subst (Stands (head_bytes h) (is_word h) a) is (stands (head_bytes h) (is_word h) a))

pub after_none : (h : Head) (a : List ℕ) → after_head h a ≡ None → (b : List ℕ) → Reads (spelled h) a b → ⊥
unfolding after_head
after_none h a is b r = subst (Stands (head_bytes h) (is_word h) a) is (stands (head_bytes h) (is_word h) a) b (bytes_read h a b r)

-- Behind spaces.
proper : (h : Head) → IsProper (spelled h)
proper h = proper_of (spelled h) (plain h)

pub skip_space : (x : ℕ) (a : List ℕ) → x ≡ 32 → skip (x ∷ a) ≡ skip a
skip_space x a e = grind (arith, nat_tests)

pub skip_other : (x : ℕ) (a : List ℕ) → x ≢ 32 → skip (x ∷ a) ≡ x ∷ a
skip_other x a e = grind (arith, nat_tests)

pub skip_end : (a : List ℕ) → (front : List ℕ) × (a ≡ front ++ skip a)
skip_end [] = ([], refl)
skip_end (x ∷ a) = elim (cases_eq x 32) [
  | inl space ↦ (let (front, is) = skip_end a in (x ∷ front, ap (λ u. x ∷ u) is ∙ ap (λ u. (x ∷ front) ++ u) (sym (skip_space x a space))))
  | inr other ↦ ([], sym (skip_other x a other))
]

spaced_skip : (h : Head) (a b : List ℕ) → Reads (spelled h) (skip a) b → Spaced (spelled h) a b
spaced_skip h [] b r = r
spaced_skip h (x ∷ a) b r = elim (cases_eq x 32) [
  | inl space ↦ inr (space, spaced_skip h a b (subst (λ u. Reads (spelled h) u b) (skip_space x a space) r))
  | inr other ↦ inl (subst (λ u. Reads (spelled h) u b) (skip_other x a other) r)
]

skip_spaced : (h : Head) (a b : List ℕ) → Spaced (spelled h) a b → Reads (spelled h) (skip a) b
skip_spaced h [] b r = r
skip_spaced h (x ∷ a) b (inl r) = subst (λ u. Reads (spelled h) u b) (sym (skip_other x a (no_space (spelled h) x a b (proper h) r))) r
skip_spaced h (x ∷ a) b (inr r) = subst (λ u. Reads (spelled h) u b) (sym (skip_space x a r.0)) (skip_spaced h a b r.1)

left_skip : (hs : List Head) (a : List ℕ) → stuck_left (spelt hs) a ≡ length (skip a) - best (spelt hs) (skip a)
left_skip hs [] = omega arith
left_skip hs (x ∷ a) = elim (cases_eq x 32) [
  | inl space ↦ (left_at_space (spelt hs) x a space ∙ left_skip hs a ∙ ap (λ u. length u - best (spelt hs) u) (sym (skip_space x a space)))
  | inr other ↦ (left_at_other (spelt hs) x a other ∙ ap (λ u. length u - best (spelt hs) u) (sym (skip_other x a other)))
]

-- One of the tokens stands behind the spaces, or none does.
abbrev Chosen : List Head → Refusal → List ℕ → Result (Head × List ℕ) Refusal → Type 0
Chosen hs e a r = ((h : Head) × (b : List ℕ) × (r ≡ Ok (h, b)) × IsAmong hs h × Reads (spelled h) a b) ⊎ ((r ≡ Err e) × ((h : Head) (b : List ℕ) → IsAmong hs h → Reads (spelled h) a b → ⊥))

chosen : (hs : List Head) (e : Refusal) (a : List ℕ) → Chosen hs e a (choose_from hs e a)
chosen [] e a = inr (refl, λ h b i r. i)
chosen (h ∷ hs) e a = go (after_head h a) refl (chosen hs e a)
  where
    go : (o : Option (List ℕ)) → after_head h a ≡ o → Chosen hs e a (choose_from hs e a) → Chosen (h ∷ hs) e a (found h o (choose_from hs e a))
    go (Some b) is others = inl (h, b, refl, inl refl, after_some h a b is)
    go None is (inl (g, b, same, there, reads)) = inl (g, b, same, inr there, reads)
    go None is (inr (same, none)) = inr (same, λ g b i r. elim i [ inl e ↦ after_none h a is b (subst (λ u. Reads (spelled u) a b) (sym e) r) | inr there ↦ none g b there r ])

-- what is left where none of the tokens stands
pub dead_choice : (h : Head) (hs : List Head) (a : List ℕ) → ((g : Head) (b : List ℕ) → OneHead (h ∷ hs) a b g → ⊥) → (rest : List ℕ) × IsDeadEnd (OneHead (h ∷ hs)) a rest (stuck_left (spelt (h ∷ hs)) a)
dead_choice h hs a none =
    let stuck = stuck_head (h ∷ hs) a none in
    let (rest, front, whole, long) = last_bytes a (stuck_left (spelt (h ∷ hs)) a) stuck.0 in
    (rest, record { front = front; whole = whole; long = long; stuck = stuck; none = λ b g r. none g b r; begins = open_head h hs a })

abbrev pub ChosenAt : List Head → List ℕ → Result (Head × List ℕ) Refusal → Type 0
ChosenAt hs a r = ((h : Head) × (b : List ℕ) × (r ≡ Ok (h, b)) × OneHead hs a b h) ⊎ ((r ≡ Err (bad (stuck_left (spelt hs) a))) × ((h : Head) (b : List ℕ) → OneHead hs a b h → ⊥))

pub chosen_at : (hs : List Head) (a : List ℕ) → ChosenAt hs a (choose_at hs a)
unfolding choose_at
chosen_at hs a = elim (chosen hs (bad (length (skip a) - best (spelt hs) (skip a))) (skip a)) [
  | inl (h, b, is, there, reads) ↦ inl (h, b, is, (there, spaced_skip h a b reads))
  | inr (is, none) ↦ inr (is ∙ ap (λ n. Err (bad n)) (sym (left_skip hs a)), λ h b one. none h b one.0 (skip_spaced h a b one.1))
]

pub answer_choice : (h : Head) (hs : List Head) (a : List ℕ) → IsAnswer (OneHead (h ∷ hs)) (OneHead (h ∷ hs)) a (choose_at (h ∷ hs) a)
answer_choice h hs a = elim (chosen_at (h ∷ hs) a) [
  | inl (g, b, is, one) ↦ rw is (one, one)
  | inr (is, none) ↦ rw is (let (rest, dead) = dead_choice h hs a none in (rest, dead, λ m opens. (stuck_left (spelt (h ∷ hs)) a, omega (arith, opens_some rest m opens), dead.stuck)))
]

-- Where no token may stand that opens a level.
abbrev pub Openers : List Head
Openers = paren ∷ left ∷ right ∷ []

-- tokens none of which opens a level or begins as one that does
pub record AreLeaves (hs : List Head) : Type 0 where
  pub apart : (g : Head) → IsAmong hs g → IsAmong Openers g → ⊥
  pub at_paren : (a : List ℕ) → best (spelt hs) (40 ∷ a) ≡ 0
  pub at_letter : (a : List ℕ) → best (spelt hs) (73 ∷ a) ≡ 0

among_left : (hs gs : List Head) (h : Head) → IsAmong hs h → IsAmong (hs ++ gs) h
among_left [] gs h i = absurd i
among_left (g ∷ hs) gs h (inl e) = inl e
among_left (g ∷ hs) gs h (inr i) = inr (among_left hs gs h i)

among_right : (hs gs : List Head) (h : Head) → IsAmong gs h → IsAmong (hs ++ gs) h
among_right [] gs h i = i
among_right (g ∷ hs) gs h i = inr (among_right hs gs h i)

among_either : (hs gs : List Head) (h : Head) → IsAmong (hs ++ gs) h → IsAmong hs h ⊎ IsAmong gs h
among_either [] gs h i = inr i
among_either (g ∷ hs) gs h (inl e) = inl (inl e)
among_either (g ∷ hs) gs h (inr i) = elim (among_either hs gs h i) [ inl there ↦ inl (inr there) | inr there ↦ inr there ]

best-append : (hs gs : List Head) (a : List ℕ) → best (spelt (hs ++ gs)) a ≡ max (best (spelt hs) a) (best (spelt gs) a)
best-append [] gs a = omega arith
best-append (h ∷ hs) gs a = omega (arith, best-append hs gs a)

abbrev Opens : List ℕ → Bool → Type 0
Opens a t = ((g : Head) × (b : List ℕ) × IsAmong Openers g × Reads (spelled g) a b × (t ≡ true)) ⊎ ((t ≡ false) × ((g : Head) (b : List ℕ) → IsAmong Openers g → Reads (spelled g) a b → ⊥))

opens_is : (a : List ℕ) → Opens a (opens a)
opens_is a = go (after_head paren a) (after_head left a) (after_head right a) refl refl refl
  where
    go : (p l r : Option (List ℕ)) → after_head paren a ≡ p → after_head left a ≡ l → after_head right a ≡ r → Opens a ((is_some p || is_some l) || is_some r)
    go (Some b) l r ep el er = inl (paren, b, inl refl, after_some paren a b ep, refl)
    go None (Some b) r ep el er = inl (left, b, inr (inl refl), after_some left a b el, refl)
    go None None (Some b) ep el er = inl (right, b, inr (inr (inl refl)), after_some right a b er, refl)
    go None None None ep el er = inr (
      refl,
      λ g b i r. elim i [
        | inl e ↦ after_none paren a ep b (subst (λ u. Reads (spelled u) a b) (sym e) r)
        | inr more ↦ elim more [
          | inl e ↦ after_none left a el b (subst (λ u. Reads (spelled u) a b) (sym e) r)
          | inr more ↦ elim more [ inl e ↦ after_none right a er b (subst (λ u. Reads (spelled u) a b) (sym e) r) | inr none ↦ none ]
        ]
      ],
    )

-- what an opener's reading says of the text
abbrev OpenedBy : List ℕ → List ℕ → Type 0
OpenedBy a b = (m : ℕ) × OpensLevel a m × (length b + m ≡ length a) × (x : ℕ) × (r : List ℕ) × (a ≡ x ∷ r) × ((x ≡ 40) ⊎ (x ≡ 73))

opened_paren : (a b : List ℕ) → a ≡ 40 ∷ b → OpenedBy a b
opened_paren a b e = (1, subst (λ u. OpensLevel u 1) (sym e) grammar.parens, omega (arith, ap length e), 40, b, e, inl refl)

opened_left : (a b : List ℕ) → EndsWord b → a ≡ 73 ∷ 110 ∷ 108 ∷ b → OpenedBy a b
opened_left a b ends e = (3, subst (λ u. OpensLevel u 3) (sym e) (grammar.inl ends), omega (arith, ap length e), 73, 110 ∷ 108 ∷ b, e, inr refl)

opened_right : (a b : List ℕ) → EndsWord b → a ≡ 73 ∷ 110 ∷ 114 ∷ b → OpenedBy a b
opened_right a b ends e = (3, subst (λ u. OpensLevel u 3) (sym e) (grammar.inr ends), omega (arith, ap length e), 73, 110 ∷ 114 ∷ b, e, inr refl)

opened : (g : Head) (a b : List ℕ) → IsAmong Openers g → Reads (spelled g) a b → OpenedBy a b
opened paren a b i r = opened_paren a b (begins_is (40 ∷ []) a b r)
opened left a b i r = opened_left a b r.1 (begins_is (73 ∷ 110 ∷ 108 ∷ []) a b r.0)
opened right a b i r = opened_right a b r.1 (begins_is (73 ∷ 110 ∷ 114 ∷ []) a b r.0)
opened g a b i r = elim i [
  | inl e ↦ cc
  | inr more ↦ elim more [ inl e ↦ cc | inr more ↦ elim more [ inl e ↦ cc | inr none ↦ absurd none ] ]
]

level_opens : (a : List ℕ) (m : ℕ) → OpensLevel a m → (g : Head) × (b : List ℕ) × IsAmong Openers g × Reads (spelled g) a b
level_opens _ _ (grammar.parens {b}) = (paren, b, inl refl, (refl, refl))
level_opens _ _ (grammar.inl {b} ends) = (left, b, inr (inl refl), ((refl, (refl, (refl, refl))), ends))
level_opens _ _ (grammar.inr {b} ends) = (right, b, inr (inr (inl refl)), ((refl, (refl, (refl, refl))), ends))

best_at_opener : (hs : List Head) → AreLeaves hs → (a : List ℕ) (x : ℕ) (r : List ℕ) → a ≡ x ∷ r → (x ≡ 40) ⊎ (x ≡ 73) → best (spelt hs) a ≡ 0
best_at_opener hs leaves a x r is (inl e) = ap (best (spelt hs)) (is ∙ ap (λ y. y ∷ r) e) ∙ leaves.at_paren r
best_at_opener hs leaves a x r is (inr e) = ap (best (spelt hs)) (is ∙ ap (λ y. y ∷ r) e) ∙ leaves.at_letter r

same_end : (f g r s : List ℕ) → f ++ r ≡ g ++ s → length r ≡ length s → r ≡ s
same_end [] [] r s e long = e
same_end [] (y ∷ g) r s e long = absurd (omega (arith, ap length e, length-append (y ∷ g) s, long))
same_end (x ∷ f) [] r s e long = absurd (omega (arith, ap length e, length-append (x ∷ f) r, long))
same_end (x ∷ f) (y ∷ g) r s e long = same_end f g r s (cc e) long

openers_other : (x : ℕ) (r : List ℕ) → x ≢ 40 → x ≢ 73 → best (spelt Openers) (x ∷ r) ≡ 0
openers_other x r paren_not letter_not =
    omega (arith, agree_none 40 x [] r (λ e. paren_not (sym e)), agree_none 73 x (110 ∷ 108 ∷ []) r (λ e. letter_not (sym e)), agree_none 73 x (110 ∷ 114 ∷ []) r (λ e. letter_not (sym e)))

module _ (h : Head) (hs : List Head) (leaves : AreLeaves (h ∷ hs)) (a : List ℕ) where
  abbrev Strict : Part Head
  Strict = OneHead (h ∷ hs)

  abbrev Loose : Part Head
  Loose = OneHead (h ∷ hs ++ Openers)

  regular_loose : IsRegular Loose
  regular_loose = regular_head h (hs ++ Openers)

  deep_answer : (g : Head) (b : List ℕ) → IsAmong Openers g → Reads (spelled g) (skip a) b → IsAnswer Strict Loose a (Err (deep (length (skip a))))
  deep_answer g b there reads =
      let (m, opens_it, long, x, r, is, which) = opened g (skip a) b there reads in
      let here : Loose a b g = (among_right (h ∷ hs) Openers g there, spaced_skip g a b reads) in
      let none = λ (k : Head) (c : List ℕ) (one : Strict a c k). (let same = regular_loose.functional a c b k g (among_left (h ∷ hs) Openers k one.0, one.1) here in
      leaves.apart g (subst (IsAmong (h ∷ hs)) same.1 one.0) there) in
      let (rest, dead) = dead_choice h hs a none in
      let (front, whole) = skip_end a in
      let left_is : stuck_left (spelt (h ∷ hs)) a ≡ length (skip a) = left_skip (h ∷ hs) a ∙ omega (arith, best_at_opener (h ∷ hs) leaves (skip a) x r is which) in (
        skip a,
        record {
          front = front;
          whole = whole;
          long = refl;
          stuck = subst (IsStuck Strict a) left_is dead.stuck;
          none = dead.none;
          begins = subst (IsOpenAt Strict a) left_is dead.begins;
        },
        (m, length b, opens_it, long, open_read Loose regular_loose.free a b g here),
      )

  shallow_at : ((g : Head) (b : List ℕ) → IsAmong Openers g → Reads (spelled g) (skip a) b → ⊥) → (rest : List ℕ) → IsDeadEnd Strict a rest (stuck_left (spelt (h ∷ hs)) a) → (m : ℕ) → OpensLevel rest m → stuck_left (spelt (h ∷ hs)) a + 1 ≤ stuck_left (spelt (h ∷ hs ++ Openers)) a + m
  shallow_at none rest dead m opens_it = by_best (cases_lt (best (spelt (h ∷ hs)) (skip a)) (best (spelt Openers) (skip a)))
    where
      by_best : ((best (spelt (h ∷ hs)) (skip a) < best (spelt Openers) (skip a)) ⊎ (best (spelt Openers) (skip a) ≤ best (spelt (h ∷ hs)) (skip a))) → stuck_left (spelt (h ∷ hs)) a + 1 ≤ stuck_left (spelt (h ∷ hs ++ Openers)) a + m
      by_best (inr less) = omega (arith, less, left_skip (h ∷ hs) a, left_skip (h ∷ hs ++ Openers) a, best-append (h ∷ hs) Openers (skip a), opens_some rest m opens_it)
      by_best (inl more) = by_text (skip a) refl
        where
          opened_there : (x : ℕ) (r : List ℕ) → skip a ≡ x ∷ r → (x ≡ 40) ⊎ (x ≡ 73) → ⊥
          opened_there x r is which =
              let (front, whole) = skip_end a in
              let none_of = best_at_opener (h ∷ hs) leaves (skip a) x r is which in
              let same = same_end dead.front front rest (skip a) (sym dead.whole ∙ whole) (omega (arith, dead.long, left_skip (h ∷ hs) a, none_of)) in
              let (g, b, there, reads) = level_opens (skip a) m (subst (λ u. OpensLevel u m) same opens_it) in
              none g b there reads

          by_text : (t : List ℕ) → skip a ≡ t → stuck_left (spelt (h ∷ hs)) a + 1 ≤ stuck_left (spelt (h ∷ hs ++ Openers)) a + m
          by_text [] is = absurd (omega (arith, more, ap (best (spelt Openers)) is))
          by_text (x ∷ r) is = elim (cases_eq x 40) [
            | inl e ↦ absurd (opened_there x r is (inl e))
            | inr paren_not ↦ elim (cases_eq x 73) [
              | inl e ↦ absurd (opened_there x r is (inr e))
              | inr letter_not ↦ absurd (omega (arith, more, ap (best (spelt Openers)) is, openers_other x r paren_not letter_not))
            ]
          ]

  choice_answer : ((g : Head) (b : List ℕ) → IsAmong Openers g → Reads (spelled g) (skip a) b → ⊥) → (r : Result (Head × List ℕ) Refusal) → ChosenAt (h ∷ hs) a r → IsAnswer Strict Loose a r
  choice_answer closed r (inl (g, b, is, one)) = subst (IsAnswer Strict Loose a) (sym is) (one, (among_left (h ∷ hs) Openers g one.0, one.1))
  choice_answer closed r (inr (is, none)) =
      let (rest, dead) = dead_choice h hs a none in
      let loosely_none = λ (g : Head) (b : List ℕ) (one : Loose a b g). elim (among_either (h ∷ hs) Openers g one.0) as (λ _. ⊥) [
        | inl there ↦ none g b (there, one.1)
        | inr opener ↦ closed g b opener (skip_spaced g a b one.1)
      ] in
      subst (IsAnswer Strict Loose a) (sym is) (
        rest,
        dead,
        λ m opens_it.
            (stuck_left (spelt (h ∷ hs ++ Openers)) a, shallow_at closed rest dead m opens_it, stuck_head (h ∷ hs ++ Openers) a loosely_none),
      )

  pub answer_innermost : IsAnswer Strict Loose a (innermost_at (h ∷ hs) a)
  unfolding innermost_at
  answer_innermost = by_test (opens (skip a)) (opens_is (skip a))
    where
      by_test : (t : Bool) → Opens (skip a) t → IsAnswer Strict Loose a (cond t (Err (deep (length (skip a)))) (choose_at (h ∷ hs) a))
      by_test t (inl (g, b, there, reads, is)) = subst (λ u. IsAnswer Strict Loose a (cond u (Err (deep (length (skip a)))) (choose_at (h ∷ hs) a))) (sym is) (deep_answer g b there reads)
      by_test t (inr (is, closed)) = subst (λ u. IsAnswer Strict Loose a (cond u (Err (deep (length (skip a)))) (choose_at (h ∷ hs) a))) (sym is) (choice_answer closed (choose_at (h ∷ hs) a) (chosen_at (h ∷ hs) a))

leaves_exp : AreLeaves (north ∷ west ∷ [])
leaves_exp = record {
  apart = λ g i o. elim i as (λ _. ⊥) [
    | inl e ↦ not_opener g north e o (λ e. cc) (λ e. cc) (λ e. cc)
    | inr more ↦ elim more as (λ _. ⊥) [ inl e ↦ not_opener g west e o (λ e. cc) (λ e. cc) (λ e. cc) | inr none ↦ none ]
  ];
  at_paren = λ a. refl;
  at_letter = λ a. refl;
}
  where
    not_opener : (g h : Head) → h ≡ g → IsAmong Openers g → (paren ≡ h → ⊥) → (left ≡ h → ⊥) → (right ≡ h → ⊥) → ⊥
    not_opener g h same (inl e) p l r = p (e ∙ sym same)
    not_opener g h same (inr (inl e)) p l r = l (e ∙ sym same)
    not_opener g h same (inr (inr (inl e))) p l r = r (e ∙ sym same)
    not_opener g h same (inr (inr (inr none))) p l r = none

leaves_inside : AreLeaves (paren_end ∷ north ∷ west ∷ [])
leaves_inside = record {
  apart = λ g i o. elim i as (λ _. ⊥) [ inl e ↦ end_not g e o | inr more ↦ leaves_exp.apart g more o ];
  at_paren = λ a. refl;
  at_letter = λ a. refl;
}
  where
    end_not : (g : Head) → paren_end ≡ g → IsAmong Openers g → ⊥
    end_not g same (inl e) = cc
    end_not g same (inr (inl e)) = cc
    end_not g same (inr (inr (inl e))) = cc
    end_not g same (inr (inr (inr none))) = none

-- The first token of an expression, and that behind `(`.
pub answer_head : (d D : ℕ) → d < D → (a : List ℕ) → IsAnswer (OneHead (heads d)) (OneHead (heads D)) a (head_at d a)
unfolding head_at
answer_head zero zero less a = absurd (omega (arith, less))
answer_head zero (suc D) less a = answer_innermost north (west ∷ []) leaves_exp a
answer_head (suc d) zero less a = absurd (omega (arith, less))
answer_head (suc d) (suc D) less a = answer_choice north (west ∷ paren ∷ left ∷ right ∷ []) a

pub answer_first : (d D : ℕ) → d < D → (a : List ℕ) → IsAnswer (OneHead (paren_end ∷ heads d)) (OneHead (paren_end ∷ heads D)) a (first_at d a)
unfolding first_at
answer_first zero zero less a = absurd (omega (arith, less))
answer_first zero (suc D) less a = answer_innermost paren_end (north ∷ west ∷ []) leaves_inside a
answer_first (suc d) zero less a = absurd (omega (arith, less))
answer_first (suc d) (suc D) less a = answer_choice paren_end (north ∷ west ∷ paren ∷ left ∷ right ∷ []) a
