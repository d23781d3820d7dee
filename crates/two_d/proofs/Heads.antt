-- The tokens of commands by name.
use Rattle.codex_values.specs.Tokens.{IsWordByte}
use Rattle.std.proofs.Common.{◌≡◌, ℕ, ◌≤◌, ◌⊎◌, inl, inr, cond, eqb, List, [], ◌∷◌, refl, sym, ap, subst, ◌∙◌, arith}
use Rattle.two_d.proofs.Agree.{Part, IsStuck, IsOpenAt, IsRegular}
use Rattle.two_d.proofs.Choices.{IsIn, IsPlain, ArePlain, proper_of, stuck_left, stuck_one_of, open_one_of}
use Rattle.two_d.proofs.Tokens.{Token, symbol, word, quoted, IsProper, Spaced, text_of, spaced_of, reads_text, not_word_space, spaced_once, spaced_alike, again_spaced, leaves_spaced}

pub data Head : Type 0 where
  paren paren_end bracket bracket_end comma : Head
  north west left right south east : Head
  send case of split called : Head

abbrev pub spelled : Head → Token
spelled paren = symbol 40
spelled paren_end = symbol 41
spelled bracket = symbol 91
spelled bracket_end = symbol 93
spelled comma = symbol 44
spelled north = word (78 ∷ [])
spelled west = word (87 ∷ [])
spelled left = word (73 ∷ 110 ∷ 108 ∷ [])
spelled right = word (73 ∷ 110 ∷ 114 ∷ [])
spelled south = word (83 ∷ [])
spelled east = word (69 ∷ [])
spelled send = word (115 ∷ 101 ∷ 110 ∷ 100 ∷ [])
spelled case = word (99 ∷ 97 ∷ 115 ∷ 101 ∷ [])
spelled of = word (111 ∷ 102 ∷ [])
spelled split = word (115 ∷ 112 ∷ 108 ∷ 105 ∷ 116 ∷ [])
spelled called = word (117 ∷ 115 ∷ 101 ∷ [])

-- the name of a spelling
abbrev symbol_named : ℕ → Head
symbol_named x = cond (eqb x 40) paren (cond (eqb x 41) paren_end (cond (eqb x 91) bracket (cond (eqb x 93) bracket_end comma)))

abbrev word_named : List ℕ → Head
word_named [] = north
word_named (x ∷ []) = cond (eqb x 78) north (cond (eqb x 87) west (cond (eqb x 83) south east))
word_named (x ∷ y ∷ []) = of
word_named (x ∷ y ∷ z ∷ []) = cond (eqb x 117) called (cond (eqb z 108) left right)
word_named (x ∷ y ∷ z ∷ u ∷ []) = cond (eqb x 99) case send
word_named (x ∷ y ∷ z ∷ u ∷ v ∷ more) = split

abbrev named : Token → Head
named (symbol x) = symbol_named x
named (word xs) = word_named xs
named (quoted xs) = north

named-spelled : (h : Head) → named (spelled h) ≡ h
named-spelled paren = refl
named-spelled paren_end = refl
named-spelled bracket = refl
named-spelled bracket_end = refl
named-spelled comma = refl
named-spelled north = refl
named-spelled west = refl
named-spelled left = refl
named-spelled right = refl
named-spelled south = refl
named-spelled east = refl
named-spelled send = refl
named-spelled case = refl
named-spelled of = refl
named-spelled split = refl
named-spelled called = refl

spelled_once : (g h : Head) → spelled g ≡ spelled h → g ≡ h
spelled_once g h same = sym (named-spelled g) ∙ ap named same ∙ named-spelled h

lower : (b : ℕ) → 97 ≤ b → b ≤ 122 → IsWordByte b
lower b least most = inl (least, most)

upper : (b : ℕ) → 65 ≤ b → b ≤ 90 → IsWordByte b
upper b least most = inr (inl (least, most))

pub plain : (h : Head) → IsPlain (spelled h)
plain paren = ((λ e. omega (arith, e)), (λ e. omega (arith, e)), (λ is. grind (arith, is)))
plain paren_end = ((λ e. omega (arith, e)), (λ e. omega (arith, e)), (λ is. grind (arith, is)))
plain bracket = ((λ e. omega (arith, e)), (λ e. omega (arith, e)), (λ is. grind (arith, is)))
plain bracket_end = ((λ e. omega (arith, e)), (λ e. omega (arith, e)), (λ is. grind (arith, is)))
plain comma = ((λ e. omega (arith, e)), (λ e. omega (arith, e)), (λ is. grind (arith, is)))
plain north = (upper 78 (omega arith) (omega arith), tt)
plain west = (upper 87 (omega arith) (omega arith), tt)
plain left = (upper 73 (omega arith) (omega arith), (lower 110 (omega arith) (omega arith), (lower 108 (omega arith) (omega arith), tt)))
plain right = (upper 73 (omega arith) (omega arith), (lower 110 (omega arith) (omega arith), (lower 114 (omega arith) (omega arith), tt)))
plain south = (upper 83 (omega arith) (omega arith), tt)
plain east = (upper 69 (omega arith) (omega arith), tt)
plain send = (lower 115 (omega arith) (omega arith), (lower 101 (omega arith) (omega arith), (lower 110 (omega arith) (omega arith), (lower 100 (omega arith) (omega arith), tt))))
plain case = (lower 99 (omega arith) (omega arith), (lower 97 (omega arith) (omega arith), (lower 115 (omega arith) (omega arith), (lower 101 (omega arith) (omega arith), tt))))
plain of = (lower 111 (omega arith) (omega arith), (lower 102 (omega arith) (omega arith), tt))
plain split = (lower 115 (omega arith) (omega arith), (lower 112 (omega arith) (omega arith), (lower 108 (omega arith) (omega arith), (lower 105 (omega arith) (omega arith), (lower 116 (omega arith) (omega arith), tt)))))
plain called = (lower 117 (omega arith) (omega arith), (lower 115 (omega arith) (omega arith), (lower 101 (omega arith) (omega arith), tt)))

abbrev pub IsAmong : List Head → Head → Type 0
IsAmong [] h = ⊥
IsAmong (g ∷ hs) h = (g ≡ h) ⊎ IsAmong hs h

-- one of these tokens, after spaces
abbrev pub OneHead : List Head → Part Head
OneHead hs a b h = IsAmong hs h × Spaced (spelled h) a b

proper : (h : Head) → IsProper (spelled h)
proper h = proper_of (spelled h) (plain h)

pub regular_head : (h : Head) (hs : List Head) → IsRegular (OneHead (h ∷ hs))
regular_head h hs = record {
  leaves = λ a b g r. leaves_spaced (spelled g) a b r.1;
  functional = λ a b c g k r q. (let same = spaced_once (spelled g) (spelled k) a b c (proper g) (proper k) r.1 q.1 in (same.0, spelled_once g k same.1));
  local = λ a b g c d k r q. elim (spaced_alike (spelled g) (spelled k) a b c d (proper g) (proper k) r.1 q.1) [
    | inl apart ↦ inl apart
    | inr alike ↦ inr (spelled_once g k alike.0, alike.1)
  ];
  free = λ a b g d r may. (let (c, has, far, some) = again_spaced (spelled g) a b d (proper g) r.1 may in (c, (r.0, has), far, inl some));
  fillable = (h, λ e ends. (32 ∷ text_of (spelled h) e, (inl refl, inr (refl, spaced_of (spelled h) (text_of (spelled h) e) e (reads_text (spelled h) e ends))), not_word_space));
}

abbrev pub spelt : List Head → List Token
spelt [] = []
spelt (h ∷ hs) = spelled h ∷ spelt hs

plain_all : (hs : List Head) → ArePlain (spelt hs)
plain_all [] = tt
plain_all (h ∷ hs) = (plain h, plain_all hs)

among_in : (hs : List Head) (h : Head) → IsAmong hs h → IsIn (spelt hs) (spelled h)
among_in [] h i = absurd i
among_in (g ∷ hs) h (inl e) = inl (ap spelled e)
among_in (g ∷ hs) h (inr i) = inr (among_in hs h i)

in_among : (hs : List Head) (t : Token) → IsIn (spelt hs) t → (h : Head) × IsAmong hs h × (spelled h ≡ t)
in_among [] t i = absurd i
in_among (g ∷ hs) t (inl e) = (g, inl refl, e)
in_among (g ∷ hs) t (inr i) = (let (h, there, is) = in_among hs t i in (h, inr there, is))

pub stuck_head : (hs : List Head) (a : List ℕ) → ((h : Head) (b : List ℕ) → OneHead hs a b h → ⊥) → IsStuck (OneHead hs) a (stuck_left (spelt hs) a)
stuck_head hs a never =
    let stuck = stuck_one_of (spelt hs) a (plain_all hs) (λ t b r. (let (h, there, is) = in_among hs t r.0 in never h b (there, subst (λ u. Spaced u a b) (sym is) r.1))) in
    (stuck.0, λ c d h r. stuck.1 c d (spelled h) (among_in hs h r.0, r.1))

pub open_head : (h : Head) (hs : List Head) (a : List ℕ) → IsOpenAt (OneHead (h ∷ hs)) a (stuck_left (spelt (h ∷ hs)) a)
open_head h hs a =
    let (t, each) = open_one_of (spelled h) (spelt hs) a (plain_all (h ∷ hs)) in
    let (g, there, is) = in_among (h ∷ hs) t (each [] tt).1.0 in (
      g,
      λ e ends.
          let (c, has, far, may) = each e ends in
          (c, (there, subst (λ u. Spaced u c e) (sym is) has.1), far, may),
    )
