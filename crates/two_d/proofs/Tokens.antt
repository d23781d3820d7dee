-- Tokens are regular parts of a grammar.
use Rattle.codex_values.specs.Tokens.{IsWordByte, EndsWord}
use Rattle.std.proofs.Common.{◌≡◌, ◌≢◌, ℕ, ◌+◌, ◌≤◌, ◌⊎◌, inl, inr, List, [], ◌∷◌, ◌++◌, length, refl, sym, ap, subst, ◌∙◌, arith, append_assoc}
use Rattle.std.proofs.lemmas.Bool.Decides.{nat_tests}
use Rattle.std.proofs.lemmas.Bool.{cases_eq}
use Rattle.std.specs.List.{AllByRecursion}
use Rattle.two_d.proofs.Agree.{agree, Part, IsRegular, MayFollow}

-- a single byte, a word, or a word in quotation marks
pub data Token : Type 0 where
  symbol : ℕ → Token
  word quoted : List ℕ → Token

-- the text is these bytes and then b
abbrev pub Begins : List ℕ → List ℕ → List ℕ → Type 0
Begins [] a b = a ≡ b
Begins (x ∷ xs) [] b = ⊥
Begins (x ∷ xs) (y ∷ a) b = (y ≡ x) × Begins xs a b

-- the text is the word in quotation marks, and then b
abbrev pub BeginsQuoted : List ℕ → List ℕ → List ℕ → Type 0
BeginsQuoted xs [] b = ⊥
BeginsQuoted xs (y ∷ a) b = (y ≡ 34) × Begins xs a (34 ∷ b)

abbrev pub Reads : Token → List ℕ → List ℕ → Type 0
Reads (symbol x) a b = Begins (x ∷ []) a b
Reads (word xs) a b = Begins xs a b × EndsWord b
Reads (quoted xs) a b = BeginsQuoted xs a b

abbrev pub IsProper : Token → Type 0
IsProper (symbol x) = (x ≢ 32) × (x ≢ 34) × (IsWordByte x → ⊥)
IsProper (word []) = ⊥
IsProper (word (x ∷ xs)) = IsWordByte x × AllByRecursion IsWordByte xs
IsProper (quoted xs) = AllByRecursion IsWordByte xs

abbrev pub Alike : {V : Type 0} → V → V → List ℕ → List ℕ → List ℕ → List ℕ → Type 0
Alike v w a b c d = (agree a c + length b ≤ length a) ⊎ ((v ≡ w) × (agree a c + length b ≡ length a + agree b d))

-- different first bytes
pub agree_none : (x y : ℕ) (a c : List ℕ) → x ≢ y → agree (x ∷ a) (y ∷ c) ≡ 0
agree_none x y a c apart = grind (arith, nat_tests)

pub agree_some : (x y : ℕ) (a c : List ℕ) → x ≡ y → agree (x ∷ a) (y ∷ c) ≡ 1 + agree a c
agree_some x y a c same = grind (arith, nat_tests)

pub agree-le : (xs ys : List ℕ) → agree xs ys ≤ length ys
agree-le [] ys = omega arith
agree-le (x ∷ xs) [] = omega arith
agree-le (x ∷ xs) (y ∷ ys) = elim (cases_eq x y) [
  | inl same ↦ omega (arith, agree_some x y xs ys same, agree-le xs ys)
  | inr differ ↦ omega (arith, agree_none x y xs ys differ)
]

pub not_word_space : IsWordByte 32 → ⊥
not_word_space w = grind arith

pub not_word_quote : IsWordByte 34 → ⊥
not_word_quote w = grind arith

-- a text that ends a word agrees with no text that goes on with one
pub agree_ends : (a : List ℕ) (y : ℕ) (c : List ℕ) → EndsWord a → IsWordByte y → agree a (y ∷ c) ≡ 0
agree_ends [] y c ends is = refl
agree_ends (x ∷ a) y c ends is = agree_none x y a c (λ e. ends (subst IsWordByte (sym e) is))

pub agree_ends' : (a : List ℕ) (y : ℕ) (c : List ℕ) → EndsWord a → IsWordByte y → agree (y ∷ c) a ≡ 0
agree_ends' [] y c ends is = refl
agree_ends' (x ∷ a) y c ends is = agree_none y x c a (λ e. ends (subst IsWordByte e is))

pub length-Begins : (xs a b : List ℕ) → Begins xs a b → length a ≡ length xs + length b
length-Begins [] a b s = ap length s ∙ omega arith
length-Begins (x ∷ xs) [] b s = absurd s
length-Begins (x ∷ xs) (y ∷ a) b s = omega (arith, length-Begins xs a b s.1)

words_alike : (xs ys a b c d : List ℕ) → AllByRecursion IsWordByte xs → AllByRecursion IsWordByte ys → Begins xs a b → EndsWord b → Begins ys c d → EndsWord d → Alike xs ys a b c d
words_alike [] [] a b c d wx wy sa eb sc ed = inr (refl, (let same : agree a c ≡ agree b d = cc in omega (arith, ap length sa)))
words_alike [] (y ∷ ys) a b [] d wx wy sa eb sc ed = absurd sc
words_alike [] (y ∷ ys) a b (z ∷ c) d wx wy sa eb sc ed =
    inl (omega (arith, agree_ends a z c (subst EndsWord (sym sa) eb) (subst IsWordByte (sym sc.0) wy.0), ap length sa))
words_alike (x ∷ xs) [] [] b c d wx wy sa eb sc ed = absurd sa
words_alike (x ∷ xs) [] (z ∷ a) b c d wx wy sa eb sc ed =
    inl (omega (arith, agree_ends' c z a (subst EndsWord (sym sc) ed) (subst IsWordByte (sym sa.0) wx.0), length-Begins xs a b sa.1))
words_alike (x ∷ xs) (y ∷ ys) [] b c d wx wy sa eb sc ed = absurd sa
words_alike (x ∷ xs) (y ∷ ys) (p ∷ a) b [] d wx wy sa eb sc ed = absurd sc
words_alike (x ∷ xs) (y ∷ ys) (p ∷ a) b (q ∷ c) d wx wy sa eb sc ed = elim (cases_eq p q) [
  | inl same ↦ elim (words_alike xs ys a b c d wx.1 wy.1 sa.1 eb sc.1 ed) [
    | inl apart ↦ inl (omega (arith, agree_some p q a c same, apart))
    | inr alike ↦ inr (cc (alike.0, sa.0, sc.0, same), omega (arith, agree_some p q a c same, alike.1))
  ]
  | inr differ ↦ inl (omega (arith, agree_none p q a c differ, length-Begins xs a b sa.1))
]

quoted_alike : (xs ys a b c d : List ℕ) → AllByRecursion IsWordByte xs → AllByRecursion IsWordByte ys → BeginsQuoted xs a b → BeginsQuoted ys c d → Alike xs ys a b c d
quoted_alike xs ys [] b c d px py ra rc = absurd ra
quoted_alike xs ys (p ∷ a) b [] d px py ra rc = absurd rc
quoted_alike xs ys (p ∷ a) b (q ∷ c) d px py ra rc =
    let first = agree_some p q a c (ra.0 ∙ sym rc.0) in
    let then = agree_some 34 34 b d refl in
    elim (words_alike xs ys a (34 ∷ b) c (34 ∷ d) px py ra.1 not_word_quote rc.1 not_word_quote) [
      | inl apart ↦ inl (omega (arith, first, apart))
      | inr alike ↦ inr (alike.0, omega (arith, first, then, alike.1))
    ]

-- the first bytes of a token, and that those of other kinds have others
abbrev pub HasFirst : Token → ℕ → Type 0
HasFirst (symbol x) y = y ≡ x
HasFirst (word []) y = ⊥
HasFirst (word (x ∷ xs)) y = y ≡ x
HasFirst (quoted xs) y = y ≡ 34

reads_first : (t : Token) (a b : List ℕ) → IsProper t → Reads t a b → (y : ℕ) × (more : List ℕ) × (a ≡ y ∷ more) × HasFirst t y
reads_first (symbol x) [] b p r = absurd r
reads_first (symbol x) (y ∷ a) b p r = (y, a, refl, r.0)
reads_first (word []) a b p r = absurd p
reads_first (word (x ∷ xs)) [] b p r = absurd r.0
reads_first (word (x ∷ xs)) (y ∷ a) b p r = (y, a, refl, r.0.0)
reads_first (quoted xs) [] b p r = absurd r
reads_first (quoted xs) (y ∷ a) b p r = (y, a, refl, r.0)

pub shrinks_token : (t : Token) (a b : List ℕ) → Reads t a b → length b ≤ length a
shrinks_token (symbol x) a b r = omega (arith, length-Begins (x ∷ []) a b r)
shrinks_token (word xs) a b r = omega (arith, length-Begins xs a b r.0)
shrinks_token (quoted xs) [] b r = absurd r
shrinks_token (quoted xs) (y ∷ a) b r = omega (arith, length-Begins xs a (34 ∷ b) r.1)

-- tokens of different kinds differ in their first bytes
kinds_apart : (t s : Token) (x y : ℕ) (a b c d : List ℕ) → Reads t (x ∷ a) b → x ≢ y → Alike t s (x ∷ a) b (y ∷ c) d
kinds_apart t s x y a b c d r apart = inl (omega (arith, agree_none x y a c apart, shrinks_token t (x ∷ a) b r))

-- one proper token or another, at the front of two texts
pub tokens_alike : (t s : Token) (a b c d : List ℕ) → IsProper t → IsProper s → Reads t a b → Reads s c d → Alike t s a b c d
tokens_alike t s [] b c d pt ps rt rs = (let (y, more, is, has) = reads_first t [] b pt rt in cc)
tokens_alike t s (x ∷ a) b [] d pt ps rt rs = (let (y, more, is, has) = reads_first s [] d ps rs in cc)
tokens_alike (word xs) (word ys) (p ∷ a) b (q ∷ c) d pt ps rt rs = words xs ys pt ps (words_alike xs ys (p ∷ a) b (q ∷ c) d (all xs pt) (all ys ps) rt.0 rt.1 rs.0 rs.1)
  where
    all : (zs : List ℕ) → IsProper (word zs) → AllByRecursion IsWordByte zs
    all [] p = absurd p
    all (z ∷ zs) p = p

    words : (us vs : List ℕ) → IsProper (word us) → IsProper (word vs) → Alike us vs (p ∷ a) b (q ∷ c) d → Alike (word us) (word vs) (p ∷ a) b (q ∷ c) d
    words us vs pu pv (inl apart) = inl apart
    words us vs pu pv (inr alike) = inr (ap word alike.0, alike.1)
tokens_alike (quoted xs) (quoted ys) (p ∷ a) b (q ∷ c) d pt ps rt rs = elim (quoted_alike xs ys (p ∷ a) b (q ∷ c) d pt ps rt rs) [
  | inl apart ↦ inl apart
  | inr alike ↦ inr (ap quoted alike.0, alike.1)
]
tokens_alike (symbol x) (symbol y) (p ∷ a) b (q ∷ c) d pt ps rt rs = elim (cases_eq p q) [
  | inl same ↦ inr (ap symbol (sym rt.0 ∙ same ∙ rs.0), (let rests : agree a c ≡ agree b d = cc in omega (arith, agree_some p q a c same, ap length rt.1)))
  | inr differ ↦ inl (omega (arith, agree_none p q a c differ, ap length rt.1))
]
tokens_alike (symbol x) (word []) (p ∷ a) b (q ∷ c) d pt ps rt rs = absurd ps
tokens_alike (symbol x) (word (y ∷ ys)) (p ∷ a) b (q ∷ c) d pt ps rt rs =
    kinds_apart (symbol x) (word (y ∷ ys)) p q a b c d rt (λ e. pt.2 (subst IsWordByte (sym (sym rt.0 ∙ e ∙ rs.0.0)) ps.0))
tokens_alike (symbol x) (quoted ys) (p ∷ a) b (q ∷ c) d pt ps rt rs =
    kinds_apart (symbol x) (quoted ys) p q a b c d rt (λ e. pt.1 (sym rt.0 ∙ e ∙ rs.0))
tokens_alike (word []) (symbol y) (p ∷ a) b (q ∷ c) d pt ps rt rs = absurd pt
tokens_alike (word (x ∷ xs)) (symbol y) (p ∷ a) b (q ∷ c) d pt ps rt rs =
    kinds_apart (word (x ∷ xs)) (symbol y) p q a b c d rt (λ e. ps.2 (subst IsWordByte (sym rt.0.0 ∙ e ∙ rs.0) pt.0))
tokens_alike (word []) (quoted ys) (p ∷ a) b (q ∷ c) d pt ps rt rs = absurd pt
tokens_alike (word (x ∷ xs)) (quoted ys) (p ∷ a) b (q ∷ c) d pt ps rt rs =
    kinds_apart (word (x ∷ xs)) (quoted ys) p q a b c d rt (λ e. not_word_quote (subst IsWordByte (sym rt.0.0 ∙ e ∙ rs.0) pt.0))
tokens_alike (quoted xs) (symbol y) (p ∷ a) b (q ∷ c) d pt ps rt rs =
    kinds_apart (quoted xs) (symbol y) p q a b c d rt (λ e. ps.1 (sym (sym rt.0 ∙ e ∙ rs.0)))
tokens_alike (quoted xs) (word []) (p ∷ a) b (q ∷ c) d pt ps rt rs = absurd ps
tokens_alike (quoted xs) (word (y ∷ ys)) (p ∷ a) b (q ∷ c) d pt ps rt rs =
    kinds_apart (quoted xs) (word (y ∷ ys)) p q a b c d rt (λ e. not_word_quote (subst IsWordByte (sym (sym rt.0 ∙ e ∙ rs.0.0)) ps.0))

-- spaces, and then the token
abbrev pub Spaced : Token → List ℕ → List ℕ → Type 0
Spaced t [] b = Reads t [] b
Spaced t (x ∷ a) b = Reads t (x ∷ a) b ⊎ ((x ≡ 32) × Spaced t a b)

-- one of some tokens
abbrev pub OneOf : (Token → Type 0) → Part Token
OneOf Allowed a b t = Allowed t × Spaced t a b

-- a proper token doesn't begin with a space, and isn't empty
pub not_empty : (t : Token) (b : List ℕ) → IsProper t → Reads t [] b → ⊥
not_empty t b p r = (let (y, more, is, has) = reads_first t [] b p r in cc)

first_no_space : (t : Token) (x : ℕ) → IsProper t → HasFirst t x → x ≢ 32
first_no_space (symbol y) x p h e = p.0 (sym h ∙ e)
first_no_space (word []) x p h e = p
first_no_space (word (y ∷ ys)) x p h e = not_word_space (subst IsWordByte (sym h ∙ e) p.0)
first_no_space (quoted ys) x p h e = absurd (omega (arith, h, e))

pub no_space : (t : Token) (x : ℕ) (a b : List ℕ) → IsProper t → Reads t (x ∷ a) b → x ≢ 32
no_space t x a b p r e = (let (y, more, is, has) = reads_first t (x ∷ a) b p r in
    let same : y ≡ x = cc in first_no_space t x p (subst (HasFirst t) same has) e)

pub shrinks_spaced : (t : Token) (a b : List ℕ) → Spaced t a b → length b ≤ length a
shrinks_spaced t [] b r = shrinks_token t [] b r
shrinks_spaced t (x ∷ a) b (inl r) = shrinks_token t (x ∷ a) b r
shrinks_spaced t (x ∷ a) b (inr r) = omega (arith, shrinks_spaced t a b r.1)

pub spaced_alike : (t s : Token) (a b c d : List ℕ) → IsProper t → IsProper s → Spaced t a b → Spaced s c d → Alike t s a b c d
spaced_alike t s [] b c d pt ps rt rs = absurd (not_empty t b pt rt)
spaced_alike t s (x ∷ a) b [] d pt ps rt rs = absurd (not_empty s d ps rs)
spaced_alike t s (x ∷ a) b (y ∷ c) d pt ps (inl rt) (inl rs) = tokens_alike t s (x ∷ a) b (y ∷ c) d pt ps rt rs
spaced_alike t s (x ∷ a) b (y ∷ c) d pt ps (inl rt) (inr rs) =
    inl (omega (arith, agree_none x y a c (λ e. no_space t x a b pt rt (e ∙ rs.0)), shrinks_token t (x ∷ a) b rt))
spaced_alike t s (x ∷ a) b (y ∷ c) d pt ps (inr rt) (inl rs) =
    inl (omega (arith, agree_none x y a c (λ e. no_space s y c d ps rs (sym e ∙ rt.0)), shrinks_spaced t a b rt.1))
spaced_alike t s (x ∷ a) b (y ∷ c) d pt ps (inr rt) (inr rs) = elim (spaced_alike t s a b c d pt ps rt.1 rs.1) [
  | inl apart ↦ inl (omega (arith, agree_some x y a c (rt.0 ∙ sym rs.0), apart))
  | inr alike ↦ inr (alike.0, omega (arith, agree_some x y a c (rt.0 ∙ sym rs.0), alike.1))
]

-- One text, read twice, is read alike.
begins_once : (xs a b c : List ℕ) → Begins xs a b → Begins xs a c → b ≡ c
begins_once [] a b c r s = sym r ∙ s
begins_once (x ∷ xs) [] b c r s = absurd r
begins_once (x ∷ xs) (y ∷ a) b c r s = begins_once xs a b c r.1 s.1

-- with a byte more at the end of a text that isn't cut short, "they agree no further" can't be
reads_more : (t : Token) (a b e : List ℕ) → EndsWord e → Reads t a b → Reads t (a ++ e) (b ++ e)
reads_more (symbol x) [] b e ends r = absurd r
reads_more (symbol x) (y ∷ a) b e ends r = (r.0, ap (λ l. l ++ e) r.1)
reads_more (word xs) a b e ends r = (begins_more xs a b r.0, still b r.1)
  where
    begins_more : (zs u v : List ℕ) → Begins zs u v → Begins zs (u ++ e) (v ++ e)
    begins_more [] u v s = ap (λ l. l ++ e) s
    begins_more (z ∷ zs) [] v s = absurd s
    begins_more (z ∷ zs) (y ∷ u) v s = (s.0, begins_more zs u v s.1)

    still : (v : List ℕ) → EndsWord v → EndsWord (v ++ e)
    still [] h = ends
    still (y ∷ v) h = h
reads_more (quoted xs) [] b e ends r = absurd r
reads_more (quoted xs) (y ∷ a) b e ends r = (r.0, begins_more xs a (34 ∷ b) r.1)
  where
    begins_more : (zs u v : List ℕ) → Begins zs u v → Begins zs (u ++ e) (v ++ e)
    begins_more [] u v s = ap (λ l. l ++ e) s
    begins_more (z ∷ zs) [] v s = absurd s
    begins_more (z ∷ zs) (q ∷ u) v s = (s.0, begins_more zs u v s.1)

pub agree_self : (a : List ℕ) → agree a a ≡ length a
agree_self [] = refl
agree_self (x ∷ a) = omega (arith, agree_some x x a a refl, agree_self a)

token_once : (t : Token) (a b c : List ℕ) → Reads t a b → Reads t a c → b ≡ c
token_once (symbol x) a b c r s = begins_once (x ∷ []) a b c r s
token_once (word xs) a b c r s = begins_once xs a b c r.0 s.0
token_once (quoted xs) [] b c r s = absurd r
token_once (quoted xs) (y ∷ a) b c r s = (let same = begins_once xs a (34 ∷ b) (34 ∷ c) r.1 s.1 in cc)

tokens_once : (t s : Token) (a b c : List ℕ) → IsProper t → IsProper s → Reads t a b → Reads s a c → t ≡ s
tokens_once t s a b c pt ps r q = elim (tokens_alike t s (a ++ 32 ∷ []) (b ++ 32 ∷ []) (a ++ 32 ∷ []) (c ++ 32 ∷ []) pt ps (reads_more t a b (32 ∷ []) not_word_space r) (reads_more s a c (32 ∷ []) not_word_space q)) [
  | inl apart ↦ absurd (omega (arith, agree_self (a ++ 32 ∷ []), apart, longer b))
  | inr alike ↦ alike.0
]
  where
    longer : (v : List ℕ) → 1 ≤ length (v ++ 32 ∷ [])
    longer [] = omega arith
    longer (x ∷ v) = omega arith

pub spaced_once : (t s : Token) (a b c : List ℕ) → IsProper t → IsProper s → Spaced t a b → Spaced s a c → (b ≡ c) × (t ≡ s)
spaced_once t s [] b c pt ps r q = absurd (not_empty t b pt r)
spaced_once t s (x ∷ a) b c pt ps (inl r) (inl q) =
    (let same = tokens_once t s (x ∷ a) b c pt ps r q in (token_once t (x ∷ a) b c r (subst (λ u. Reads u (x ∷ a) c) (sym same) q), same))
spaced_once t s (x ∷ a) b c pt ps (inl r) (inr q) = absurd (no_space t x a b pt r q.0)
spaced_once t s (x ∷ a) b c pt ps (inr r) (inl q) = absurd (no_space s x a c ps q r.0)
spaced_once t s (x ∷ a) b c pt ps (inr r) (inr q) = spaced_once t s a b c pt ps r.1 q.1

-- What stands before the rest.
pub begins_is : (xs a b : List ℕ) → Begins xs a b → a ≡ xs ++ b
begins_is [] a b r = r
begins_is (x ∷ xs) [] b r = absurd r
begins_is (x ∷ xs) (y ∷ a) b r = (let more = begins_is xs a b r.1 in cc (more, r.0))

leaves_token : (t : Token) (a b : List ℕ) → Reads t a b → (front : List ℕ) × (a ≡ front ++ b)
leaves_token (symbol x) a b r = (x ∷ [], begins_is (x ∷ []) a b r)
leaves_token (word xs) a b r = (xs, begins_is xs a b r.0)
leaves_token (quoted xs) [] b r = absurd r
leaves_token (quoted xs) (y ∷ a) b r = (
  34 ∷ xs ++ 34 ∷ [],
  (let more = begins_is xs a (34 ∷ b) r.1 in
      let grouped : xs ++ 34 ∷ b ≡ (xs ++ 34 ∷ []) ++ b = sym (append_assoc xs (34 ∷ []) b) in cc (more, grouped, r.0)),
)

pub leaves_spaced : (t : Token) (a b : List ℕ) → Spaced t a b → (front : List ℕ) × (a ≡ front ++ b)
leaves_spaced t [] b r = leaves_token t [] b r
leaves_spaced t (x ∷ a) b (inl r) = leaves_token t (x ∷ a) b r
leaves_spaced t (x ∷ a) b (inr r) = (let (front, is) = leaves_spaced t a b r.1 in (x ∷ front, cc is))

-- The rest may be another one.
follows_ends : (b d : List ℕ) → EndsWord b → MayFollow b d → EndsWord d
follows_ends b d ends (inr h) = h
follows_ends [] d ends (inl h) = absurd (omega (arith, h))
follows_ends (x ∷ b) [] ends (inl h) = tt
follows_ends (x ∷ b) (y ∷ d) ends (inl h) = elim (cases_eq x y) [
  | inl same ↦ subst (λ z. IsWordByte z → ⊥) same ends
  | inr differ ↦ absurd (omega (arith, h, agree_none x y b d differ))
]

again_begins : (xs a b d : List ℕ) → Begins xs a b → (c : List ℕ) × Begins xs c d × (agree a c ≡ length xs + agree b d)
again_begins [] a b d r = (d, refl, (let same : agree a d ≡ agree b d = cc in omega (arith, same)))
again_begins (x ∷ xs) [] b d r = absurd r
again_begins (x ∷ xs) (y ∷ a) b d r =
    (let (c, s, far) = again_begins xs a b d r.1 in (y ∷ c, (r.0, s), omega (arith, agree_some y y a c refl, far)))

again_token : (t : Token) (a b d : List ℕ) → IsProper t → Reads t a b → MayFollow b d → (c : List ℕ) × Reads t c d × (agree a c + length b ≡ length a + agree b d) × (1 ≤ agree a c)
again_token (symbol x) a b d p r may =
    (let (c, s, far) = again_begins (x ∷ []) a b d r in (c, s, omega (arith, far, length-Begins (x ∷ []) a b r), omega (arith, far)))
again_token (word []) a b d p r may = absurd p
again_token (word (x ∷ xs)) a b d p r may =
    (let (c, s, far) = again_begins (x ∷ xs) a b d r.0 in (c, (s, follows_ends b d r.1 may), omega (arith, far, length-Begins (x ∷ xs) a b r.0), omega (arith, far)))
again_token (quoted xs) [] b d p r may = absurd r
again_token (quoted xs) (y ∷ a) b d p r may =
    (let (c, s, far) = again_begins xs a (34 ∷ b) (34 ∷ d) r.1 in
    let here = agree_some y y a c refl in
    let there = agree_some 34 34 b d refl in
    (y ∷ c, (r.0, s), omega (arith, here, there, far, length-Begins xs a (34 ∷ b) r.1), omega (arith, here)))

pub spaced_of : (t : Token) (a b : List ℕ) → Reads t a b → Spaced t a b
spaced_of t [] b r = r
spaced_of t (x ∷ a) b r = inl r

pub again_spaced : (t : Token) (a b d : List ℕ) → IsProper t → Spaced t a b → MayFollow b d → (c : List ℕ) × Spaced t c d × (agree a c + length b ≡ length a + agree b d) × (1 ≤ agree a c)
again_spaced t [] b d p r may = absurd (not_empty t b p r)
again_spaced t (x ∷ a) b d p (inl r) may = (let (c, s, far, some) = again_token t (x ∷ a) b d p r may in (c, spaced_of t c d s, far, some))
again_spaced t (x ∷ a) b d p (inr r) may =
    (let (c, s, far, some) = again_spaced t a b d p r.1 may in
    let here = agree_some x x a c refl in (x ∷ c, inr (r.0, s), omega (arith, here, far), omega (arith, here)))

-- the token, and then e
abbrev pub text_of : Token → List ℕ → List ℕ
text_of (symbol x) e = x ∷ e
text_of (word xs) e = xs ++ e
text_of (quoted xs) e = 34 ∷ xs ++ 34 ∷ e

begins_append : (xs e : List ℕ) → Begins xs (xs ++ e) e
begins_append [] e = refl
begins_append (x ∷ xs) e = (refl, begins_append xs e)

pub reads_text : (t : Token) (e : List ℕ) → EndsWord e → Reads t (text_of t e) e
reads_text (symbol x) e ends = (refl, refl)
reads_text (word xs) e ends = (begins_append xs e, ends)
reads_text (quoted xs) e ends = (refl, begins_append xs (34 ∷ e))

pub regular_one_of : (Allowed : Token → Type 0) → ((t : Token) → Allowed t → IsProper t) → (t : Token) → Allowed t → IsRegular (OneOf Allowed)
regular_one_of Allowed proper t allowed = record {
  leaves = λ a b s r. leaves_spaced s a b r.1;
  functional = λ a b c s u r q. spaced_once s u a b c (proper s r.0) (proper u q.0) r.1 q.1;
  local = λ a b s c d u r q. spaced_alike s u a b c d (proper s r.0) (proper u q.0) r.1 q.1;
  free = λ a b s d r may. (let (c, has, far, some) = again_spaced s a b d (proper s r.0) r.1 may in (c, (r.0, has), far, inl some));
  fillable = (t, λ e ends. (32 ∷ text_of t e, (allowed, inr (refl, spaced_of t (text_of t e) e (reads_text t e ends))), not_word_space));
}
