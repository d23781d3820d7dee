-- The texts of values over bytes and over signs are the same, and what the machine says of bytes.
use Rattle.std.specs.Prelude.{◌≡◌, ◌≤◌, ◌<◌, ◌==◌, ℕ, zero, suc, ◌+◌, Bool, true, false, Some, None, List, [], ◌∷◌, ◌++◌, map, length, take, drop, replicate, slice_index_or, if◌then◌else◌, codes, ◌⊎◌}
use Rattle.std.proofs.Common.{refl, sym, ◌∙◌, ap, subst, arith, add-one, inl as left, inr as right}
use Rattle.std.proofs.lemmas.List.{append-nil, append_assoc, map-append, take-append-drop, take-take, take_all}
use Rattle.std.proofs.Math.Seq.{take-suc, take-length}
use Rattle.std.proofs.lemmas.Bool.{eqb-true}
use Rattle.codex_values.specs.Value as value
use Rattle.codex_values.specs.Value.{Value, show}
use Rattle.codex_values.specs.Tokens.{IsWordByte, EndsWord, Symbol, Word}
use Rattle.codex_values.specs.Reading.{Begins, unit, pair, parens, inl, inr, Reads, IsOpenValue, IsBadAt}
use Rattle.codex_values.specs.declared.read.Sign.{Sign}
use Rattle.codex_values.specs.declared.read.Sign.TheVariants.{Space, Open, Close, Comma, LetterI, LetterN, LetterL, LetterR, Other}
use Rattle.codex_values.specs.inner.ReaderStates.{Frame, Mode, ReaderState, sign_of, fed, fed_by, ends}
use Rattle.codex_values.proofs.Signs.{IsWordEnd, AreSpaces, no_more, one_more, Mark, mark_spaced, mark_here, Spells, spaced, unit_at, pair_at, parens_at, inl_at, inr_at, SignsRead, signs_read-one}
use Rattle.codex_values.proofs.MachineLemmas.{at_first, can_go, GoesFrom, fed_by-goes, goes-fed_by, read-goes, goes-read, ends-goes, goes-ends}

-- the byte of each sign that is one byte's alone
abbrev IsByteOf : Sign → ℕ → Type 0
IsByteOf Space x = x ≡ 32
IsByteOf Open x = x ≡ 40
IsByteOf Close x = x ≡ 41
IsByteOf Comma x = x ≡ 44
IsByteOf LetterI x = x ≡ 73
IsByteOf LetterN x = x ≡ 110
IsByteOf LetterL x = x ≡ 108
IsByteOf LetterR x = x ≡ 114
IsByteOf Other x = Unit {0}

byte_choice : (b : Bool) (c rest : Sign) (x : ℕ) → (b ≡ true → IsByteOf c x) → IsByteOf rest x → IsByteOf (if b then c else rest) x
byte_choice true c rest x here there = here refl
byte_choice false c rest x here there = there

sign_byte : (x : ℕ) → IsByteOf (sign_of x) x
sign_byte x =
    byte_choice (x == 32) Space _ x (eqb-true x 32) (byte_choice (x == 40) Open _ x (eqb-true x 40)
    (byte_choice (x == 41) Close _ x (eqb-true x 41) (byte_choice (x == 44) Comma _ x (eqb-true x 44)
    (byte_choice (x == 73) LetterI _ x (eqb-true x 73) (byte_choice (x == 110) LetterN _ x (eqb-true x 110)
    (byte_choice (x == 108) LetterL _ x (eqb-true x 108) (byte_choice (x == 114) LetterR Other x (eqb-true x 114) tt)))))))

byte_at : (c : Sign) (x : ℕ) → sign_of x ≡ c → IsByteOf c x
byte_at c x is = subst (λ d. IsByteOf d x) is (sign_byte x)

-- from bytes to signs

mark_after : (n c : ℕ) (b : List ℕ) → Mark (sign_of c) (map sign_of ((replicate n 32 ++ c ∷ []) ++ b)) (map sign_of b)
mark_after zero c b = mark_here
mark_after (suc n) c b = mark_spaced (mark_after n c b)

mark_of : (c : ℕ) (a b : List ℕ) → Symbol (c ∷ []) a b → Mark (sign_of c) (map sign_of a) (map sign_of b)
mark_of c a b s = subst (λ l. Mark (sign_of c) (map sign_of l) (map sign_of b)) (sym s.is) (mark_after s.spaces c b)

spells_after : (n : ℕ) (bytes b : List ℕ) (v : Value) (r : List Sign) → Spells (map sign_of (bytes ++ b)) v r → Spells (map sign_of ((replicate n 32 ++ bytes) ++ b)) v r
spells_after zero bytes b v r h = h
spells_after (suc n) bytes b v r h = spaced (spells_after n bytes b v r h)

spells_from : (bytes a b : List ℕ) (v : Value) (r : List Sign) → Symbol bytes a b → Spells (map sign_of (bytes ++ b)) v r → Spells (map sign_of a) v r
spells_from bytes a b v r s h = subst (λ l. Spells (map sign_of l) v r) (sym s.is) (spells_after s.spaces bytes b v r h)

word_end : (b : List ℕ) (v : Value) (r : List Sign) → EndsWord b → Spells (map sign_of b) v r → IsWordEnd (map sign_of b)
word_end [] v r end h = tt
word_end (x ∷ b) v r end h = by (sign_of x) (sign_byte x) h
  where
    by : (c : Sign) → IsByteOf c x → Spells (c ∷ map sign_of b) v r → IsWordEnd (c ∷ map sign_of b)
    by Space is h = tt
    by Open is h = tt
    by Close is h = tt
    by Comma is h = tt
    by LetterI is h = end (right (left (omega arith, omega arith)))
    by LetterN is h = end (left (omega arith, omega arith))
    by LetterL is h = end (left (omega arith, omega arith))
    by LetterR is h = end (left (omega arith, omega arith))
    by Other is h = elim h [ ]

to_signs : {a b : List ℕ} {v : Value} → Begins a b v → Spells (map sign_of a) v (map sign_of b)
to_signs (unit {a} {b} {c} s t) = spells_from (codes "(") a b value.unit _ s (unit_at (mark_of 41 b c t))
to_signs (pair {a} {b} {c} {d} {e} {f} {v} {w} s h t k u) =
    spells_from (codes "(") a b (value.pair v w) _ s (pair_at (to_signs h) (mark_of 44 c d t) (to_signs k) (mark_of 41 e f u))
to_signs (parens {a} {b} {c} {d} {v} s h t) = spells_from (codes "(") a b v _ s (parens_at (to_signs h) (mark_of 41 c d t))
to_signs (inl {a} {b} {c} {v} w h) =
    let h' : Spells (map sign_of b) v (map sign_of c) = to_signs h in
    spells_from (codes "Inl") a b (value.inl v) _ w.symbol (inl_at (word_end b v _ w.whole h') h')
to_signs (inr {a} {b} {c} {v} w h) =
    let h' : Spells (map sign_of b) v (map sign_of c) = to_signs h in
    spells_from (codes "Inr") a b (value.inr v) _ w.symbol (inr_at (word_end b v _ w.whole h') h')

-- from signs to bytes

more_spaces : {bytes a b : List ℕ} → Symbol bytes a b → Symbol bytes (32 ∷ a) b
more_spaces s = record { spaces = suc s.spaces; is = ap (λ l. 32 ∷ l) s.is }

more_spaces_word : {bytes a b : List ℕ} → Word bytes a b → Word bytes (32 ∷ a) b
more_spaces_word w = record { symbol = more_spaces w.symbol; whole = w.whole }

begins_spaced : {a b : List ℕ} {v : Value} → Begins a b v → Begins (32 ∷ a) b v
begins_spaced (unit s t) = unit (more_spaces s) t
begins_spaced (pair s h t k u) = pair (more_spaces s) h t k u
begins_spaced (parens s h t) = parens (more_spaces s) h t
begins_spaced (inl w h) = inl (more_spaces_word w) h
begins_spaced (inr w h) = inr (more_spaces_word w) h

-- bytes whose first one or first three have these signs, and the rest
pub record IsHead (c : Sign) (s : List Sign) (a : List ℕ) : Type 0 where
  pub byte : ℕ
  pub rest : List ℕ
  pub is : a ≡ byte ∷ rest
  pub sign : IsByteOf c byte
  pub signs : map sign_of rest ≡ s

head_of : (c : Sign) (s : List Sign) (a : List ℕ) → map sign_of a ≡ c ∷ s → IsHead c s a
head_of c s [] e = cc
head_of c s (x ∷ a) e = record { byte = x; rest = a; is = refl; sign = byte_at c x cc; signs = cc }

-- a text over signs is one over bytes
pub record Matches (P : List ℕ → Type 0) (r : List Sign) : Type 0 where
  pub rest : List ℕ
  pub signs : map sign_of rest ≡ r
  pub holds : P rest

symbol_at : (x : ℕ) (a b : List ℕ) → a ≡ x ∷ b → Symbol (x ∷ []) a b
symbol_at x a b is = record { spaces = 0; is = is }

symbol_of : (c : Sign) (x : ℕ) {s r : List Sign} → ((y : ℕ) → IsByteOf c y → y ≡ x) → Mark c s r → (a : List ℕ) → map sign_of a ≡ s → Matches (Symbol (x ∷ []) a) r
symbol_of c x only (mark_spaced {s} {r} m) a e =
    let head = head_of Space s a e in
    let more = symbol_of c x only m head.rest head.signs in
    let is : a ≡ 32 ∷ head.rest = head.is ∙ ap (λ y. y ∷ head.rest) head.sign in
    record { rest = more.rest; signs = more.signs; holds = subst (λ l. Symbol (x ∷ []) l more.rest) (sym is) (more_spaces more.holds) }
symbol_of c x only (mark_here {r}) a e =
    let head = head_of c r a e in
    record { rest = head.rest; signs = head.signs; holds = symbol_at x a head.rest (head.is ∙ ap (λ y. y ∷ head.rest) (only head.byte head.sign)) }

not_word : (c y : ℕ) → y ≡ c → (IsWordByte c → ⊥) → IsWordByte y → ⊥
not_word c y is never w = never (subst IsWordByte is w)

ends_word : (b : List ℕ) → IsWordEnd (map sign_of b) → EndsWord b
ends_word [] end = tt
ends_word (x ∷ b) end = by (sign_of x) (sign_byte x) end
  where
    by : (c : Sign) → IsByteOf c x → IsWordEnd (c ∷ map sign_of b) → IsWordByte x → ⊥
    by Space is end = λ w. not_word 32 x is (λ u. grind arith) w
    by Open is end = λ w. not_word 40 x is (λ u. grind arith) w
    by Close is end = λ w. not_word 41 x is (λ u. grind arith) w
    by Comma is end = λ w. not_word 44 x is (λ u. grind arith) w
    by LetterI is end = absurd end
    by LetterN is end = absurd end
    by LetterL is end = absurd end
    by LetterR is end = absurd end
    by Other is end = absurd end

word_of : (y : ℕ) (l : Sign) (s : List Sign) (a : List ℕ) → ((x : ℕ) → IsByteOf l x → x ≡ y) → IsWordEnd s → map sign_of a ≡ LetterI ∷ LetterN ∷ l ∷ s → Matches (Word (73 ∷ 110 ∷ y ∷ []) a) s
word_of y l s a only end e =
    let first = head_of LetterI (LetterN ∷ l ∷ s) a e in
    let second = head_of LetterN (l ∷ s) first.rest first.signs in
    let third = head_of l s second.rest second.signs in
    let is : a ≡ 73 ∷ 110 ∷ y ∷ third.rest =
    first.is ∙ (ap (λ x. x ∷ first.rest) first.sign ∙ ap (λ r. 73 ∷ r) (second.is ∙ (ap (λ x. x ∷ second.rest) second.sign
    ∙ ap (λ r. 110 ∷ r) (third.is ∙ ap (λ x. x ∷ third.rest) (only third.byte third.sign))))) in
    record {
      rest = third.rest;
      signs = third.signs;
      holds = record { symbol = record { spaces = 0; is = is }; whole = ends_word third.rest (rw third.signs end) };
    }

of_signs : {s r : List Sign} {v : Value} → Spells s v r → (a : List ℕ) → map sign_of a ≡ s → Matches (λ b. Begins a b v) r
of_signs (spaced {s} {r} {v} h) a e =
    let head = head_of Space s a e in
    let more = of_signs h head.rest head.signs in
    let is : a ≡ 32 ∷ head.rest = head.is ∙ ap (λ y. y ∷ head.rest) head.sign in
    record { rest = more.rest; signs = more.signs; holds = subst (λ l. Begins l more.rest v) (sym is) (begins_spaced more.holds) }
of_signs (unit_at {s} m) a e =
    let opening = symbol_of Open 40 (λ y is. is) (mark_here {r = s}) a e in
    let close = symbol_of Close 41 (λ y is. is) m opening.rest opening.signs in
    record { rest = close.rest; signs = close.signs; holds = unit opening.holds close.holds }
of_signs (pair_at {s} h m k n) a e =
    let opening = symbol_of Open 40 (λ y is. is) (mark_here {r = s}) a e in
    let first = of_signs h opening.rest opening.signs in
    let comma = symbol_of Comma 44 (λ y is. is) m first.rest first.signs in
    let second = of_signs k comma.rest comma.signs in
    let close = symbol_of Close 41 (λ y is. is) n second.rest second.signs in
    record { rest = close.rest; signs = close.signs; holds = pair opening.holds first.holds comma.holds second.holds close.holds }
of_signs (parens_at {s} h m) a e =
    let opening = symbol_of Open 40 (λ y is. is) (mark_here {r = s}) a e in
    let inner = of_signs h opening.rest opening.signs in
    let close = symbol_of Close 41 (λ y is. is) m inner.rest inner.signs in
    record { rest = close.rest; signs = close.signs; holds = parens opening.holds inner.holds close.holds }
of_signs (inl_at {s} end h) a e =
    let word = word_of 108 LetterL s a (λ y is. is) end e in
    let inner = of_signs h word.rest word.signs in
    record { rest = inner.rest; signs = inner.signs; holds = inl word.holds inner.holds }
of_signs (inr_at {s} end h) a e =
    let word = word_of 114 LetterR s a (λ y is. is) end e in
    let inner = of_signs h word.rest word.signs in
    record { rest = inner.rest; signs = inner.signs; holds = inr word.holds inner.holds }

-- whole texts

are_spaces : (n : ℕ) → AreSpaces (map sign_of (replicate n 32))
are_spaces zero = no_more
are_spaces (suc n) = one_more (are_spaces n)

spaces_are : {s : List Sign} → AreSpaces s → (b : List ℕ) → map sign_of b ≡ s → (n : ℕ) × (b ≡ replicate n 32)
spaces_are no_more [] e = (0, refl)
spaces_are no_more (x ∷ b) e = cc
spaces_are (one_more {s} h) b e =
    let head = head_of Space s b e in
    let (n, is) = spaces_are h head.rest head.signs in
    (suc n, head.is ∙ (ap (λ y. y ∷ head.rest) head.sign ∙ ap (λ l. 32 ∷ l) is))

pub reads-signs : (text : List ℕ) (v : Value) → Reads text v → SignsRead (map sign_of text) v
reads-signs text v h = record { rest = map sign_of (replicate h.spaces 32); spells = to_signs h.begins; spaces = are_spaces h.spaces }

pub signs-reads : (text : List ℕ) (v : Value) → SignsRead (map sign_of text) v → Reads text v
signs-reads text v h =
    let found = of_signs h.spells text refl in
    let (n, is) = spaces_are h.spaces found.rest found.signs in
    record { spaces = n; begins = subst (λ b. Begins text b v) is found.holds }

-- a text is one of at most one value
pub reads-one : (text : List ℕ) (v w : Value) → Reads text v → Reads text w → v ≡ w
reads-one text v w h k = signs_read-one (map sign_of text) v w (reads-signs text v h) (reads-signs text w k)

-- what the machine says of bytes

-- a byte of each sign
byte_of : Sign → ℕ
byte_of Space = 32
byte_of Open = 40
byte_of Close = 41
byte_of Comma = 44
byte_of LetterI = 73
byte_of LetterN = 110
byte_of LetterL = 108
byte_of LetterR = 114
byte_of Other = 0

sign_of-byte_of : (signs : List Sign) → map sign_of (map byte_of signs) ≡ signs
unfolding byte_of
sign_of-byte_of [] = refl
sign_of-byte_of (Space ∷ signs) = ap (λ l. Space ∷ l) (sign_of-byte_of signs)
sign_of-byte_of (Open ∷ signs) = ap (λ l. Open ∷ l) (sign_of-byte_of signs)
sign_of-byte_of (Close ∷ signs) = ap (λ l. Close ∷ l) (sign_of-byte_of signs)
sign_of-byte_of (Comma ∷ signs) = ap (λ l. Comma ∷ l) (sign_of-byte_of signs)
sign_of-byte_of (LetterI ∷ signs) = ap (λ l. LetterI ∷ l) (sign_of-byte_of signs)
sign_of-byte_of (LetterN ∷ signs) = ap (λ l. LetterN ∷ l) (sign_of-byte_of signs)
sign_of-byte_of (LetterL ∷ signs) = ap (λ l. LetterL ∷ l) (sign_of-byte_of signs)
sign_of-byte_of (LetterR ∷ signs) = ap (λ l. LetterR ∷ l) (sign_of-byte_of signs)
sign_of-byte_of (Other ∷ signs) = ap (λ l. Other ∷ l) (sign_of-byte_of signs)

-- where the machine stands after these bytes
abbrev pub after : List ℕ → ReaderState
after p = fed_by at_first (map sign_of p)

pub open_at : (p : List ℕ) (standing : Mode × List Frame) → after p ≡ Some standing → IsOpenValue p
open_at p standing is =
    let (s, v, h) = can_go standing.0 standing.1 in
    let read : SignsRead (map sign_of p ++ s) v = goes-read (map sign_of p ++ s) v (fed_by-goes at_first (map sign_of p) s v (rw is h)) in
    let same : map sign_of (p ++ map byte_of s) ≡ map sign_of p ++ s =
    map-append sign_of p (map byte_of s) ∙ ap (λ l. map sign_of p ++ l) (sign_of-byte_of s) in
    record { more = map byte_of s; value = v; reads = signs-reads (p ++ map byte_of s) v (rw same read) }

pub not_open : (p : List ℕ) → after p ≡ None → IsOpenValue p → ⊥
not_open p is o =
    let goes : GoesFrom (after p) (map sign_of o.more) o.value =
    goes-fed_by at_first (map sign_of p) (map sign_of o.more) o.value
    (read-goes _ _ (rw map-append at (reads-signs (p ++ o.more) o.value o.reads))) in
    rw is at goes

-- a beginning of what is open is open
open_prefix : (p q : List ℕ) → IsOpenValue (p ++ q) → IsOpenValue p
open_prefix p q o = record { more = q ++ o.more; value = o.value; reads = rw append_assoc at o.reads }

open_shorter : (text : List ℕ) (i j : ℕ) → i ≤ j → IsOpenValue (take j text) → IsOpenValue (take i text)
open_shorter text i j le o =
    let split : take i (take j text) ++ drop i (take j text) ≡ take j text = take-append-drop i (take j text) in
    let short : take i (take j text) ≡ take i text = take-take i j text le in
    open_prefix (take i text) (drop i (take j text)) (rw (← short) (rw split o))

reads_here : (text : List ℕ) (standing : Mode × List Frame) (v : Value) → after text ≡ Some standing → ends standing.0 standing.1 ≡ Some v → Reads text v
reads_here text standing v is end =
    let goes : GoesFrom (after text) [] v = rw is (ends-goes standing.0 standing.1 v end) in
    signs-reads text v (goes-read (map sign_of text) v (rw append-nil at (fed_by-goes at_first (map sign_of text) [] v goes)))

bad_here : (text : List ℕ) (standing : Mode × List Frame) → after text ≡ Some standing → ends standing.0 standing.1 ≡ None → IsBadAt text (length text)
bad_here text standing is end = record {
  none = λ v reads.
      let read : GoesFrom at_first (map sign_of text ++ []) v = rw append-nil (read-goes (map sign_of text) v (reads-signs text v reads)) in
      let goes : GoesFrom (after text) [] v = goes-fed_by at_first (map sign_of text) [] v read in
      goes-ends standing.0 standing.1 v end (rw is at goes);
  within = omega arith;
  holds = rw take-length (open_at text standing is);
  longest = λ j within o. within;
}

after-more : (p : List ℕ) (x : ℕ) (standing : Mode × List Frame) → after p ≡ Some standing → after (p ++ x ∷ []) ≡ fed standing.0 standing.1 (sign_of x)
after-more p x standing is = rw map-append (fed_by-more at_first (map sign_of p) (sign_of x) standing is)
  where
    fed_by-more : (start : ReaderState) (s : List Sign) (c : Sign) (standing : Mode × List Frame) → fed_by start s ≡ Some standing → fed_by start (s ++ c ∷ []) ≡ fed standing.0 standing.1 c
    fed_by-more start [] c standing is = rw is refl
    fed_by-more None (d ∷ s) c standing is = cc
    fed_by-more (Some here) (d ∷ s) c standing is = fed_by-more (fed here.0 here.1 d) s c standing is

-- the machine stands after one byte more of the text
pub after-next : (text : List ℕ) (k : ℕ) (sign : Sign) (standing : Mode × List Frame) → k < length text → sign ≡ sign_of (slice_index_or text k 0) →
    after (take k text) ≡ Some standing → after (take (k + 1) text) ≡ fed standing.0 standing.1 sign
after-next text k sign standing lt at is =
    let next : after (take (suc k) text) ≡ fed standing.0 standing.1 sign =
    ap after (take-suc text k 0 lt) ∙ (after-more (take k text) (slice_index_or text k 0) standing is ∙ ap (fed standing.0 standing.1) (sym at)) in
    rw add-one next

-- the machine cannot take the byte at k
pub bad_at : (text : List ℕ) (k : ℕ) (sign : Sign) (standing : Mode × List Frame) → k < length text → sign ≡ sign_of (slice_index_or text k 0) →
    after (take k text) ≡ Some standing → fed standing.0 standing.1 sign ≡ None → IsBadAt text k
bad_at text k sign standing lt at is stops = record {
  none = λ v reads. stuck (open_shorter text (k + 1) (length text) (omega arith) (rw take-length (record { more = []; value = v; reads = rw append-nil reads })));
  within = omega arith;
  holds = open_at (take k text) standing is;
  longest = λ j within o. elim (le_or_lt j k) [
    | left le ↦ le
    | right gt ↦ absurd (stuck (open_shorter text (k + 1) j (omega arith) o))
  ];
}
  where
    stuck : IsOpenValue (take (k + 1) text) → ⊥
    stuck o = not_open (take (k + 1) text) (after-next text k sign standing lt at is ∙ stops) o

    le_or_lt : (i j : ℕ) → (i ≤ j) ⊎ (j < i)
    le_or_lt i j = grind arith

-- the machine has come to the end of the text, and stands at a value
pub reads_at_end : (text : List ℕ) (k : ℕ) (standing : Mode × List Frame) (v : Value) → length text ≤ k → after (take k text) ≡ Some standing →
    ends standing.0 standing.1 ≡ Some v → Reads text v
reads_at_end text k standing v end is whole = reads_here text standing v (rw take_all at is) whole

-- the machine has come to the end of the text, and stands at none
pub bad_at_end : (text : List ℕ) (k : ℕ) (standing : Mode × List Frame) → length text ≤ k → after (take k text) ≡ Some standing →
    ends standing.0 standing.1 ≡ None → IsBadAt text (length text)
bad_at_end text k standing end is whole = bad_here text standing (rw take_all at is) whole

-- the printing of a value reads as the value

begins_show : (v : Value) (rest : List ℕ) → Begins (show v ++ rest) rest v
begins_show value.unit rest = unit (record { spaces = 0; is = refl }) (record { spaces = 0; is = refl })
begins_show (value.pair a b) rest =
    let same : show (value.pair a b) ++ rest ≡ 40 ∷ (show a ++ (44 ∷ (show b ++ (41 ∷ rest)))) = simp append_assoc in
    rw same (pair (record { spaces = 0; is = refl }) (begins_show a (44 ∷ (show b ++ (41 ∷ rest)))) (record { spaces = 0; is = refl })
    (begins_show b (41 ∷ rest)) (record { spaces = 0; is = refl }))
begins_show (value.inl a) rest = inl (record { symbol = record { spaces = 0; is = refl }; whole = λ w. not_word 32 32 refl (λ u. grind arith) w }) (begins_spaced (begins_show a rest))
begins_show (value.inr a) rest = inr (record { symbol = record { spaces = 0; is = refl }; whole = λ w. not_word 32 32 refl (λ u. grind arith) w }) (begins_spaced (begins_show a rest))

pub reads_show : (v : Value) → Reads (show v) v
reads_show v = record { spaces = 0; begins = rw append-nil at (begins_show v []) }
