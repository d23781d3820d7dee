-- The texts of values over signs: the cases of the grammar, with a space where the tokens have any number.
use Rattle.std.specs.Prelude.{◌≡◌, List, [], ◌∷◌}
use Rattle.std.proofs.Common.{refl, ap}
use Rattle.codex_values.specs.Value.{Value, unit, pair, inl, inr}
use Rattle.codex_values.specs.declared.read.Sign.{Sign}
use Rattle.codex_values.specs.declared.read.Sign.TheVariants.{Space, Open, Close, Comma, LetterI, LetterN, LetterL, LetterR, Other}

-- a word ends here
abbrev pub IsWordEnd : List Sign → Type 0
IsWordEnd [] = Unit {0}
IsWordEnd (Space ∷ s) = Unit {0}
IsWordEnd (Open ∷ s) = Unit {0}
IsWordEnd (Close ∷ s) = Unit {0}
IsWordEnd (Comma ∷ s) = Unit {0}
IsWordEnd (LetterI ∷ s) = ⊥
IsWordEnd (LetterN ∷ s) = ⊥
IsWordEnd (LetterL ∷ s) = ⊥
IsWordEnd (LetterR ∷ s) = ⊥
IsWordEnd (Other ∷ s) = ⊥

pub data AreSpaces : List Sign → Type 0 where
  no_more : AreSpaces []
  one_more : {s : List Sign} → AreSpaces s → AreSpaces (Space ∷ s)

-- spaces, this sign, and the rest
pub data Mark (c : Sign) : List Sign → List Sign → Type 0 where
  mark_spaced : {s r : List Sign} → Mark c s r → Mark c (Space ∷ s) r
  mark_here : {r : List Sign} → Mark c (c ∷ r) r

-- an expression of this value, and the rest
pub data Spells : List Sign → Value → List Sign → Type 0 where
  spaced : {s r : List Sign} {v : Value} → Spells s v r → Spells (Space ∷ s) v r
  unit_at : {s r : List Sign} → Mark Close s r → Spells (Open ∷ s) unit r
  pair_at : {s t u w r : List Sign} {a b : Value} → Spells s a t → Mark Comma t u → Spells u b w → Mark Close w r → Spells (Open ∷ s) (pair a b) r
  parens_at : {s t r : List Sign} {a : Value} → Spells s a t → Mark Close t r → Spells (Open ∷ s) a r
  inl_at : {s r : List Sign} {a : Value} → IsWordEnd s → Spells s a r → Spells (LetterI ∷ LetterN ∷ LetterL ∷ s) (inl a) r
  inr_at : {s r : List Sign} {a : Value} → IsWordEnd s → Spells s a r → Spells (LetterI ∷ LetterN ∷ LetterR ∷ s) (inr a) r

-- the signs of a text of this value
pub record SignsRead (text : List Sign) (v : Value) : Type 0 where
  pub rest : List Sign
  pub spells : Spells text v rest
  pub spaces : AreSpaces rest

-- a text begins with one expression
pub record IsOne (v v' : Value) (r r' : List Sign) : Type 0 where
  pub value : v ≡ v'
  pub rest : r ≡ r'

pub close-one : {s r : List Sign} → Mark Close s r → (r' : List Sign) → Mark Close s r' → r ≡ r'
close-one (mark_spaced h) r' (mark_spaced k) = close-one h r' k
close-one mark_here r' mark_here = refl

pub comma-one : {s r : List Sign} → Mark Comma s r → (r' : List Sign) → Mark Comma s r' → r ≡ r'
comma-one (mark_spaced h) r' (mark_spaced k) = comma-one h r' k
comma-one mark_here r' mark_here = refl

pub close_or_comma : {s r : List Sign} → Mark Close s r → {r' : List Sign} → Mark Comma s r' → ⊥
close_or_comma (mark_spaced h) (mark_spaced k) = close_or_comma h k
close_or_comma (mark_here {r = r}) k = elim k [ ]

pub close_or_spells : {s r : List Sign} → Mark Close s r → {v : Value} {r' : List Sign} → Spells s v r' → ⊥
close_or_spells (mark_spaced h) (spaced k) = close_or_spells h k
close_or_spells (mark_here {r = r}) {v = v} k = elim k [ ]

pub spells-one : {s r : List Sign} {v : Value} → Spells s v r → (v' : Value) (r' : List Sign) → Spells s v' r' → IsOne v v' r r'
spells-one (spaced h) v' r' (spaced k) = spells-one h v' r' k
spells-one (unit_at h) v' r' (unit_at k) = record { value = refl; rest = close-one h _ k }
spells-one (unit_at h) v' r' (pair_at k l m n) = absurd (close_or_spells h k)
spells-one (unit_at h) v' r' (parens_at k l) = absurd (close_or_spells h k)
spells-one (pair_at h i j k) v' r' (unit_at l) = absurd (close_or_spells l h)
spells-one (pair_at h i j k) v' r' (pair_at l m n o) =
    let first = spells-one h _ _ l in
    let comma = comma-one i _ (rw (← first.rest) at m) in
    let second = spells-one j _ _ (rw (← comma) at n) in
    record { value = λ i. pair (first.value i) (second.value i); rest = close-one k _ (rw (← second.rest) at o) }
spells-one (pair_at h i j k) v' r' (parens_at l m) = let first = spells-one h _ _ l in absurd (close_or_comma (rw (← first.rest) at m) i)
spells-one (parens_at h i) v' r' (unit_at l) = absurd (close_or_spells l h)
spells-one (parens_at h i) v' r' (pair_at l m n o) = let first = spells-one h _ _ l in absurd (close_or_comma i (rw (← first.rest) at m))
spells-one (parens_at h i) v' r' (parens_at l m) =
    let first = spells-one h _ _ l in
    record { value = first.value; rest = close-one i _ (rw (← first.rest) at m) }
spells-one (inl_at h i) v' r' (inl_at l m) = let one = spells-one i _ _ m in record { value = ap inl one.value; rest = one.rest }
spells-one (inr_at h i) v' r' (inr_at l m) = let one = spells-one i _ _ m in record { value = ap inr one.value; rest = one.rest }

-- a text is one of at most one value
pub signs_read-one : (text : List Sign) (v w : Value) → SignsRead text v → SignsRead text w → v ≡ w
signs_read-one text v w h k = (spells-one h.spells _ _ k.spells).value
