-- What is still to come in each state of the machine: each sign takes off its own, and each state can be completed.
use Rattle.std.specs.Prelude.{◌≡◌, Some, None, List, [], ◌∷◌, ◌++◌, ◌⊎◌}
use Rattle.std.proofs.Common.{refl, inl as left, inr as right}
use Rattle.codex_values.specs.Value.{Value, unit, pair, inl, inr}
use Rattle.codex_values.specs.declared.read.Sign.{Sign}
use Rattle.codex_values.specs.declared.read.Sign.TheVariants.{Space, Open, Close, Comma, LetterI, LetterN, LetterL, LetterR, Other}
use Rattle.codex_values.specs.inner.ReaderStates.{Frame, in_inl, in_inr, in_parens, in_pair, Mode, need, opened, word_i, word_in, word, got_value, ReaderState, begun_by, got, fed, fed_by, whole, ends}
use Rattle.codex_values.proofs.Signs.{IsWordEnd, AreSpaces, no_more, one_more, Mark, mark_spaced, mark_here, Spells, spaced, unit_at, pair_at, parens_at, inl_at, inr_at, SignsRead}

-- v is the value of a text whose rest, behind an expression of value a in these frames, is t
abbrev pub Behind : List Frame → Value → List Sign → Value → Type 0
Behind [] a t v = AreSpaces t × (a ≡ v)
Behind (in_inl ∷ frames) a t v = Behind frames (inl a) t v
Behind (in_inr ∷ frames) a t v = Behind frames (inr a) t v
Behind (in_parens ∷ frames) a t v =
    ((r : List Sign) × Mark Close t r × Behind frames a r v)
    ⊎ ((u : List Sign) × (b : Value) × (w : List Sign) × (r : List Sign) × Mark Comma t u × Spells u b w × Mark Close w r × Behind frames (pair a b) r v)
Behind (in_pair x ∷ frames) a t v = (r : List Sign) × Mark Close t r × Behind frames (pair x a) r v

-- an expression and what stands behind it
abbrev pub Needs : List Frame → List Sign → Value → Type 0
Needs frames s v = (a : Value) × (t : List Sign) × Spells s a t × Behind frames a t v

-- the text s takes the machine from this standing to the value v
abbrev pub Goes : Mode → List Frame → List Sign → Value → Type 0
Goes need frames s v = Needs frames s v
Goes opened frames s v = ((t : List Sign) × Mark Close s t × Behind frames unit t v) ⊎ Needs (in_parens ∷ frames) s v
Goes word_i frames s v = Needs frames (LetterI ∷ s) v
Goes word_in frames s v = Needs frames (LetterI ∷ LetterN ∷ s) v
Goes word frames s v = IsWordEnd s × Needs frames s v
Goes (got_value a) frames s v = Behind frames a s v

-- an opening parenthesis
pub opened-goes : (frames : List Frame) (s : List Sign) (v : Value) → Needs frames (Open ∷ s) v → Goes opened frames s v
opened-goes frames s v (a, t, unit_at m, h) = left (t, m, h)
opened-goes frames s v (a, t, pair_at b m c n, h) = right (_, _, b, right (_, _, _, _, m, c, n, h))
opened-goes frames s v (a, t, parens_at b m, h) = right (_, _, b, left (_, m, h))

pub goes-opened : (frames : List Frame) (s : List Sign) (v : Value) → Goes opened frames s v → Needs frames (Open ∷ s) v
goes-opened frames s v (left (t, m, h)) = (unit, t, unit_at m, h)
goes-opened frames s v (right (a, t, b, left (r, m, h))) = (a, r, parens_at b m, h)
goes-opened frames s v (right (a, t, b, right (u, c, w, r, m, n, o, h))) = (pair a c, r, pair_at b m n o, h)

-- each standing can go on to a value
pub can_end : (frames : List Frame) (a : Value) → (s : List Sign) × (v : Value) × Behind frames a s v
can_end [] a = ([], a, (no_more, refl))
can_end (in_inl ∷ frames) a = can_end frames (inl a)
can_end (in_inr ∷ frames) a = can_end frames (inr a)
can_end (in_parens ∷ frames) a = let (s, v, h) = can_end frames a in (Close ∷ s, v, left (s, mark_here, h))
can_end (in_pair x ∷ frames) a = let (s, v, h) = can_end frames (pair x a) in (Close ∷ s, v, (s, mark_here, h))

pub can_go : (mode : Mode) (frames : List Frame) → (s : List Sign) × (v : Value) × Goes mode frames s v
can_go need frames = let (s, v, h) = can_end frames unit in (Open ∷ Close ∷ s, v, (unit, s, unit_at mark_here, h))
can_go opened frames = let (s, v, h) = can_end frames unit in (Close ∷ s, v, left (s, mark_here, h))
can_go word_i frames = let (s, v, h) = can_end frames (inl unit) in (LetterN ∷ LetterL ∷ Space ∷ Open ∷ Close ∷ s, v, (inl unit, s, inl_at tt (spaced (unit_at mark_here)), h))
can_go word_in frames = let (s, v, h) = can_end frames (inl unit) in (LetterL ∷ Space ∷ Open ∷ Close ∷ s, v, (inl unit, s, inl_at tt (spaced (unit_at mark_here)), h))
can_go word frames = let (s, v, h) = can_end frames unit in (Open ∷ Close ∷ s, v, (tt, (unit, s, unit_at mark_here, h)))
can_go (got_value a) frames = can_end frames a

abbrev pub GoesFrom : ReaderState → List Sign → Value → Type 0
GoesFrom None s v = ⊥
GoesFrom (Some standing) s v = Goes standing.0 standing.1 s v

needs-step : (frames : List Frame) (c : Sign) (s : List Sign) (v : Value) → Needs frames (c ∷ s) v → GoesFrom (begun_by frames c) s v
needs-step frames Space s v (a, t, spaced b, h) = (a, t, b, h)
needs-step frames Open s v h = opened-goes frames s v h
needs-step frames LetterI s v h = h
needs-step frames Close s v (a, t, b, h) = elim b [ ]
needs-step frames Comma s v (a, t, b, h) = elim b [ ]
needs-step frames LetterN s v (a, t, b, h) = elim b [ ]
needs-step frames LetterL s v (a, t, b, h) = elim b [ ]
needs-step frames LetterR s v (a, t, b, h) = elim b [ ]
needs-step frames Other s v (a, t, b, h) = elim b [ ]

step-needs : (frames : List Frame) (c : Sign) (s : List Sign) (v : Value) → GoesFrom (begun_by frames c) s v → Needs frames (c ∷ s) v
step-needs frames Space s v (a, t, b, h) = (a, t, spaced b, h)
step-needs frames Open s v h = goes-opened frames s v h
step-needs frames LetterI s v h = h
step-needs frames _ s v h = absurd h

pub behind-space : (frames : List Frame) (a : Value) (s : List Sign) (v : Value) → Behind frames a (Space ∷ s) v → Behind frames a s v
behind-space [] a s v (one_more h, is) = (h, is)
behind-space (in_inl ∷ frames) a s v h = behind-space frames (inl a) s v h
behind-space (in_inr ∷ frames) a s v h = behind-space frames (inr a) s v h
behind-space (in_parens ∷ frames) a s v (left (r, mark_spaced m, h)) = left (r, m, h)
behind-space (in_parens ∷ frames) a s v (right (u, b, w, r, mark_spaced m, n, o, h)) = right (u, b, w, r, m, n, o, h)
behind-space (in_pair x ∷ frames) a s v (r, mark_spaced m, h) = (r, m, h)

pub space-behind : (frames : List Frame) (a : Value) (s : List Sign) (v : Value) → Behind frames a s v → Behind frames a (Space ∷ s) v
space-behind [] a s v h = (one_more h.0, h.1)
space-behind (in_inl ∷ frames) a s v h = space-behind frames (inl a) s v h
space-behind (in_inr ∷ frames) a s v h = space-behind frames (inr a) s v h
space-behind (in_parens ∷ frames) a s v (left (r, m, h)) = left (r, mark_spaced m, h)
space-behind (in_parens ∷ frames) a s v (right (u, b, w, r, m, n, o, h)) = right (u, b, w, r, mark_spaced m, n, o, h)
space-behind (in_pair x ∷ frames) a s v (r, m, h) = (r, mark_spaced m, h)

-- behind an expression, at a sign that isn't a space
pub behind-step : (frames : List Frame) (a : Value) (c : Sign) (s : List Sign) (v : Value) → (c ≡ Space → ⊥) → Behind frames a (c ∷ s) v → GoesFrom (got a frames c) s v
behind-step [] a c s v other (one_more h, is) = absurd (other refl)
behind-step (in_inl ∷ frames) a c s v other h = behind-step frames (inl a) c s v other h
behind-step (in_inr ∷ frames) a c s v other h = behind-step frames (inr a) c s v other h
behind-step (in_parens ∷ frames) a c s v other (left (r, mark_spaced m, h)) = absurd (other refl)
behind-step (in_parens ∷ frames) a c s v other (left (r, mark_here, h)) = h
behind-step (in_parens ∷ frames) a c s v other (right (u, b, w, r, mark_spaced m, n, o, h)) = absurd (other refl)
behind-step (in_parens ∷ frames) a c s v other (right (u, b, w, r, mark_here, n, o, h)) = (b, w, n, (r, o, h))
behind-step (in_pair x ∷ frames) a c s v other (r, mark_spaced m, h) = absurd (other refl)
behind-step (in_pair x ∷ frames) a c s v other (r, mark_here, h) = h

pub step-behind : (frames : List Frame) (a : Value) (c : Sign) (s : List Sign) (v : Value) → GoesFrom (got a frames c) s v → Behind frames a (c ∷ s) v
step-behind [] a c s v h = absurd h
step-behind (in_inl ∷ frames) a c s v h = step-behind frames (inl a) c s v h
step-behind (in_inr ∷ frames) a c s v h = step-behind frames (inr a) c s v h
step-behind (in_parens ∷ frames) a Close s v h = left (s, mark_here, h)
step-behind (in_parens ∷ frames) a Comma s v (b, w, n, (r, o, h)) = right (s, b, w, r, mark_here, n, o, h)
step-behind (in_parens ∷ frames) a _ s v h = absurd h
step-behind (in_pair x ∷ frames) a Close s v h = (s, mark_here, h)
step-behind (in_pair x ∷ frames) a _ s v h = absurd h

opened-step : (frames : List Frame) (c : Sign) (s : List Sign) (v : Value) → Goes opened frames (c ∷ s) v → GoesFrom (fed opened frames c) s v
opened-step frames Space s v (left (t, mark_spaced m, h)) = left (t, m, h)
opened-step frames Space s v (right (a, t, spaced b, h)) = right (a, t, b, h)
opened-step frames Close s v (left (t, mark_here, h)) = h
opened-step frames Close s v (right (a, t, b, h)) = elim b [ ]
opened-step frames Open s v (left (t, m, h)) = elim m [ ]
opened-step frames Open s v (right h) = needs-step (in_parens ∷ frames) Open s v h
opened-step frames LetterI s v (left (t, m, h)) = elim m [ ]
opened-step frames LetterI s v (right h) = needs-step (in_parens ∷ frames) LetterI s v h
opened-step frames Comma s v (left (t, m, h)) = elim m [ ]
opened-step frames Comma s v (right (a, t, b, h)) = elim b [ ]
opened-step frames LetterN s v (left (t, m, h)) = elim m [ ]
opened-step frames LetterN s v (right (a, t, b, h)) = elim b [ ]
opened-step frames LetterL s v (left (t, m, h)) = elim m [ ]
opened-step frames LetterL s v (right (a, t, b, h)) = elim b [ ]
opened-step frames LetterR s v (left (t, m, h)) = elim m [ ]
opened-step frames LetterR s v (right (a, t, b, h)) = elim b [ ]
opened-step frames Other s v (left (t, m, h)) = elim m [ ]
opened-step frames Other s v (right (a, t, b, h)) = elim b [ ]

word_i-step : (frames : List Frame) (c : Sign) (s : List Sign) (v : Value) → Goes word_i frames (c ∷ s) v → GoesFrom (fed word_i frames c) s v
word_i-step frames LetterN s v h = h
word_i-step frames Space s v (a, t, b, h) = elim b [ ]
word_i-step frames Open s v (a, t, b, h) = elim b [ ]
word_i-step frames Close s v (a, t, b, h) = elim b [ ]
word_i-step frames Comma s v (a, t, b, h) = elim b [ ]
word_i-step frames LetterI s v (a, t, b, h) = elim b [ ]
word_i-step frames LetterL s v (a, t, b, h) = elim b [ ]
word_i-step frames LetterR s v (a, t, b, h) = elim b [ ]
word_i-step frames Other s v (a, t, b, h) = elim b [ ]

word_in-step : (frames : List Frame) (c : Sign) (s : List Sign) (v : Value) → Goes word_in frames (c ∷ s) v → GoesFrom (fed word_in frames c) s v
word_in-step frames LetterL s v (a, t, inl_at ends b, h) = (ends, (_, t, b, h))
word_in-step frames LetterR s v (a, t, inr_at ends b, h) = (ends, (_, t, b, h))
word_in-step frames Space s v (a, t, b, h) = elim b [ ]
word_in-step frames Open s v (a, t, b, h) = elim b [ ]
word_in-step frames Close s v (a, t, b, h) = elim b [ ]
word_in-step frames Comma s v (a, t, b, h) = elim b [ ]
word_in-step frames LetterI s v (a, t, b, h) = elim b [ ]
word_in-step frames LetterN s v (a, t, b, h) = elim b [ ]
word_in-step frames Other s v (a, t, b, h) = elim b [ ]

ended-step : (frames : List Frame) (c : Sign) (s : List Sign) (v : Value) → Goes word frames (c ∷ s) v → GoesFrom (fed word frames c) s v
ended-step frames LetterI s v (ends, h) = ends
ended-step frames Space s v (ends, h) = needs-step frames Space s v h
ended-step frames Open s v (ends, h) = needs-step frames Open s v h
ended-step frames Close s v (ends, h) = needs-step frames Close s v h
ended-step frames Comma s v (ends, h) = needs-step frames Comma s v h
ended-step frames LetterN s v (ends, h) = absurd ends
ended-step frames LetterL s v (ends, h) = absurd ends
ended-step frames LetterR s v (ends, h) = absurd ends
ended-step frames Other s v (ends, h) = needs-step frames Other s v h

got-step : (a : Value) (frames : List Frame) (c : Sign) (s : List Sign) (v : Value) → Goes (got_value a) frames (c ∷ s) v → GoesFrom (fed (got_value a) frames c) s v
got-step a frames Space s v h = behind-space frames a s v h
got-step a frames Open s v h = behind-step frames a Open s v (λ e. cc) h
got-step a frames Close s v h = behind-step frames a Close s v (λ e. cc) h
got-step a frames Comma s v h = behind-step frames a Comma s v (λ e. cc) h
got-step a frames LetterI s v h = behind-step frames a LetterI s v (λ e. cc) h
got-step a frames LetterN s v h = behind-step frames a LetterN s v (λ e. cc) h
got-step a frames LetterL s v h = behind-step frames a LetterL s v (λ e. cc) h
got-step a frames LetterR s v h = behind-step frames a LetterR s v (λ e. cc) h
got-step a frames Other s v h = behind-step frames a Other s v (λ e. cc) h

pub goes-fed : (mode : Mode) (frames : List Frame) (c : Sign) (s : List Sign) (v : Value) → Goes mode frames (c ∷ s) v → GoesFrom (fed mode frames c) s v
goes-fed need frames c s v h = needs-step frames c s v h
goes-fed opened frames c s v h = opened-step frames c s v h
goes-fed word_i frames c s v h = word_i-step frames c s v h
goes-fed word_in frames c s v h = word_in-step frames c s v h
goes-fed word frames c s v h = ended-step frames c s v h
goes-fed (got_value a) frames c s v h = got-step a frames c s v h

opened-back : (frames : List Frame) (c : Sign) (s : List Sign) (v : Value) → GoesFrom (fed opened frames c) s v → Goes opened frames (c ∷ s) v
opened-back frames Space s v (left (t, m, h)) = left (t, mark_spaced m, h)
opened-back frames Space s v (right (a, t, b, h)) = right (a, t, spaced b, h)
opened-back frames Close s v h = left (s, mark_here, h)
opened-back frames Open s v h = right (step-needs (in_parens ∷ frames) Open s v h)
opened-back frames LetterI s v h = right (step-needs (in_parens ∷ frames) LetterI s v h)
opened-back frames _ s v h = absurd h

word_in-back : (frames : List Frame) (c : Sign) (s : List Sign) (v : Value) → GoesFrom (fed word_in frames c) s v → Goes word_in frames (c ∷ s) v
word_in-back frames LetterL s v (ends, (a, t, b, h)) = (inl a, t, inl_at ends b, h)
word_in-back frames LetterR s v (ends, (a, t, b, h)) = (inr a, t, inr_at ends b, h)
word_in-back frames _ s v h = absurd h

word_i-back : (frames : List Frame) (c : Sign) (s : List Sign) (v : Value) → GoesFrom (fed word_i frames c) s v → Goes word_i frames (c ∷ s) v
word_i-back frames LetterN s v h = h
word_i-back frames _ s v h = absurd h

ended-back : (frames : List Frame) (c : Sign) (s : List Sign) (v : Value) → GoesFrom (fed word frames c) s v → Goes word frames (c ∷ s) v
ended-back frames Space s v h = (tt, step-needs frames Space s v h)
ended-back frames Open s v h = (tt, step-needs frames Open s v h)
ended-back frames _ s v h = absurd h

got-back : (a : Value) (frames : List Frame) (c : Sign) (s : List Sign) (v : Value) → GoesFrom (fed (got_value a) frames c) s v → Goes (got_value a) frames (c ∷ s) v
got-back a frames Space s v h = space-behind frames a s v h
got-back a frames Open s v h = step-behind frames a Open s v h
got-back a frames Close s v h = step-behind frames a Close s v h
got-back a frames Comma s v h = step-behind frames a Comma s v h
got-back a frames LetterI s v h = step-behind frames a LetterI s v h
got-back a frames LetterN s v h = step-behind frames a LetterN s v h
got-back a frames LetterL s v h = step-behind frames a LetterL s v h
got-back a frames LetterR s v h = step-behind frames a LetterR s v h
got-back a frames Other s v h = step-behind frames a Other s v h

pub fed-goes : (mode : Mode) (frames : List Frame) (c : Sign) (s : List Sign) (v : Value) → GoesFrom (fed mode frames c) s v → Goes mode frames (c ∷ s) v
fed-goes need frames c s v h = step-needs frames c s v h
fed-goes opened frames c s v h = opened-back frames c s v h
fed-goes word_i frames c s v h = word_i-back frames c s v h
fed-goes word_in frames c s v h = word_in-back frames c s v h
fed-goes word frames c s v h = ended-back frames c s v h
fed-goes (got_value a) frames c s v h = got-back a frames c s v h

pub goes-fed_by : (standing : ReaderState) (p s : List Sign) (v : Value) → GoesFrom standing (p ++ s) v → GoesFrom (fed_by standing p) s v
goes-fed_by standing [] s v h = h
goes-fed_by None (c ∷ p) s v h = absurd h
goes-fed_by (Some standing) (c ∷ p) s v h = goes-fed_by (fed standing.0 standing.1 c) p s v (goes-fed standing.0 standing.1 c (p ++ s) v h)

pub fed_by-goes : (standing : ReaderState) (p s : List Sign) (v : Value) → GoesFrom (fed_by standing p) s v → GoesFrom standing (p ++ s) v
fed_by-goes standing [] s v h = h
fed_by-goes None (c ∷ p) s v h = absurd h
fed_by-goes (Some standing) (c ∷ p) s v h = from (fed standing.0 standing.1 c) refl (fed_by-goes (fed standing.0 standing.1 c) p s v h)
  where
    from : (next : ReaderState) → fed standing.0 standing.1 c ≡ next → GoesFrom next (p ++ s) v → Goes standing.0 standing.1 (c ∷ (p ++ s)) v
    from next is h = fed-goes standing.0 standing.1 c (p ++ s) v (rw is h)

-- the machine stands before any sign
abbrev pub at_first : ReaderState
at_first = Some (need, [])

pub read-goes : (text : List Sign) (v : Value) → SignsRead text v → GoesFrom at_first text v
read-goes text v h = (v, h.rest, h.spells, (h.spaces, refl))

pub goes-read : (text : List Sign) (v : Value) → GoesFrom at_first text v → SignsRead text v
goes-read text v (a, t, b, (spaces, is)) = rw (← is) (record { rest = t; spells = b; spaces = spaces })

-- where the text ends, the words before an expression are all that may be open
pub whole-behind : (frames : List Frame) (a v : Value) → whole a frames ≡ Some v → Behind frames a [] v
whole-behind [] a v is = (no_more, cc)
whole-behind (in_inl ∷ frames) a v is = whole-behind frames (inl a) v is
whole-behind (in_inr ∷ frames) a v is = whole-behind frames (inr a) v is
whole-behind (in_parens ∷ frames) a v is = cc
whole-behind (in_pair x ∷ frames) a v is = cc

pub behind-whole : (frames : List Frame) (a v : Value) → whole a frames ≡ None → Behind frames a [] v → ⊥
behind-whole [] a v is h = cc
behind-whole (in_inl ∷ frames) a v is h = behind-whole frames (inl a) v is h
behind-whole (in_inr ∷ frames) a v is h = behind-whole frames (inr a) v is h
behind-whole (in_parens ∷ frames) a v is (left (r, m, h)) = elim m [ ]
behind-whole (in_parens ∷ frames) a v is (right (u, b, w, r, m, n, o, h)) = elim m [ ]
behind-whole (in_pair x ∷ frames) a v is (r, m, h) = elim m [ ]

pub ends-goes : (mode : Mode) (frames : List Frame) (v : Value) → ends mode frames ≡ Some v → Goes mode frames [] v
ends-goes (got_value a) frames v is = whole-behind frames a v is
ends-goes need frames v is = cc
ends-goes opened frames v is = cc
ends-goes word_i frames v is = cc
ends-goes word_in frames v is = cc
ends-goes word frames v is = cc

pub goes-ends : (mode : Mode) (frames : List Frame) (v : Value) → ends mode frames ≡ None → Goes mode frames [] v → ⊥
goes-ends (got_value a) frames v is h = behind-whole frames a v is h
goes-ends need frames v is (a, t, b, h) = elim b [ ]
goes-ends opened frames v is (left (t, m, h)) = elim m [ ]
goes-ends opened frames v is (right (a, t, b, h)) = elim b [ ]
goes-ends word_i frames v is (a, t, b, h) = elim b [ ]
goes-ends word_in frames v is (a, t, b, h) = elim b [ ]
goes-ends word frames v is (end, (a, t, b, h)) = elim b [ ]
