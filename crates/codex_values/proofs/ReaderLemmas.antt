-- What the reader's places and levels stand for, as it takes its steps.
use Rattle.std.specs.Prelude.{◌≡◌, ◌⊎◌, ℕ, Option, Some, None, List, [], ◌∷◌, ◌++◌}
use Rattle.std.proofs.Common.{refl, ◌∙◌, ap, arith, inl as left, inr as right}
use Rattle.codex_values.specs.Value.{Value, pair, inl, inr}
use Rattle.codex_values.specs.Store.{value_at, Keeps}
use Rattle.codex_values.specs.declared.shape.Shape.{Shape}
use Rattle.codex_values.specs.declared.read.Sign.{Sign}
use Rattle.codex_values.specs.declared.read.Sign.TheVariants.{Space, Close, Comma, LetterI}
use Rattle.codex_values.specs.declared.read.Level.{Level}
use Rattle.codex_values.specs.declared.read.Level.TheVariants.{Inl, Inr, Parens, Pair}
use Rattle.codex_values.specs.declared.read.State.{State}
use Rattle.codex_values.specs.inner.ReaderStates.{Frame, in_inl, in_inr, in_parens, in_pair, need, opened, word, got_value, ReaderState, begun_by, got, fed, whole, frame_of, frames_of, IsLevelIn, AreLevelsIn, IsAfter}

pub frames_of-push : (nodes : List Shape) (levels : List Level) (level : Level) → frames_of nodes (levels ++ level ∷ []) ≡ frame_of nodes level ∷ frames_of nodes levels
frames_of-push nodes [] level = refl
frames_of-push nodes (l ∷ levels) level = ap (λ frames. frames ++ frame_of nodes l ∷ []) (frames_of-push nodes levels level)

pub AreLevelsIn-push : (nodes : List Shape) (levels : List Level) (level : Level) → AreLevelsIn nodes levels → IsLevelIn nodes level → AreLevelsIn nodes (levels ++ level ∷ [])
AreLevelsIn-push nodes [] level h here = (here, tt)
AreLevelsIn-push nodes (l ∷ levels) level h here = (h.0, AreLevelsIn-push nodes levels level h.1 here)

-- the levels but the last, and the last
pub AreLevelsIn-split : (nodes : List Shape) (levels : List Level) (level : Level) → AreLevelsIn nodes (levels ++ level ∷ []) → AreLevelsIn nodes levels × IsLevelIn nodes level
AreLevelsIn-split nodes [] level h = (tt, h.0)
AreLevelsIn-split nodes (l ∷ levels) level h = let (rest, last) = AreLevelsIn-split nodes levels level h.1 in ((h.0, rest), last)

IsLevelIn-kept : (old new : List Shape) (level : Level) → Keeps old new → IsLevelIn old level → IsLevelIn new level
IsLevelIn-kept old new Inl kept h = tt
IsLevelIn-kept old new Inr kept h = tt
IsLevelIn-kept old new Parens kept h = tt
IsLevelIn-kept old new (Pair at) kept h = omega (arith, kept.longer)

pub AreLevelsIn-kept : (old new : List Shape) (levels : List Level) → Keeps old new → AreLevelsIn old levels → AreLevelsIn new levels
AreLevelsIn-kept old new [] kept h = tt
AreLevelsIn-kept old new (l ∷ levels) kept h = (IsLevelIn-kept old new l kept h.0, AreLevelsIn-kept old new levels kept h.1)

frame_of-kept : (old new : List Shape) (level : Level) → Keeps old new → IsLevelIn old level → frame_of new level ≡ frame_of old level
frame_of-kept old new Inl kept h = refl
frame_of-kept old new Inr kept h = refl
frame_of-kept old new Parens kept h = refl
frame_of-kept old new (Pair at) kept h = ap in_pair (kept.same at h)

pub frames_of-kept : (old new : List Shape) (levels : List Level) → Keeps old new → AreLevelsIn old levels → frames_of new levels ≡ frames_of old levels
frames_of-kept old new [] kept h = refl
frames_of-kept old new (l ∷ levels) kept h = rw (frames_of-kept old new levels kept h.1, frame_of-kept old new l kept h.0) refl

-- the levels that are left when the last is taken off
pub record IsPopped (nodes : List Shape) (levels rest : List Level) (level : Level) : Type 0 where
  pub frames : frames_of nodes levels ≡ frame_of nodes level ∷ frames_of nodes rest
  pub places : AreLevelsIn nodes rest
  pub place : IsLevelIn nodes level

pub popped : (nodes : List Shape) (levels rest : List Level) (level known : Level) → levels ≡ rest ++ level ∷ [] → level ≡ known → AreLevelsIn nodes levels → IsPopped nodes levels rest known
popped nodes levels rest level known split is places =
    let whole : levels ≡ rest ++ known ∷ [] = split ∙ ap (λ l. rest ++ l ∷ []) is in
    let (others, last) = AreLevelsIn-split nodes rest known (rw whole at places) in
    record { frames = rw whole (frames_of-push nodes rest known); places = others; place = last }

-- a word before an expression is done
module _ {T : Type 0} (F : Value → List Frame → T) (old new : List Shape) (levels rest : List Level) (at made : ℕ) where
  pub done_inl : ((a : Value) (frames : List Frame) → F a (in_inl ∷ frames) ≡ F (inl a) frames) → IsPopped old levels rest Inl → Keeps old new → value_at new made ≡ inl (value_at old at) →
      F (value_at old at) (frames_of old levels) ≡ F (value_at new made) (frames_of new rest)
  done_inl step pop kept is = rw (pop.frames, is, frames_of-kept old new rest kept pop.places) (step (value_at old at) (frames_of old rest))

  pub done_inr : ((a : Value) (frames : List Frame) → F a (in_inr ∷ frames) ≡ F (inr a) frames) → IsPopped old levels rest Inr → Keeps old new → value_at new made ≡ inr (value_at old at) →
      F (value_at old at) (frames_of old levels) ≡ F (value_at new made) (frames_of new rest)
  done_inr step pop kept is = rw (pop.frames, is, frames_of-kept old new rest kept pop.places) (step (value_at old at) (frames_of old rest))

-- behind an expression in parentheses
module _ (nodes : List Shape) (levels rest : List Level) (at : ℕ) (sign : Sign) (pop : IsPopped nodes levels rest Parens) where
  pub closes_parens : sign ≡ Close → got (value_at nodes at) (frames_of nodes levels) sign ≡ Some (got_value (value_at nodes at), frames_of nodes rest)
  closes_parens is = rw (pop.frames, is) refl

  pub goes_on_with_pair : (new : List Level) → sign ≡ Comma → new ≡ rest ++ Pair at ∷ [] → got (value_at nodes at) (frames_of nodes levels) sign ≡ Some (need, frames_of nodes new)
  goes_on_with_pair new is pushed = rw (pop.frames, is, pushed, frames_of-push nodes rest (Pair at)) refl

  pub stuck_in_parens : (sign ≡ Close → ⊥) → (sign ≡ Comma → ⊥) → got (value_at nodes at) (frames_of nodes levels) sign ≡ None
  stuck_in_parens not_close not_comma = rw pop.frames (stuck (value_at nodes at) (frames_of nodes rest) sign not_close not_comma)
    where
      stuck : (a : Value) (frames : List Frame) (c : Sign) → (c ≡ Close → ⊥) → (c ≡ Comma → ⊥) → got a (in_parens ∷ frames) c ≡ None
      stuck a frames Close not_close not_comma = absurd (not_close refl)
      stuck a frames Comma not_close not_comma = absurd (not_comma refl)
      stuck a frames _ not_close not_comma = refl

-- behind the second part of a pair
module _ (nodes : List Shape) (levels rest : List Level) (first at : ℕ) (sign : Sign) (pop : IsPopped nodes levels rest (Pair first)) where
  pub closes_pair : (new : List Shape) (made : ℕ) → sign ≡ Close → Keeps nodes new → value_at new made ≡ pair (value_at nodes first) (value_at nodes at) →
      got (value_at nodes at) (frames_of nodes levels) sign ≡ Some (got_value (value_at new made), frames_of new rest)
  closes_pair new made is kept made_is = rw (pop.frames, is, made_is, frames_of-kept nodes new rest kept pop.places) refl

  pub stuck_in_pair : (sign ≡ Close → ⊥) → got (value_at nodes at) (frames_of nodes levels) sign ≡ None
  stuck_in_pair not_close = rw pop.frames (stuck (value_at nodes at) (frames_of nodes rest) sign not_close)
    where
      stuck : (a : Value) (frames : List Frame) (c : Sign) → (c ≡ Close → ⊥) → got a (in_pair (value_at nodes first) ∷ frames) c ≡ None
      stuck a frames Close not_close = absurd (not_close refl)
      stuck a frames _ not_close = refl

pub fed-opened : (frames : List Frame) (c : Sign) → (c ≡ Space → ⊥) → (c ≡ Close → ⊥) → fed opened frames c ≡ begun_by (in_parens ∷ frames) c
fed-opened frames Space not_space not_close = absurd (not_space refl)
fed-opened frames Close not_space not_close = absurd (not_close refl)
fed-opened frames _ not_space not_close = refl

pub fed-word : (frames : List Frame) (c : Sign) → (c ≡ LetterI → ⊥) → fed word frames c ≡ begun_by frames c
fed-word frames LetterI not_i = absurd (not_i refl)
fed-word frames _ not_i = refl

pub fed-got : (a : Value) (frames : List Frame) (c : Sign) → (c ≡ Space → ⊥) → fed (got_value a) frames c ≡ got a frames c
fed-got a frames Space not_space = absurd (not_space refl)
fed-got a frames _ not_space = refl

pub IsAfter-same : (expected known : ReaderState) (nodes : List Shape) (levels : List Level) (state : Option State) → expected ≡ known → IsAfter known nodes levels state → IsAfter expected nodes levels state
IsAfter-same expected known nodes levels state is h = rw is h

-- a parenthesis that is open leaves no whole value
pub whole-open : (nodes : List Shape) (levels rest : List Level) (at : ℕ) (level : Level) → levels ≡ rest ++ level ∷ [] → AreLevelsIn nodes levels →
    (level ≡ Parens) ⊎ ((first : ℕ) × (level ≡ Pair first)) → whole (value_at nodes at) (frames_of nodes levels) ≡ None
whole-open nodes levels rest at level split places (left is) =
    let pop = popped nodes levels rest level Parens split is places in
    rw pop.frames refl
whole-open nodes levels rest at level split places (right (first, is)) =
    let pop = popped nodes levels rest level (Pair first) split is places in
    rw pop.frames refl
