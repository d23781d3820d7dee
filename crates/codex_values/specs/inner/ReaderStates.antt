-- A machine that reads a text of a value sign by sign. A device of the reader's proof: no public clause cites it.
use Rattle.std.specs.Prelude.{◌≡◌, ◌<◌, ℕ, Option, Some, None, List, [], ◌∷◌, ◌++◌, length, ◌==◌, if◌then◌else◌}
use Rattle.std.specs.List.{AllByRecursion}
use Rattle.codex_values.specs.Value.{Value, unit, pair, inl, inr}
use Rattle.codex_values.specs.Store.{value_at}
use Rattle.codex_values.specs.declared.shape.Shape.{Shape}
use Rattle.codex_values.specs.declared.read.Sign.{Sign}
use Rattle.codex_values.specs.declared.read.Sign.TheVariants.{Space, Open, Close, Comma, LetterI}
use Rattle.codex_values.specs.declared.read.Sign.TheVariants.{LetterN, LetterL, LetterR, Other}
use Rattle.codex_values.specs.declared.read.Level.{Level}
use Rattle.codex_values.specs.declared.read.Level.TheVariants.{Inl, Inr, Parens, Pair}
use Rattle.codex_values.specs.declared.read.State.{State}
use Rattle.codex_values.specs.declared.read.State.TheVariants.{Need, Opened, WordI, WordIn, Word, Got}

-- the sign of a byte
abbrev pub sign_of : ℕ → Sign
sign_of c =
    if c == 32 then Space else (if c == 40 then Open else (if c == 41 then Close else (if c == 44 then Comma else
    (if c == 73 then LetterI else (if c == 110 then LetterN
    else (if c == 108 then LetterL else (if c == 114 then LetterR else Other)))))))

-- what an expression stands in: behind a word, in parentheses, or in a pair whose first part was read
pub data Frame : Type 0 where
  in_inl in_inr in_parens : Frame
  in_pair : Value → Frame

-- what was read last: see the reader's own states
pub data Mode : Type 0 where
  need opened word_i word_in word : Mode
  got_value : Value → Mode

-- where the machine stands, or nothing where no text of a value goes on so
abbrev pub ReaderState : Type 0
ReaderState = Option (Mode × List Frame)

-- where it stands after the first sign of an expression, or a space before it
abbrev pub begun_by : List Frame → Sign → ReaderState
begun_by frames Space = Some (need, frames)
begun_by frames Open = Some (opened, frames)
begun_by frames LetterI = Some (word_i, frames)
begun_by frames c = None

-- where it stands after a sign behind an expression, which isn't a space
abbrev pub got : Value → List Frame → Sign → ReaderState
got a [] c = None
got a (in_inl ∷ frames) c = got (inl a) frames c
got a (in_inr ∷ frames) c = got (inr a) frames c
got a (in_parens ∷ frames) Close = Some (got_value a, frames)
got a (in_parens ∷ frames) Comma = Some (need, in_pair a ∷ frames)
got a (in_parens ∷ frames) c = None
got a (in_pair x ∷ frames) Close = Some (got_value (pair x a), frames)
got a (in_pair x ∷ frames) c = None

-- where it stands after one sign more
abbrev pub fed : Mode → List Frame → Sign → ReaderState
fed need frames c = begun_by frames c
fed opened frames Space = Some (opened, frames)
fed opened frames Close = Some (got_value unit, frames)
fed opened frames c = begun_by (in_parens ∷ frames) c
fed word_i frames LetterN = Some (word_in, frames)
fed word_i frames c = None
fed word_in frames LetterL = Some (word, in_inl ∷ frames)
fed word_in frames LetterR = Some (word, in_inr ∷ frames)
fed word_in frames c = None
fed word frames LetterI = None
fed word frames c = begun_by frames c
fed (got_value a) frames Space = Some (got_value a, frames)
fed (got_value a) frames c = got a frames c

-- where it stands after a text
abbrev pub fed_by : ReaderState → List Sign → ReaderState
fed_by standing [] = standing
fed_by None (c ∷ s) = None
fed_by (Some standing) (c ∷ s) = fed_by (fed standing.0 standing.1 c) s

-- the value that the words before an expression make of its value, where nothing else is open
abbrev pub whole : Value → List Frame → Option Value
whole a [] = Some a
whole a (in_inl ∷ frames) = whole (inl a) frames
whole a (in_inr ∷ frames) = whole (inr a) frames
whole a (in_parens ∷ frames) = None
whole a (in_pair x ∷ frames) = None

-- the value of the text where it ends here
abbrev pub ends : Mode → List Frame → Option Value
ends (got_value a) frames = whole a frames
ends mode frames = None

-- what the reader's state stands for
abbrev pub mode_of : List Shape → State → Mode
mode_of nodes Need = need
mode_of nodes Opened = opened
mode_of nodes WordI = word_i
mode_of nodes WordIn = word_in
mode_of nodes Word = word
mode_of nodes (Got at) = got_value (value_at nodes at)

abbrev pub frame_of : List Shape → Level → Frame
frame_of nodes Inl = in_inl
frame_of nodes Inr = in_inr
frame_of nodes Parens = in_parens
frame_of nodes (Pair at) = in_pair (value_at nodes at)

-- what the reader's levels stand for, of which the last is the innermost
abbrev pub frames_of : List Shape → List Level → List Frame
frames_of nodes [] = []
frames_of nodes (level ∷ levels) = frames_of nodes levels ++ frame_of nodes level ∷ []

-- the place of the state is in the store
abbrev pub IsStateIn : List Shape → State → Type 0
IsStateIn nodes (Got at) = at < length nodes
IsStateIn nodes state = Unit {0}

-- the place of the level is in the store
abbrev pub IsLevelIn : List Shape → Level → Type 0
IsLevelIn nodes (Pair at) = at < length nodes
IsLevelIn nodes level = Unit {0}

-- the places of all levels are in the store
abbrev pub AreLevelsIn : List Shape → List Level → Type 0
AreLevelsIn nodes levels = AllByRecursion (IsLevelIn nodes) levels

-- the reader stands where the machine is expected to
abbrev pub IsAfter : ReaderState → List Shape → List Level → Option State → Type 0
IsAfter expected nodes levels None = expected ≡ None
IsAfter expected nodes levels (Some state) =
    (expected ≡ Some (mode_of nodes state, frames_of nodes levels)) × IsStateIn nodes state × AreLevelsIn nodes levels

-- the place stands for the expected value
abbrev pub IsWhole : Option Value → List Shape → Option ℕ → Type 0
IsWhole expected nodes None = expected ≡ None
IsWhole expected nodes (Some at) = (expected ≡ Some (value_at nodes at)) × (at < length nodes)
