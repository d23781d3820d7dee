-- What the lines of a session do, one after the other.
use Rattle.std.specs.Prelude.{ℕ, ◌+◌, ◌==◌, nat_lt, nat_le, ◌&&◌, Bool, not, if◌then◌else◌, List}
use Rattle.std.specs.Prelude.{[], ◌∷◌, ◌++◌, codes, decimal, filter, length, Option, Some, None}
use Rattle.std.specs.List.{list_any}
use Rattle.umix_base.specs.declared.limits.Limits.{Limits}
use Rattle.um_word.specs.State.{State}
use Rattle.um_word.specs.Rule.{Identifiers}
use Rattle.um_debug.specs.declared.command.Command.{Command}
use Rattle.um_debug.specs.declared.command.Command.TheVariants.{Step, Go, Breakpoint, Watch}
use Rattle.um_debug.specs.declared.command.Command.TheVariants.{Registers, Words, Finger, Quit}
use Rattle.um_debug.specs.declared.command.WordPlace.{WordPlace}
use Rattle.um_debug.specs.declared.course.Came.TheVariants.{Stopped}
use Rattle.um_debug.specs.Commands.{IsCommandLine, most_cycles}
use Rattle.um_debug.specs.Course.{Points, no_points, Going, Goes, Ends, goes_for}
use Rattle.um_debug.specs.Replies.{came_text, registers_text, words_text, finger_text, unknown_text}

-- The machine's state, with the scroll's input that is left and all that went out, replies too; its
-- identifiers; and where runs are to stop.
pub record Session : Type 0 where
  pub state : State
  pub identifiers : Identifiers
  pub points : Points

-- a session begins with no breakpoint and no watch
abbrev pub fresh : State → Identifiers → Session
fresh s i = record { state = s; identifiers = i; points = no_points }

-- the session after a command, and the reply, if there is one
pub record Answer : Type 0 where
  pub session : Session
  pub reply : Option (List ℕ)

-- it changes nothing, and this is told
abbrev pub tells : List ℕ → Session → Answer
tells reply s = record { session = s; reply = Some reply }

-- a reply with the LF that ends it
abbrev pub sent : Option (List ℕ) → List ℕ
sent None = []
sent (Some reply) = reply ++ codes "\n"

-- the session once the reply went out
abbrev pub after : Answer → Session
after a = record a.session { state = record a.session.state { out = a.session.state.out ++ sent a.reply } }

-- what cycles came to, and what is told of it
abbrev pub answer_of : Points → Going → Answer
answer_of points (Goes t j) =
    tells (came_text Stopped t.cycles t.finger) (record { state = t; identifiers = j; points = points })
answer_of points (Ends t j came) =
    tells (came_text came t.cycles t.finger) (record { state = t; identifiers = j; points = points })

-- so many cycles, which look at these points, where not too many would be made in all
abbrev pub cycles_answer : Limits → Points → ℕ → Session → Answer
cycles_answer L looked_at n s =
    if nat_le (s.state.cycles + n) most_cycles
    then answer_of s.points (goes_for L looked_at n s.identifiers s.state)
    else tells unknown_text s

-- the most breakpoints and watches
abbrev pub most_breakpoints : ℕ
most_breakpoints = 64

abbrev pub most_watches : ℕ
most_watches = 16

-- a thing in a list is taken out of it, and another is put at its end, where fewer than so many stand there
pub data Toggled (A : Type 0) : Type 0 where
  Off : List A → Toggled A
  On : List A → Toggled A
  Full : Toggled A

abbrev pub toggled : {A : Type 0} → (is_it : A → Bool) → (most : ℕ) → A → List A → Toggled A
toggled is_it most x xs =
    if list_any is_it xs then Off (filter (λ y. not (is_it y)) xs)
    else if nat_lt (length xs) most then On (xs ++ x ∷ []) else Full

-- two places are the same
abbrev pub is_place : WordPlace → WordPlace → Bool
is_place place other = (other.id == place.id) && (other.offset == place.offset)

-- the answer to a line that sets or removes something: what it is, and whether it is on now
abbrev pub toggle_answer : {A : Type 0} → List ℕ → Session → (List A → Points) → Toggled A → Answer
toggle_answer what s points (Off xs) = tells (what ++ codes " off") (record s { points = points xs })
toggle_answer what s points (On xs) = tells (what ++ codes " on") (record s { points = points xs })
toggle_answer what s points Full = tells (codes "full") s

-- the table of commands
abbrev pub answer : Limits → Command → Session → Answer
answer L (Step n) s = cycles_answer L no_points n s
answer L (Go n) s = cycles_answer L s.points n s
answer L (Breakpoint offset) s =
    toggle_answer (codes "b " ++ decimal offset) s (λ xs. record s.points { breakpoints = xs })
    (toggled (λ other. other == offset) most_breakpoints offset s.points.breakpoints)
answer L (Watch place) s =
    toggle_answer (codes "w " ++ decimal place.id ++ codes " " ++ decimal place.offset) s
    (λ xs. record s.points { watches = xs })
    (toggled (is_place place) most_watches place s.points.watches)
answer L Registers s = tells (registers_text s.state.registers) s
answer L (Words place count) s = tells (words_text s.state.arrays place count) s
answer L Finger s = tells (finger_text s.state.arrays s.state.cycles s.state.finger) s
answer L Quit s = record { session = s; reply = None }

-- the answer to a line: that of its command, or that it is none
pub data AnswersLine (L : Limits) (line : List ℕ) (s : Session) : Answer → Type 0 where
  known : (command : Command) → IsCommandLine line command → AnswersLine L line s (answer L command s)
  unknown : ((command : Command) → IsCommandLine line command → ⊥) → AnswersLine L line s (tells unknown_text s)

-- the lines are answered, one after the other
pub data Obeys (L : Limits) : List (List ℕ) → Session → Session → Type 0 where
  none : (s : Session) → Obeys L [] s s
  more : (line : List ℕ) (lines : List (List ℕ)) (s : Session) (a : Answer) (t : Session) →
      AnswersLine L line s a → Obeys L lines (after a) t → Obeys L (line ∷ lines) s t
