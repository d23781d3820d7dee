-- Sessions, line by line, and how they end.
use Rattle.std.proofs.Common.{◌≡◌, ◌≢◌, ℕ, ◌+◌, ◌<◌, List, [], ◌∷◌, ◌++◌, Option, refl, ap, subst, length}
use Rattle.std.specs.Prelude.{Ok, Err}
use Rattle.std.proofs.lemmas.List.{length-append}
use Rattle.umix_base.specs.declared.limits.Limits.{Limits}
use Rattle.umix_base.specs.declared.source.Source as source
use Rattle.umix_base.specs.declared.sink.Sink as sink
use Rattle.umix_base.specs.Causes.{Rose}
use Rattle.um_word.specs.State.{State}
use Rattle.um_word.specs.Rule.{Identifiers}
use Rattle.um_machine.specs.declared.stop.Stop.{Stop}
use Rattle.um_machine.specs.declared.stop.Stop.TheVariants as stop
use Rattle.um_machine.specs.Outside.{MayHold}
use Rattle.um_machine.specs.Runs.{Seen, GoesFromTo}
use Rattle.um_machine.proofs.Joined.{joined, weakened}
use Rattle.um_machine.proofs.Rests.{some_held}
use Rattle.um_debug.specs.declared.debugger.DebugEnd.{DebugEnd}
use Rattle.um_debug.specs.declared.debugger.DebugEnd.TheVariants as ends
use Rattle.um_debug.specs.CommandLines as passes
use Rattle.um_debug.specs.CommandLines.{IsLine, Passes, quit_line}
use Rattle.um_debug.specs.Course.{Points, no_points}
use Rattle.um_debug.specs.Session as obeys
use Rattle.um_debug.specs.Session.{Session, Answer, AnswersLine, Obeys, fresh, after}
use Rattle.um_debug.specs.Debugging as debugs
use Rattle.um_debug.specs.Debugging.{EndsBy, Fails, Debugs, Debugged}
use Rattle.um_debug.specs.inner.Calls.{TookLine, TookPart, session_of, ObeyEnds}
use Rattle.um_debug.proofs.Placing.{no_call}

-- one line more
obeys_more : (L : Limits) (line : List ℕ) (a : Answer) (lines : List (List ℕ)) (s t : Session) → Obeys L lines s t → AnswersLine L line t a →
    Obeys L (lines ++ line ∷ []) s (after a)
obeys_more L line a _ _ _ (obeys.none s) answers = obeys.more line [] s a (after a) answers (obeys.none (after a))
obeys_more L line a _ _ _ (obeys.more first lines s b t x y) answers =
    obeys.more first (lines ++ line ∷ []) s b (after a) x (obeys_more L line a lines (after b) t y answers)

passes_more : (line more : List ℕ) → line ≢ quit_line → (bytes : List ℕ) (lines : List (List ℕ)) (rest : List ℕ) →
    Passes bytes lines rest → IsLine rest line more → Passes bytes (lines ++ line ∷ []) more
passes_more line more other _ _ _ (passes.none bytes) is = passes.more bytes line more [] more is other (passes.none more)
passes_more line more other _ _ _ (passes.more bytes first between lines rest x apart y) is =
    passes.more bytes first between (lines ++ line ∷ []) more x apart (passes_more line more other between lines rest y is)

-- a failure, where its causes are causes of others
module _ (L : Limits) (line : List ℕ) (s : Session) (input output input_after output_after : Type 0) (i : input → input_after) (o : output → output_after)
    (j : Identifiers) (t : State) where
  caused : (why : Stop) (end : DebugEnd) → EndsBy input output why end → EndsBy input_after output_after why end
  caused stop.ReadFault end e = (e.0, i e.1)
  caused stop.WriteFault end e = (e.0, o e.1)
  caused stop.Memory end e = e
  caused _ end e = e

  also_fails : (end : DebugEnd) → Fails L line s input output j t end → Fails L line s input_after output_after j t end
  also_fails _ (debugs.at_cycle why end x e) = debugs.at_cycle why end x (caused why end e)
  also_fails _ (debugs.at_reply k x e) = debugs.at_reply k x (o e)
  also_fails _ (debugs.no_memory x) = debugs.no_memory x

-- whatever is left of the commands, these lines were taken from what may have been there
abbrev pub Passed : (before now : Option (List ℕ)) → List (List ℕ) → Type 0
Passed before now lines = (more : List ℕ) → MayHold now more → (bytes : List ℕ) × MayHold before bytes × Passes bytes lines more

-- these lines were obeyed
abbrev pub Obeyed : List (List ℕ) → (before now : Seen) → Points → Type 0
Obeyed lines before now points = GoesFromTo before now (λ s t.
    Obeys before.machine.limits lines (fresh s before.machine.identifiers) (session_of now.machine t points))

pub none_passed : (o : Option (List ℕ)) → Passed o o []
none_passed o more may = (more, may, passes.none more)

pub none_obeyed : (x : Seen) → Obeyed [] x x no_points
none_obeyed x =
    no_call x (λ s t. Obeys x.machine.limits [] (fresh s x.machine.identifiers) (session_of x.machine t no_points))
    (λ rest out. obeys.none _)

pub one_passed : (before between now : Option (List ℕ)) (lines : List (List ℕ)) (line : List ℕ) → Passed before between lines →
    ((more : List ℕ) → MayHold now more → TookLine between line more) → line ≢ quit_line → Passed before now (lines ++ line ∷ [])
one_passed before between now lines line passed took other more may =
    let x = took more may in
    let y = passed x.bytes x.had in
    (y.0, y.1, passes_more line more other y.0 lines x.bytes y.2 x.is_line)

pub one_obeyed : (before between now : Seen) (points new : Points) (lines : List (List ℕ)) (line : List ℕ) (input output : Type 0) →
    between.machine.limits ≡ before.machine.limits → Obeyed lines before between points →
    GoesFromTo between now (λ s t. ObeyEnds line input output between.machine now.machine points new s t (Ok tt)) →
    Obeyed (lines ++ line ∷ []) before now new
one_obeyed before between now points new lines line input output same obeyed obey =
    joined before between now
    (λ s t. Obeys before.machine.limits lines (fresh s before.machine.identifiers) (session_of between.machine t points))
    (λ s t. ObeyEnds line input output between.machine now.machine points new s t (Ok tt))
    (λ s t. Obeys before.machine.limits (lines ++ line ∷ []) (fresh s before.machine.identifiers) (session_of now.machine t new))
    (λ s u t x e.
    subst (Obeys before.machine.limits (lines ++ line ∷ []) (fresh s before.machine.identifiers)) e.2
    (obeys_more before.machine.limits line e.0 lines (fresh s before.machine.identifiers) (session_of between.machine u points) x
    (subst (λ L. AnswersLine L line (session_of between.machine u points) e.0) same e.1)))
    obeyed obey

pub one_longer : (lines : List (List ℕ)) (line : List ℕ) (k : ℕ) → length lines ≡ k → length (lines ++ line ∷ []) ≡ k + 1
one_longer lines line k e = simp length-append (ap (λ n. n + 1) e)

-- the ends
module _ {C I O : Type 0} (commands : source.Ghosts C) (inputs : source.Ghosts I) (sinks : sink.Ghosts O) (turns : ℕ)
    (before between : Seen) (lines : List (List ℕ)) (points : Points) (c0 c1 : C) (i0 i1 : I) (o0 o1 : O)
    (passed : Passed (commands.rest c0) (commands.rest c1) lines) (obeyed : Obeyed lines before between points) where
  pub at_turns : length lines ≡ turns → Debugged commands inputs sinks turns before between c0 c1 i0 i1 o0 o1 ends.Turns
  at_turns all =
      let rest = some_held (commands.rest c1) in
      let x = passed rest.0 rest.1 in
      record {
        bytes = x.0;
        had = x.1;
        rest = rest.0;
        left = rest.1;
        session = weakened before between
            (λ s t. Obeys before.machine.limits lines (fresh s before.machine.identifiers) (session_of between.machine t points)) _
            (λ s t e. debugs.turns_made lines (session_of between.machine t points) x.2 all e) obeyed;
      }

  module _ (fewer : length lines < turns) (c2 : C) where
    pub at_no_line : MayHold (commands.rest c1) [] × MayHold (commands.rest c2) [] →
        Debugged commands inputs sinks turns before between c0 c2 i0 i1 o0 o1 ends.EndOfCommands
    at_no_line none =
        let x = passed [] none.0 in
        record {
          bytes = x.0;
          had = x.1;
          rest = [];
          left = none.1;
          session = weakened before between
              (λ s t. Obeys before.machine.limits lines (fresh s before.machine.identifiers) (session_of between.machine t points)) _
              (λ s t e. debugs.no_line lines (session_of between.machine t points) x.2 refl fewer e) obeyed;
        }

    pub at_unread : TookPart (commands.rest c1) (commands.rest c2) → Rose (commands.faults c0) (commands.faults c2) →
        Debugged commands inputs sinks turns before between c0 c2 i0 i1 o0 o1 ends.ReadFault
    at_unread took rose =
        let rest = some_held (commands.rest c2) in
        let x = passed (took.part ++ rest.0) (took.had rest.0 rest.1) in
        record {
          bytes = x.0;
          had = x.1;
          rest = rest.0;
          left = rest.1;
          session = weakened before between
              (λ s t. Obeys before.machine.limits lines (fresh s before.machine.identifiers) (session_of between.machine t points)) _
              (λ s t e. debugs.unread lines took.part (session_of between.machine t points) x.2 fewer took.short took.plain e rose) obeyed;
        }

    module _ (line : List ℕ) (took : (more : List ℕ) → MayHold (commands.rest c2) more → TookLine (commands.rest c1) line more) where
      pub at_quit : line ≡ quit_line → Debugged commands inputs sinks turns before between c0 c2 i0 i1 o0 o1 ends.Quit
      at_quit quit =
          let rest = some_held (commands.rest c2) in
          let y = took rest.0 rest.1 in
          let x = passed y.bytes y.had in
          record {
            bytes = x.0;
            had = x.1;
            rest = rest.0;
            left = rest.1;
            session = weakened before between
                (λ s t. Obeys before.machine.limits lines (fresh s before.machine.identifiers) (session_of between.machine t points)) _
                (λ s t e. debugs.quits lines y.bytes (session_of between.machine t points) x.2 fewer
                (subst (λ l. IsLine y.bytes l rest.0) quit y.is_line) e) obeyed;
          }

      pub at_failure : line ≢ quit_line → (now : Seen) (new : Points) (input output : Type 0) (end : DebugEnd) →
          between.machine.limits ≡ before.machine.limits →
          (input → Rose (inputs.faults i0) (inputs.faults i1)) → (output → Rose (sinks.faults o0) (sinks.faults o1)) →
          GoesFromTo between now (λ s t. ObeyEnds line input output between.machine now.machine points new s t (Err end)) →
          Debugged commands inputs sinks turns before now c0 c2 i0 i1 o0 o1 end
      at_failure other now new input output end same i o obey =
          let rest = some_held (commands.rest c2) in
          let y = took rest.0 rest.1 in
          let x = passed y.bytes y.had in
          record {
            bytes = x.0;
            had = x.1;
            rest = rest.0;
            left = rest.1;
            session = joined before between now
                (λ s t. Obeys before.machine.limits lines (fresh s before.machine.identifiers) (session_of between.machine t points))
                (λ s t. ObeyEnds line input output between.machine now.machine points new s t (Err end)) _
                (λ s u t z e. debugs.fails lines line y.bytes (session_of between.machine u points) now.machine.identifiers t end x.2 fewer y.is_line other z
                (also_fails before.machine.limits line (session_of between.machine u points) input output _ _ i o now.machine.identifiers t end
                (subst (λ L. Fails L line (session_of between.machine u points) input output now.machine.identifiers t end) same e)))
                obeyed obey;
          }
