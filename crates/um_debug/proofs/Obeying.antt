-- Lines that are answered.
use Rattle.std.proofs.Common.{◌≡◌, ℕ, ◌≤◌, List, ◌++◌, refl, sym, ap, ◌∙◌, subst, length, take, arith}
use Rattle.std.specs.Prelude.{Result, Ok, Err, Option, Some, Vec, option_map}
use Rattle.std.specs.declared.alloc.Global.{Global}
use Rattle.std.proofs.lemmas.List.{append-nil}
use Rattle.um_word.specs.State.{State}
use Rattle.um_word.specs.Rule.{Identifiers}
use Rattle.um_machine.specs.MachineView.{MachineView, state_of}
use Rattle.um_machine.specs.Runs.{Seen, GoesFromTo}
use Rattle.um_machine.proofs.Joined.{joined, weakened}
use Rattle.umix_base.specs.declared.limits.Limits.{Limits}
use Rattle.um_debug.specs.declared.command.Command.{Command}
use Rattle.um_debug.specs.declared.debugger.DebugEnd.{DebugEnd}
use Rattle.um_debug.specs.declared.debugger.DebugEnd.TheVariants as ends
use Rattle.um_debug.specs.Commands as commands
use Rattle.um_debug.specs.Commands.{IsCommandLine}
use Rattle.um_debug.specs.Course.{Points}
use Rattle.um_debug.specs.Replies.{unknown_text}
use Rattle.um_debug.specs.Session.{Session, Answer, AnswersLine, known, unknown, answer, tells, sent}
use Rattle.um_debug.specs.Debugging as debugging
use Rattle.um_debug.specs.Debugging.{FailsAtReply, Fails}
use Rattle.um_debug.specs.inner.Calls as calls
use Rattle.um_debug.specs.inner.Calls.{MayAsk, IsAnswer, session_of, CommandFails, CommandEnds, AnswerEnds, ObeyEnds}
use Rattle.um_debug.proofs.Placing.{IsBehind, no_call, went_out}

-- what a line asks for may be asked for
pub may_ask : (line : List ℕ) (command : Command) → IsCommandLine line command → MayAsk command
may_ask _ _ (commands.step n is) = is.0
may_ask _ _ (commands.go n is) = is.0
may_ask _ _ (commands.breakpoint offset small) = tt
may_ask _ _ (commands.watch id offset a b) = tt
may_ask _ _ commands.registers = tt
may_ask _ _ (commands.words id offset n a b least most fits) = (least, fits)
may_ask _ _ commands.finger = tt
may_ask _ _ commands.quit = tt

nothing_out : (s : State) (piece : List ℕ) → s ≡ record s { out = s.out ++ take 0 piece }
nothing_out s piece = λ i. record s { out = sym (append-nil s.out) i }

-- the answer stands, but nothing of it went out
unsent : (L : Limits) (line : List ℕ) (s : Session) (a : Answer) (j : Identifiers) (t : State) → AnswersLine L line s a →
    j ≡ a.session.identifiers → t ≡ a.session.state → FailsAtReply L line s 0 j t
unsent L line s a j t answers ids state = record {
  answer = a;
  answers = answers;
  identifiers_are = ids;
  begun = omega arith;
  state_is = state ∙ nothing_out a.session.state (sent a.reply);
}

module _ (line : List ℕ) (input output : Type 0) (old new : MachineView) (before now : Points) (s t : State) where
  known_fails : (command : Command) → IsCommandLine line command → (end : DebugEnd) →
      CommandFails old.limits command (session_of old s before) input output new.identifiers t end →
      Fails old.limits line (session_of old s before) input output new.identifiers t end
  known_fails command is _ (calls.command_failed why end few cut cause) =
      debugging.at_cycle why end (record { command = command; is_command = is; allowed = few; cut = cut }) cause
  known_fails command is _ (calls.no_reply ids state) =
      debugging.no_memory (unsent old.limits line (session_of old s before) (answer old.limits command (session_of old s before))
      new.identifiers t (known command is) ids state)

  -- a line that is a command
  known_ends : (command : Command) → IsCommandLine line command → (r : Result (Vec ℕ Global) DebugEnd) →
      CommandEnds command input output old new before now s t r → AnswerEnds line input output old new before now s t r
  known_ends command is (Ok reply) e = (answer old.limits command (session_of old s before), known command is, e)
  known_ends command is (Err end) e = known_fails command is end e

  -- a reply went out
  obeyed : (u : State) (reply : Vec ℕ Global) → AnswerEnds line input output old new before now s u (Ok reply) →
      IsBehind reply.items u t → ObeyEnds line input output old new before now s t (Ok tt)
  obeyed u reply e behind = (
    e.0,
    e.1,
    ap (λ (x : Session). record x { state = record x.state { out = x.state.out ++ sent e.0.reply } }) e.2.session_is
        ∙ ap (λ r. session_of new (record u { out = u.out ++ r }) now) (sym e.2.reply_is)
        ∙ ap (λ v. session_of new v now) (sym behind),
  )

  -- of a reply the first k bytes went out
  cut_off : (u : State) (reply : Vec ℕ Global) (k : ℕ) → k ≤ length reply.items → output →
      AnswerEnds line input output old new before now s u (Ok reply) → IsBehind (take k reply.items) u t →
      ObeyEnds line input output old new before now s t (Err ends.WriteFault)
  cut_off u reply k le cause e behind = debugging.at_reply k (record {
    answer = e.0;
    answers = e.1;
    identifiers_are = sym (ap (λ (x : Session). x.identifiers) e.2.session_is);
    begun = subst (λ r. k ≤ length r) e.2.reply_is le;
    state_is =
        behind ∙ ap (λ r. record u { out = u.out ++ take k r }) e.2.reply_is
        ∙ ap (λ (v : State). record v { out = v.out ++ take k (sent e.0.reply) }) (sym (ap (λ (x : Session). x.state) e.2.session_is));
  }) cause

-- a line that is no command
module _ (line : List ℕ) (input output : Type 0) (m : MachineView) (p : Points) (s : State)
    (no : (command : Command) → IsCommandLine line command → ⊥) where
  unknown_told : (reply : Vec ℕ Global) → reply.items ≡ sent (Some unknown_text) →
      AnswerEnds line input output m m p p s s (Ok reply)
  unknown_told reply e =
      (tells unknown_text (session_of m s p), unknown no, record { session_is = refl; reply_is = e })

  unknown_untold : AnswerEnds line input output m m p p s s (Err ends.Memory)
  unknown_untold =
      debugging.no_memory (unsent m.limits line (session_of m s p) (tells unknown_text (session_of m s p)) m.identifiers s (unknown no) refl refl)

-- the same, of calls
pub call_known : (line : List ℕ) (input output : Type 0) (x y : Seen) (before now : Points) (command : Command) → IsCommandLine line command →
    (r : Result (Vec ℕ Global) DebugEnd) →
    GoesFromTo x y (λ s t. CommandEnds command input output x.machine y.machine before now s t r) →
    GoesFromTo x y (λ s t. AnswerEnds line input output x.machine y.machine before now s t r)
call_known line input output x y before now command is r =
    weakened x y (λ s t. CommandEnds command input output x.machine y.machine before now s t r)
    (λ s t. AnswerEnds line input output x.machine y.machine before now s t r)
    (λ s t. known_ends line input output x.machine y.machine before now s t command is r)

module _ (line : List ℕ) (input output : Type 0) (x : Seen) (p : Points) (no : (command : Command) → IsCommandLine line command → ⊥) where
  pub call_unknown : (reply : Vec ℕ Global) → reply.items ≡ sent (Some unknown_text) →
      GoesFromTo x x (λ s t. AnswerEnds line input output x.machine x.machine p p s t (Ok reply))
  call_unknown reply e =
      no_call x (λ s t. AnswerEnds line input output x.machine x.machine p p s t (Ok reply))
      (λ rest out. unknown_told line input output x.machine p (state_of x.machine rest out) no reply e)

  pub call_unknown_untold : GoesFromTo x x (λ s t. AnswerEnds line input output x.machine x.machine p p s t (Err ends.Memory))
  call_unknown_untold =
      no_call x (λ s t. AnswerEnds line input output x.machine x.machine p p s t (Err ends.Memory))
      (λ rest out. unknown_untold line input output x.machine p (state_of x.machine rest out) no)

-- a line was answered, and then its reply went out, or a part of it
module _ (line : List ℕ) (input output : Type 0) (x y : Seen) (before now : Points) (reply : Vec ℕ Global) (o : Option (List ℕ))
    (answered : GoesFromTo x y (λ s t. AnswerEnds line input output x.machine y.machine before now s t (Ok reply))) where
  abbrev Left : Seen
  Left = record { machine = y.machine; input = y.input; output = o }

  then_out : (bytes : List ℕ) (r : Result (Unit {0}) DebugEnd) → o ≡ option_map (λ held. held ++ bytes) y.output →
      ((s u t : State) → AnswerEnds line input output x.machine y.machine before now s u (Ok reply) → IsBehind bytes u t →
      ObeyEnds line input output x.machine y.machine before now s t r) →
      GoesFromTo x Left (λ s t. ObeyEnds line input output x.machine y.machine before now s t r)
  then_out bytes r e ends =
      joined x y Left (λ s t. AnswerEnds line input output x.machine y.machine before now s t (Ok reply)) (IsBehind bytes)
      (λ s t. ObeyEnds line input output x.machine y.machine before now s t r) ends answered
      (went_out y.machine y.input y.output o bytes e)

  pub call_obeyed : (piece : List ℕ) → piece ≡ reply.items → o ≡ option_map (λ held. held ++ piece) y.output →
      GoesFromTo x Left (λ s t. ObeyEnds line input output x.machine y.machine before now s t (Ok tt))
  call_obeyed piece is e =
      then_out reply.items (Ok tt) (e ∙ ap (λ p. option_map (λ held. held ++ p) y.output) is)
      (λ s u t a behind. obeyed line input output x.machine y.machine before now s t u reply a behind)

  pub call_cut_off : (piece : List ℕ) → piece ≡ reply.items → output →
      (k : ℕ) × (k ≤ length piece) × (o ≡ option_map (λ held. held ++ take k piece) y.output) →
      GoesFromTo x Left (λ s t. ObeyEnds line input output x.machine y.machine before now s t (Err ends.WriteFault))
  call_cut_off piece is cause e =
      then_out (take e.0 reply.items) (Err ends.WriteFault) (e.2 ∙ ap (λ p. option_map (λ held. held ++ take e.0 p) y.output) is)
      (λ s u t a behind. cut_off line input output x.machine y.machine before now s t u reply e.0
      (subst (λ p. e.0 ≤ length p) is e.1) cause a behind)
