-- What cycles come to, and commands, with their replies.
use Rattle.std.proofs.Common.{◌≡◌, ℕ, ◌+◌, Bool, true, false, List, ◌++◌, refl, sym, ap, ◌∙◌, subst}
use Rattle.std.specs.Prelude.{if◌then◌else◌, nat_le, codes, Result, Ok, Err, Some, Vec}
use Rattle.std.specs.declared.alloc.Global.{Global}
use Rattle.std.proofs.lemmas.Bool.{leb-true}
use Rattle.um_word.specs.State.{State}
use Rattle.um_word.specs.Rule.{Identifiers}
use Rattle.um_machine.specs.MachineView.{MachineView, state_of}
use Rattle.um_debug.specs.declared.command.Command.{Command}
use Rattle.um_debug.specs.declared.command.Command.TheVariants.{Step, Go}
use Rattle.um_debug.specs.declared.course.Came.{Came}
use Rattle.um_debug.specs.declared.course.Came.TheVariants.{Stopped}
use Rattle.um_debug.specs.declared.debugger.DebugEnd.{DebugEnd}
use Rattle.um_debug.specs.declared.debugger.DebugEnd.TheVariants as ends
use Rattle.um_debug.specs.Commands.{most_cycles}
use Rattle.um_debug.specs.Course.{Points, no_points, Going, Goes, Ends, goes_for}
use Rattle.um_debug.specs.Replies.{came_text, unknown_text}
use Rattle.um_debug.specs.Session.{Session, Answer, Toggled, Off, On, Full, sent, tells, answer, answer_of, cycles_answer, toggle_answer}
use Rattle.um_debug.specs.inner.Calls as calls
use Rattle.um_debug.specs.inner.Calls.{CameTo, Course, Sets, toggle_text, IsAnswer, session_of, CyclesFail, CyclesEnd, CommandFails, CommandEnds}
use Rattle.um_machine.specs.Runs.{Seen, GoesFromTo}
use Rattle.um_machine.proofs.Joined.{weakened}
use Rattle.um_debug.proofs.Placing.{IsAt, placed, no_call}

-- what cycles came to is told so
told : (g : Going) (j : Identifiers) (t : State) (why : Came) (p : Points) (reply : List ℕ) → CameTo g j t why →
    reply ≡ sent (Some (came_text why t.cycles t.finger)) →
    IsAnswer (answer_of p g) (record { state = t; identifiers = j; points = p }) reply
told (Goes u k) j t why p reply c e = record {
  session_is =
      ap (λ v. record { state = v; identifiers = k; points = p }) c.0
      ∙ ap (λ i. record { state = t; identifiers = i; points = p }) c.1;
  reply_is =
      e ∙ ap (λ x. sent (Some (came_text x t.cycles t.finger))) c.2
      ∙ ap (λ (v : State). sent (Some (came_text Stopped v.cycles v.finger))) (sym c.0);
}
told (Ends u k came) j t why p reply c e = record {
  session_is =
      ap (λ v. record { state = v; identifiers = k; points = p }) c.0
      ∙ ap (λ i. record { state = t; identifiers = i; points = p }) c.1;
  reply_is =
      e ∙ ap (λ x. sent (Some (came_text x t.cycles t.finger))) c.2
      ∙ ap (λ (v : State). sent (Some (came_text came v.cycles v.finger))) (sym c.0);
}

module _ (points : Points) (n : ℕ) (input output : Type 0) (old new : MachineView) (s t : State) (b : Bool)
    (may : nat_le (s.cycles + n) most_cycles ≡ b) where
  by_test : (p : Points) → cycles_answer old.limits points n (session_of old s p)
      ≡ (if b then answer_of p (goes_for old.limits points n old.identifiers s) else tells unknown_text (session_of old s p))
  by_test p =
      ap (λ x. if x then answer_of p (goes_for old.limits points n old.identifiers s) else tells unknown_text (session_of old s p)) may

-- too many cycles
module _ (points : Points) (n : ℕ) (input output : Type 0) (m : MachineView) (s : State)
    (many : nat_le (s.cycles + n) most_cycles ≡ false) where
  refused : (reply : Vec ℕ Global) → reply.items ≡ sent (Some unknown_text) → CyclesEnd points n input output m m s s (Ok reply)
  refused reply e p = record {
    session_is = ap (λ (a : Answer). a.session) (by_test points n input output m m s s false many p);
    reply_is = e ∙ ap (λ (a : Answer). sent a.reply) (sym (by_test points n input output m m s s false many p));
  }

  refused_memory : CyclesEnd points n input output m m s s (Err ends.Memory)
  refused_memory = calls.no_memory (λ p. ap (λ (a : Answer). a.session) (by_test points n input output m m s s false many p))

-- not too many
module _ (points : Points) (n : ℕ) (input output : Type 0) (old new : MachineView) (s t : State)
    (few : nat_le (s.cycles + n) most_cycles ≡ true) where
  answer_told : (why : Came) → (p : Points) (reply : List ℕ) → CameTo (goes_for old.limits points n old.identifiers s) new.identifiers t why →
      reply ≡ sent (Some (came_text why t.cycles t.finger)) →
      IsAnswer (cycles_answer old.limits points n (session_of old s p)) (session_of new t p) reply
  answer_told why p reply c e =
      subst (λ a. IsAnswer a (session_of new t p) reply) (sym (by_test points n input output old new s t true few p))
      (told (goes_for old.limits points n old.identifiers s) new.identifiers t why p reply c e)

  cycles_told : (why : Came) (reply : Vec ℕ Global) → IsAt new t → Course points n input output old new s t (Ok why) →
      reply.items ≡ sent (Some (came_text why new.cycles new.finger)) → CyclesEnd points n input output old new s t (Ok reply)
  cycles_told why reply at c e p =
      answer_told why p reply.items c
      (e ∙ ap (λ (v : State). sent (Some (came_text why v.cycles v.finger))) (sym at))

  cycles_untold : (why : Came) → Course points n input output old new s t (Ok why) → CyclesEnd points n input output old new s t (Err ends.Memory)
  cycles_untold why c =
      calls.no_memory (λ p. (answer_told why p (sent (Some (came_text why t.cycles t.finger))) c refl).session_is)

  cycles_cut : (end : DebugEnd) → Course points n input output old new s t (Err end) → CyclesEnd points n input output old new s t (Err end)
  cycles_cut end c = calls.cycle_failed c.0 end (leb-true (s.cycles + n) most_cycles few) c.1 c.2

-- commands that make cycles
module _ (n : ℕ) (input output : Type 0) (old new : MachineView) (p : Points) (s t : State) where
  step_fails : (end : DebugEnd) → CyclesFail no_points n input output old new s t end →
      CommandFails old.limits (Step n) (session_of old s p) input output new.identifiers t end
  step_fails _ (calls.cycle_failed why end few cut cause) = calls.command_failed why end few cut cause
  step_fails _ (calls.no_memory is) =
      calls.no_reply (sym (ap (λ (x : Session). x.identifiers) (is p))) (sym (ap (λ (x : Session). x.state) (is p)))

  pub step_ends : (r : Result (Vec ℕ Global) DebugEnd) → CyclesEnd no_points n input output old new s t r →
      CommandEnds (Step n) input output old new p p s t r
  step_ends (Ok reply) e = e p
  step_ends (Err end) e = step_fails end e

  go_fails : (end : DebugEnd) → CyclesFail p n input output old new s t end →
      CommandFails old.limits (Go n) (session_of old s p) input output new.identifiers t end
  go_fails _ (calls.cycle_failed why end few cut cause) = calls.command_failed why end few cut cause
  go_fails _ (calls.no_memory is) =
      calls.no_reply (sym (ap (λ (x : Session). x.identifiers) (is p))) (sym (ap (λ (x : Session). x.state) (is p)))

  pub go_ends : (r : Result (Vec ℕ Global) DebugEnd) → CyclesEnd p n input output old new s t r →
      CommandEnds (Go n) input output old new p p s t r
  go_ends (Ok reply) e = e p
  go_ends (Err end) e = go_fails end e

-- what is set changes neither the state nor the identifiers
pub toggle_keeps : {A : Type 0} (what : List ℕ) (s : Session) (points : List A → Points) (x : Toggled A) →
    ((toggle_answer what s points x).session.identifiers ≡ s.identifiers) × ((toggle_answer what s points x).session.state ≡ s.state)
toggle_keeps what s points (Off xs) = (refl, refl)
toggle_keeps what s points (On xs) = (refl, refl)
toggle_keeps what s points Full = (refl, refl)

-- the same, of calls
module _ (points : Points) (n : ℕ) (input output : Type 0) (x : Seen) (many : nat_le (x.machine.cycles + n) most_cycles ≡ false) where
  pub call_refused : (reply : Vec ℕ Global) → reply.items ≡ sent (Some unknown_text) →
      GoesFromTo x x (λ s t. CyclesEnd points n input output x.machine x.machine s t (Ok reply))
  call_refused reply e =
      no_call x (λ s t. CyclesEnd points n input output x.machine x.machine s t (Ok reply))
      (λ rest out. refused points n input output x.machine (state_of x.machine rest out) many reply e)

  pub call_refused_memory : GoesFromTo x x (λ s t. CyclesEnd points n input output x.machine x.machine s t (Err ends.Memory))
  call_refused_memory =
      no_call x (λ s t. CyclesEnd points n input output x.machine x.machine s t (Err ends.Memory))
      (λ rest out. refused_memory points n input output x.machine (state_of x.machine rest out) many)

module _ (points : Points) (n : ℕ) (input output : Type 0) (before now : Seen)
    (few : nat_le (before.machine.cycles + n) most_cycles ≡ true) where
  few_at : (s : State) → IsAt before.machine s → nat_le (s.cycles + n) most_cycles ≡ true
  few_at s at = ap (λ (v : State). nat_le (v.cycles + n) most_cycles) at ∙ few

  by_course : (r : Result Came DebugEnd) (q : Result (Vec ℕ Global) DebugEnd) →
      ((s t : State) → nat_le (s.cycles + n) most_cycles ≡ true → IsAt now.machine t →
      Course points n input output before.machine now.machine s t r → CyclesEnd points n input output before.machine now.machine s t q) →
      GoesFromTo before now (λ s t. Course points n input output before.machine now.machine s t r) →
      GoesFromTo before now (λ s t. CyclesEnd points n input output before.machine now.machine s t q)
  by_course r q ends course =
      weakened before now
      (λ s t. Course points n input output before.machine now.machine s t r × IsAt before.machine s × IsAt now.machine t)
      (λ s t. CyclesEnd points n input output before.machine now.machine s t q)
      (λ s t x. ends s t (few_at s x.1) x.2 x.0)
      (placed before now (λ s t. Course points n input output before.machine now.machine s t r) course)

  pub call_told : (why : Came) (reply : Vec ℕ Global) →
      reply.items ≡ sent (Some (came_text why now.machine.cycles now.machine.finger)) →
      GoesFromTo before now (λ s t. Course points n input output before.machine now.machine s t (Ok why)) →
      GoesFromTo before now (λ s t. CyclesEnd points n input output before.machine now.machine s t (Ok reply))
  call_told why reply e =
      by_course (Ok why) (Ok reply)
      (λ s t small at c. cycles_told points n input output before.machine now.machine s t small why reply at c e)

  pub call_untold : (why : Came) →
      GoesFromTo before now (λ s t. Course points n input output before.machine now.machine s t (Ok why)) →
      GoesFromTo before now (λ s t. CyclesEnd points n input output before.machine now.machine s t (Err ends.Memory))
  call_untold why =
      by_course (Ok why) (Err ends.Memory)
      (λ s t small at c. cycles_untold points n input output before.machine now.machine s t small why c)

  pub call_cut : (end : DebugEnd) →
      GoesFromTo before now (λ s t. Course points n input output before.machine now.machine s t (Err end)) →
      GoesFromTo before now (λ s t. CyclesEnd points n input output before.machine now.machine s t (Err end))
  call_cut end =
      by_course (Err end) (Err end)
      (λ s t small at c. cycles_cut points n input output before.machine now.machine s t small end c)

-- commands over calls
pub call_stepped : (n : ℕ) (input output : Type 0) (before now : Seen) (p : Points) (r : Result (Vec ℕ Global) DebugEnd) →
    GoesFromTo before now (λ s t. CyclesEnd no_points n input output before.machine now.machine s t r) →
    GoesFromTo before now (λ s t. CommandEnds (Step n) input output before.machine now.machine p p s t r)
call_stepped n input output before now p r =
    weakened before now (λ s t. CyclesEnd no_points n input output before.machine now.machine s t r)
    (λ s t. CommandEnds (Step n) input output before.machine now.machine p p s t r)
    (λ s t. step_ends n input output before.machine now.machine p s t r)

pub call_gone : (n : ℕ) (input output : Type 0) (before now : Seen) (p : Points) (r : Result (Vec ℕ Global) DebugEnd) →
    GoesFromTo before now (λ s t. CyclesEnd p n input output before.machine now.machine s t r) →
    GoesFromTo before now (λ s t. CommandEnds (Go n) input output before.machine now.machine p p s t r)
call_gone n input output before now p r =
    weakened before now (λ s t. CyclesEnd p n input output before.machine now.machine s t r)
    (λ s t. CommandEnds (Go n) input output before.machine now.machine p p s t r)
    (λ s t. go_ends n input output before.machine now.machine p s t r)

-- a command that makes no cycles, for whose reply there is no memory
pub call_unsaid : (command : Command) (input output : Type 0) (x : Seen) (p q : Points) →
    ((s : Session) → (s.identifiers ≡ (answer x.machine.limits command s).session.identifiers) × (s.state ≡ (answer x.machine.limits command s).session.state)) →
    GoesFromTo x x (λ s t. CommandEnds command input output x.machine x.machine p q s t (Err ends.Memory))
call_unsaid command input output x p q keeps =
    no_call x (λ s t. CommandEnds command input output x.machine x.machine p q s t (Err ends.Memory))
    (λ rest out. let k = keeps (session_of x.machine (state_of x.machine rest out) p) in calls.no_reply k.0 k.1)

-- one whose reply is there
pub call_said : (command : Command) (input output : Type 0) (x : Seen) (p q : Points) (reply : Vec ℕ Global) →
    ((rest out : List ℕ) → IsAnswer (answer x.machine.limits command (session_of x.machine (state_of x.machine rest out) p))
    (session_of x.machine (state_of x.machine rest out) q) reply.items) →
    GoesFromTo x x (λ s t. CommandEnds command input output x.machine x.machine p q s t (Ok reply))
call_said command input output x p q reply is =
    no_call x (λ s t. CommandEnds command input output x.machine x.machine p q s t (Ok reply)) is

pub setting : {A : Type 0} (what : List ℕ) (s : Session) (points : List A → Points) (x : Toggled A) (now : Points) (reply : List ℕ) →
    Sets what x s.points points now reply → IsAnswer (toggle_answer what s points x) (record s { points = now }) reply
setting what s points (Off xs) now reply e = record {
  session_is = ap (λ p. record s { points = p }) (sym e.1.1);
  reply_is = e.2 ∙ ap (λ b. toggle_text what b ++ codes "\n") e.1.0;
}
setting what s points (On xs) now reply e = record {
  session_is = ap (λ p. record s { points = p }) (sym e.1.1);
  reply_is = e.2 ∙ ap (λ b. toggle_text what b ++ codes "\n") e.1.0;
}
setting what s points Full now reply e = record {
  session_is = ap (λ p. record s { points = p }) (sym e.1.1);
  reply_is = e.2 ∙ ap (λ b. toggle_text what b ++ codes "\n") e.1.0;
}
