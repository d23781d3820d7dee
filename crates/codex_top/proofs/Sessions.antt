-- Sessions of a scroll whose input never fails.
use Rattle.std.proofs.Common.{◌≡◌, ℕ, List, Some, refl, sym, subst, arith}
use Rattle.umix_base.specs.Causes.{Rose}
use Rattle.umix_base.specs.declared.limits.Limits.{Limits}
use Rattle.umix_base.specs.declared.source.Source as source
use Rattle.umix_base.specs.declared.sink.Sink as sink
use Rattle.um_word.specs.State.{State, start_of}
use Rattle.um_word.specs.Rule.{Identifiers, none_made}
use Rattle.um_machine.specs.MachineView.{MachineView, state_of, machine_of}
use Rattle.um_machine.specs.Outside.{MayRest}
use Rattle.um_machine.specs.Runs.{seen_by}
use Rattle.um_machine.specs.declared.stop.Stop.{Stop}
use Rattle.um_machine.specs.declared.stop.Stop.TheVariants as stop
use Rattle.um_debug.specs.declared.debugger.DebugEnd.{DebugEnd}
use Rattle.um_debug.specs.Debugging.{EndsBy, Fails, Debugs, Debugged}
use Rattle.um_debug.specs.Debugging as debugging
use Rattle.um_debug.specs.Session.{Session, fresh}
use Rattle.codex_top.specs.DebugCommand.{SessionSits}
use Rattle.codex_top.specs.Limits.{limits, most_lines}
use Rattle.codex_top.specs.Outside.{streams}

module _ (input output : Type 0) (sure : input → ⊥) where
  ends_surely : (why : Stop) (end : DebugEnd) → EndsBy input output why end → EndsBy ⊥ output why end
  ends_surely stop.ReadFault end e = (e.0, sure e.1)
  ends_surely stop.WriteFault end e = e
  ends_surely stop.Memory end e = e
  ends_surely _ end e = e

  fails_surely : (L : Limits) (line : List ℕ) (s : Session) (j : Identifiers) (t : State) (end : DebugEnd) → Fails L line s input output j t end → Fails L line s ⊥ output j t end
  fails_surely L line s j t _ (debugging.at_cycle why end cut ends) = debugging.at_cycle why end cut (ends_surely why end ends)
  fails_surely L line s j t _ (debugging.at_reply k cut out) = debugging.at_reply k cut out
  fails_surely L line s j t _ (debugging.no_memory cut) = debugging.no_memory cut

  -- where the scroll's input can't fail, no session ends by it
  pub debugs_surely : (L : Limits) (turns : ℕ) (bytes rest : List ℕ) (s : Session) (commands : Type 0) (i : Identifiers) (t : State) (end : DebugEnd) →
      Debugs L turns bytes rest s commands input output i t end → Debugs L turns bytes rest s commands ⊥ output i t end
  debugs_surely L turns bytes rest s commands _ _ _ (debugging.turns_made lines t passes many obeys) = debugging.turns_made lines t passes many obeys
  debugs_surely L turns bytes rest s commands _ _ _ (debugging.no_line lines t passes none few obeys) = debugging.no_line lines t passes none few obeys
  debugs_surely L turns bytes rest s commands _ _ _ (debugging.quits lines last t passes few is obeys) = debugging.quits lines last t passes few is obeys
  debugs_surely L turns bytes rest s commands _ _ _ (debugging.unread lines part t passes few short plain obeys cause) =
      debugging.unread lines part t passes few short plain obeys cause
  debugs_surely L turns bytes rest s commands _ _ _ (debugging.fails lines line last t j u end passes few is other obeys fails) =
      debugging.fails lines line last t j u end passes few is other obeys (fails_surely L line t j u end fails)

-- a count that is always 0 never rose
pub no_rise : Rose 0 0 → ⊥
no_rise rose = omega (arith, rose)

-- a session that began with the machine of these words, on an input that has these bytes and never fails
pub sat_from : {C I O : Type 0} (commands : source.Ghosts C) (inputs : source.Ghosts I) (sinks : sink.Ghosts O) (words bytes left : List ℕ)
    (m new : MachineView) (c0 c1 : C) (i0 i1 : I) (o0 o1 : O) (end : DebugEnd) → m ≡ machine_of words limits →
    inputs.rest i0 ≡ Some bytes → inputs.rest i1 ≡ Some left → (Rose (inputs.faults i0) (inputs.faults i1) → ⊥) →
    Debugged commands inputs sinks most_lines (seen_by inputs sinks m i0 o0) (seen_by inputs sinks new i1 o1) c0 c1 i0 i1 o0 o1 end →
    SessionSits words bytes (streams commands sinks c0 o0) (streams commands sinks c1 o1) end
sat_from commands inputs sinks words bytes left m new c0 c1 i0 i1 o0 o1 end is had leaves sure d =
    let took = d.session left (subst (λ o. MayRest o left) (sym leaves) refl) in
    let same : bytes ≡ took.rest = subst (λ o. MayRest o took.rest) had took.may in
    let asks : Type 0 = Rose (commands.faults c0) (commands.faults c1) in
    let fails : Type 0 = Rose (inputs.faults i0) (inputs.faults i1) in
    let writes : Type 0 = Rose (sinks.faults o0) (sinks.faults o1) in
    record {
      commands = d.bytes;
      had = d.had;
      rest = d.rest;
      left = d.left;
      identifiers = new.identifiers;
      sits = λ held holds.
          let x = took.sends held holds in
          let t : State = state_of new left x.out in
          let here = subst (λ rest. Debugs m.limits most_lines d.bytes d.rest (fresh (state_of m rest held) m.identifiers) asks fails writes new.identifiers t end) (sym same) x.call in
          let from = subst (λ (n : MachineView). Debugs n.limits most_lines d.bytes d.rest (fresh (state_of n bytes held) n.identifiers) asks fails writes new.identifiers t end) is here in
          (t, x.may, debugs_surely fails writes sure limits most_lines d.bytes d.rest (fresh (record (start_of words bytes) { out = held }) none_made) asks new.identifiers t end from);
    }
