use Rattle.std.proofs.Common.{◌≤◌, ℕ, [], ◌∷◌, ◌++◌, length, Some, None, refl, sym, ap, ◌∙◌, subst, arith}
use Rattle.std.specs.Prelude.{Ok, Vec, option_map, slice_index_or}
use Rattle.std.specs.declared.alloc.Global.{Global}
use Rattle.std.proofs.lemmas.List.{append-nil, length-map}
use Rattle.std.proofs.lemmas.Result.{err_from_is_err_and}
use Rattle.two_d.specs.Steps.{start}
use Rattle.fire_core.specs.Events.{event_of, events_shown}
use Rattle.fire_core.specs.declared.event.Event.TheVariants.{Fire}
use Rattle.codex_top.specs.Outside.{Received, told}
use Rattle.codex_top.specs.inner.Instances.{started, IsStartedIf}
use Rattle.codex_top.specs.TraceCommand.{event_lines}
use Rattle.codex_top.specs.Evaluating as evaluating
use Rattle.codex_top.specs.Sending as sending
use Rattle.codex_top.proofs.Pieces.{take_whole, written_after}
use Rattle.codex_top.proofs.Reports.{wanted_before, wanted_after, piece_cut, sent_whole}
use Rattle.codex_top.proofs.Turns.{here_of}
use Rattle.codex_top.proofs.trace.put_events.Goals as goal
use Rattle.codex_top.proofs.trace.put_events.Goals.{in-Some+in_ok-push-in-Some, in-None}

pub returns-in_err-push-clause-printed : goal.returns-in_err-push-clause-printed
returns-in_err-push-clause-printed g c =
    let p = err_from_is_err_and c.from_residual.result c.from_residual.ensures.1 in
    rw (p.1, p.2) (wanted_before _ _)

pub put_event-requires : goal.put_event-requires
put_event-requires g c =
    (here_of c.args.program.now c.main.ensures.good c.args.log.now c.requires c.loop-event.event-index (Fire 0 0) c.loop-event-test.true c.deref.result.now
    (c.deref.ensures.value ∙ c.loop-event.invariant.kinds)).is_event

pub returns-in_err-put_event-clause-printed : goal.returns-in_err-put_event-clause-printed
returns-in_err-put_event-clause-printed g c =
    let p = err_from_is_err_and c.from_residual-in_err-put_event.result c.from_residual-in_err-put_event.ensures.1 in
    let h = here_of c.args.program.now c.main.ensures.good c.args.log.now c.requires c.loop-event.event-index (Fire 0 0) c.loop-event-test.true c.deref.result.now
    (c.deref.ensures.value ∙ c.loop-event.invariant.kinds) in
    rw (p.1, p.2) (piece_cut _ _ _ h.rest _ _ _ c.in_err-put_event.field-0.0 h.all c.loop-event.invariant.later c.loop-event.invariant.written c.in_err-put_event.ensures.sent)

pub started-requires : goal.started-requires
started-requires g c =
    (here_of c.args.program.now c.main.ensures.good c.args.log.now c.requires c.loop-event.event-index (Fire 0 0) c.loop-event-test.true c.deref-in-loop-event.result.now
    (c.deref-in-loop-event.ensures.value ∙ c.loop-event.invariant.kinds)).is_event

pub returns-in_err-push-in-Some-clause-printed : goal.returns-in_err-push-in-Some-clause-printed
returns-in_err-push-in-Some-clause-printed g c =
    let p = err_from_is_err_and c.from_residual-in_err-push-in-Some.result c.from_residual-in_err-push-in-Some.ensures.1 in
    let h = here_of c.args.program.now c.main.ensures.good c.args.log.now c.requires c.loop-event.event-index (Fire 0 0) c.loop-event-test.true c.deref.result.now
    (c.deref.ensures.value ∙ c.loop-event.invariant.kinds) in
    rw (p.1, p.2) (wanted_after _ _ h.rest _ _ h.all
    (written_after _ _ _ _ _ c.loop-event.invariant.written (sent_whole _ _ _ _ tt refl c.in_ok-put_event.ensures.sent)))

pub loop-event-preserved : goal.loop-event-preserved
loop-event-preserved g c =
    let is = c.deref-in-loop-event.ensures.value in
    let h = here_of c.args.program.now c.main.ensures.good c.args.log.now c.requires c.loop-event.event-index (Fire 0 0) c.loop-event-test.true c.deref-in-loop-event.result.now
    (is ∙ c.loop-event.invariant.kinds) in
    let first = here_of c.args.program.now c.main.ensures.good c.args.log.now c.requires c.loop-event.event-index (Fire 0 0) c.loop-event-test.true c.deref.result.now
    (c.deref.ensures.value ∙ c.loop-event.invariant.kinds) in
    let wanted = started c.args.program.now c.deref-in-loop-event.result.now (event_of (slice_index_or c.args.log.now c.loop-event.event-index (Fire 0 0))) in
    record {
      kinds = elim c.match-started.branch [
        | in-Some+in_ok-push-in-Some w ↦
            ap (λ (v : Vec ℕ Global). v.items) w.kinds-is ∙ w.in_ok-push-in-Some.ensures.items ∙ ap (λ xs. xs ++ w.in-Some.kind ∷ []) (sym is)
            ∙ h.next (Some w.in-Some.kind) (subst (IsStartedIf c.args.program.now wanted) w.in-Some.is c.started.ensures)
        | in-None w ↦
            ap (λ (v : Vec ℕ Global). v.items) w.kinds-is ∙ sym is ∙ sym (append-nil c.deref-in-loop-event.result.now)
            ∙ h.next None (subst (IsStartedIf c.args.program.now wanted) w.in-None.is c.started.ensures)
      ];
      written = written_after _ _ _ _ _ c.loop-event.invariant.written (sent_whole _ _ _ _ tt refl c.in_ok-put_event.ensures.sent)
          ∙ ap (λ bytes. option_map (λ held. held ++ bytes) (g.O.Sink.written c.args.out.now)) (sym first.lines);
      later = omega (arith, c.loop-event.invariant.later, c.in_ok-put_event.ensures.counted.later);
    }

pub returns-clause-printed : goal.returns-clause-printed
returns-clause-printed g c =
    let le : length (events_shown c.args.log.now) ≤ c.loop-event.event-index = rw (length-map c.args.log.now event_of) c.loop-event-test.false in
    evaluating.sent (Ok tt) (sending.sent (subst (λ events. Received (event_lines c.args.program.now (start c.args.program.now) events) (told g.O.Sink c.args.out.now) (told g.O.Sink c.loop-event.out))
    (take_whole c.loop-event.event-index (events_shown c.args.log.now) le) c.loop-event.invariant.written))
