use Rattle.std.proofs.Common.{◌≡◌, refl, subst, ◌∙◌}
use Rattle.std.proofs.lemmas.Result.{err_from_is_err_and}
use Rattle.codex_top.specs.Commands.{unread, no_memory, works}
use Rattle.codex_top.specs.Outside.{shelved, streams}
use Rattle.codex_top.specs.Reading.{IsScroll, IsNoScroll}
use Rattle.codex_top.specs.SaveCommand.{saved, stopped}
use Rattle.codex_top.specs.Sending.{FileWritten}
use Rattle.codex_top.specs.Sending as sending
use Rattle.codex_top.proofs.FileLemmas.{file_after, reads_counted, stays}
use Rattle.codex_top.proofs.Kept.{is_saved, not_saved, kept, stopped_so}
use Rattle.codex_top.proofs.save.save.Goals as goal

pub returns-in_err-words-clause-ends : goal.returns-in_err-words-clause-ends
returns-in_err-words-clause-ends g c =
    let p = err_from_is_err_and c.from_residual.result c.from_residual.ensures.1 in
    rw (p.1, p.2) (unread c.in_err-words.field-0.0 c.in_err-words.ensures.read (c.in_err-words.ensures.shelf, refl))

pub returns-in_err-machine-clause-ends : goal.returns-in_err-machine-clause-ends
returns-in_err-machine-clause-ends g c =
    let p = err_from_is_err_and c.from_residual-in_err-machine.result c.from_residual-in_err-machine.ensures.1 in
    rw (p.1, p.2, c.in_err-machine.ensures.line) (no_memory (c.in_ok-words.ensures.shelf, refl))

pub returns-in_err-bytes-in-Halted-clause-ends : goal.returns-in_err-bytes-in-Halted-clause-ends
returns-in_err-bytes-in-Halted-clause-ends g c =
    let p = err_from_is_err_and c.from_residual-in_err-bytes-in-Halted.result c.from_residual-in_err-bytes-in-Halted.ensures.1 in
    let ran = c.run_counted-stop.ensures in
    rw (p.1, p.2) (works c.in_ok-words.words _ c.in_ok-words.ensures.read
    (saved c.run_counted-stop.new.machine c.run_counted-stop.result.1 _
    (kept c.in_ok-words.words.items c.args.cycles c.run_counted-stop.result.1 c.in_ok-machine.machine c.run_counted-stop.new.machine _ _
    c.run_counted-stop.result.0 c.in_ok-machine.ensures.machine ran.run ran.out.tells (is_saved c.run_counted-stop.result.0 c.in-Halted.is)
    ran.limits ran.counted ran.fewer c.requires ran.whole)
    (sending.no_memory c.in_ok-words.ensures.shelf.files)))

pub returns-in-Halted-clause-ends : goal.returns-in-Halted-clause-ends
returns-in-Halted-clause-ends g c =
    let ran = c.run_counted-stop.ensures in
    works c.in_ok-words.words c.write_file.result
    (stays IsScroll IsNoScroll c.args.file.now _ _ _ c.in_ok-words.words c.in_ok-words.ensures.read)
    (saved c.run_counted-stop.new.machine c.run_counted-stop.result.1 c.write_file.result
    (kept c.in_ok-words.words.items c.args.cycles c.run_counted-stop.result.1 c.in_ok-machine.machine c.run_counted-stop.new.machine _ _
    c.run_counted-stop.result.0 c.in_ok-machine.ensures.machine ran.run ran.out.tells (is_saved c.run_counted-stop.result.0 c.in-Halted.is)
    ran.limits ran.counted ran.fewer c.requires ran.whole)
    (file_after c.args.out.now _ _ _ _ c.write_file.result c.in_ok-words.ensures.shelf
    (subst (λ bytes. FileWritten c.args.out.now bytes (shelved g.F.Shelf c.read_scroll.new.shelf) (shelved g.F.Shelf c.write_file.new.shelf) c.write_file.result)
    (c.deref.ensures.value ∙ c.in_ok-bytes-in-Halted.ensures.image) c.write_file.ensures.ends)))

pub returns : goal.returns
returns g c =
    let ran = c.run_counted-stop.ensures in
    let r = stopped_so c.in_ok-words.words.items c.args.cycles c.run_counted-stop.result.1 c.in_ok-machine.machine c.run_counted-stop.new.machine
    (streams g.I.Source g.O.Sink c.args.input.now c.args.output.now)
    (streams g.I.Source g.O.Sink c.run_counted-stop.new.input c.run_counted-stop.new.out)
    c.run_counted-stop.result.0 c.in_ok-machine.ensures.machine ran.run ran.out.tells ran.input.rose ran.out.rose in
    let at : c.cycles.result ≡ r.0.cycles = c.cycles.ensures ∙ r.1 in
    record {
      ends = rw (c.end_of.ensures, at) (works c.in_ok-words.words _ c.in_ok-words.ensures.read
          (stopped r.0 c.run_counted-stop.result.0 r.2
          (not_saved c.run_counted-stop.result.0 c.in_default.not-Halted c.in_default.not-Budget) c.in_ok-words.ensures.shelf));
      counted = record {
        shelf = reads_counted _ _ c.in_ok-words.ensures.shelf;
        streams = record {
          input = record { tells = ran.input.tells; later = ran.input.later };
          output = record { tells = ran.out.tells; later = ran.out.later };
        };
      };
    }
