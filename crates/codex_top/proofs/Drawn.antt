-- What a call of `draw` promises that is done.
use Rattle.std.proofs.Common.{◌≡◌, ℕ, List, sym, ◌∙◌, inl, inr}
use Rattle.std.specs.Prelude.{Ok, Err}
use Rattle.two_d.specs.Program.{program_of}
use Rattle.two_d.specs.Programs.{Program}
use Rattle.grid_draw.specs.Layout.{drawing_of}
use Rattle.codex_top.specs.declared.line.Line.TheVariants as line
use Rattle.codex_top.specs.declared.end.Finish.TheVariants.{Done}
use Rattle.codex_top.specs.Calls.{Call, Has, IsOfCodex}
use Rattle.codex_top.specs.Commands.{DrawEnds}
use Rattle.codex_top.specs.Commands as commands
use Rattle.codex_top.specs.DrawCommand.{DrawingTold, drawn, undrawn}
use Rattle.codex_top.specs.Drawn.{DoneIsDrawn, IsDrawnAgain}
use Rattle.codex_top.specs.Endings.{End}
use Rattle.codex_top.specs.Reading.{IsNoProgram, IsProgram}
use Rattle.codex_top.specs.Sending as sending
use Rattle.codex_top.specs.Words as jobs
use Rattle.codex_top.proofs.Ended.{ended, read_as, told_done}

module _ (file text : List ℕ) (c : Call) (has : Has file text c.before) where
  drawn_again : (P : Program) → program_of text (Ok P) → (end : End) → end ≡ Ok Done →
      DrawingTold P c.before.streams.output c.now.streams.output end → IsDrawnAgain text c
  drawn_again P is _ done (drawn _ drawable (sending.ends _ (sending.sent received))) = record {
    program = P;
    accepted = is;
    drawing = drawing_of P;
    again = drawable.again;
    wrote = received;
  }
  drawn_again P is _ done (drawn _ drawable (sending.ends _ (sending.cut k le received rose))) = absurd (cc)
  drawn_again P is _ done (undrawn fault bad same) = absurd (cc)

  ends_drawn : (end : End) → end ≡ Ok Done →
      DrawEnds file c.before.shelf c.now.shelf c.before.streams.output c.now.streams.output end → IsDrawnAgain text c
  ends_drawn _ done (commands.unread l read same) = absurd (cc)
  ends_drawn _ done (commands.no_memory same) = absurd (cc)
  ends_drawn end done (commands.works P _ read told) =
      drawn_again P (read_as IsProgram IsNoProgram file text c.before c.now has P read).reads end done told

pub done_is_drawn : DoneIsDrawn IsOfCodex
done_is_drawn file text c call asks has done =
    let e = ended (jobs.draws file) c call asks in
    let so : e.end ≡ Ok Done = told_done c.err_before c.err_now e.end c.status done e.told in
    elim e.ends [
      | inl ran ↦ ends_drawn file text c has e.end so ran.1
      | inr none ↦ let f : Err line.NoMemory ≡ Ok Done = sym none.0 ∙ so in absurd (cc)
    ]
