-- The text after a piece that fits, and after one that doesn't.
use Rattle.std.proofs.Common.{◌≡◌, ◌∙◌, ap, arith, length, take, Some, ◌++◌, ◌+◌, ◌-◌, ◌<◌}
use Rattle.umix_base.specs.Calls.{one_more}
use Rattle.umix_base.specs.TextInMemory.{TextInMemory}
use Rattle.umix_base.proofs.TextLemmas.{shown, text-fits, text-overflows}
use Rattle.umix_base.proofs.text_sink.TextSinkSink.put.Goals as goal

pub returns-then-piece-room-clause-after : goal.returns-then-piece-room-clause-after
returns-then-piece-room-clause-after c =
    rw (← c.self.view_is) (ap (λ b. shown b c.self.inside.faults) c.append.ensures.items
    ∙ text-fits c.self.inside.bytes.items c.args.piece.now c.self.inside.faults (omega arith))

pub returns-clause-appended : goal.returns-clause-appended
returns-clause-appended c = (
  280 - c.len-room.result,
  omega arith,
  ap Some (c.append-2.ensures.items ∙ ap (λ (s : TextInMemory). s.bytes ++ take (280 - c.len-room.result) c.args.piece.now) c.self.view_is),
)

pub returns-clause-after : goal.returns-clause-after
returns-clause-after c =
    let bytes = c.self.inside.bytes.items in
    let room : length bytes + (280 - c.len-room.result) ≡ 280 = omega (arith, c.len-room.ensures, c.self.invariant.0) in
    let over : 280 - c.len-room.result < length c.args.piece.now = omega arith in
    let count : c.saturating_add-self-inside.result ≡ one_more c.self.inside.faults = c.saturating_add-self-inside.ensures in
    rw (← c.self.view_is) (ap (λ b. shown b c.saturating_add-self-inside.result) c.append-2.ensures.items
    ∙ ap (shown (bytes ++ take (280 - c.len-room.result) c.args.piece.now)) count
    ∙ text-overflows bytes c.args.piece.now c.self.inside.faults (280 - c.len-room.result) room over)
