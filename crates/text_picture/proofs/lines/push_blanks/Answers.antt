use Rattle.std.proofs.Common.{refl}
use Rattle.text_picture.proofs.Pushed.{next_of}
use Rattle.text_picture.proofs.lines.push_blanks.Goals as goal

pub loop-preserved : goal.loop-preserved
loop-preserved c =
    next_of (λ _. 32) c.args.page.now.items c.loop.page.items c.push.new.self.items c.args.first c.loop.counter 32
    c.loop.invariant refl c.in_ok-push.ensures.items
