use Rattle.text_picture.specs.Pictures.{ruler_sign}
use Rattle.text_picture.proofs.Pushed.{next_of}
use Rattle.text_picture.proofs.lines.push_signs.Goals as goal

pub loop-k-preserved : goal.loop-k-preserved
loop-k-preserved c =
    next_of ruler_sign c.args.page.now.items c.loop-k.page.items c.push.new.self.items c.args.first c.loop-k.k c.ruler_sign.result
    c.loop-k.invariant c.ruler_sign.ensures c.in_ok-push.ensures.items
