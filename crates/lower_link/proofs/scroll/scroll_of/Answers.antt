-- The printer is the last block.
use Rattle.std.proofs.Common.{arith}
use Rattle.lower_emit.proofs.Lengths.{modules_few}
use Rattle.lower_link.proofs.Shares.{have_words_push, all_few, scroll_is}
use Rattle.lower_link.proofs.scroll.scroll_of.Goals as goal

pub link-requires-clause-some : goal.link-requires-clause-some
link-requires-clause-some c =
    have_words_push c.args.blocks.items c.push.new.self.items c.in_ok-printer.field-0 c.in_ok-push.ensures.items c.requires.some (omega (arith, c.in_ok-printer.ensures.code.inside))

pub link-requires-clause-small : goal.link-requires-clause-small
link-requires-clause-small c =
    omega (
      arith,
      c.requires.light,
      all_few c.args.program.now c.main.ensures.good c.args.blocks.items c.push.new.self.items c.in_ok-printer.field-0 c.in_ok-push.ensures.items c.requires.one_each c.requires.short
          c.in_ok-printer.ensures.short,
    )

pub link-requires-clause-main : goal.link-requires-clause-main
link-requires-clause-main c =
    omega (arith, c.main.ensures.main, c.main.ensures.good.main_there, modules_few c.args.program.now, c.requires.light)

pub returns : goal.returns
returns c =
    let P = c.args.program.now in
    let words_few = all_few P c.main.ensures.good c.args.blocks.items c.push.new.self.items c.in_ok-printer.field-0 c.in_ok-push.ensures.items c.requires.one_each c.requires.short c.in_ok-printer.ensures.short in
    scroll_is P c.args.blocks.items c.push.new.self.items c.in_ok-printer.field-0 c.in_ok-push.ensures.items c.requires.one_each c.in_ok-printer.ensures.code c.in_ok-printer.ensures.short
    words_few c.main.result c.main_frame.result c.main.ensures.main c.main_frame.ensures.frame c.link.result c.link.ensures.linked c.link.ensures.apart c.link.ensures.size
