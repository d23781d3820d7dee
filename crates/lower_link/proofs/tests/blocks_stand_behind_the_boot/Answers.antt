-- Neither block is empty.
use Rattle.std.specs.Prelude.{length}
use Rattle.std.proofs.Common.{ap, arith}
use Rattle.lower_link.proofs.Shares.{HaveWords, have_words_push}
use Rattle.lower_link.proofs.tests.blocks_stand_behind_the_boot.Goals as goal

pub link-requires-clause-some : goal.link-requires-clause-some
link-requires-clause-some g c =
    let none : HaveWords c.new-blocks.result.items = λ k d lt. absurd (omega (arith, lt, ap length c.new-blocks.ensures.items)) in
    let one = have_words_push c.new-blocks.result.items c.push.new.self.items c.in_ok-from_elem.field-0 c.in_ok-push.ensures.items none (omega (arith, c.in_ok-from_elem.ensures.len, c.in_ok-from_elem.field-0.ok.0)) in
    have_words_push c.push.new.self.items c.push-2.new.self.items c.in_ok-from_elem-2.field-0 c.in_ok-push-2.ensures.items one (omega (arith, c.in_ok-from_elem-2.ensures.len, c.in_ok-from_elem-2.field-0.ok.0))
