use Rattle.std.proofs.Common.{arith}
use Rattle.std.proofs.lemmas.Iterator.Consumers.{YieldsList-at, YieldsList-turn}
use Rattle.std.proofs.lemmas.Iterator.Splits.{YieldsList-from_str_split}
use Rattle.codex_top.proofs.Asking.{piece_at}
use Rattle.codex_top.proofs.words.numbers_of.Goals as goal

pub returns-in_default : goal.returns-in_default
returns-in_default c numbers joined =
    let road = YieldsList-at c.into_iter-part-iterator.ensures.into_iter_gives
    (YieldsList-from_str_split 44 c.args.word.now (omega arith) c.split-part-items.ensures.text c.split-part-items.ensures.has_more c.split-part-items.ensures.pattern) in
    let t = YieldsList-turn road c.loop-part.yielded _ c.loop-part.yielded_by _ _ c.in-Some.part c.in-Some.is c.next.ensures.steps in
    c.in_default.ensures _ (piece_at c.args.word.now numbers c.in-Some.part.now _ joined t.0 t.1)
