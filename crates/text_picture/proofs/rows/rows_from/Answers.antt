use Rattle.std.proofs.Common.{rules, tests}
use Rattle.std.proofs.lemmas.Iterator.{YieldsList-from_take}
use Rattle.std.proofs.lemmas.Iterator.Adapters.{YieldsList-from_skip}
use Rattle.std.proofs.lemmas.Iterator.Consumers.{YieldsList-at, map_from_collect}
use Rattle.std.proofs.lemmas.Iterator.Splits.{YieldsList-from_slice_split}
use Rattle.text_picture.proofs.rows.rows_from.Goals as goal

pub returns : goal.returns
returns c =
    map_from_collect {s = c.take.result} _ c.collect.ensures.ran
    (YieldsList-from_take _
    (YieldsList-at c.take.ensures.source
    (YieldsList-from_skip _
    (YieldsList-at c.skip.ensures.source
    (YieldsList-from_slice_split _ _ c.args.text.now c.split.ensures.rest c.split.ensures.done c.split.ensures.closure (λ x r q k. search (rules, tests))))
    c.skip.ensures.count))
    c.take.ensures.count)
