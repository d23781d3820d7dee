-- Nothing adds up to nothing.
use Rattle.mark_list.proofs.Summed.{summed-none}
use Rattle.mark_list.proofs.marks.Marks.new.Goals as goal

pub invariant_of-result : goal.invariant_of-result
invariant_of-result c = summed-none _ _ _ _ _ _ c.new.ensures.items c.new-2.ensures.items c.new-3.ensures.items c.new-4.ensures.items c.new-5.ensures.items c.new-6.ensures.items
