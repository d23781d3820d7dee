use Rattle.std.proofs.Common.{◌≡◌, ◌++◌, drop, map}
use Rattle.box_parse.specs.Views.{more_outs, out_of}
use Rattle.box_parse.proofs.showing.write_more.Given as goal

abbrev pub invariant-loop-out : goal.invariant-loop-out
invariant-loop-out l = l.text.items ++ more_outs (map out_of (drop l.out-index l.outs)) ≡ l.initial.text.items ++ more_outs (map out_of l.outs)
