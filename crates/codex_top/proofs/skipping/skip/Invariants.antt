use Rattle.std.specs.Prelude.{◌≡◌, drop, option_map}
use Rattle.um_machine.specs.Outside.{IsAsked}
use Rattle.codex_top.proofs.skipping.skip.Given as goal

abbrev pub invariant-loop : goal.invariant-loop
invariant-loop g l =
    (g.I.Source.rest l.input ≡ option_map (drop l.counter) (g.I.Source.rest l.initial.input))
    × IsAsked g.I.Source l.initial.input l.input ⊥
