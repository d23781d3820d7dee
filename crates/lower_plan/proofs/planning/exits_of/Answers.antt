-- An exit's wire begins where a slot is noted.
use Rattle.two_d.specs.Programs.{module_of}
use Rattle.lower_plan.proofs.Planned.{place_exit, exit_at}
use Rattle.lower_plan.proofs.planning.exits_of.Goals as goal

pub end-requires : goal.end-requires
end-requires c =
    place_exit (module_of c.args.owner.now) c.requires.sound c.args.slots.now c.requires.slots c.loop-exit.exit-index _
    (exit_at _ _ c.deref-exit-items.ensures.value c.loop-exit.exit-index c.loop-exit-test.true)
