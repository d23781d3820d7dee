use Rattle.two_d.specs.Programs.{box_of}
use Rattle.fire_core.proofs.LookLemmas.{inputs-none_north, inputs-none_west, inputs-both}
use Rattle.fire_core.proofs.look.inputs_of.Goals as goal

pub returns-in-None-clause-value : goal.returns-in-None-clause-value
returns-in-None-clause-value c = λ values trails. inputs-none_north _ (box_of c.args.bx.now) (c.in-None.ensures.value values trails)

pub returns-in-None-input-clause-value : goal.returns-in-None-input-clause-value
returns-in-None-input-clause-value c = λ values trails.
    inputs-none_west _ (box_of c.args.bx.now) _ (c.in-Some.ensures.value values trails) (c.in-None-input.ensures.value values trails)

pub returns-in-Some-input-clause-value : goal.returns-in-Some-input-clause-value
returns-in-Some-input-clause-value c = λ values trails.
    inputs-both _ (box_of c.args.bx.now) _ _ (c.in-Some.ensures.value values trails) (c.in-Some-input.ensures.value values trails)

pub returns-in-Some-input-clause-places : goal.returns-in-Some-input-clause-places
returns-in-Some-input-clause-places c = λ n t fits. (c.in-Some.ensures.place n t fits, c.in-Some-input.ensures.place n t fits)
