-- The path so far leads from the step at this place.
use Rattle.std.specs.Prelude.{◌<◌, ℕ, length, reverse}
use Rattle.two_d.specs.Programs.{ModuleForm}
use Rattle.two_d.specs.Sound.{Feeds}
use Rattle.box_ring.specs.Rings.{WaitsAlong}
use Rattle.box_ring.specs.inner.Steps.{AreFed, box_of_step}
use Rattle.box_ring.proofs.path.path_to.Given as goal

abbrev pub invariant-back : goal.invariant-back
invariant-back l = record {
  within : l.at < length l.found;
  leads : (m : ModuleForm) → AreFed m l.found → Feeds m (box_of_step l.found 0) (box_of_step l.found l.place) →
      WaitsAlong m (box_of_step l.found l.at) (reverse l.path.items) (box_of_step l.found 0);
}

abbrev pub decreases-back : goal.decreases-back
decreases-back l = l.at
