-- Module by module.
use Rattle.std.specs.Prelude.{◌≡◌, ◌<◌, ◌+◌, ◌++◌, ◌∷◌, [], ℕ, List, length, slice_index_or}
use Rattle.std.proofs.Common.{arith, ap, subst, sym, ◌∙◌, inl, inr}
use Rattle.std.proofs.lemmas.Bool.{cases_lt}
use Rattle.std.proofs.lemmas.List.{get_or_read, get_or_push, get_or_append_left, length_push}
use Rattle.two_d.specs.Programs.{module_of}
use Rattle.two_d.specs.declared.module.Module.{Module}
use Rattle.ready_marks.specs.Ways.{AreWaysOf, ways_form}
use Rattle.ready_marks.specs.declared.ways.Ways.{Ways}
use Rattle.ready_marks.proofs.ways.all_ways.Goals as goal

pub loop-m-preserved : goal.loop-m-preserved
loop-m-preserved c =
    let all = c.loop-m.all.items in
    let ways = c.in_ok-ways.ways in
    let is : c.push.new.self.items ≡ all ++ ways ∷ [] = c.in_ok-push.ensures.items in
    record {
      sized = omega (arith, ap length is, length_push all ways, c.loop-m.invariant.sized);
      each = λ k d w lt. elim (cases_lt k c.loop-m.m) [
        | inl old ↦ rw (is, get_or_append_left all (ways ∷ []) w k (omega (arith, old, c.loop-m.invariant.sized))) (c.loop-m.invariant.each k d w old)
        | inr new ↦ let here : k ≡ c.loop-m.m = omega arith in
            rw (here, is, get_or_push all ways w c.loop-m.m c.loop-m.invariant.sized, ← get_or_read c.args.modules.now c.loop-m.m c.index-modules-m.result (omega arith) c.index-modules-m.is d) c.in_ok-ways.ensures
      ];
    }
