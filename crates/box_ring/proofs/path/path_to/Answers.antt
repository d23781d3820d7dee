use Rattle.std.proofs.Common.{arith}
use Rattle.box_ring.proofs.Paths.{goes_back, leads_on}
use Rattle.box_ring.specs.declared.search.Step.{Step}
use Rattle.box_ring.proofs.path.path_to.Goals as goal

pub back-preserved : goal.back-preserved
back-preserved c =
    let more = c.back-test.true in
    let d : Step = record { bx = 0; via = 0 } in
    record {
      within = (let less = goes_back c.args.found.now c.back.at d c.back.invariant.within (omega (arith, more)) c.requires.back in
          let lt = c.back.invariant.within in omega (arith, less, lt));
      leads = λ m fed first. leads_on m c.args.found.now c.back.at _ d c.back.path.items c.push.new.self.items c.back.invariant.within (omega (arith, more)) fed
          (c.back.invariant.leads m fed first) c.in_ok-push.ensures.items;
    }
