-- The part of `main` is measured.
use Rattle.std.specs.Prelude.{◌≡◌, ◌≤◌}
use Rattle.std.proofs.Common.{arith}
use Rattle.two_d.specs.Programs.{module_at, main_of}
use Rattle.two_d.specs.Weights.{part, weight}
use Rattle.lower_link.proofs.Shares.{main_part}
use Rattle.lower_link.proofs.scroll.main_frame.Goals as goal

main : (c : goal.After-part_of) → (c.part_of.result ≡ part (module_at c.args.program.now (main_of c.args.program.now))) × (c.part_of.result ≤ weight c.args.program.now)
main c =
    main_part c.args.program.now c.main.ensures.good c.requires.light c.modules.result.now.items c.modules.ensures.modules c.main.result c.main.ensures.main
    c.index.result.now c.index.ensures c.part_of.result c.part_of.ensures.part

pub overflow_cast-result : goal.overflow_cast-result
overflow_cast-result c = omega (arith, (main c).1, c.requires.light)

pub overflow_add-result : goal.overflow_add-result
overflow_add-result c = omega (arith, (main c).1, c.requires.light)

pub returns : goal.returns
returns c = record { frame = omega (arith, (main c).0); small = omega (arith, (main c).1, c.requires.light) }
