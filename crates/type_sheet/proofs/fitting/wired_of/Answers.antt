use Rattle.std.proofs.Common.{slice_get, sym, ◌∙◌, arith}
use Rattle.std.proofs.lemmas.List.{length-map}
use Rattle.std.proofs.lemmas.Option.{slice_get-map}
use Rattle.two_d.specs.Programs.{module_of}
use Rattle.two_d.proofs.Options.{option_map_some}
use Rattle.type_sheet.proofs.fitting.wired_of.Goals as goal

pub returns : goal.returns
returns c = record {
  many = omega (arith, c.loop-module.invariant.many, length-map c.args.modules.now module_of);
  each = λ i w m at there.
      let (kept, here, same) = option_map_some module_of (slice_get c.args.modules.now i) m (sym (slice_get-map module_of c.args.modules.now i) ∙ there) in
      rw (← same) (c.loop-module.invariant.each i w kept at here);
}
