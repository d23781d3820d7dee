use Rattle.std.specs.Prelude.{Bool}
use Rattle.std.proofs.Common.{◌≡◌, false, true, length, slice_get, Some, refl, sym, ◌∙◌, arith}
use Rattle.std.proofs.lemmas.Option.{slice_get_read, slice_get_within}
use Rattle.two_d.specs.declared.command.Exp.{Exp}
use Rattle.two_d.specs.declared.command.Side.{Side}
use Rattle.two_d.specs.Programs.{module_of}
use Rattle.two_d.specs.Trees.{tree_of}
use Rattle.type_sheet.specs.Fits.{out_fits}
use Rattle.type_sheet.specs.inner.Carried.{inputs_read, types_in}
use Rattle.type_sheet.proofs.Outs.{all-map, all-fails, passed-next}
use Rattle.type_sheet.proofs.typing.WireTypes.outs_fit.Goals as goal

pub returns-then-not-out_fits : goal.returns-then-not-out_fits
returns-then-not-out_fits c =
    let outs = c.args.outs.now in
    let test : Exp × Side → Bool = λ o. out_fits c.args.declared.now.rows.now (module_of c.args.module.now) c.args.bx (types_in c.args.self.now) (inputs_read c.args.ports) (tree_of o.0, o.1) in
    let at : slice_get outs c.loop-out.out-index ≡ Some c.out-item.result = slice_get_read outs (length outs) c.loop-out.out-index c.out-item.result refl (omega arith) c.out-item.is in
    let fails : test c.out-item.result ≡ false = sym c.out_fits.ensures ∙ c.if-not-out_fits.true in
    sym (all-fails (λ (o : Exp × Side). (tree_of o.0, o.1))
    (out_fits c.args.declared.now.rows.now (module_of c.args.module.now) c.args.bx (types_in c.args.self.now) (inputs_read c.args.ports)) outs c.loop-out.out-index c.out-item.result at fails)

pub returns : goal.returns
returns c =
    let outs = c.args.outs.now in
    sym (all-map (λ (o : Exp × Side). (tree_of o.0, o.1))
    (out_fits c.args.declared.now.rows.now (module_of c.args.module.now) c.args.bx (types_in c.args.self.now) (inputs_read c.args.ports)) outs
    (λ i out at. c.loop-out.invariant i out (let lt = slice_get_within outs i out at in omega arith) at))

pub loop-out-preserved : goal.loop-out-preserved
loop-out-preserved c =
    let outs = c.args.outs.now in
    let test : Exp × Side → Bool = λ o. out_fits c.args.declared.now.rows.now (module_of c.args.module.now) c.args.bx (types_in c.args.self.now) (inputs_read c.args.ports) (tree_of o.0, o.1) in
    let at : slice_get outs c.loop-out.out-index ≡ Some c.out-item.result = slice_get_read outs (length outs) c.loop-out.out-index c.out-item.result refl (omega arith) c.out-item.is in
    let passes : test c.out-item.result ≡ true = sym c.out_fits.ensures ∙ c.if-not-out_fits.false in
    passed-next test outs c.loop-out.out-index c.out-item.result at passes c.loop-out.invariant
