-- Names are held as long as none is repeated.
use Rattle.std.proofs.Common.{◌≡◌, arith, sym, ap, ◌∙◌, length, below_more}
use Rattle.std.proofs.lemmas.List.{take_all, length-map}
use Rattle.std.specs.Prelude.{map, ◌++◌, ◌∷◌, []}
use Rattle.two_d.specs.inner.NameLists.{listed, number_in}
use Rattle.two_d.specs.Programs.{modules_of, module_of}
use Rattle.two_d.specs.Reading.{refused_at, none}
use Rattle.two_d.specs.Table.{RepeatsName}
use Rattle.two_d.proofs.TableLemmas.{module_there, repeats, not_repeated, held_more}
use Rattle.two_d.proofs.table.read_names.Goals as goal

pub loop-number-init : goal.loop-number-init
loop-number-init c = record { held = ap (map (λ key. key.items)) c.new-names.ensures.empty; apart = λ k lt bad. omega arith }

pub returns-in-Some-clause-read : goal.returns-in-Some-clause-read
returns-in-Some-clause-read c =
    let P = modules_of c.args.modules.now in
    let m = module_of c.index-modules-number.result in
    let name : c.bytes-name.result.now ≡ m.name = c.bytes-name.ensures.bytes ∙ ap (λ x. x.name) (sym c.index-modules-number.is) in
    refused_at c.loop-number.number (record {
      holds = repeats P c.loop-number.number m (module_there c.args.modules.now c.loop-number.number c.index-modules-number.result (omega arith) c.index-modules-number.is)
          (listed c.loop-number.names) c.loop-number.invariant.held c.in-Some.field-0 c.in-Some.ensures.there (c.in-Some.ensures.number ∙ ap (number_in (listed c.loop-number.names)) name);
      none_below = λ j less bad. c.loop-number.invariant.apart j less bad;
    })

pub add_name-requires : goal.add_name-requires
add_name-requires c = sym c.in-None.ensures.number

pub loop-number-preserved : goal.loop-number-preserved
loop-number-preserved c =
    let P = modules_of c.args.modules.now in
    let m = module_of c.index-modules-number.result in
    let n = c.loop-number.number in
    let name : c.bytes-name.result.now ≡ m.name = c.bytes-name.ensures.bytes ∙ ap (λ x. x.name) (sym c.index-modules-number.is) in
    let new : length (listed c.loop-number.names) ≡ number_in (listed c.loop-number.names) c.bytes-name.result.now = c.in-None.ensures.number in
    let at = module_there c.args.modules.now n c.index-modules-number.result (omega arith) c.index-modules-number.is in
    record {
      held = c.in_ok-add_name-in-None.ensures ∙ (ap (λ name. listed c.loop-number.names ++ name ∷ []) name ∙ held_more P n m at (listed c.loop-number.names) c.loop-number.invariant.held);
      apart = below_more (λ k. RepeatsName P k → ⊥) n c.loop-number.invariant.apart
          (not_repeated P n m at (listed c.loop-number.names) c.loop-number.invariant.held (new ∙ ap (number_in (listed c.loop-number.names)) name));
    }

pub returns-clause-read : goal.returns-clause-read
returns-clause-read c = none (λ i bad. c.loop-number.invariant.apart i (let lt = bad.holds.within in omega (arith, length-map c.args.modules.now module_of)) bad.holds)

pub returns-clause-names : goal.returns-clause-names
returns-clause-names c =
    c.loop-number.invariant.held ∙ ap (map (λ m. m.name)) (take_all c.loop-number.number (modules_of c.args.modules.now) (omega (arith, length-map c.args.modules.now module_of)))
