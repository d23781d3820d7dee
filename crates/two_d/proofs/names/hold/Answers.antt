-- A name that isn't held goes last.
use Rattle.std.proofs.Common.{ap, ◌∙◌, [], ◌∷◌}
use Rattle.std.proofs.lemmas.List.{map-append}
use Rattle.std.specs.Prelude.{map}
use Rattle.two_d.proofs.Listed.{not_listed}
use Rattle.two_d.proofs.names.hold.Goals as goal

pub returns : goal.returns
returns c =
    let keys = rw (not_listed c.args.name.items c.args.names.now.keys c.requires) at c.in_ok-insert.ensures.keys in
    ap (map (λ key. key.items)) keys ∙ map-append (λ key. key.items) c.args.names.now.keys (c.args.name ∷ [])
