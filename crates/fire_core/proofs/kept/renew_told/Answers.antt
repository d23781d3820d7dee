use Rattle.fire_core.proofs.kept.renew_told.Goals as goal

pub renew_around-requires-clause-there : goal.renew_around-requires-clause-there
renew_around-requires-clause-there c = (c.requires.there c.in-Some.number c.in-Some.bx c.in-Some.is).0
