use Rattle.array_store.proofs.store.words_fit.Goals as goal

pub returns : goal.returns
returns c = λ at. (c.type_inv.words at).fits
