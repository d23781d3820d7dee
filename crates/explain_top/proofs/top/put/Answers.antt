use Rattle.explain_top.proofs.top.put.Goals as goal

pub returns : goal.returns
returns g c = rw c.as_bytes.ensures.value at c.send.ensures
