use Rattle.codex_top.proofs.Typed.{done_is_typed}
use Rattle.codex_top.proofs.laws.what_is_typed_is_safe.Goals as goal

pub returns : goal.returns
returns c = done_is_typed
