-- A text reads as at most one value.
use Rattle.codex_values.proofs.Bytes.{reads-one}
use Rattle.codex_values.proofs.laws.a_text_reads_as_one_value.Goals as goal

pub returns : goal.returns
returns c = reads-one
