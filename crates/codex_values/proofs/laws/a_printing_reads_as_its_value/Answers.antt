-- A value's printing reads as that value and as no other.
use Rattle.codex_values.specs.Value.{show}
use Rattle.codex_values.proofs.Bytes.{reads_show, reads-one}
use Rattle.codex_values.proofs.laws.a_printing_reads_as_its_value.Goals as goal

pub returns-clause-reads : goal.returns-clause-reads
returns-clause-reads c = reads_show

pub returns-clause-alone : goal.returns-clause-alone
returns-clause-alone c = λ v w reads. reads-one (show v) w v reads (reads_show v)
