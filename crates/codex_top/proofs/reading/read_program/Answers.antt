use Rattle.std.proofs.Common.{◌≤◌, length, subst}
use Rattle.std.specs.Prelude.{Ok}
use Rattle.std.proofs.lemmas.Result.{err_from_is_err_and}
use Rattle.two_d.specs.Faults.{number_and_place}
use Rattle.two_d.specs.Program.{program_of}
use Rattle.two_d.specs.Reading.{Told, Refuses, faults_mapped}
use Rattle.two_d.specs.Weights.{weight}
use Rattle.module_table.specs.Answers.{answer_of}
use Rattle.codex_top.specs.Limits.{most_grid_bytes}
use Rattle.codex_top.specs.Reading.{IsProgram, IsNoProgram}
use Rattle.codex_top.proofs.FileLemmas.{seen_of, none_read}
use Rattle.codex_top.proofs.ProgramLemmas.{program_read, program_light, fault_told, fault_of}
use Rattle.codex_top.proofs.reading.read_program.Goals as goal

pub returns-in_err-bytes-clause-read : goal.returns-in_err-bytes-clause-read
returns-in_err-bytes-clause-read g c =
    let p = err_from_is_err_and c.from_residual.result c.from_residual.ensures.1 in
    rw (p.1, p.2) (none_read IsProgram IsNoProgram c.args.file.now most_grid_bytes _ _ c.in_err-bytes.field-0.0 c.in_err-bytes.ensures.read)

pub returns-in-Ok-clause-read : goal.returns-in-Ok-clause-read
returns-in-Ok-clause-read g c =
    let s = seen_of c.args.file.now most_grid_bytes _ _ (Ok c.in_ok-bytes.bytes) c.in_ok-bytes.ensures.read in
    program_read c.args.file.now _ _ c.in_ok-bytes.bytes.items s c.in-Ok.program
    (subst (λ bytes. Told number_and_place (program_of bytes) (Ok c.in-Ok.program)) c.deref.ensures.value c.in-Ok.ensures.read)
    (subst (λ bytes. weight c.in-Ok.program ≤ length bytes) c.deref.ensures.value c.in-Ok.ensures.weight)

pub returns-in-Ok-clause-weighs : goal.returns-in-Ok-clause-weighs
returns-in-Ok-clause-weighs g c = program_light c.deref.result.now c.in-Ok.program c.in-Ok.ensures.read c.in-Ok.ensures.weight

pub grid_line-requires : goal.grid_line-requires
grid_line-requires g c = fault_of (program_of c.deref.result.now) c.in-Err.fault c.in-Err.ensures.read

pub returns-clause-read : goal.returns-clause-read
returns-clause-read g c =
    let s = seen_of c.args.file.now most_grid_bytes _ _ (Ok c.in_ok-bytes.bytes) c.in_ok-bytes.ensures.read in
    fault_told c.args.file.now _ _ c.in_ok-bytes.bytes.items s c.in-Err.fault c.grid_line.result
    (subst (λ bytes. Refuses (faults_mapped number_and_place (program_of bytes)) (answer_of c.in-Err.fault)) c.deref.ensures.value c.in-Err.ensures.read)
    c.grid_line.ensures.told c.grid_line.ensures.no_memory
