use Rattle.std.proofs.Common.{◌≤◌, length, subst, sym, arith}
use Rattle.std.specs.Prelude.{Ok}
use Rattle.std.proofs.lemmas.Result.{err_from_is_err_and}
use Rattle.codex_top.specs.declared.reading.TheConstants.{MOST_INPUT_BYTES}
use Rattle.codex_top.specs.Reading.{holds, refused, too_long, IsInput, IsNoInput}
use Rattle.codex_top.proofs.FileLemmas.{seen_of, none_read}
use Rattle.codex_top.proofs.reading.read_input.Goals as goal

pub returns-in_err-bytes-clause-read : goal.returns-in_err-bytes-clause-read
returns-in_err-bytes-clause-read g c =
    let p = err_from_is_err_and c.from_residual.result c.from_residual.ensures.1 in
    rw (p.1, p.2) (none_read IsInput IsNoInput c.args.file.now MOST_INPUT_BYTES _ _ c.in_err-bytes.field-0.0 c.in_err-bytes.ensures.read)

pub returns-then-len-gt-MOST_INPUT_BYTES-clause-read : goal.returns-then-len-gt-MOST_INPUT_BYTES-clause-read
returns-then-len-gt-MOST_INPUT_BYTES-clause-read g c =
    let s = seen_of c.args.file.now MOST_INPUT_BYTES _ _ (Ok c.in_ok-bytes.bytes) c.in_ok-bytes.ensures.read in
    rw c.input_too_long.ensures (refused s.held _ s.has (too_long (s.over (omega (arith, c.if-len-gt-MOST_INPUT_BYTES.true, c.len.ensures)))))

pub returns-clause-read : goal.returns-clause-read
returns-clause-read g c =
    let s = seen_of c.args.file.now MOST_INPUT_BYTES _ _ (Ok c.in_ok-bytes.bytes) c.in_ok-bytes.ensures.read in
    let fits : length c.in_ok-bytes.bytes.items ≤ MOST_INPUT_BYTES = omega (arith, c.if-len-gt-MOST_INPUT_BYTES.false, c.len.ensures) in
    holds s.held c.in_ok-bytes.bytes s.has (record {
      same = s.whole fits;
      few = subst (λ bytes. length bytes ≤ MOST_INPUT_BYTES) (sym (s.whole fits)) fits;
    })
