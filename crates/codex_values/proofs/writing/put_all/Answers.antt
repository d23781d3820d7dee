-- A piece that wasn't written whole stands between those before and after it.
use Rattle.std.proofs.Common.{[], suc, drop}
use Rattle.std.specs.List.{flat_map}
use Rattle.codex_values.proofs.Written.{part_between, pieces_around}
use Rattle.codex_values.proofs.writing.put_all.Goals as goal

pub returns-in-Err-clause-written : goal.returns-in-Err-clause-written
returns-in-Err-clause-written g c =
    part_between _ _ _ _ _ (flat_map (λ piece. piece.now) (drop (suc c.loop-piece.piece-index) c.args.pieces.now)) _
    (pieces_around (λ piece. piece.now) c.args.pieces.now c.loop-piece.piece-index (record { ref_ptr = (0, 0); now = [] }) c.loop-piece-test.true)
    c.loop-piece.invariant.written c.in-Err.ensures.appended
