use Rattle.std.proofs.Common.{[], suc, drop}
use Rattle.std.specs.List.{flat_map}
use Rattle.codex_top.proofs.Pieces.{begun_after, pieces_around}
use Rattle.codex_top.proofs.sending.put_all.Goals as goal

pub returns-in-Err-clause-appended : goal.returns-in-Err-clause-appended
returns-in-Err-clause-appended g c =
    let a = c.in-Err.ensures.appended in
    begun_after _ _ _ _ _ (flat_map (λ piece. piece.now) (drop (suc c.loop-piece.piece-index) c.args.pieces.now)) _ a.0
    (pieces_around c.args.pieces.now c.loop-piece.piece-index (record { ref_ptr = (0, 0); now = [] }) c.loop-piece-test.true)
    c.loop-piece.invariant.written a.1 a.2
