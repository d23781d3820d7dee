use Rattle.std.proofs.Common.{◌≡◌, ◌≤◌, ◌++◌, take}
use Rattle.std.specs.Option.{option_map}
use Rattle.std.specs.List.{flat_map}
use Rattle.codex_top.proofs.sending.put_all.Given as goal

abbrev pub invariant-loop-piece : goal.invariant-loop-piece
invariant-loop-piece g l = record {
  written : g.S.Sink.written l.sink ≡ option_map (λ held. held ++ flat_map (λ piece. piece.now) (take l.piece-index l.pieces)) (g.S.Sink.written l.initial.sink);
  later : g.S.Sink.faults l.initial.sink ≤ g.S.Sink.faults l.sink;
}
