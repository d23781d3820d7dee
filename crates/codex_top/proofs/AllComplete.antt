-- Completeness of all commands.
use Rattle.codex_top.specs.Calls.{IsOfCodex}
use Rattle.codex_top.specs.Completeness.{Completeness}
use Rattle.codex_top.proofs.Complete.{compiled, grids, scrolls, selftest, typed}
use Rattle.codex_top.proofs.CompleteRuns.{runs_complete}

pub completeness : Completeness IsOfCodex
completeness = record {
  grids = grids;
  compiled = compiled;
  scrolls = scrolls;
  runs = runs_complete;
  selftest = selftest;
  types = typed;
}
