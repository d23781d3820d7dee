use Rattle.std.proofs.Common.{◌≡◌, drop, map}
use Rattle.box_parse.specs.inner.ReaderOnLists.{Refusal, choose_from, head_of}
use Rattle.box_parse.proofs.reader.Reader.choose.Given as goal

abbrev pub invariant-loop-token : goal.invariant-loop-token
invariant-loop-token l = (e : Refusal) → choose_from (map head_of (drop l.token-index l.tokens)) e l.text ≡ choose_from (map head_of l.tokens) e l.text
