use Rattle.std.proofs.Common.{◌≡◌, ◌++◌, drop}
use Rattle.codex_gen.specs.inner.Rows.{more_parts, texts_of}
use Rattle.codex_gen.proofs.lines.push_more.Given as goal

abbrev pub invariant-loop-one : goal.invariant-loop-one
invariant-loop-one l =
    l.text.items ++ more_parts l.row (texts_of (drop l.one-index l.texts)) ≡ l.initial.text.items ++ more_parts l.row (texts_of l.texts)
