use Rattle.std.proofs.Common.{◌≤◌, length, arith}
use Rattle.std.proofs.lemmas.Result.{err_from_is_err_and}
use Rattle.codex_top.specs.Commands.{unread, no_memory, works}
use Rattle.codex_top.specs.Reading.{IsProgram, IsNoProgram}
use Rattle.um_word.specs.Scroll.{scroll, most_scroll_bytes}
use Rattle.codex_top.proofs.FileLemmas.{length-scroll, scroll_after, stays}
use Rattle.codex_top.proofs.compile.compile.Goals as goal

pub returns-in_err-program-clause-ends : goal.returns-in_err-program-clause-ends
returns-in_err-program-clause-ends g c =
    let p = err_from_is_err_and c.from_residual.result c.from_residual.ensures.1 in
    rw (p.1, p.2) (unread c.in_err-program.field-0.0 c.in_err-program.ensures.read c.in_err-program.ensures.shelf)

pub returns-in_err-linked-clause-ends : goal.returns-in_err-linked-clause-ends
returns-in_err-linked-clause-ends g c =
    let p = err_from_is_err_and c.from_residual-in_err-linked.result c.from_residual-in_err-linked.ensures.1 in
    rw (p.1, p.2) (no_memory c.in_ok-program.ensures.shelf)

pub returns-clause-ends : goal.returns-clause-ends
returns-clause-ends g c =
    let short : length c.in_ok-linked.linked.words.items ≤ 12_585_984 = omega (arith, c.in_ok-linked.ensures.follows.short, c.in_ok-program.ensures.weighs) in
    let few : length (scroll c.in_ok-linked.linked.words.items) ≤ most_scroll_bytes = omega (arith, short, length-scroll c.in_ok-linked.linked.words.items) in
    works c.in_ok-program.program c.write_scroll.result
    (stays IsProgram IsNoProgram c.args.file.now _ _ _ c.in_ok-program.program c.in_ok-program.ensures.read) (record {
      words = c.in_ok-linked.linked.words.items;
      blocks = c.in_ok-linked.linked.blocks.items;
      small = rw c.deref.ensures.value at c.words_fit.ensures;
      few = few;
      realises = c.in_ok-linked.ensures.realises;
      follows = c.in_ok-linked.ensures.follows;
      written = scroll_after c.args.out.now c.in_ok-linked.linked.words.items _ _ _ c.write_scroll.result c.in_ok-program.ensures.shelf
          (rw c.deref-2.ensures.value at c.write_scroll.ensures.ends);
    })
