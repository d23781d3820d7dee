use Rattle.std.proofs.Common.{◌≡◌, ◌≤◌, ◌∷◌, length, inl, inr, sym, arith}
use Rattle.std.proofs.lemmas.Result.{err_from_is_err_and}
use Rattle.um_asm.specs.Lines.{size_of}
use Rattle.um_asm.specs.Assembly.{said_by}
use Rattle.um_asm.specs.inner.Parts.{block_read_at, said_read}
use Rattle.um_asm.specs.inner.Definitions.{meaning_in}
use Rattle.um_asm.proofs.Sizes.{line_small}
use Rattle.um_asm.proofs.Walking.{said_first, walk_words, walk_fault, walk_unended}
use Rattle.um_asm.proofs.assembler.words_of.Goals as goal

pub returns-in_err-push_line : goal.returns-in_err-push_line
returns-in_err-push_line c =
    let p = err_from_is_err_and c.from_residual.result c.from_residual.ensures.1 in
    let here = c.loop-line.position in
    let line = said_read c.line_at-line.result in
    let rest = c.loop-line.rest.now in
    let behind = c.in-Some.behind.now in
    let now = c.loop-line.invariant in
    let first : said_by rest ≡ line ∷ said_by behind = said_first rest c.in-Some.line.now behind line c.in-Some.ensures.first c.line_at-line.ensures.line in
    rw (p.1, p.2) (elim c.in_err-push_line.ensures [
      | inl memory ↦ inl memory
      | inr fault ↦ inr (walk_fault (meaning_in c.args.labels.now.definitions) c.loop-line.words.items c.args.labels.now.unended
          here.number here.place (block_read_at here) line (said_by rest) (said_by behind) _ _ first now.unended fault now.words)
    ])

pub loop-line-preserved : goal.loop-line-preserved
loop-line-preserved c =
    let here = c.loop-line.position in
    let there = c.after-position.result in
    let block = block_read_at here in
    let line = said_read c.line_at-line.result in
    let rest = c.loop-line.rest.now in
    let behind = c.in-Some.behind.now in
    let moved = c.after-position.ensures in
    let now = c.loop-line.invariant in
    let pushed = c.in_ok-push_line.ensures in
    let first : said_by rest ≡ line ∷ said_by behind = said_first rest c.in-Some.line.now behind line c.in-Some.ensures.first c.line_at-line.ensures.line in
    let small : size_of line ≤ length c.in-Some.line.now = rw c.line_at-line.ensures.line (line_small c.in-Some.line.now) in
    record {
      words = walk_words (meaning_in c.args.labels.now.definitions) c.loop-line.words.items c.push_line.new.words.items pushed.0 c.args.labels.now.unended
          here.number here.place there.number there.place block (block_read_at there) line (said_by rest) (said_by behind) _
          first moved.number moved.block moved.place now.unended pushed.1 pushed.2 now.words;
      unended = sym (walk_unended here.number here.place there.number there.place block (block_read_at there) line (said_by rest) (said_by behind) _ first moved.number moved.block moved.place (sym now.unended));
      number = omega (arith, c.in-Some.ensures.shorter, moved.number);
      place = omega (arith, c.in-Some.ensures.parts, moved.place, small);
    }
