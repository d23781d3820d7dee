use Rattle.std.proofs.Common.{◌≡◌, ◌≤◌, length, ◌∷◌, arith}
use Rattle.um_asm.specs.Lines.{size_of}
use Rattle.um_asm.specs.Scopes.{all_standing, definitions, lookup}
use Rattle.um_asm.specs.Assembly.{said_by}
use Rattle.um_asm.specs.inner.Parts.{block_read_at, said_read}
use Rattle.um_asm.proofs.Sizes.{line_small}
use Rattle.um_asm.proofs.Scoping.{behind_after}
use Rattle.um_asm.proofs.Walking.{said_first, walk_known, walk_unended}
use Rattle.um_asm.proofs.labels.Labels.of.Goals as goal

pub loop-line-preserved : goal.loop-line-preserved
loop-line-preserved c =
    let here = c.loop-line.position in
    let there = c.after-position.result in
    let block = block_read_at here in
    let line = said_read c.line_at-line.result in
    let rest = c.loop-line.rest.now in
    let behind = c.in-Some.behind.now in
    let moved = c.after-position.ensures in
    let now = c.loop-line.invariant in
    let first : said_by rest ≡ line ∷ said_by behind = said_first rest c.in-Some.line.now behind line c.in-Some.ensures.first c.line_at-line.ensures.line in
    let small : size_of line ≤ length c.in-Some.line.now = rw c.line_at-line.ensures.line (line_small c.in-Some.line.now) in
    record {
      known = walk_known c.loop-line.definitions c.define.new.definitions here.number here.place there.number there.place block (block_read_at there) line (said_by rest) (said_by behind)
          (lookup (definitions (all_standing (said_by c.args.text.now)))) first moved.number moved.block moved.place now.behind c.in_ok-define.ensures.ok now.known;
      unended = walk_unended here.number here.place there.number there.place block (block_read_at there) line (said_by rest) (said_by behind) _ first moved.number moved.block moved.place now.unended;
      behind = rw (moved.block, moved.place) (behind_after here.number here.place block line now.behind);
      number = omega (arith, c.in-Some.ensures.shorter, moved.number);
      place = omega (arith, c.in-Some.ensures.parts, moved.place, small);
    }
