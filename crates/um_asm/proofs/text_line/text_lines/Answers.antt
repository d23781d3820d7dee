use Rattle.std.proofs.Common.{◌≡◌, ◌-◌, ◌≤◌, ◌∷◌, length, arith, refl}
use Rattle.um_asm.specs.Lines.{size_of}
use Rattle.um_asm.specs.inner.Parts.{block_read_at, said_read, Part}
use Rattle.um_asm.specs.inner.TextParts.{text_line_read}
use Rattle.um_asm.specs.declared.text_line.TextLine.{TextLine}
use Rattle.um_asm.proofs.Sizes.{line_small}
use Rattle.um_asm.proofs.TextWalk.{first_line, walk_lines}
use Rattle.um_asm.proofs.text_line.text_lines.Goals as goal

pub loop-bytes-preserved : goal.loop-bytes-preserved
loop-bytes-preserved c =
    let here = c.loop-bytes.position in
    let there = c.after-next.result in
    let block = block_read_at here in
    let line = said_read c.line_at-line.result in
    let bytes = c.in-Some.bytes in
    let moved = c.after-next.ensures in
    let now = c.loop-bytes.invariant in
    let small : size_of line ≤ length bytes.now = rw c.line_at-line.ensures.line (line_small bytes.now) in
    let count : there.place - here.place ≡ size_of line = omega (arith, moved.place) in
    let found : TextLine Part = record { number = here.number; base = c.base_of.result; place = here.place; count = there.place - here.place; bytes = bytes; head = c.head_of.result } in
    let read : text_line_read found ≡ first_line here.number here.place block (size_of line) bytes.now = rw (count, c.base_of.ensures, c.head_of.ensures) refl in
    record {
      found = walk_lines c.loop-bytes.found.items c.push.new.self.items found here.number here.place there.number there.place block (block_read_at there) c.loop-bytes.rest.now bytes.now c.in-Some.behind.now line _
          c.in-Some.ensures.first c.line_at-line.ensures.line moved.number moved.block moved.place c.in_ok-push.ensures.items read now.found;
      number = omega (arith, c.in-Some.ensures.shorter, moved.number);
      place = omega (arith, c.in-Some.ensures.parts, moved.place, small);
    }
