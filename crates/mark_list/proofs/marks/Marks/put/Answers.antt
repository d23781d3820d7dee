-- Each sum in which the mark stands has one more, or one fewer.
use Rattle.std.specs.Prelude.{◌≡◌, ◌+◌, ◌*◌, ◌<◌, ◌≤◌, ◌/◌, ℕ, not, length, slice_index_or, slice_set}
use Rattle.std.proofs.Common.{refl, arith, sym, ap, ◌∙◌}
use Rattle.mark_list.specs.Marks.{at, is_marked, one_if}
use Rattle.mark_list.specs.inner.Sums.{AreSummed}
use Rattle.mark_list.proofs.Summed.{mark-differs, block-at, page-at, book-at, shelf-at, room-at, count-low, block-high, page-high, book-high, shelf-high, room-high, count-high, summed-put}
use Rattle.mark_list.proofs.marks.Marks.put.Goals as goal

pub count_mark-requires-clause-low : goal.count_mark-requires-clause-low
count_mark-requires-clause-low c =
    let block = c.args.place / 16 in
    let page = block / 16 in
    let book = page / 16 in
    let shelf = book / 16 in
    let room = shelf / 16 in
    let there : c.args.place < length c.self.inside.marks.items = rw c.self.view_is c.requires in
    let is = mark-differs c.self.inside.marks.items c.args.place c.index.result.now c.args.set c.index.ensures there c.if-index-set.false in
    omega (arith, ap one_if is, block-at _ _ _ _ _ _ _ c.self.invariant c.args.place block (omega arith) (omega arith))

pub count_mark-requires-clause-high : goal.count_mark-requires-clause-high
count_mark-requires-clause-high c =
    let block = c.args.place / 16 in
    let page = block / 16 in
    let book = page / 16 in
    let shelf = book / 16 in
    let room = shelf / 16 in
    let there : c.args.place < length c.self.inside.marks.items = rw c.self.view_is c.requires in
    let is = mark-differs c.self.inside.marks.items c.args.place c.index.result.now c.args.set c.index.ensures there c.if-index-set.false in
    omega (arith, block-high _ _ _ _ _ _ _ c.self.invariant c.args.set c.args.place block (omega arith) is)

pub count_mark-requires-2-clause-low : goal.count_mark-requires-2-clause-low
count_mark-requires-2-clause-low c =
    let block = c.args.place / 16 in
    let page = block / 16 in
    let book = page / 16 in
    let shelf = book / 16 in
    let room = shelf / 16 in
    let there : c.args.place < length c.self.inside.marks.items = rw c.self.view_is c.requires in
    let is = mark-differs c.self.inside.marks.items c.args.place c.index.result.now c.args.set c.index.ensures there c.if-index-set.false in
    omega (arith, ap one_if is, block-at _ _ _ _ _ _ _ c.self.invariant c.args.place block (omega arith) (omega arith), page-at _ _ _ _ _ _ _ c.self.invariant block page (omega arith) (omega arith))

pub count_mark-requires-2-clause-high : goal.count_mark-requires-2-clause-high
count_mark-requires-2-clause-high c =
    let block = c.args.place / 16 in
    let page = block / 16 in
    let book = page / 16 in
    let shelf = book / 16 in
    let room = shelf / 16 in
    let there : c.args.place < length c.self.inside.marks.items = rw c.self.view_is c.requires in
    let is = mark-differs c.self.inside.marks.items c.args.place c.index.result.now c.args.set c.index.ensures there c.if-index-set.false in
    omega (arith, page-high _ _ _ _ _ _ _ c.self.invariant c.args.set c.args.place page (omega arith) is)

pub count_mark-requires-3-clause-low : goal.count_mark-requires-3-clause-low
count_mark-requires-3-clause-low c =
    let block = c.args.place / 16 in
    let page = block / 16 in
    let book = page / 16 in
    let shelf = book / 16 in
    let room = shelf / 16 in
    let there : c.args.place < length c.self.inside.marks.items = rw c.self.view_is c.requires in
    let is = mark-differs c.self.inside.marks.items c.args.place c.index.result.now c.args.set c.index.ensures there c.if-index-set.false in
    omega (arith, ap one_if is, block-at _ _ _ _ _ _ _ c.self.invariant c.args.place block (omega arith) (omega arith), page-at _ _ _ _ _ _ _ c.self.invariant block page (omega arith) (omega arith), book-at _ _ _ _ _ _ _ c.self.invariant page book (omega arith) (omega arith))

pub count_mark-requires-3-clause-high : goal.count_mark-requires-3-clause-high
count_mark-requires-3-clause-high c =
    let block = c.args.place / 16 in
    let page = block / 16 in
    let book = page / 16 in
    let shelf = book / 16 in
    let room = shelf / 16 in
    let there : c.args.place < length c.self.inside.marks.items = rw c.self.view_is c.requires in
    let is = mark-differs c.self.inside.marks.items c.args.place c.index.result.now c.args.set c.index.ensures there c.if-index-set.false in
    omega (arith, book-high _ _ _ _ _ _ _ c.self.invariant c.args.set c.args.place book (omega arith) is)

pub count_mark-requires-4-clause-low : goal.count_mark-requires-4-clause-low
count_mark-requires-4-clause-low c =
    let block = c.args.place / 16 in
    let page = block / 16 in
    let book = page / 16 in
    let shelf = book / 16 in
    let room = shelf / 16 in
    let there : c.args.place < length c.self.inside.marks.items = rw c.self.view_is c.requires in
    let is = mark-differs c.self.inside.marks.items c.args.place c.index.result.now c.args.set c.index.ensures there c.if-index-set.false in
    omega (arith, ap one_if is, block-at _ _ _ _ _ _ _ c.self.invariant c.args.place block (omega arith) (omega arith), page-at _ _ _ _ _ _ _ c.self.invariant block page (omega arith) (omega arith), book-at _ _ _ _ _ _ _ c.self.invariant page book (omega arith) (omega arith), shelf-at _ _ _ _ _ _ _ c.self.invariant book shelf (omega arith) (omega arith))

pub count_mark-requires-4-clause-high : goal.count_mark-requires-4-clause-high
count_mark-requires-4-clause-high c =
    let block = c.args.place / 16 in
    let page = block / 16 in
    let book = page / 16 in
    let shelf = book / 16 in
    let room = shelf / 16 in
    let there : c.args.place < length c.self.inside.marks.items = rw c.self.view_is c.requires in
    let is = mark-differs c.self.inside.marks.items c.args.place c.index.result.now c.args.set c.index.ensures there c.if-index-set.false in
    omega (arith, shelf-high _ _ _ _ _ _ _ c.self.invariant c.args.set c.args.place shelf (omega arith) is)

pub count_mark-requires-5-clause-low : goal.count_mark-requires-5-clause-low
count_mark-requires-5-clause-low c =
    let block = c.args.place / 16 in
    let page = block / 16 in
    let book = page / 16 in
    let shelf = book / 16 in
    let room = shelf / 16 in
    let there : c.args.place < length c.self.inside.marks.items = rw c.self.view_is c.requires in
    let is = mark-differs c.self.inside.marks.items c.args.place c.index.result.now c.args.set c.index.ensures there c.if-index-set.false in
    omega (arith, ap one_if is, block-at _ _ _ _ _ _ _ c.self.invariant c.args.place block (omega arith) (omega arith), page-at _ _ _ _ _ _ _ c.self.invariant block page (omega arith) (omega arith), book-at _ _ _ _ _ _ _ c.self.invariant page book (omega arith) (omega arith), shelf-at _ _ _ _ _ _ _ c.self.invariant book shelf (omega arith) (omega arith), room-at _ _ _ _ _ _ _ c.self.invariant shelf room (omega arith) (omega arith))

pub count_mark-requires-5-clause-high : goal.count_mark-requires-5-clause-high
count_mark-requires-5-clause-high c =
    let block = c.args.place / 16 in
    let page = block / 16 in
    let book = page / 16 in
    let shelf = book / 16 in
    let room = shelf / 16 in
    let there : c.args.place < length c.self.inside.marks.items = rw c.self.view_is c.requires in
    let is = mark-differs c.self.inside.marks.items c.args.place c.index.result.now c.args.set c.index.ensures there c.if-index-set.false in
    omega (arith, room-high _ _ _ _ _ _ _ c.self.invariant c.args.set c.args.place room (omega arith) is)

pub next_count-self-inside-requires-clause-low : goal.next_count-self-inside-requires-clause-low
next_count-self-inside-requires-clause-low c =
    let block = c.args.place / 16 in
    let page = block / 16 in
    let book = page / 16 in
    let shelf = book / 16 in
    let room = shelf / 16 in
    let there : c.args.place < length c.self.inside.marks.items = rw c.self.view_is c.requires in
    let is = mark-differs c.self.inside.marks.items c.args.place c.index.result.now c.args.set c.index.ensures there c.if-index-set.false in
    omega (arith, ap one_if is, count-low _ _ _ _ _ _ _ c.self.invariant c.args.place (omega arith))

pub next_count-self-inside-requires-clause-high : goal.next_count-self-inside-requires-clause-high
next_count-self-inside-requires-clause-high c =
    let block = c.args.place / 16 in
    let page = block / 16 in
    let book = page / 16 in
    let shelf = book / 16 in
    let room = shelf / 16 in
    let there : c.args.place < length c.self.inside.marks.items = rw c.self.view_is c.requires in
    let is = mark-differs c.self.inside.marks.items c.args.place c.index.result.now c.args.set c.index.ensures there c.if-index-set.false in
    omega (arith, count-high _ _ _ _ _ _ _ c.self.invariant c.args.set c.args.place (omega arith) is)

pub invariant_of-self : goal.invariant_of-self
invariant_of-self c =
    let block = c.args.place / 16 in
    let page = block / 16 in
    let book = page / 16 in
    let shelf = book / 16 in
    let room = shelf / 16 in
    let there : c.args.place < length c.self.inside.marks.items = rw c.self.view_is c.requires in
    let is = mark-differs c.self.inside.marks.items c.args.place c.index.result.now c.args.set c.index.ensures there c.if-index-set.false in
    let (u, eu, isu) = c.count_mark.ensures in
    let (v, ev, isv) = c.count_mark-2.ensures in
    let (w, ew, isw) = c.count_mark-3.ensures in
    let (x, ex, isx) = c.count_mark-4.ensures in
    let (y, ey, isy) = c.count_mark-5.ensures in
    rw (isu, isv, isw, isx, isy)
    (summed-put _ _ _ _ _ _ _ c.self.invariant c.args.place block page book shelf room c.args.set u v w x y c.next_count-self-inside.result
    (omega arith) (omega arith) (omega arith) (omega arith) (omega arith) (omega arith) is (omega arith) (omega arith) (omega arith) (omega arith) (omega arith) (omega arith) (omega arith) (omega arith) (omega arith) (omega arith)
    eu ev ew ex ey c.next_count-self-inside.ensures)
