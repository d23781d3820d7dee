-- The sums before a place, from the largest to the marks themselves.
use Rattle.std.specs.Prelude.{◌≡◌, ◌+◌, ◌*◌, ◌/◌, ◌≤◌, List, ℕ, Bool, length}
use Rattle.std.proofs.Common.{ap, arith, ◌∙◌}
use Rattle.mark_list.specs.Marks.{sum_before, count_before}
use Rattle.mark_list.proofs.Summed.{rank, blocks-le, pages-le, books-le, shelves-le, rooms-le}
use Rattle.mark_list.proofs.Below.{count_before-le}
use Rattle.mark_list.proofs.marks.Marks.before.Goals as goal

pub sum_between-requires-clause-small : goal.sum_between-requires-clause-small
sum_between-requires-clause-small c = rw c.deref.ensures.value (omega (arith, rooms-le _ _ _ _ _ _ _ c.self.invariant (c.args.place / 16 / 16 / 16 / 16 / 16)))

pub sum_between-requires-2-clause-small : goal.sum_between-requires-2-clause-small
sum_between-requires-2-clause-small c = rw c.deref-2.ensures.value (omega (arith, shelves-le _ _ _ _ _ _ _ c.self.invariant (c.args.place / 16 / 16 / 16 / 16)))

pub overflow_add-result : goal.overflow_add-result
overflow_add-result c =
    let block = c.args.place / 16 in
    let page = block / 16 in
    let book = page / 16 in
    let shelf = book / 16 in
    let room = shelf / 16 in
    let first : sum_before c.self.inside.rooms.items 0 + c.sum_between.result ≡ sum_before c.self.inside.rooms.items room = rw c.deref.ensures.value at c.sum_between.ensures in
    let second : sum_before c.self.inside.shelves.items (16 * room) + c.sum_between-2.result ≡ sum_before c.self.inside.shelves.items shelf = rw c.deref-2.ensures.value at c.sum_between-2.ensures in
    omega (arith, first, second, c.self.invariant.rooms_sum room, shelves-le _ _ _ _ _ _ _ c.self.invariant shelf)

pub sum_between-requires-3-clause-small : goal.sum_between-requires-3-clause-small
sum_between-requires-3-clause-small c = rw c.deref-3.ensures.value (omega (arith, books-le _ _ _ _ _ _ _ c.self.invariant (c.args.place / 16 / 16 / 16)))

pub overflow_add-result-2 : goal.overflow_add-result-2
overflow_add-result-2 c =
    let block = c.args.place / 16 in
    let page = block / 16 in
    let book = page / 16 in
    let shelf = book / 16 in
    let room = shelf / 16 in
    let first : sum_before c.self.inside.rooms.items 0 + c.sum_between.result ≡ sum_before c.self.inside.rooms.items room = rw c.deref.ensures.value at c.sum_between.ensures in
    let second : sum_before c.self.inside.shelves.items (16 * room) + c.sum_between-2.result ≡ sum_before c.self.inside.shelves.items shelf = rw c.deref-2.ensures.value at c.sum_between-2.ensures in
    let third : sum_before c.self.inside.books.items (16 * shelf) + c.sum_between-3.result ≡ sum_before c.self.inside.books.items book = rw c.deref-3.ensures.value at c.sum_between-3.ensures in
    omega (arith, first, second, third, c.self.invariant.rooms_sum room, c.self.invariant.shelves_sum shelf, books-le _ _ _ _ _ _ _ c.self.invariant book)

pub sum_between-requires-4-clause-small : goal.sum_between-requires-4-clause-small
sum_between-requires-4-clause-small c = rw c.deref-4.ensures.value (omega (arith, pages-le _ _ _ _ _ _ _ c.self.invariant (c.args.place / 16 / 16)))

pub overflow_add-result-3 : goal.overflow_add-result-3
overflow_add-result-3 c =
    let block = c.args.place / 16 in
    let page = block / 16 in
    let book = page / 16 in
    let shelf = book / 16 in
    let room = shelf / 16 in
    let first : sum_before c.self.inside.rooms.items 0 + c.sum_between.result ≡ sum_before c.self.inside.rooms.items room = rw c.deref.ensures.value at c.sum_between.ensures in
    let second : sum_before c.self.inside.shelves.items (16 * room) + c.sum_between-2.result ≡ sum_before c.self.inside.shelves.items shelf = rw c.deref-2.ensures.value at c.sum_between-2.ensures in
    let third : sum_before c.self.inside.books.items (16 * shelf) + c.sum_between-3.result ≡ sum_before c.self.inside.books.items book = rw c.deref-3.ensures.value at c.sum_between-3.ensures in
    let fourth : sum_before c.self.inside.pages.items (16 * book) + c.sum_between-4.result ≡ sum_before c.self.inside.pages.items page = rw c.deref-4.ensures.value at c.sum_between-4.ensures in
    omega (arith, first, second, third, fourth, c.self.invariant.rooms_sum room, c.self.invariant.shelves_sum shelf, c.self.invariant.books_sum book, pages-le _ _ _ _ _ _ _ c.self.invariant page)

pub sum_between-requires-5-clause-small : goal.sum_between-requires-5-clause-small
sum_between-requires-5-clause-small c = rw c.deref-5.ensures.value (omega (arith, blocks-le _ _ _ _ _ _ _ c.self.invariant (c.args.place / 16)))

pub overflow_add-result-4 : goal.overflow_add-result-4
overflow_add-result-4 c =
    let block = c.args.place / 16 in
    let page = block / 16 in
    let book = page / 16 in
    let shelf = book / 16 in
    let room = shelf / 16 in
    let first : sum_before c.self.inside.rooms.items 0 + c.sum_between.result ≡ sum_before c.self.inside.rooms.items room = rw c.deref.ensures.value at c.sum_between.ensures in
    let second : sum_before c.self.inside.shelves.items (16 * room) + c.sum_between-2.result ≡ sum_before c.self.inside.shelves.items shelf = rw c.deref-2.ensures.value at c.sum_between-2.ensures in
    let third : sum_before c.self.inside.books.items (16 * shelf) + c.sum_between-3.result ≡ sum_before c.self.inside.books.items book = rw c.deref-3.ensures.value at c.sum_between-3.ensures in
    let fourth : sum_before c.self.inside.pages.items (16 * book) + c.sum_between-4.result ≡ sum_before c.self.inside.pages.items page = rw c.deref-4.ensures.value at c.sum_between-4.ensures in
    let fifth : sum_before c.self.inside.blocks.items (16 * page) + c.sum_between-5.result ≡ sum_before c.self.inside.blocks.items block = rw c.deref-5.ensures.value at c.sum_between-5.ensures in
    omega (arith, first, second, third, fourth, fifth, c.self.invariant.rooms_sum room, c.self.invariant.shelves_sum shelf, c.self.invariant.books_sum book, c.self.invariant.pages_sum page, blocks-le _ _ _ _ _ _ _ c.self.invariant block)

pub overflow_add-result-5 : goal.overflow_add-result-5
overflow_add-result-5 c =
    let block = c.args.place / 16 in
    let page = block / 16 in
    let book = page / 16 in
    let shelf = book / 16 in
    let room = shelf / 16 in
    let first : sum_before c.self.inside.rooms.items 0 + c.sum_between.result ≡ sum_before c.self.inside.rooms.items room = rw c.deref.ensures.value at c.sum_between.ensures in
    let second : sum_before c.self.inside.shelves.items (16 * room) + c.sum_between-2.result ≡ sum_before c.self.inside.shelves.items shelf = rw c.deref-2.ensures.value at c.sum_between-2.ensures in
    let third : sum_before c.self.inside.books.items (16 * shelf) + c.sum_between-3.result ≡ sum_before c.self.inside.books.items book = rw c.deref-3.ensures.value at c.sum_between-3.ensures in
    let fourth : sum_before c.self.inside.pages.items (16 * book) + c.sum_between-4.result ≡ sum_before c.self.inside.pages.items page = rw c.deref-4.ensures.value at c.sum_between-4.ensures in
    let fifth : sum_before c.self.inside.blocks.items (16 * page) + c.sum_between-5.result ≡ sum_before c.self.inside.blocks.items block = rw c.deref-5.ensures.value at c.sum_between-5.ensures in
    let sixth : count_before c.self.inside.marks.items (16 * block) + c.count_between.result ≡ count_before c.self.inside.marks.items c.args.place = rw c.deref-6.ensures.value at c.count_between.ensures in
    let whole = rank _ _ _ _ _ _ _ c.self.invariant c.args.place block page book shelf room _ _ _ _ _ _ first second third fourth fifth sixth in
    omega (arith, whole, count_before-le c.self.inside.marks.items c.args.place)

pub returns : goal.returns
returns c =
    let block = c.args.place / 16 in
    let page = block / 16 in
    let book = page / 16 in
    let shelf = book / 16 in
    let room = shelf / 16 in
    let first : sum_before c.self.inside.rooms.items 0 + c.sum_between.result ≡ sum_before c.self.inside.rooms.items room = rw c.deref.ensures.value at c.sum_between.ensures in
    let second : sum_before c.self.inside.shelves.items (16 * room) + c.sum_between-2.result ≡ sum_before c.self.inside.shelves.items shelf = rw c.deref-2.ensures.value at c.sum_between-2.ensures in
    let third : sum_before c.self.inside.books.items (16 * shelf) + c.sum_between-3.result ≡ sum_before c.self.inside.books.items book = rw c.deref-3.ensures.value at c.sum_between-3.ensures in
    let fourth : sum_before c.self.inside.pages.items (16 * book) + c.sum_between-4.result ≡ sum_before c.self.inside.pages.items page = rw c.deref-4.ensures.value at c.sum_between-4.ensures in
    let fifth : sum_before c.self.inside.blocks.items (16 * page) + c.sum_between-5.result ≡ sum_before c.self.inside.blocks.items block = rw c.deref-5.ensures.value at c.sum_between-5.ensures in
    let sixth : count_before c.self.inside.marks.items (16 * block) + c.count_between.result ≡ count_before c.self.inside.marks.items c.args.place = rw c.deref-6.ensures.value at c.count_between.ensures in
    rank _ _ _ _ _ _ _ c.self.invariant c.args.place block page book shelf room _ _ _ _ _ _ first second third fourth fifth sixth
    ∙ ap (λ (l : List Bool). count_before l c.args.place) c.self.view_is
