-- Each list adds up to the number of marks that are set, so each search ends within it.
use Rattle.std.specs.Prelude.{◌≡◌, ◌+◌, ◌*◌, ◌<◌, ◌≤◌, List, ℕ, Bool, length}
use Rattle.std.proofs.Common.{ap, sym, arith, subst, ◌∙◌}
use Rattle.mark_list.specs.Marks.{sum_before, count_before}
use Rattle.mark_list.proofs.Below.{sum_before-none}
use Rattle.mark_list.proofs.Summed.{blocks-all, pages-all, books-all, shelves-all, rooms-all, shelves-there, books-there, pages-there, blocks-there, marks-there}
use Rattle.mark_list.proofs.marks.Marks.search.Goals as goal

pub find_sum-room-requires : goal.find_sum-room-requires
find_sum-room-requires c =
    let few : c.args.k < count_before c.self.inside.marks.items (length c.self.inside.marks.items) = rw c.self.view_is c.requires in
    rw c.deref.ensures.value (omega (arith, few, sum_before-none c.self.inside.rooms.items, rooms-all _ _ _ _ _ _ _ c.self.invariant))

pub overflow_mul-room : goal.overflow_mul-room
overflow_mul-room c =
    let few : c.args.k < count_before c.self.inside.marks.items (length c.self.inside.marks.items) = rw c.self.view_is c.requires in
    let room = c.find_sum-room.result.0 in
    let first : sum_before c.self.inside.rooms.items room + c.find_sum-room.result.1 ≡ sum_before c.self.inside.rooms.items 0 + c.args.k = rw c.deref.ensures.value at c.find_sum-room.ensures.is in
    let there = shelves-there _ _ _ _ _ _ _ c.self.invariant c.args.k room (omega (arith, first, sum_before-none c.self.inside.rooms.items)) few in
    omega (arith, there)

pub find_sum-shelf-requires : goal.find_sum-shelf-requires
find_sum-shelf-requires c =
    let few : c.args.k < count_before c.self.inside.marks.items (length c.self.inside.marks.items) = rw c.self.view_is c.requires in
    let room = c.find_sum-room.result.0 in
    let first : sum_before c.self.inside.rooms.items room + c.find_sum-room.result.1 ≡ sum_before c.self.inside.rooms.items 0 + c.args.k = rw c.deref.ensures.value at c.find_sum-room.ensures.is in
    rw c.deref-2.ensures.value (omega (arith, first, few, sum_before-none c.self.inside.rooms.items, c.self.invariant.rooms_sum room, shelves-all _ _ _ _ _ _ _ c.self.invariant))

pub overflow_mul-shelf : goal.overflow_mul-shelf
overflow_mul-shelf c =
    let few : c.args.k < count_before c.self.inside.marks.items (length c.self.inside.marks.items) = rw c.self.view_is c.requires in
    let room = c.find_sum-room.result.0 in
    let shelf = c.find_sum-shelf.result.0 in
    let first : sum_before c.self.inside.rooms.items room + c.find_sum-room.result.1 ≡ sum_before c.self.inside.rooms.items 0 + c.args.k = rw c.deref.ensures.value at c.find_sum-room.ensures.is in
    let second : sum_before c.self.inside.shelves.items shelf + c.find_sum-shelf.result.1 ≡ sum_before c.self.inside.shelves.items (16 * room) + c.find_sum-room.result.1 = rw c.deref-2.ensures.value at c.find_sum-shelf.ensures.is in
    let there = books-there _ _ _ _ _ _ _ c.self.invariant c.args.k shelf (omega (arith, first, second, sum_before-none c.self.inside.rooms.items, c.self.invariant.rooms_sum room)) few in
    omega (arith, there)

pub find_sum-book-requires : goal.find_sum-book-requires
find_sum-book-requires c =
    let few : c.args.k < count_before c.self.inside.marks.items (length c.self.inside.marks.items) = rw c.self.view_is c.requires in
    let room = c.find_sum-room.result.0 in
    let shelf = c.find_sum-shelf.result.0 in
    let first : sum_before c.self.inside.rooms.items room + c.find_sum-room.result.1 ≡ sum_before c.self.inside.rooms.items 0 + c.args.k = rw c.deref.ensures.value at c.find_sum-room.ensures.is in
    let second : sum_before c.self.inside.shelves.items shelf + c.find_sum-shelf.result.1 ≡ sum_before c.self.inside.shelves.items (16 * room) + c.find_sum-room.result.1 = rw c.deref-2.ensures.value at c.find_sum-shelf.ensures.is in
    rw c.deref-3.ensures.value (omega (arith, first, second, few, sum_before-none c.self.inside.rooms.items, c.self.invariant.rooms_sum room, c.self.invariant.shelves_sum shelf, books-all _ _ _ _ _ _ _ c.self.invariant))

pub overflow_mul-book : goal.overflow_mul-book
overflow_mul-book c =
    let few : c.args.k < count_before c.self.inside.marks.items (length c.self.inside.marks.items) = rw c.self.view_is c.requires in
    let room = c.find_sum-room.result.0 in
    let shelf = c.find_sum-shelf.result.0 in
    let book = c.find_sum-book.result.0 in
    let first : sum_before c.self.inside.rooms.items room + c.find_sum-room.result.1 ≡ sum_before c.self.inside.rooms.items 0 + c.args.k = rw c.deref.ensures.value at c.find_sum-room.ensures.is in
    let second : sum_before c.self.inside.shelves.items shelf + c.find_sum-shelf.result.1 ≡ sum_before c.self.inside.shelves.items (16 * room) + c.find_sum-room.result.1 = rw c.deref-2.ensures.value at c.find_sum-shelf.ensures.is in
    let third : sum_before c.self.inside.books.items book + c.find_sum-book.result.1 ≡ sum_before c.self.inside.books.items (16 * shelf) + c.find_sum-shelf.result.1 = rw c.deref-3.ensures.value at c.find_sum-book.ensures.is in
    let there = pages-there _ _ _ _ _ _ _ c.self.invariant c.args.k book (omega (arith, first, second, third, sum_before-none c.self.inside.rooms.items, c.self.invariant.rooms_sum room, c.self.invariant.shelves_sum shelf)) few in
    omega (arith, there)

pub find_sum-page-requires : goal.find_sum-page-requires
find_sum-page-requires c =
    let few : c.args.k < count_before c.self.inside.marks.items (length c.self.inside.marks.items) = rw c.self.view_is c.requires in
    let room = c.find_sum-room.result.0 in
    let shelf = c.find_sum-shelf.result.0 in
    let book = c.find_sum-book.result.0 in
    let first : sum_before c.self.inside.rooms.items room + c.find_sum-room.result.1 ≡ sum_before c.self.inside.rooms.items 0 + c.args.k = rw c.deref.ensures.value at c.find_sum-room.ensures.is in
    let second : sum_before c.self.inside.shelves.items shelf + c.find_sum-shelf.result.1 ≡ sum_before c.self.inside.shelves.items (16 * room) + c.find_sum-room.result.1 = rw c.deref-2.ensures.value at c.find_sum-shelf.ensures.is in
    let third : sum_before c.self.inside.books.items book + c.find_sum-book.result.1 ≡ sum_before c.self.inside.books.items (16 * shelf) + c.find_sum-shelf.result.1 = rw c.deref-3.ensures.value at c.find_sum-book.ensures.is in
    rw c.deref-4.ensures.value (omega (arith, first, second, third, few, sum_before-none c.self.inside.rooms.items, c.self.invariant.rooms_sum room, c.self.invariant.shelves_sum shelf, c.self.invariant.books_sum book, pages-all _ _ _ _ _ _ _ c.self.invariant))

pub overflow_mul-page : goal.overflow_mul-page
overflow_mul-page c =
    let few : c.args.k < count_before c.self.inside.marks.items (length c.self.inside.marks.items) = rw c.self.view_is c.requires in
    let room = c.find_sum-room.result.0 in
    let shelf = c.find_sum-shelf.result.0 in
    let book = c.find_sum-book.result.0 in
    let page = c.find_sum-page.result.0 in
    let first : sum_before c.self.inside.rooms.items room + c.find_sum-room.result.1 ≡ sum_before c.self.inside.rooms.items 0 + c.args.k = rw c.deref.ensures.value at c.find_sum-room.ensures.is in
    let second : sum_before c.self.inside.shelves.items shelf + c.find_sum-shelf.result.1 ≡ sum_before c.self.inside.shelves.items (16 * room) + c.find_sum-room.result.1 = rw c.deref-2.ensures.value at c.find_sum-shelf.ensures.is in
    let third : sum_before c.self.inside.books.items book + c.find_sum-book.result.1 ≡ sum_before c.self.inside.books.items (16 * shelf) + c.find_sum-shelf.result.1 = rw c.deref-3.ensures.value at c.find_sum-book.ensures.is in
    let fourth : sum_before c.self.inside.pages.items page + c.find_sum-page.result.1 ≡ sum_before c.self.inside.pages.items (16 * book) + c.find_sum-book.result.1 = rw c.deref-4.ensures.value at c.find_sum-page.ensures.is in
    let there = blocks-there _ _ _ _ _ _ _ c.self.invariant c.args.k page (omega (arith, first, second, third, fourth, sum_before-none c.self.inside.rooms.items, c.self.invariant.rooms_sum room, c.self.invariant.shelves_sum shelf, c.self.invariant.books_sum book)) few in
    omega (arith, there)

pub find_sum-block-requires : goal.find_sum-block-requires
find_sum-block-requires c =
    let few : c.args.k < count_before c.self.inside.marks.items (length c.self.inside.marks.items) = rw c.self.view_is c.requires in
    let room = c.find_sum-room.result.0 in
    let shelf = c.find_sum-shelf.result.0 in
    let book = c.find_sum-book.result.0 in
    let page = c.find_sum-page.result.0 in
    let first : sum_before c.self.inside.rooms.items room + c.find_sum-room.result.1 ≡ sum_before c.self.inside.rooms.items 0 + c.args.k = rw c.deref.ensures.value at c.find_sum-room.ensures.is in
    let second : sum_before c.self.inside.shelves.items shelf + c.find_sum-shelf.result.1 ≡ sum_before c.self.inside.shelves.items (16 * room) + c.find_sum-room.result.1 = rw c.deref-2.ensures.value at c.find_sum-shelf.ensures.is in
    let third : sum_before c.self.inside.books.items book + c.find_sum-book.result.1 ≡ sum_before c.self.inside.books.items (16 * shelf) + c.find_sum-shelf.result.1 = rw c.deref-3.ensures.value at c.find_sum-book.ensures.is in
    let fourth : sum_before c.self.inside.pages.items page + c.find_sum-page.result.1 ≡ sum_before c.self.inside.pages.items (16 * book) + c.find_sum-book.result.1 = rw c.deref-4.ensures.value at c.find_sum-page.ensures.is in
    rw c.deref-5.ensures.value (omega (arith, first, second, third, fourth, few, sum_before-none c.self.inside.rooms.items, c.self.invariant.rooms_sum room, c.self.invariant.shelves_sum shelf, c.self.invariant.books_sum book, c.self.invariant.pages_sum page, blocks-all _ _ _ _ _ _ _ c.self.invariant))

pub overflow_mul-block : goal.overflow_mul-block
overflow_mul-block c =
    let few : c.args.k < count_before c.self.inside.marks.items (length c.self.inside.marks.items) = rw c.self.view_is c.requires in
    let room = c.find_sum-room.result.0 in
    let shelf = c.find_sum-shelf.result.0 in
    let book = c.find_sum-book.result.0 in
    let page = c.find_sum-page.result.0 in
    let block = c.find_sum-block.result.0 in
    let first : sum_before c.self.inside.rooms.items room + c.find_sum-room.result.1 ≡ sum_before c.self.inside.rooms.items 0 + c.args.k = rw c.deref.ensures.value at c.find_sum-room.ensures.is in
    let second : sum_before c.self.inside.shelves.items shelf + c.find_sum-shelf.result.1 ≡ sum_before c.self.inside.shelves.items (16 * room) + c.find_sum-room.result.1 = rw c.deref-2.ensures.value at c.find_sum-shelf.ensures.is in
    let third : sum_before c.self.inside.books.items book + c.find_sum-book.result.1 ≡ sum_before c.self.inside.books.items (16 * shelf) + c.find_sum-shelf.result.1 = rw c.deref-3.ensures.value at c.find_sum-book.ensures.is in
    let fourth : sum_before c.self.inside.pages.items page + c.find_sum-page.result.1 ≡ sum_before c.self.inside.pages.items (16 * book) + c.find_sum-book.result.1 = rw c.deref-4.ensures.value at c.find_sum-page.ensures.is in
    let fifth : sum_before c.self.inside.blocks.items block + c.find_sum-block.result.1 ≡ sum_before c.self.inside.blocks.items (16 * page) + c.find_sum-page.result.1 = rw c.deref-5.ensures.value at c.find_sum-block.ensures.is in
    let there = marks-there _ _ _ _ _ _ _ c.self.invariant c.args.k block (omega (arith, first, second, third, fourth, fifth, sum_before-none c.self.inside.rooms.items, c.self.invariant.rooms_sum room, c.self.invariant.shelves_sum shelf, c.self.invariant.books_sum book, c.self.invariant.pages_sum page)) few in
    omega (arith, there)

pub mark_after-requires : goal.mark_after-requires
mark_after-requires c =
    let few : c.args.k < count_before c.self.inside.marks.items (length c.self.inside.marks.items) = rw c.self.view_is c.requires in
    let room = c.find_sum-room.result.0 in
    let shelf = c.find_sum-shelf.result.0 in
    let book = c.find_sum-book.result.0 in
    let page = c.find_sum-page.result.0 in
    let block = c.find_sum-block.result.0 in
    let first : sum_before c.self.inside.rooms.items room + c.find_sum-room.result.1 ≡ sum_before c.self.inside.rooms.items 0 + c.args.k = rw c.deref.ensures.value at c.find_sum-room.ensures.is in
    let second : sum_before c.self.inside.shelves.items shelf + c.find_sum-shelf.result.1 ≡ sum_before c.self.inside.shelves.items (16 * room) + c.find_sum-room.result.1 = rw c.deref-2.ensures.value at c.find_sum-shelf.ensures.is in
    let third : sum_before c.self.inside.books.items book + c.find_sum-book.result.1 ≡ sum_before c.self.inside.books.items (16 * shelf) + c.find_sum-shelf.result.1 = rw c.deref-3.ensures.value at c.find_sum-book.ensures.is in
    let fourth : sum_before c.self.inside.pages.items page + c.find_sum-page.result.1 ≡ sum_before c.self.inside.pages.items (16 * book) + c.find_sum-book.result.1 = rw c.deref-4.ensures.value at c.find_sum-page.ensures.is in
    let fifth : sum_before c.self.inside.blocks.items block + c.find_sum-block.result.1 ≡ sum_before c.self.inside.blocks.items (16 * page) + c.find_sum-page.result.1 = rw c.deref-5.ensures.value at c.find_sum-block.ensures.is in
    rw c.deref-6.ensures.value (omega (arith, first, second, third, fourth, fifth, few, sum_before-none c.self.inside.rooms.items, c.self.invariant.rooms_sum room, c.self.invariant.shelves_sum shelf, c.self.invariant.books_sum book, c.self.invariant.pages_sum page, c.self.invariant.blocks_sum block))

pub returns-clause-is : goal.returns-clause-is
returns-clause-is c =
    let room = c.find_sum-room.result.0 in
    let shelf = c.find_sum-shelf.result.0 in
    let book = c.find_sum-book.result.0 in
    let page = c.find_sum-page.result.0 in
    let block = c.find_sum-block.result.0 in
    let first : sum_before c.self.inside.rooms.items room + c.find_sum-room.result.1 ≡ sum_before c.self.inside.rooms.items 0 + c.args.k = rw c.deref.ensures.value at c.find_sum-room.ensures.is in
    let second : sum_before c.self.inside.shelves.items shelf + c.find_sum-shelf.result.1 ≡ sum_before c.self.inside.shelves.items (16 * room) + c.find_sum-room.result.1 = rw c.deref-2.ensures.value at c.find_sum-shelf.ensures.is in
    let third : sum_before c.self.inside.books.items book + c.find_sum-book.result.1 ≡ sum_before c.self.inside.books.items (16 * shelf) + c.find_sum-shelf.result.1 = rw c.deref-3.ensures.value at c.find_sum-book.ensures.is in
    let fourth : sum_before c.self.inside.pages.items page + c.find_sum-page.result.1 ≡ sum_before c.self.inside.pages.items (16 * book) + c.find_sum-book.result.1 = rw c.deref-4.ensures.value at c.find_sum-page.ensures.is in
    let fifth : sum_before c.self.inside.blocks.items block + c.find_sum-block.result.1 ≡ sum_before c.self.inside.blocks.items (16 * page) + c.find_sum-page.result.1 = rw c.deref-5.ensures.value at c.find_sum-block.ensures.is in
    let sixth : count_before c.self.inside.marks.items c.mark_after.result ≡ count_before c.self.inside.marks.items (16 * block) + c.find_sum-block.result.1 = rw c.deref-6.ensures.value at c.mark_after.ensures.is in
    ap (λ (l : List Bool). count_before l c.mark_after.result) (sym c.self.view_is)
    ∙ omega (arith, first, second, third, fourth, fifth, sixth, sum_before-none c.self.inside.rooms.items, c.self.invariant.rooms_sum room, c.self.invariant.shelves_sum shelf, c.self.invariant.books_sum book, c.self.invariant.pages_sum page, c.self.invariant.blocks_sum block)
