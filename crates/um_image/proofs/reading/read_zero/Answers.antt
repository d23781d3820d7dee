use Rattle.array_store.specs.StoreView.{most_live_words}
use Rattle.std.proofs.Common.{◌+◌, ◌*◌, length}
use Rattle.um_image.specs.inner.Reading.{ReaderStops, ZeroRead, ArrayRead, ArrayStops}
use Rattle.um_image.proofs.Sections.{ok_weaker, err_weaker, is_head, zero_read, zero_stops}
use Rattle.um_image.proofs.reading.read_zero.Goals as goal

pub returns-clause-zero : goal.returns-clause-zero
returns-clause-zero c =
    let bytes = c.args.bytes.now in
    let ids = c.args.ids.now in
    let h = is_head bytes c.args.head.now c.requires.head in
    ok_weaker (λ zeros. ArrayRead bytes (68 + 4 * length ids) most_live_words zeros.items) (λ zeros. ZeroRead bytes c.args.head.now ids zeros.items) c.read_array.result
    (λ zeros a. zero_read bytes c.args.head.now ids h c.requires.ids zeros.items a) c.read_array.ensures.words

pub returns-clause-fault : goal.returns-clause-fault
returns-clause-fault c =
    let bytes = c.args.bytes.now in
    let ids = c.args.ids.now in
    let h = is_head bytes c.args.head.now c.requires.head in
    err_weaker (ArrayStops bytes (68 + 4 * length ids) most_live_words) (ReaderStops bytes) c.read_array.result
    (zero_stops bytes c.args.head.now ids h c.requires.ids) c.read_array.ensures.fault
