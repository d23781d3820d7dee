use Rattle.std.proofs.Common.{◌≡◌, ℕ, List, Bool, [], ◌∷◌, sym, ap, ◌∙◌, subst, arith}
use Rattle.std.specs.Prelude.{◌==◌, slice_index}
use Rattle.array_store.specs.Parts.{Listed, listed}
use Rattle.um_machine.specs.MachineParts.{MachineParts, machine_of_parts}
use Rattle.um_image.specs.Image.{HasImage, image_of}
use Rattle.array_store.specs.StoreView.{most_limits}
use Rattle.um_image.specs.inner.Head.{AreWords, long}
use Rattle.um_image.specs.inner.Reading.{IdsRead, ArraysRead}
use Rattle.um_image.proofs.Heads.{parts_by, taken_by}
use Rattle.um_image.proofs.Sections.{is_head}
use Rattle.um_image.proofs.Entire.{eight_front, end_stops, machine_read}
use Rattle.um_image.proofs.reading.read_machine.Goals as goal

abbrev parts_of_saved : (finger cycles : ℕ) → Bool → ℕ → List ℕ → List ℕ → Listed → List ℕ → MachineParts
parts_of_saved finger cycles halted made ids zeros arrays head = record {
  registers = slice_index head 0 ∷ slice_index head 1 ∷ slice_index head 2 ∷ slice_index head 3 ∷ slice_index head 4 ∷ slice_index head 5 ∷ slice_index head 6 ∷ slice_index head 7 ∷ [];
  finger = finger;
  cycles = cycles;
  halted = halted;
  store = record { made = made; abandoned = ids; zero = zeros; arrays = arrays };
}

pub returns-then-end-bytes-clause-fault : goal.returns-then-end-bytes-clause-fault
returns-then-end-bytes-clause-fault c =
    let bytes = c.args.bytes.now in
    let head = c.in_ok-head.head in
    let ids = c.deref-2.result.now in
    let zeros = c.deref-4.result.now in
    let h = is_head bytes head c.in_ok-head.ensures.read in
    let known = subst (IdsRead bytes head) (sym c.deref-2.ensures.value) c.in_ok-abandoned.ensures.ids in
    let words : AreWords zeros = subst AreWords (sym c.deref-4.ensures.value) c.in_ok-zero.ensures.zero.words in
    let read : ArraysRead bytes head ids zeros (listed c.in_ok-arrays.arrays.items) (slice_index head 14) c.in_ok-arrays.end = c.in_ok-arrays.ensures.arrays in
    let within = read.within in
    let ne = c.if-end-bytes.true in
    end_stops bytes head ids zeros (listed c.in_ok-arrays.arrays.items) c.in_ok-arrays.end h known words read (omega (arith, within, ne))

pub returns-in-Ok-clause-image : goal.returns-in-Ok-clause-image
returns-in-Ok-clause-image c =
    let bytes = c.args.bytes.now in
    let head = c.in_ok-head.head in
    let ids = c.deref-2.result.now in
    let zeros = c.deref-4.result.now in
    let arrays = listed c.in_ok-arrays.arrays.items in
    let size = c.in_ok-head.ensures.read.size in
    let h = is_head bytes head c.in_ok-head.ensures.read in
    let known = subst (IdsRead bytes head) (sym c.deref-2.ensures.value) c.in_ok-abandoned.ensures.ids in
    let words : AreWords zeros = subst AreWords (sym c.deref-4.ensures.value) c.in_ok-zero.ensures.zero.words in
    let read : ArraysRead bytes head ids zeros arrays (slice_index head 14) c.in_ok-arrays.end = c.in_ok-arrays.ensures.arrays in
    let registers = eight_front head size in
    let cycles : c.join.result ≡ long (slice_index head 9) (slice_index head 10) = c.join.ensures in
    let parts : parts_of_saved (slice_index head 8) c.join.result (slice_index head 13 == 1) (slice_index head 14) c.in_ok-abandoned.abandoned.items c.in_ok-zero.zero.items arrays head ≡ parts_by head ids zeros arrays =
    λ i. record {
      registers = sym registers i;
      finger = slice_index head 8;
      cycles = cycles i;
      halted = slice_index head 13 == 1;
      store = record { made = slice_index head 14; abandoned = sym c.deref-2.ensures.value i; zero = sym c.deref-4.ensures.value i; arrays = arrays };
    } in
    let is : c.in-Ok.machine ≡ machine_of_parts (parts_by head ids zeros arrays) most_limits =
    c.in-Ok.ensures.machine ∙ ap (λ p. machine_of_parts p most_limits) parts in
    let taken : c.join-in-Ok.result ≡ taken_by head = c.join-in-Ok.ensures in
    subst (λ t. HasImage c.in-Ok.machine t × (image_of c.in-Ok.machine t ≡ bytes)) (sym taken)
    (machine_read bytes head ids zeros arrays c.in_ok-arrays.end h known words read c.if-end-bytes.false c.in-Ok.machine is c.in-Ok.ensures.whole)
