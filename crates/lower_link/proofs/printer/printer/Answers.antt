-- The printer is made.
use Rattle.std.specs.Prelude.{◌+◌, ◌++◌, [], ◌∷◌, length, map, Some, slice_index}
use Rattle.std.proofs.Common.{◌∙◌, ap, arith}
use Rattle.std.proofs.lemmas.List.{take_all}
use Rattle.um_word.specs.Operators.{decode_word}
use Rattle.lower_link.specs.inner.Printer.{printer_code}
use Rattle.lower_link.proofs.Adding.{adds_length}
use Rattle.lower_link.proofs.Printers.{place_within, places_next, printer_is}
use Rattle.lower_link.proofs.printer.printer.Goals as goal

pub overflow_add-first-in-loop-place : goal.overflow_add-first-in-loop-place
overflow_add-first-in-loop-place c =
    let same = c.deref-place-items.ensures.value in
    let within = place_within c.args.program.now c.in_ok-texts.texts c.in_ok-texts.ensures c.loop-place.place-index (omega (arith, c.loop-place-test.true, ap length same)) in
    omega (
      arith,
      within,
      ap (λ ps. slice_index ps c.loop-place.place-index) same,
      c.requires.light,
      c.in_ok-texts.ensures.short,
      c.len.ensures,
      c.put_core.new.draft.words.ok.0,
      adds_length c.in_ok-put_core.ensures,
      ap length c.new-draft.ensures,
      c.len-2.ensures,
      c.in_ok-texts.texts.places.ok.0,
    )

pub overflow_cast-first : goal.overflow_cast-first
overflow_cast-first c =
    let same = c.deref-place-items.ensures.value in
    let within = place_within c.args.program.now c.in_ok-texts.texts c.in_ok-texts.ensures c.loop-place.place-index (omega (arith, c.loop-place-test.true, ap length same)) in
    omega (
      arith,
      within,
      ap (λ ps. slice_index ps c.loop-place.place-index) same,
      c.requires.light,
      c.in_ok-texts.ensures.short,
      c.len.ensures,
      c.put_core.new.draft.words.ok.0,
      adds_length c.in_ok-put_core.ensures,
      ap length c.new-draft.ensures,
      c.len-2.ensures,
      c.in_ok-texts.texts.places.ok.0,
    )

pub loop-place-preserved : goal.loop-place-preserved
loop-place-preserved c =
    let x = slice_index c.deref-place-items.result.now c.loop-place.place-index in
    let first = c.len.result + c.len-2.result in
    c.in_ok-push.ensures.items ∙ (ap (λ ws. ws ++ (first + x) ∷ []) c.loop-place.invariant
    ∙ places_next c.put_core.new.draft.words.items c.deref-place-items.result.now first c.loop-place.place-index c.loop-place-test.true)

pub returns : goal.returns
returns c =
    let texts = c.in_ok-texts.texts in
    let first = c.len.result + c.len-2.result in
    let core = c.put_core.new.draft.words in
    let say = c.in_ok-put_core.ensures.say ∙ ap (λ ws. map decode_word ws ++ map Some printer_code) c.new-draft.ensures in
    let all = take_all c.loop-place.place-index c.deref-place-items.result.now c.loop-place-test.false ∙ c.deref-place-items.ensures.value in
    let made = printer_is c.args.program.now c.requires.light texts c.in_ok-texts.ensures first core.items c.extend_from_slice.new.self.items say
    (omega (arith, c.len.ensures, core.ok.0, c.len-2.ensures, texts.places.ok.0))
    (c.in_ok-extend_from_slice.ensures.items ∙ λ i. (c.loop-place.invariant ∙ ap (λ ps. core.items ++ map (λ place. first + place) ps) all) i ++ c.as_slice.ensures.value i) in
    record { code = made.0; short = made.1 }
