use Rattle.std.proofs.Common.{◌≡◌, true, false, length, take, slice_get, Some, None, refl, sym, ◌∙◌, ap, arith, inl, inr}
use Rattle.std.proofs.lemmas.Bool.{cases_lt}
use Rattle.std.proofs.lemmas.List.{length-take-le}
use Rattle.std.proofs.lemmas.Option.{slice_get_read, slice_get_within, same_Some}
use Rattle.type_sheet.specs.declared.line.SheetRow.{SheetRow}
use Rattle.type_sheet.specs.Sheets.{subject_of}
use Rattle.type_sheet.specs.inner.Subjects.{place_of}
use Rattle.type_sheet.proofs.Indexed.{place-added, take-next, absent-read, there-read}
use Rattle.type_sheet.proofs.index.Index.of.Goals as goal

pub loop-place-preserved : goal.loop-place-preserved
loop-place-preserved c =
    let rows = c.args.rows.now in
    let i = c.loop-place.place in
    let row = c.index-rows-place.result in
    let at : slice_get rows i ≡ Some row = slice_get_read rows (length rows) i row refl (omega arith) c.index-rows-place.is in
    let reads = c.subject_of-subject.ensures ∙ ap (λ (x : SheetRow). subject_of x.line) (sym c.index-rows-place.is) in
    let free : c.contains_key.result ≡ false = grind (arith, c.if-contains_key.false) in
    let absent : place_of (take i rows) (subject_of row.line) ≡ None =
    absent-read c.loop-place.places c.subject_of-subject.result (take i rows) row reads c.loop-place.invariant.known (sym c.contains_key.ensures ∙ free) in
    let size : i ≡ length (take i rows) = sym (length-take-le i rows (omega arith)) in
    record {
      known = λ s. rw (take-next rows i row at) (place-added c.loop-place.places c.insert.new.self c.subject_of-subject.result (take i rows) row i
          (λ q. c.in_ok-insert.ensures.updates.0 q) reads size c.loop-place.invariant.known absent s);
      apart = λ j other lt there. elim (cases_lt j i) [
        | inl before ↦ c.loop-place.invariant.apart j other before there
        | inr past ↦
            let same : j ≡ i = omega arith in
            let here : slice_get rows i ≡ Some other = rw same at there in
            let one : row ≡ other = same_Some row other (sym at ∙ here) in
            rw (same, ← one) absent
      ];
    }

pub returns-then-contains_key-clause-again : goal.returns-then-contains_key-clause-again
returns-then-contains_key-clause-again c =
    let rows = c.args.rows.now in
    let i = c.loop-place.place in
    let row = c.index-rows-place.result in
    let at : slice_get rows i ≡ Some row = slice_get_read rows (length rows) i row refl (omega arith) c.index-rows-place.is in
    let known : c.contains_key.result ≡ true = grind (arith, c.if-contains_key.true) in (
      row,
      at,
      there-read c.loop-place.places c.subject_of-subject.result (take i rows) row
          (c.subject_of-subject.ensures ∙ ap (λ (x : SheetRow). subject_of x.line) (sym c.index-rows-place.is)) c.loop-place.invariant.known (sym c.contains_key.ensures ∙ known),
      λ j other lt there. c.loop-place.invariant.apart j other lt there,
    )

pub returns-clause-again : goal.returns-clause-again
returns-clause-again c = λ i row at. c.loop-place.invariant.apart i row (let lt = slice_get_within c.args.rows.now i row at in omega arith) at
