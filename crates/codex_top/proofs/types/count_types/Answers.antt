use Rattle.std.proofs.Common.{◌≡◌, ◌+◌, ◌∙◌, Bool, true, false, length, take, ap, sym, subst, refl, arith}
use Rattle.std.specs.Prelude.{slice_index_or}
use Rattle.std.proofs.Math.Seq.{take-length}
use Rattle.std.proofs.lemmas.List.{length-take-le}
use Rattle.std.proofs.lemmas.List.Sums.{count_by-le-length, count_by_more_no, count_by_more_yes}
use Rattle.type_sheet.specs.declared.line.SheetRow.{SheetRow}
use Rattle.codex_top.specs.TypeCommand as plain
use Rattle.codex_top.proofs.types.count_types.Goals as goal
use Rattle.codex_top.proofs.types.count_types.Goals.{then-is_type, else-is_type}

abbrev tells : SheetRow → Bool
tells row = plain.is_type row.line

pub loop-row-init : goal.loop-row-init
loop-row-init c = refl

pub overflow_add-types : goal.overflow_add-types
overflow_add-types c =
    let few = count_by-le-length tells (take c.loop-row.row-index c.args.rows.now) in
    omega (arith, c.loop-row.invariant, few, length-take-le c.loop-row.row-index c.args.rows.now c.loop-row.auto.row-index-end, c.loop-row-test.true)

pub loop-row-preserved : goal.loop-row-preserved
loop-row-preserved c =
    let rows = c.args.rows.now in
    let i = c.loop-row.row-index in
    let row = c.row-item.result in
    elim c.if-is_type.branch [
      | then-is_type w ↦
          let yes : tells (slice_index_or rows i row) ≡ true = subst (λ (r : SheetRow). tells r ≡ true) c.row-item.is (sym c.is_type.ensures ∙ w.if-is_type.true) in
          w.types-is ∙ ap (λ n. n + 1) c.loop-row.invariant ∙ sym (count_by_more_yes tells rows i row c.loop-row-test.true yes)
      | else-is_type w ↦
          let no : tells (slice_index_or rows i row) ≡ false = subst (λ (r : SheetRow). tells r ≡ false) c.row-item.is (sym c.is_type.ensures ∙ w.if-is_type.false) in
          w.types-is ∙ c.loop-row.invariant ∙ sym (count_by_more_no tells rows i row c.loop-row-test.true no)
    ]

pub returns : goal.returns
returns c =
    let rows = c.args.rows.now in
    let whole : c.loop-row.row-index ≡ length rows = omega (arith, c.loop-row-test.false, c.loop-row.auto.row-index-end) in
    c.loop-row.invariant ∙ ap (λ i. plain.types_in (take i rows)) whole ∙ ap plain.types_in (take-length rows)
