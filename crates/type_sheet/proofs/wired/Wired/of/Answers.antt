use Rattle.std.specs.Prelude.{replicate}
use Rattle.std.proofs.Common.{◌≡◌, ℕ, ◌<◌, false, length, refl, sym, ◌∙◌, ap, arith}
use Rattle.std.proofs.lemmas.List.{length-map, length-replicate, get_or-replicate}
use Rattle.two_d.specs.declared.command.Side.{Side}
use Rattle.two_d.specs.declared.command.Side.TheVariants.{S, E}
use Rattle.two_d.specs.Programs.{box_of, module_of}
use Rattle.type_sheet.specs.declared.wired.Wired.{Wired}
use Rattle.type_sheet.specs.Wires.{origin_of}
use Rattle.type_sheet.specs.inner.Carried.{mark_of}
use Rattle.type_sheet.proofs.Outs.{any-rows}
use Rattle.type_sheet.proofs.wired.Wired.of.Goals as goal

no-mark : (w : Wired) (n b : ℕ) (side : Side) → w.souths.items ≡ replicate n false → w.easts.items ≡ replicate n false → b < n → mark_of w b side ≡ false
no-mark w n b S souths easts lt = rw souths (get_or-replicate n b false false lt)
no-mark w n b E souths easts lt = rw easts (get_or-replicate n b false false lt)

pub returns : goal.returns
returns c =
    let m = module_of c.args.module.now in
    let wired = c.in_ok-wired.wired in
    let n = c.len.result in
    let count : n ≡ length m.boxes =
    c.len.ensures ∙ sym c.deref.ensures.len ∙ ap length c.deref.ensures.value ∙ sym (length-map c.args.module.now.boxes.items box_of) in
    let souths : length wired.souths.items ≡ n = ap length c.in_ok-wired.ensures.souths ∙ length-replicate n false in
    let easts : length wired.easts.items ≡ n = ap length c.in_ok-wired.ensures.easts ∙ length-replicate n false in
    record {
      sized = record { souths = c.mark_exits.ensures.souths ∙ c.mark_rows.ensures.souths ∙ souths ∙ count; easts = c.mark_exits.ensures.easts ∙ c.mark_rows.ensures.easts ∙ easts ∙ count };
      marks = λ b side lt.
          let below : b < n = omega (arith, lt, count) in
          let rows = c.mark_rows.ensures.marks b side (omega (arith, below, souths)) (omega (arith, below, easts)) in
          let exits = c.mark_exits.ensures.marks b side (omega (arith, below, souths, c.mark_rows.ensures.souths)) (omega (arith, below, easts, c.mark_rows.ensures.easts)) in
          let none = no-mark wired n b side c.in_ok-wired.ensures.souths c.in_ok-wired.ensures.easts below in
          exits ∙ (rw (rows, none, c.deref.ensures.value, c.deref-2.ensures.value, any-rows (origin_of b side) c.args.module.now.boxes.items) refl);
    }
