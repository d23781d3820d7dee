-- The numbers of a layout are those of its module, and small.
use Rattle.std.specs.Prelude.{◌≡◌, ◌+◌, ◌*◌, ◌<◌, ◌≤◌, ◌^◌, ℕ, zero, suc, List, [], ◌∷◌, ◌++◌, length, map, slice_get, slice_index_or, Option, Some, None, Vec}
use Rattle.std.specs.Global.{Global}
use Rattle.std.proofs.Common.{arith, sym, ap, subst, ◌∙◌, refl, get_or}
use Rattle.std.proofs.lemmas.List.{length-append, length-map}
use Rattle.two_d.specs.Clean.{WireForm}
use Rattle.two_d.specs.Programs.{BoxForm, ModuleForm, box_of}
use Rattle.two_d.specs.Weights.{boxes_part, part}
use Rattle.two_d.specs.declared.module.Origin.{Origin}
use Rattle.two_d.specs.declared.module.To.{To}
use Rattle.two_d.specs.declared.module.To.TheVariants.{N, W, Exit}
use Rattle.grid_draw.specs.Layout.{width, wire_to, box_wires, exit_wires, wires_in}
use Rattle.grid_draw.specs.declared.layout.Layout.{Layout}
use Rattle.grid_draw.specs.inner.Layouts.{IsLayout, module_in, text_of, texts_in, wire_of}

boxes_light : (rows : List BoxForm) → 8 * length rows ≤ boxes_part rows
boxes_light [] = omega arith
boxes_light (row ∷ rows) = omega (arith, boxes_light rows)

pub module_small : (m : ModuleForm) → part m ≤ 262144 → 8 * length m.boxes + length m.exits + 6 ≤ part m
module_small m light = omega (arith, boxes_light m.boxes)

wire_one : (o : Option Origin) (end : To) → length (wire_to o end) ≤ 1
wire_one None end = omega arith
wire_one (Some o) end = omega arith

box_wires_few : (b : ℕ) (rows : List BoxForm) → length (box_wires b rows) ≤ 2 * length rows
box_wires_few b [] = omega arith
box_wires_few b (row ∷ rows) =
    omega (
      arith,
      length-append (wire_to row.n (N b)) (wire_to row.w (W b) ++ box_wires (suc b) rows),
      length-append (wire_to row.w (W b)) (box_wires (suc b) rows),
      wire_one row.n (N b),
      wire_one row.w (W b),
      box_wires_few (suc b) rows,
    )

exit_wires_few : (i : ℕ) (os : List (Option Origin)) → length (exit_wires i os) ≤ length os
exit_wires_few i [] = omega arith
exit_wires_few i (o ∷ os) =
    omega (arith, length-append (wire_to o (Exit i)) (exit_wires (suc i) os), wire_one o (Exit i), exit_wires_few (suc i) os)

pub wires_few : (m : ModuleForm) → length (wires_in m) ≤ 2 * length m.boxes + length m.exits
wires_few m =
    omega (arith, length-append (box_wires 0 m.boxes) (exit_wires 0 m.exits), box_wires_few 0 m.boxes, exit_wires_few 0 m.exits)

-- how many there are of all that a layout has
pub record Counts (l : Layout) : Type 0 where
  pub wires : length l.wires.items ≡ length (wires_in (module_in l))
  pub few : length (wires_in (module_in l)) ≤ 262144
  pub boxes : length l.module.now.boxes.items ≡ length (module_in l).boxes
  pub texts : length l.texts.items ≡ length (module_in l).boxes
  pub small : 8 * length (module_in l).boxes + length (module_in l).exits + 6 ≤ 262144

pub counts : (l : Layout) → IsLayout l → Counts l
counts l is =
    let m = module_in l in
    let small = module_small m is.fit.light in
    let few = wires_few m in
    record {
      wires = sym (length-map l.wires.items wire_of) ∙ ap length is.wires;
      few = omega (arith, is.fit.light);
      boxes = sym (length-map l.module.now.boxes.items box_of);
      texts = sym (length-map l.texts.items (λ (text : Vec ℕ Global). text.items)) ∙ (ap length is.texts ∙ length-map m.boxes text_of);
      small = omega (arith, is.fit.light);
    }

-- the width of a box is the length of its text
pub width_at : (rows : List BoxForm) (texts : List (List ℕ)) (b : ℕ) → texts ≡ map text_of rows
    → slice_index_or (map width rows) b 0 ≡ length (slice_index_or texts b [])
width_at rows texts b is = in_rows rows b ∙ ap (λ (ts : List (List ℕ)). length (slice_index_or ts b [])) (sym is)
  where
    in_rows : (rows : List BoxForm) (b : ℕ) → slice_index_or (map width rows) b 0 ≡ length (slice_index_or (map text_of rows) b [])
    in_rows [] b = refl
    in_rows (row ∷ rows) zero = refl
    in_rows (row ∷ rows) (suc b) = in_rows rows b

-- the text of a box that is there
pub text_at : (ts : List (Vec ℕ Global)) (b : ℕ) (one : Vec ℕ Global) → b < length ts → one ≡ slice_index_or ts b one
    → one.items ≡ slice_index_or (map (λ (text : Vec ℕ Global). text.items) ts) b []
text_at [] b one lt is = absurd (omega arith)
text_at (text ∷ ts) zero one lt is = ap (λ (v : Vec ℕ Global). v.items) is
text_at (text ∷ ts) (suc b) one lt is = text_at ts b one (omega arith) is

pub text_long : (l : Layout) → IsLayout l → (b : ℕ) (one : Vec ℕ Global) → b < length (module_in l).boxes → one ≡ slice_index_or l.texts.items b one
    → slice_index_or (map width (module_in l).boxes) b 0 ≡ length one.items
text_long l is b one lt at_b =
    let n = counts l is in
    width_at (module_in l).boxes (texts_in l) b is.texts ∙ ap length (sym (text_at l.texts.items b one (omega (arith, n.texts)) at_b))
