-- The numbers of a layout, gathered box by box and exit by exit.
use Rattle.std.specs.Prelude.{◌≡◌, ◌+◌, ◌<◌, ◌≤◌, ◌^◌, ℕ, suc, List, [], ◌∷◌, ◌++◌, length, map, max, slice_index_or, All, Option, Vec}
use Rattle.std.specs.Global.{Global}
use Rattle.std.proofs.Common.{arith, sym, ap, subst, ◌∙◌, append_assoc, append-nil, drop, get_or}
use Rattle.std.proofs.lemmas.List.{at_drop_more, at_drop_all, get_or-map, length-map, map-append}
use Rattle.std.proofs.lemmas.List.Elements.{All-get_or}
use Rattle.two_d.specs.Canonical.{canonical}
use Rattle.two_d.specs.Clean.{WireForm}
use Rattle.two_d.specs.Programs.{BoxForm, box_of}
use Rattle.two_d.specs.Trees.{IsWithin, form_of}
use Rattle.two_d.specs.declared.module.BoxRow.{BoxRow}
use Rattle.two_d.specs.declared.module.Origin.{Origin}
use Rattle.two_d.specs.declared.module.To.TheVariants.{N, W, Exit}
use Rattle.grid_draw.specs.Layout.{box_wires, exit_wires, reach_over, width, wire_to}
use Rattle.grid_draw.specs.inner.Layouts.{text_of}

-- the command of a box is one that can be shown
pub within_at : (rows : List BoxRow) (k : ℕ) (row : BoxRow) → k < length rows → row ≡ get_or rows k row
    → All (λ (r : BoxForm). IsWithin r.command) (map box_of rows) → IsWithin (form_of row.command)
within_at rows k row lt is all =
    subst (λ (r : BoxForm). IsWithin r.command) (get_or-map box_of rows k row (box_of row) lt ∙ ap box_of (sym is))
    (All-get_or (λ (r : BoxForm). IsWithin r.command) (map box_of rows) k (box_of row) (omega (arith, length-map rows box_of)) all)

-- the wires to one exit more
pub exit_next : (old new all : List WireForm) (os : List (Option Origin)) (i : ℕ) (o : Option Origin) → i < length os → o ≡ get_or os i o
    → old ++ exit_wires i (drop i os) ≡ all → new ≡ old ++ wire_to o (Exit i) → new ++ exit_wires (i + 1) (drop (i + 1) os) ≡ all
exit_next old new all os i o lt is before pushed =
    let rest = exit_wires (i + 1) (drop (i + 1) os) in
    ap (λ (t : List WireForm). t ++ rest) pushed
    ∙ (append_assoc old (wire_to o (Exit i)) rest
    ∙ (ap (λ (x : Option Origin). old ++ (wire_to x (Exit i) ++ rest)) is
    ∙ (ap (λ (k : ℕ). old ++ (wire_to (get_or os i o) (Exit i) ++ exit_wires k (drop (i + 1) os))) (omega arith)
    ∙ (sym (ap (λ (t : List WireForm). old ++ t) (at_drop_more (exit_wires i) os i o lt)) ∙ before))))

-- the wires to one box more
pub box_next : (old mid new all : List WireForm) (rows : List BoxRow) (b : ℕ) (row : BoxRow) → b < length rows → row ≡ get_or rows b row
    → old ++ box_wires b (map box_of (drop b rows)) ≡ all → mid ≡ old ++ wire_to row.n (N b) → new ≡ mid ++ wire_to row.w (W b)
    → new ++ box_wires (b + 1) (map box_of (drop (b + 1) rows)) ≡ all
box_next old mid new all rows b row lt is before pushed_n pushed_w =
    let rest = box_wires (b + 1) (map box_of (drop (b + 1) rows)) in
    let north = wire_to row.n (N b) in
    let west = wire_to row.w (W b) in
    ap (λ (t : List WireForm). t ++ rest) pushed_w
    ∙ (append_assoc mid west rest
    ∙ (ap (λ (t : List WireForm). t ++ (west ++ rest)) pushed_n
    ∙ (append_assoc old north (west ++ rest)
    ∙ (ap (λ (k : ℕ). old ++ (north ++ (west ++ box_wires k (map box_of (drop (b + 1) rows))))) (omega arith)
    ∙ (ap (λ (x : BoxRow). old ++ box_wires b (box_of x ∷ map box_of (drop (b + 1) rows))) is
    ∙ (sym (ap (λ (t : List WireForm). old ++ t) (at_drop_more (λ (xs : List BoxRow). box_wires b (map box_of xs)) rows b row lt)) ∙ before))))))

reach_max : (a b : ℕ) (rows : List BoxForm) → reach_over (max a b) rows ≡ max b (reach_over a rows)
reach_max a b [] = omega arith
reach_max a b (row ∷ rows) = omega (arith, reach_max a b rows)

-- some boxes are measured, not yet the rest
pub record Measured (boxes : List BoxRow) (name k : ℕ) (texts : List (Vec ℕ Global)) (reach : ℕ) : Type 0 where
  pub texts_are : map (λ (text : Vec ℕ Global). text.items) texts ++ map text_of (map box_of (drop k boxes)) ≡ map text_of (map box_of boxes)
  pub reach_is : reach_over reach (map box_of (drop k boxes)) ≡ reach_over name (map box_of boxes)
  pub near : reach < 2 ^ 63 + 8

pub measured_next : (boxes : List BoxRow) (name k : ℕ) (texts : List (Vec ℕ Global)) (reach n : ℕ) (row : BoxRow) (text : Vec ℕ Global)
    → k < length boxes → row ≡ get_or boxes k row → text.items ≡ canonical (form_of row.command) → n ≡ length text.items → n < 2 ^ 63
    → Measured boxes name k texts reach → Measured boxes name (k + 1) (texts ++ text ∷ []) (max reach (n + 5))
measured_next boxes name k texts reach n row text lt is shown long small before =
    let items = λ (one : Vec ℕ Global). one.items in
    let rest = map box_of (drop (k + 1) boxes) in
    record {
      texts_are =
          ap (λ (t : List (List ℕ)). t ++ map text_of rest) (map-append items texts (text ∷ []))
          ∙ (append_assoc (map items texts) (text.items ∷ []) (map text_of rest)
          ∙ (ap (λ (t : List ℕ). map items texts ++ t ∷ map text_of rest) (shown ∙ ap (λ (x : BoxRow). canonical (form_of x.command)) is)
          ∙ (sym (ap (λ (t : List (List ℕ)). map items texts ++ t) (at_drop_more (λ (xs : List BoxRow). map text_of (map box_of xs)) boxes k row lt))
          ∙ before.texts_are)));
      reach_is =
          (let wide : n ≡ width (box_of (get_or boxes k row)) = long ∙ (ap length shown ∙ ap (λ (x : BoxRow). width (box_of x)) is) in
          ap (λ (w : ℕ). reach_over (max reach (w + 5)) rest) wide
          ∙ (reach_max reach (width (box_of (get_or boxes k row)) + 5) rest
          ∙ (sym (at_drop_more (λ (xs : List BoxRow). reach_over reach (map box_of xs)) boxes k row lt) ∙ before.reach_is)));
      near = omega (arith, before.near);
    }

-- all boxes are measured
pub measured_all : (boxes : List BoxRow) (name k : ℕ) (texts : List (Vec ℕ Global)) (reach : ℕ) → length boxes ≤ k → Measured boxes name k texts reach
    → (map (λ (text : Vec ℕ Global). text.items) texts ≡ map text_of (map box_of boxes)) × (reach ≡ reach_over name (map box_of boxes))
measured_all boxes name k texts reach le done = (
  sym (at_drop_all (λ (xs : List BoxRow). map (λ (text : Vec ℕ Global). text.items) texts ++ map text_of (map box_of xs)) boxes k le
      ∙ append-nil (map (λ (text : Vec ℕ Global). text.items) texts)) ∙ done.texts_are,
  sym (at_drop_all (λ (xs : List BoxRow). reach_over reach (map box_of xs)) boxes k le) ∙ done.reach_is,
)
