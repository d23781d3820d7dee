-- What stands at a place of a module's lists.
use Rattle.std.specs.Prelude.{Option, Some, None, ◌≡◌, ℕ, suc, ◌+◌, ◌*◌, ◌<◌, List, length, slice_get, slice_index_or}
use Rattle.std.specs.Option.{option_map}
use Rattle.std.proofs.Common.{refl, ◌∙◌, ap, subst}
use Rattle.std.proofs.lemmas.Option.{slice_get-get_or, slice_get_read, slice_get-map}
use Rattle.two_d.specs.declared.module.BoxRow.{BoxRow}
use Rattle.two_d.specs.declared.module.Module.{Module}
use Rattle.two_d.specs.declared.module.Origin.{Origin}
use Rattle.two_d.specs.Programs.{box_of, module_of}
use Rattle.lower_plan.specs.Plans.{origins_named}
use Rattle.lower_plan.proofs.Numbering.{get_n, get_w, get_front, get_exit}

pub read_box : (owner : Module) (items : List BoxRow) → items ≡ owner.boxes.items → (i : ℕ) (row : BoxRow) → i < length items → row ≡ slice_index_or items i row → slice_get (module_of owner).boxes i ≡ Some (box_of row)
read_box owner items are i row lt is =
    slice_get-map box_of owner.boxes.items i ∙ ap (option_map box_of) (subst (λ (xs : List BoxRow). slice_get xs i ≡ Some row) are (slice_get_read items (length items) i row refl lt is))

pub read_n : (owner : Module) (items : List BoxRow) → items ≡ owner.boxes.items → (i : ℕ) (row : BoxRow) → i < length items → row ≡ slice_index_or items i row → slice_get (origins_named (module_of owner)) (2 * i) ≡ Some row.n
read_n owner items are i row lt is = get_front _ _ (2 * i) row.n (get_n (module_of owner).boxes i (box_of row) (read_box owner items are i row lt is))

pub read_w : (owner : Module) (items : List BoxRow) → items ≡ owner.boxes.items → (i : ℕ) (row : BoxRow) → i < length items → row ≡ slice_index_or items i row → slice_get (origins_named (module_of owner)) (suc (2 * i)) ≡ Some row.w
read_w owner items are i row lt is = get_front _ _ (suc (2 * i)) row.w (get_w (module_of owner).boxes i (box_of row) (read_box owner items are i row lt is))

pub read_exit : (owner : Module) (items : List (Option Origin)) → items ≡ owner.exits.items → (i : ℕ) → i < length items →
    slice_get (origins_named (module_of owner)) (2 * length (module_of owner).boxes + i) ≡ Some (slice_index_or items i None)
read_exit owner items are i lt = get_exit (module_of owner) i _ (subst (λ (xs : List (Option Origin)). slice_get xs i ≡ Some (slice_index_or items i None)) are (slice_get-get_or items i None lt))
