-- A box that is ready: where it stands, and what it does.
use Rattle.std.specs.Prelude.{◌≡◌, ℕ, ◌<◌, Option, Some, None, List, true, length, slice_index_or}
use Rattle.std.specs.Option.{option_map}
use Rattle.std.proofs.Common.{refl, sym, ◌∙◌, ap, arith}
use Rattle.std.proofs.lemmas.List.{length-map}
use Rattle.std.proofs.lemmas.Option.{slice_get-map, slice_get_read}
use Rattle.codex_values.specs.declared.shape.Shape.{Shape}
use Rattle.codex_values.specs.Store.{values_of}
use Rattle.two_d.specs.declared.module.BoxRow.{BoxRow}
use Rattle.two_d.specs.declared.module.Module.{Module}
use Rattle.two_d.specs.declared.trail.Trail.{Trail as TrailNode}
use Rattle.two_d.specs.Good.{IsGood}
use Rattle.two_d.specs.Meaning.{Inputs, Effect, effect_of, inputs_of, mean}
use Rattle.two_d.specs.Programs.{Program, BoxForm, ModuleForm, box_of, module_of, modules_of, module_at, box_at, box_count}
use Rattle.two_d.specs.Steps.{Table, Instance, Fire, instance_at, wires, firing, is_ready, IsStateOf}
use Rattle.two_d.specs.Trails.{trails_of}
use Rattle.two_d.proofs.Depth.{act_there}
use Rattle.two_d.proofs.Firing.{CanFire, can_fire-ready}
use Rattle.two_d.proofs.NamesFound.{module_at-modules}
use Rattle.two_d.proofs.State.{Sound, live_within}
use Rattle.fire_core.specs.inner.Rows.{RowForm, row_at, cell_in, instance_in, table_in}
use Rattle.fire_core.proofs.StateLemmas.{state_sound, kinds_fit}
use Rattle.fire_core.proofs.TableLemmas.{instance-at, length-table}

-- box b of row i can fire
pub record CanGo (P : Program) (nodes : List Shape) (trails : List TrailNode) (rows : List RowForm) (i b : ℕ) : Type 0 where
  pub within : i < length rows
  pub kind : (row_at rows i).kind < length P
  pub box : b < box_count P (row_at rows i).kind
  pub cell : b < length (row_at rows i).cells
  pub effect : Effect
  pub fires : firing P (instance_in (values_of nodes) (trails_of trails) (row_at rows i)) b ≡ Some effect

pub can_go : (P : Program) (nodes : List Shape) (trails : List TrailNode) (rows : List RowForm) (T : Table) (i b : ℕ) →
    table_in (values_of nodes) (trails_of trails) rows ≡ T → IsGood P → IsStateOf P T → is_ready P T (Fire i b) ≡ true → CanGo P nodes trails rows i b
can_go P nodes trails rows T i b same good state ready =
    let (x, can) = can_fire-ready P T i b ready in
    let (n, sound) = state_sound P T state in
    by x can n sound
  where
    by : (x : Effect) → CanFire P T i b x → (n : ℕ) → Sound P (mean P n) T → CanGo P nodes trails rows i b
    by x can n sound = at (ap (λ (U : Table). instance_at U i) (sym same) ∙ instance-at (values_of nodes) (trails_of trails) rows i lt)
      where
        lt : i < length rows
        lt = omega (arith, live_within T i can.live, length-table (values_of nodes) (trails_of trails) rows, ap length same)

        box : b < box_count P (instance_at T i).kind
        box = act_there P (instance_at T i).kind (wires (instance_at T i)) b x can.acts

        at : instance_at T i ≡ instance_in (values_of nodes) (trails_of trails) (row_at rows i) → CanGo P nodes trails rows i b
        at e =
            let sized = sound.sized i (live_within T i can.live) in
            let cells : length (instance_at T i).cells ≡ length (row_at rows i).cells =
            ap (λ (y : Instance). length y.cells) e ∙ length-map (row_at rows i).cells (option_map (cell_in (values_of nodes) (trails_of trails))) in
            let kind : (instance_at T i).kind ≡ (row_at rows i).kind = ap (λ (y : Instance). y.kind) e in
            record {
              within = lt;
              kind = rw kind at (kinds_fit P T good state i (live_within T i can.live));
              box = rw kind at box;
              cell = omega (arith, box, sized, cells);
              effect = x;
              fires = rw e at can.acts;
            }

module _ (P : Program) (modules : List Module) (same : modules_of modules ≡ P) where
  pub module-within : (k : ℕ) → k < length P → k < length modules
  module-within k lt = omega (arith, lt, length-map modules module_of, ap length same)

  pub module-is : (k : ℕ) (m : Module) → k < length P → m ≡ slice_index_or modules k m → module_at P k ≡ module_of m
  module-is k m lt is =
      let at : module_at (modules_of modules) k ≡ module_of m = module_at-modules modules k m (module-within k lt) ∙ ap module_of (sym is) in
      rw same at at

  pub box-within : (k b : ℕ) (m : Module) → k < length P → b < box_count P k → m ≡ slice_index_or modules k m → b < length m.boxes.items
  box-within k b m lt below is = omega (arith, below, ap (λ (n : ModuleForm). length n.boxes) (module-is k m lt is), length-map m.boxes.items box_of)

  pub box-is : (k b : ℕ) (m : Module) (row : BoxRow) → k < length P → b < box_count P k → m ≡ slice_index_or modules k m → row ≡ slice_index_or m.boxes.items b row →
      box_at P k b ≡ Some (box_of row)
  box-is k b m row lt below is this =
      rw (module-is k m lt is)
      (slice_get-map box_of m.boxes.items b ∙ ap (option_map box_of) (slice_get_read m.boxes.items (length m.boxes.items) b row refl (box-within k b m lt below is) this))

-- what a box does with its inputs
pub firing-inputs : (P : Program) (x : Instance) (b : ℕ) (row : BoxForm) (a : Option Inputs) → box_at P x.kind b ≡ Some row → a ≡ inputs_of (wires x) row →
    option_map (effect_of P x.kind b row.command) a ≡ firing P x b
firing-inputs P x b row a is e = rw is (ap (option_map (effect_of P x.kind b row.command)) e)

-- a box that can go, seen from its row, its module and itself
module _ (P : Program) (nodes : List Shape) (trails : List TrailNode) (rows : List RowForm) (i b : ℕ) (go : CanGo P nodes trails rows i b)
    (modules : List Module) (same : modules_of modules ≡ P) (row : RowForm) (is_row : row ≡ row_at rows i) where
  kind_there : row.kind < length P
  kind_there = rw is_row go.kind

  box_there : b < box_count P row.kind
  box_there = rw is_row go.box

  pub go-module : row.kind < length modules
  go-module = module-within P modules same row.kind kind_there

  pub go-box : (m : Module) → m ≡ slice_index_or modules row.kind m → b < length m.boxes.items
  go-box m is = box-within P modules same row.kind b m kind_there box_there is

  module _ (m : Module) (bx : BoxRow) (is : m ≡ slice_index_or modules row.kind m) (this : bx ≡ slice_index_or m.boxes.items b bx) where
    -- what it does with the inputs that were found
    pub go-firing : (a : Option Inputs) → a ≡ inputs_of (wires (instance_in (values_of nodes) (trails_of trails) row)) (box_of bx) →
        option_map (effect_of P row.kind b (box_of bx).command) a ≡ firing P (instance_in (values_of nodes) (trails_of trails) (row_at rows i)) b
    go-firing a e =
        rw (← is_row) (firing-inputs P (instance_in (values_of nodes) (trails_of trails) row) b (box_of bx) a
        (box-is P modules same row.kind b m bx kind_there box_there is this) e)

    -- its inputs are there
    pub go-inputs : None ≡ inputs_of (wires (instance_in (values_of nodes) (trails_of trails) row)) (box_of bx) → ⊥
    go-inputs e = let q : None ≡ Some go.effect = go-firing None e ∙ go.fires in cc
