-- The ready events of one instance after another.
use Rattle.std.specs.Prelude.{ℕ, zero, suc, ◌≡◌, ◌==◌, ◌&&◌, List, [], ◌∷◌, ◌++◌, Bool, not, length}
use Rattle.std.specs.Prelude.{if◌then◌else◌, map, OnOk, Result, Some}
use Rattle.codex_values.specs.Value.{Value}
use Rattle.two_d.specs.declared.module.BoxRow.{BoxRow}
use Rattle.two_d.specs.Meaning.{all_below}
use Rattle.two_d.specs.Programs.{Program, box_at, box_count, box_of, module_at}
use Rattle.two_d.specs.Steps.{Table, Instance, Event, Fire, End, instance_at, is_live, can_fire}
use Rattle.two_d.specs.Trails.{Trail}
use Rattle.fire_core.specs.inner.Instances.{inner_count}
use Rattle.fire_core.specs.inner.Rows.{RowForm, instance_in}

-- the firing of a box, if it can fire
abbrev pub fire_of : Program → Instance → ℕ → ℕ → List Event
fire_of P x i b = if can_fire P x b then Fire i b ∷ [] else []

-- the firings of the first n boxes of an instance that can fire
abbrev pub fires_of : Program → Instance → ℕ → ℕ → List Event
fires_of P x i zero = []
fires_of P x i (suc n) = fires_of P x i n ++ fire_of P x i n

-- none of the first n boxes can fire
abbrev pub is_quiet : Program → Instance → ℕ → Bool
is_quiet P x n = all_below n (λ b. not (can_fire P x b))

-- its end, if no box can fire and no inner instance is left
abbrev pub end_events : Program → Table → ℕ → List Event
end_events P T i =
    if is_quiet P (instance_at T i) (box_count P (instance_at T i).kind) && (inner_count i T == 0)
    then End i ∷ [] else []

-- all that is ready of an instance
abbrev pub ready_of : Program → Table → ℕ → List Event
ready_of P T i =
    if is_live (instance_at T i) then fires_of P (instance_at T i) i
    (box_count P (instance_at T i).kind) ++ end_events P T i else []

-- all that is ready of the first n instances
abbrev pub ready_below : Program → Table → ℕ → List Event
ready_below P T zero = []
ready_below P T (suc n) = ready_below P T n ++ ready_of P T n

-- the firing of box b of instance i was added to a list, if it can fire
abbrev pub AddsFire : {E : Type 0} → RowForm → BoxRow → (i b : ℕ) → (old new : List Event) →
    Result (Unit {0}) E → Type 0
AddsFire row bx i b old new result = (P : Program) (values : List Value) (trails : List Trail) →
    box_at P row.kind b ≡ Some (box_of bx) →
    OnOk result (new ≡ old ++ fire_of P (instance_in values trails row) i b)

-- the firings of these boxes were added to a list, where they are those of the module of instance i
abbrev pub AddsFires : {E : Type 0} → RowForm → List BoxRow → ℕ → (old new : List Event) →
    Result (Unit {0}) E → Type 0
AddsFires row boxes i old new result = (P : Program) (values : List Value) (trails : List Trail) →
    (module_at P row.kind).boxes ≡ map box_of boxes →
    OnOk result (new ≡ old ++ fires_of P (instance_in values trails row) i (length boxes))

-- all that is ready of instance i was added to a list, where this is its row
abbrev pub AddsReady : {E : Type 0} → RowForm → List BoxRow → ℕ → (old new : List Event) →
    Result (Unit {0}) E → Type 0
AddsReady row boxes i old new result =
    (P : Program) (T : Table) (values : List Value) (trails : List Trail) →
    instance_at T i ≡ instance_in values trails row →
    (module_at P row.kind).boxes ≡ map box_of boxes → row.inner ≡ inner_count i T →
    OnOk result (new ≡ old ++ ready_of P T i)
