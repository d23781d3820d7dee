-- What is ready of a row is ready of its instance.
use Rattle.std.specs.Prelude.{◌≡◌, ℕ, suc, ◌+◌, ◌<◌, Option, Some, None, List, [], ◌∷◌, ◌++◌, Bool, true, false, not, is_some, map, length, slice_index_or}
use Rattle.std.specs.Option.{option_map}
use Rattle.std.proofs.Common.{refl, sym, ◌∙◌, ap, arith}
use Rattle.std.proofs.lemmas.List.{append_assoc, append-nil, map-append, length-map}
use Rattle.std.proofs.lemmas.Option.{slice_get-map, slice_get_read}
use Rattle.codex_values.specs.Value.{Value}
use Rattle.two_d.specs.declared.module.BoxRow.{BoxRow}
use Rattle.two_d.specs.Programs.{Program, box_of, module_at, box_at, box_count}
use Rattle.two_d.specs.Steps as steps
use Rattle.two_d.specs.Steps.{Table, Instance, instance_at, is_live, can_fire}
use Rattle.two_d.specs.Texts.{outcome_in}
use Rattle.two_d.specs.Trails.{Trail}
use Rattle.fire_core.specs.declared.event.Event.{Event}
use Rattle.fire_core.specs.Events.{event_of, events_shown}
use Rattle.fire_core.specs.inner.Ready.{fire_of, fires_of}
use Rattle.fire_core.specs.inner.Rows.{RowForm, instance_in}

is_some-map : {A B : Type 0} (f : A → B) (o : Option A) → is_some (option_map f o) ≡ is_some o
is_some-map f None = refl
is_some-map f (Some x) = refl

module _ (P : Program) (T : Table) (i : ℕ) (values : List Value) (trails : List Trail) (row : RowForm) (here : instance_at T i ≡ instance_in values trails row) where
  pub live-row : (r : Bool) → r ≡ is_some row.outcome → r ≡ false → is_live (instance_at T i) ≡ true
  live-row r is none = rw here (ap not (is_some-map (outcome_in values trails) row.outcome ∙ (sym is ∙ none)))

  pub size-row : (boxes : List BoxRow) → (module_at P row.kind).boxes ≡ map box_of boxes → length boxes ≡ box_count P (instance_at T i).kind
  size-row boxes same = rw here (sym (ap length same ∙ length-map boxes box_of))

  pub added-row : (old new : List steps.Event) (n : ℕ) → new ≡ old ++ fires_of P (instance_in values trails row) i n → new ≡ old ++ fires_of P (instance_at T i) i n
  added-row old new n e = rw here e

-- a row without an outcome is that of an instance that lives
pub live-none : (values : List Value) (trails : List Trail) (row : RowForm) (none : Bool) → is_some row.outcome ≡ not none → none ≡ true → is_live (instance_in values trails row) ≡ true
live-none values trails row none is holds = ap not (is_some-map (outcome_in values trails) row.outcome ∙ (is ∙ ap not holds))

pub box_at-row : (P : Program) (k b : ℕ) (boxes : List BoxRow) (row : BoxRow) → (module_at P k).boxes ≡ map box_of boxes → b < length boxes → row ≡ slice_index_or boxes b row →
    box_at P k b ≡ Some (box_of row)
box_at-row P k b boxes row same lt is = rw same (slice_get-map box_of boxes b ∙ ap (option_map box_of) (slice_get_read boxes (length boxes) b row refl lt is))

pub fire-pushed : (P : Program) (x : Instance) (i b : ℕ) (old new : List Event) (event : Event) (can : Bool) → can ≡ can_fire P x b → can ≡ true →
    new ≡ old ++ event ∷ [] → event_of event ≡ steps.Fire i b → events_shown new ≡ events_shown old ++ fire_of P x i b
fire-pushed P x i b old new event can is holds pushed e =
    let yes_it_can : can_fire P x b ≡ true = sym is ∙ holds in
    ap events_shown pushed ∙ (map-append event_of old (event ∷ []) ∙ ap (λ l. events_shown old ++ l) (rw yes_it_can (ap (λ f. f ∷ []) e)))

pub fire-passed : (P : Program) (x : Instance) (i b : ℕ) (old : List Event) (can : Bool) → can ≡ can_fire P x b → can ≡ false → events_shown old ≡ events_shown old ++ fire_of P x i b
fire-passed P x i b old can is fails =
    let it_cannot : can_fire P x b ≡ false = sym is ∙ fails in
    sym (append-nil (events_shown old)) ∙ ap (λ (l : List steps.Event). events_shown old ++ l) (rw it_cannot refl)

pub fires-more : (P : Program) (x : Instance) (i b : ℕ) (first old new : List steps.Event) → old ≡ first ++ fires_of P x i b → new ≡ old ++ fire_of P x i b →
    new ≡ first ++ fires_of P x i (b + 1)
fires-more P x i b first old new e f =
    let next : b + 1 ≡ suc b = omega arith in
    rw next (f ∙ (ap (λ l. l ++ fire_of P x i b) e ∙ append_assoc first (fires_of P x i b) (fire_of P x i b)))

pub fires-whole : (P : Program) (x : Instance) (i b n : ℕ) (first new : List steps.Event) → b ≡ n → new ≡ first ++ fires_of P x i b → new ≡ first ++ fires_of P x i n
fires-whole P x i b n first new same e = rw same at e
