-- The boxes of a module in an order, as their types are told.
use Rattle.std.specs.Prelude.{◌≡◌, ℕ, zero, suc, ◌+◌, ◌<◌, ◌≤◌, List, [], ◌∷◌, length, take, slice_get, Option, Some, None}
use Rattle.std.specs.List.{list_all}
use Rattle.std.proofs.Common.{refl, sym, ◌∙◌, ap, arith, subst, add-one, ◌⊎◌, inl, inr}
use Rattle.std.proofs.lemmas.Bool.{cases_eq, cases_lt, eq-eqb, ne_eqb}
use Rattle.std.proofs.lemmas.List.{take_all}
use Rattle.std.proofs.lemmas.Option.{slice_get_past}
use mathlib.Core.Path.{fun_ext}
use Rattle.two_d.specs.declared.command.Side.{Side}
use Rattle.two_d.specs.declared.command.Side.TheVariants.{S, E}
use Rattle.two_d.specs.declared.module.Origin.{Origin}
use Rattle.two_d.specs.declared.module.Origin.TheVariants.{North, West, South, East}
use Rattle.two_d.specs.Programs.{BoxForm, ModuleForm}
use Rattle.two_d.specs.Sound.{IsOrder, Feeds}
use Rattle.two_d.specs.Trees.{Tree, Form, send, case, split, call}
use Rattle.two_d.proofs.Sourced.{IsAmong, IsFrom, among_order}
use Rattle.type_sheet.specs.declared.line.SheetRow.{SheetRow}
use Rattle.type_sheet.specs.Types.{InputTypes}
use Rattle.type_sheet.specs.Said.{north_type, west_type}
use Rattle.type_sheet.specs.Wires.{WireTypes, origin_of, type_to, input_types, side_type, box_type, types_from, types_within, wire_type}
use Rattle.type_sheet.specs.Fits.{wire_fits, out_fits, command_fits, box_fits}
use Rattle.type_sheet.specs.inner.Carried.{types_with_row}
use Rattle.type_sheet.proofs.Told.{told-whole}

among-take : (xs : List ℕ) (i k a : ℕ) → i < k → slice_get xs i ≡ Some a → IsAmong a (take k xs)
among-take [] i k a lt e = absurd (cc)
among-take (x ∷ xs) i zero a lt e = absurd (omega arith)
among-take (x ∷ xs) zero (suc k) a lt e = inl (cc)
among-take (x ∷ xs) (suc i) (suc k) a lt e = inr (among-take xs i k a (omega arith) e)

-- the sources of the box at a place of the order stand before it
pub from-before : (m : ModuleForm) (order : List ℕ) → IsOrder m order → (k b : ℕ) → slice_get order k ≡ Some b → (o : Option Origin) →
    ((a : ℕ) → (o ≡ Some (South a)) ⊎ (o ≡ Some (East a)) → Feeds m a b) → IsFrom (take k order) o
from-before m order is k b at None feeds = tt
from-before m order is k b at (Some North) feeds = tt
from-before m order is k b at (Some West) feeds = tt
from-before m order is k b at (Some (South a)) feeds = let (i, lt, there) = is.behind k a b at (feeds a (inl refl)) in among-take order i k a lt there
from-before m order is k b at (Some (East a)) feeds = let (i, lt, there) = is.behind k a b at (feeds a (inr refl)) in among-take order i k a lt there

-- with the same types at its sources and its sides, a box fits alike
module _ (rows : List SheetRow) (m : ModuleForm) (b : ℕ) (types types' : WireTypes) (row : BoxForm)
    (n : type_to types row.n ≡ type_to types' row.n) (w : type_to types row.w ≡ type_to types' row.w)
    (sides : (side : Side) → types (origin_of b side) ≡ types' (origin_of b side)) where
  pub ports-same : input_types types row ≡ input_types types' row
  ports-same = rw (n, w) refl

  out-same : (ports : InputTypes) (out : Tree × Side) → out_fits rows m b types ports out ≡ out_fits rows m b types' ports out
  out-same ports out = rw (sides out.1) refl

  outs-same : (ports : InputTypes) (outs : List (Tree × Side)) → list_all (out_fits rows m b types ports) outs ≡ list_all (out_fits rows m b types' ports) outs
  outs-same ports [] = refl
  outs-same ports (out ∷ outs) = rw (out-same ports out, outs-same ports outs) refl

  input-same : (o : Option Origin) (t : Option (List ℕ)) → type_to types o ≡ type_to types' o → wire_fits types o t ≡ wire_fits types' o t
  input-same None t e = refl
  input-same (Some o) t e = rw e refl

  pub command-same : (command : Form) → command_fits rows m b types row command ≡ command_fits rows m b types' row command
  command-same (send outs) = rw ports-same (outs-same (input_types types' row) outs)
  command-same (case x left right) = rw ports-same refl
  command-same (split x) = rw ports-same refl
  command-same (call name) = rw (input-same row.n _ n, input-same row.w _ w) refl

-- before any box, what the entries carry is known
pub start-known : (rows : List SheetRow) (m : ModuleForm) (types : WireTypes) → types North ≡ north_type rows m.name → types West ≡ west_type rows m.name →
    (o : Origin) → IsFrom [] (Some o) → types o ≡ wire_type rows m o
unfolding types_within
start-known rows m types north west North from = north
start-known rows m types north west West from = west
start-known rows m types north west (South c) from = absurd from
start-known rows m types north west (East c) from = absurd from

among-next : (xs : List ℕ) (k b c : ℕ) → slice_get xs k ≡ Some b → (c ≡ b → ⊥) → IsAmong c (take (suc k) xs) → IsAmong c (take k xs)
among-next [] k b c at other among = absurd (cc)
among-next (x ∷ xs) zero b c at other (inl e) = absurd (other (cc))
among-next (x ∷ xs) zero b c at other (inr among) = absurd among
among-next (x ∷ xs) (suc k) b c at other (inl e) = inl e
among-next (x ∷ xs) (suc k) b c at other (inr among) = inr (among-next xs k b c at other among)

-- box b, which stands at place k of the order, is told at what is known of the boxes before it
module _ (rows : List SheetRow) (m : ModuleForm) (order : List ℕ) (is : IsOrder m order) (k b : ℕ) (at : slice_get order k ≡ Some b)
    (row : BoxForm) (there : slice_get m.boxes b ≡ Some row) (old new : WireTypes)
    (known : (o : Origin) → IsFrom (take k order) (Some o) → old o ≡ wire_type rows m o)
    (telling : (o : Origin) → new o ≡ types_with_row rows m.name old b row o) where
  to-known : (types : WireTypes) → ((o : Origin) → IsFrom (take k order) (Some o) → types o ≡ wire_type rows m o) →
      (o : Option Origin) → IsFrom (take k order) o → type_to types o ≡ type_to (wire_type rows m) o
  to-known types h None from = refl
  to-known types h (Some o) from = h o from

  north-from : IsFrom (take k order) row.n
  north-from = from-before m order is k b at row.n (λ a e. elim e [ inl s ↦ inl (inl (row, there, s)) | inr s ↦ inl (inr (row, there, s)) ])

  west-from : IsFrom (take k order) row.w
  west-from = from-before m order is k b at row.w (λ a e. elim e [ inl s ↦ inr (inl (row, there, s)) | inr s ↦ inr (inr (row, there, s)) ])

  ports-known : input_types old row ≡ input_types (wire_type rows m) row
  ports-known = rw (to-known old known row.n north-from, to-known old known row.w west-from) refl

  box-side : (side : Side) → box_type rows m (wire_type rows m) b side ≡ side_type rows m.name b (input_types (wire_type rows m) row) row.command side
  box-side side = rw there refl

  whole : (o : Origin) → wire_type rows m o ≡ types_from rows m (wire_type rows m) o
  whole = told-whole rows (m ∷ []) 0 order is

  south-told : types_with_row rows m.name old b row (South b) ≡ side_type rows m.name b (input_types old row) row.command S
  south-told = rw (eq-eqb b b refl) refl

  east-told : types_with_row rows m.name old b row (East b) ≡ side_type rows m.name b (input_types old row) row.command E
  east-told = rw (eq-eqb b b refl) refl

  south-known : new (South b) ≡ wire_type rows m (South b)
  south-known = telling (South b) ∙ (south-told ∙ (ap (λ (ports : InputTypes). side_type rows m.name b ports row.command S) ports-known ∙ sym (whole (South b) ∙ box-side S)))

  east-known : new (East b) ≡ wire_type rows m (East b)
  east-known = telling (East b) ∙ (east-told ∙ (ap (λ (ports : InputTypes). side_type rows m.name b ports row.command E) ports-known ∙ sym (whole (East b) ∙ box-side E)))

  side-known : (side : Side) → new (origin_of b side) ≡ wire_type rows m (origin_of b side)
  side-known S = south-known
  side-known E = east-known

  south-other : (c : ℕ) → (c ≡ b → ⊥) → types_with_row rows m.name old b row (South c) ≡ old (South c)
  south-other c other = rw (ne_eqb c b other) refl

  east-other : (c : ℕ) → (c ≡ b → ⊥) → types_with_row rows m.name old b row (East c) ≡ old (East c)
  east-other c other = rw (ne_eqb c b other) refl

  -- what was known stays so
  still-known : (o : Origin) → IsFrom (take k order) (Some o) → new o ≡ wire_type rows m o
  still-known North from = telling North ∙ known North from
  still-known West from = telling West ∙ known West from
  still-known (South c) from = elim (cases_eq c b) [
    | inl e ↦ rw e south-known
    | inr other ↦ telling (South c) ∙ (south-other c other ∙ known (South c) from)
  ]
  still-known (East c) from = elim (cases_eq c b) [
    | inl e ↦ rw e east-known
    | inr other ↦ telling (East c) ∙ (east-other c other ∙ known (East c) from)
  ]

  next-known : (o : Origin) → IsFrom (take (suc k) order) (Some o) → new o ≡ wire_type rows m o
  next-known North from = still-known North tt
  next-known West from = still-known West tt
  next-known (South c) from = elim (cases_eq c b) [
    | inl e ↦ rw e south-known
    | inr other ↦ still-known (South c) (among-next order k b c at other from)
  ]
  next-known (East c) from = elim (cases_eq c b) [
    | inl e ↦ rw e east-known
    | inr other ↦ still-known (East c) (among-next order k b c at other from)
  ]

  -- with one box more, what its wires carry is known
  pub known-next : (o : Origin) → IsFrom (take (k + 1) order) (Some o) → new o ≡ wire_type rows m o
  known-next o from = next-known o (subst (λ n. IsFrom (take n order) (Some o)) (add-one k) from)

  -- the rule of the box is tested at what the wires carry
  pub rule-same : command_fits rows m b new row row.command ≡ box_fits rows m b
  rule-same = rw there (command-same rows m b new (wire_type rows m) row (to-known new still-known row.n north-from) (to-known new still-known row.w west-from) side-known row.command)

-- behind all boxes, what each wire carries is known
pub all-known : (rows : List SheetRow) (m : ModuleForm) (order : List ℕ) → IsOrder m order → (k : ℕ) → length order ≤ k → (types : WireTypes) →
    ((o : Origin) → IsFrom (take k order) (Some o) → types o ≡ wire_type rows m o) →
    ((b : ℕ) → length m.boxes ≤ b → types (South b) ≡ None) → ((b : ℕ) → length m.boxes ≤ b → types (East b) ≡ None) →
    types ≡ wire_type rows m
all-known rows m order is k le types known south east = fun_ext same
  where
    all : take k order ≡ order
    all = take_all k order le

    whole : (o : Origin) → wire_type rows m o ≡ types_from rows m (wire_type rows m) o
    whole = told-whole rows (m ∷ []) 0 order is

    past : (b : ℕ) (side : Side) → length m.boxes ≤ b → box_type rows m (wire_type rows m) b side ≡ None
    past b side le = rw (slice_get_past m.boxes b le) refl

    among : (b : ℕ) → b < length m.boxes → IsAmong b (take k order)
    among b lt = rw all (among_order (m ∷ []) 0 order is b lt)

    same : (o : Origin) → types o ≡ wire_type rows m o
    same North = known North tt
    same West = known West tt
    same (South b) = elim (cases_lt b (length m.boxes)) [
      | inl lt ↦ known (South b) (among b lt)
      | inr le ↦ south b le ∙ sym (whole (South b) ∙ past b S le)
    ]
    same (East b) = elim (cases_lt b (length m.boxes)) [
      | inl lt ↦ known (East b) (among b lt)
      | inr le ↦ east b le ∙ sym (whole (East b) ∙ past b E le)
    ]
