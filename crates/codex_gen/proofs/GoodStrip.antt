-- The module of a strip is sound, and no chain of its wires comes back.
use Rattle.std.specs.Prelude.{◌≡◌, ◌-◌, ◌<◌, ◌≤◌, ℕ, zero, suc, Bool, true, false, IsTrue, List, [], ◌∷◌, length, Option, Some, None, All}
use Rattle.std.proofs.Common.{arith, refl, sym, ap, subst, ◌∙◌, inl, inr}
use Rattle.std.proofs.lemmas.Option.{slice_get_within}
use Rattle.two_d.specs.Names.{IsName}
use Rattle.two_d.specs.Programs.{BoxForm, ModuleForm}
use Rattle.two_d.specs.declared.module.Origin.{Origin}
use Rattle.two_d.specs.declared.module.Origin.TheVariants.{West, South, East}
use Rattle.two_d.specs.Sound.{Comes, Exists, IsSound, Feeds, Reaches, by_one, by_more}
use Rattle.two_d.specs.Trees.{Form, IsWithin}
use Rattle.two_d.specs.declared.module.To.{To}
use Rattle.two_d.specs.declared.module.To.TheVariants as to_
use Rattle.grid_picture.proofs.Pairs.{all_cons}
use Rattle.codex_gen.specs.inner.Strips.{source, rows_from, strip_module}
use Rattle.codex_gen.proofs.StripModule.{row_at, long_rows}

some_is : {T : Type 0} (x y : T) → ◌≡◌ {A = Option T} (Some x) (Some y) → x ≡ y
some_is x y e = cc

within_rows : (west : Bool) (k : ℕ) (cs : List Form) → All IsWithin cs → All (λ (row : BoxForm). IsWithin row.command) (rows_from west k cs)
within_rows west k [] all = λ i d lt. absurd (omega arith)
within_rows west k (c ∷ cs) all = all_cons (λ (row : BoxForm). IsWithin row.command) (record { command = c; n = None; w = source west k }) (rows_from west (suc k) cs) (all 0 c (omega arith)) (within_rows west (suc k) cs (λ i d lt. all (suc i) d (omega arith)))

module _ (name : List ℕ) (west : Bool) (cs : List Form) (some : 0 < length cs) where
  abbrev m : ModuleForm
  m = strip_module name west cs

  -- what comes to the west side of a box
  data FromWest (o : Origin) (b : ℕ) : Type 0 where
    entry : IsTrue west → o ≡ West → b ≡ 0 → FromWest o b
    box : (a : ℕ) → o ≡ East a → b ≡ suc a → FromWest o b

  source_is : (w : Bool) (o : Origin) (b : ℕ) → (IsTrue w → IsTrue west) → source w b ≡ Some o → FromWest o b
  source_is true o zero same e = entry (same refl) (sym (some_is West o e)) refl
  source_is false o zero same e = absurd (cc)
  source_is true o (suc b) same e = box b (sym (some_is (East b) o e)) refl
  source_is false o (suc b) same e = box b (sym (some_is (East b) o e)) refl

  from_west : (o : Origin) (b : ℕ) → Comes m o (to_.W b) → FromWest o b × (b < length cs)
  from_west o b (row, at_b, comes) =
      let (no_n, w_is) = row_at west 0 cs b b row at_b (omega arith) in
      let lt = slice_get_within (rows_from west 0 cs) b row at_b in
      let long = long_rows west 0 cs in
      (source_is west o b (λ t. t) (sym w_is ∙ comes), omega arith)

  no_north : (o : Origin) (b : ℕ) → Comes m o (to_.N b) → ⊥
  no_north o b (row, at_b, comes) =
      let (no_n, w_is) = row_at west 0 cs b b row at_b (omega arith) in
      let e : Some o ≡ None = sym comes ∙ no_n in cc

  from_exit : (o : Origin) (i : ℕ) → Comes m o (to_.Exit i) → (i ≡ 0) × (o ≡ East (length cs - 1))
  from_exit o zero e = (refl, sym (some_is (East (length cs - 1)) o (some_is (Some (East (length cs - 1))) (Some o) e)))
  from_exit o (suc i) e = absurd (cc)

  exists : (o : Origin) (e : To) → Comes m o e → Exists m o
  exists o (to_.N b) comes = absurd (no_north o b comes)
  exists o (to_.W b) comes = by (from_west o b comes)
    where
      by : FromWest o b × (b < length cs) → Exists m o
      by (entry t is_west first, lt) = subst (Exists m) (sym is_west) t
      by (box a is_east next, lt) = subst (Exists m) (sym is_east) (let long = long_rows west 0 cs in omega arith)
  exists o (to_.Exit i) comes = subst (Exists m) (sym (from_exit o i comes).1) (let long = long_rows west 0 cs in omega arith)

  east_number : (a b : ℕ) → East a ≡ East b → a ≡ b
  east_number a b e = cc

  not_both : (o : Origin) (b : ℕ) → FromWest o b × (b < length cs) → o ≡ East (length cs - 1) → ⊥
  not_both o b (entry t is_west first, lt) out = let e : West ≡ East (length cs - 1) = sym is_west ∙ out in cc
  not_both o b (box a is_east next, lt) out = let e = east_number a (length cs - 1) (sym is_east ∙ out) in omega arith

  once : (o : Origin) (e f : To) → Comes m o e → Comes m o f → e ≡ f
  once o (to_.N b) f one other = absurd (no_north o b one)
  once o e (to_.N b) one other = absurd (no_north o b other)
  once o (to_.Exit i) (to_.Exit j) one other = let (a, x) = from_exit o i one in let (b, y) = from_exit o j other in ap to_.Exit (a ∙ sym b)
  once o (to_.W b) (to_.W c) one other = by (from_west o b one) (from_west o c other)
    where
      by : FromWest o b × (b < length cs) → FromWest o c × (c < length cs) → to_.W b ≡ to_.W c
      by (entry t is_west first, lt) (entry u is_too first_too, less) = ap to_.W (first ∙ sym first_too)
      by (entry t is_west first, lt) (box a is_east next, less) = absurd (let e : West ≡ East a = sym is_west ∙ is_east in cc)
      by (box a is_east next, lt) (entry t is_west first, less) = absurd (let e : West ≡ East a = sym is_west ∙ is_east in cc)
      by (box a is_east next, lt) (box d is_too next_too, less) = let e = east_number a d (sym is_east ∙ is_too) in ap to_.W (next ∙ ap suc e ∙ sym next_too)
  once o (to_.W b) (to_.Exit i) one other = absurd (not_both o b (from_west o b one) (from_exit o i other).1)
  once o (to_.Exit i) (to_.W b) one other = absurd (not_both o b (from_west o b other) (from_exit o i one).1)

  feeds_next : (a b : ℕ) → Feeds m a b → a < b
  feeds_next a b (inl (inl comes)) = absurd (no_north (South a) b comes)
  feeds_next a b (inl (inr comes)) = absurd (no_north (East a) b comes)
  feeds_next a b (inr (inl comes)) = by (from_west (South a) b comes)
    where
      by : FromWest (South a) b × (b < length cs) → a < b
      by (entry t is_west first, lt) = absurd (cc)
      by (box c is_east next, lt) = absurd (cc)
  feeds_next a b (inr (inr comes)) = by (from_west (East a) b comes)
    where
      by : FromWest (East a) b × (b < length cs) → a < b
      by (entry t is_west first, lt) = absurd (cc)
      by (box c is_east next, lt) = let e = east_number a c is_east in omega arith

  reaches_up : (a b : ℕ) → Reaches m a b → a < b
  reaches_up a b (by_one feeds) = feeds_next a b feeds
  reaches_up a c (by_more {b = b} feeds more) = let x = feeds_next a b feeds in let y = reaches_up b c more in omega arith

  pub acyclic : (b : ℕ) → Reaches m b b → ⊥
  acyclic b r = let e = reaches_up b b r in omega arith

  pub sound : IsName name → All IsWithin cs → length cs ≤ 8 → IsSound m
  sound valid within few = record {
    named = valid;
    known = exists;
    once = once;
    commands = within_rows west 0 cs within;
    few_boxes = (let long = long_rows west 0 cs in omega arith);
    few_exits = omega arith;
  }
