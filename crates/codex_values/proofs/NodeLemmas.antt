-- Nodes that are held once: a node goes last if it isn't among them, and each value has one place.
use Rattle.std.specs.Prelude.{◌≡◌, ℕ, zero, suc, ◌<◌, ◌≤◌, ◌⊎◌, Bool, true, false, List, [], ◌∷◌, ◌++◌, length, slice_get, slice_index_or, Some, Contains, if◌then◌else◌}
use Rattle.std.specs.List.{list_any}
use Rattle.std.proofs.Common.{refl, sym, ◌∙◌, ap, subst, arith, inl, inr}
use Rattle.std.proofs.lemmas.Bool.{eqb-true, eq-eqb, cases_lt, false≢true}
use Rattle.std.proofs.lemmas.Bool.Decides.{nat_tests}
use Rattle.std.proofs.lemmas.List.{length-append, get_or_append_left, get_or_push}
use Rattle.std.proofs.lemmas.List.Folds.{list_any_at}
use Rattle.std.proofs.lemmas.Option.{get_or_from_slice_get}
use Rattle.indexmap.proofs.CallerLemmas.{Contains-list_any}
use Rattle.codex_values.specs.declared.shape.Shape.{Shape}
use Rattle.codex_values.specs.declared.shape.Shape.TheVariants.{Unit as UnitNode, Pair as PairNode, Inl as InlNode, Inr as InrNode}
use Rattle.codex_values.specs.contracts.shape.ShapePartialEq.TheImpl as nodes
use Rattle.codex_values.specs.Value.{Value}
use Rattle.codex_values.specs.Store.{value_in, made_of, values_of, value_at, PartsBelow, IsGrounded, IsEachOnce, IsStore, Keeps}
use Rattle.codex_values.proofs.StoreLemmas.{made_of-same, value_at-node, keeps_itself, keeps-pushed}

abbrev pub is_same : Shape → Shape → Bool
is_same x y = nodes.ghosts.eq x y

pub same_node : (x y : Shape) → is_same x y ≡ true → x ≡ y
same_node UnitNode UnitNode e = refl
same_node (PairNode a b) (PairNode c d) e = grind (arith, nat_tests)
same_node (InlNode a) (InlNode b) e = ap InlNode (eqb-true a b e)
same_node (InrNode a) (InrNode b) e = ap InrNode (eqb-true a b e)
same_node _ _ e = absurd (false≢true e)

pub node_itself : (x : Shape) → is_same x x ≡ true
node_itself UnitNode = refl
node_itself (PairNode a b) = rw (eq-eqb a a refl, eq-eqb b b refl) refl
node_itself (InlNode a) = eq-eqb a a refl
node_itself (InrNode a) = eq-eqb a a refl

-- what the set makes of its nodes: they stay where the node is among them, and else it goes last
pub record GoesInto (node : Shape) (old new : List Shape) : Type 0 where
  pub is : new ≡ (if list_any (is_same node) old then old else old ++ node ∷ [])

pub into : (node : Shape) (held old new : List Shape) → held ≡ old → new ≡ (if list_any (is_same node) held then held else held ++ node ∷ []) → GoesInto node old new
into node held old new view is = record { is = subst (λ l. new ≡ (if list_any (is_same node) l then l else l ++ node ∷ [])) view is }

pub both_ways : (node : Shape) (old new : List Shape) → GoesInto node old new → ((new ≡ old) × (Contains old node)) ⊎ ((new ≡ old ++ node ∷ []) × (list_any (is_same node) old ≡ false))
both_ways node old new goes = by (list_any (is_same node) old) refl
  where
    by : (t : Bool) → list_any (is_same node) old ≡ t → ((new ≡ old) × (Contains old node)) ⊎ ((new ≡ old ++ node ∷ []) × (list_any (is_same node) old ≡ false))
    by true e = inl (rw e at goes.is, Contains-list_any is_same same_node old node e)
    by false e = inr (rw e at goes.is, e)

absent : (node : Shape) (nodes : List Shape) (k : ℕ) (d : Shape) → list_any (is_same node) nodes ≡ false → k < length nodes → slice_index_or nodes k d ≡ node → ⊥
absent node nodes k d none lt e = false≢true (sym none ∙ list_any_at (is_same node) nodes k d lt (rw e (node_itself node)))

grounded_with : (nodes : List Shape) (node : Shape) → IsGrounded nodes → PartsBelow (length nodes) node → IsGrounded (nodes ++ node ∷ [])
grounded_with nodes node grounded parts k d lt = elim (cases_lt k (length nodes)) [
  | inl less ↦ rw (get_or_append_left nodes (node ∷ []) d k less) (grounded k d less)
  | inr more ↦ let here : length nodes ≡ k = omega (arith, length-append nodes (node ∷ [])) in rw (get_or_push nodes node d k here) (rw here at parts)
]

once_with : (nodes : List Shape) (node : Shape) → IsEachOnce nodes → list_any (is_same node) nodes ≡ false → IsEachOnce (nodes ++ node ∷ [])
once_with nodes node once none i j d lt lt' e = by (cases_lt i (length nodes)) (cases_lt j (length nodes))
  where
    last : (k : ℕ) → k < length (nodes ++ node ∷ []) → length nodes ≤ k → length nodes ≡ k
    last k less more = omega (arith, length-append nodes (node ∷ []))

    by : (i < length nodes) ⊎ (length nodes ≤ i) → (j < length nodes) ⊎ (length nodes ≤ j) → i ≡ j
    by (inl a) (inl b) = once i j d a b (sym (get_or_append_left nodes (node ∷ []) d i a) ∙ (e ∙ get_or_append_left nodes (node ∷ []) d j b))
    by (inl a) (inr b) = absurd (absent node nodes i d none a (sym (get_or_append_left nodes (node ∷ []) d i a) ∙ (e ∙ get_or_push nodes node d j (last j lt' b))))
    by (inr a) (inl b) = absurd (absent node nodes j d none b (sym (get_or_append_left nodes (node ∷ []) d j b) ∙ (sym e ∙ get_or_push nodes node d i (last i lt a))))
    by (inr a) (inr b) = sym (last i lt a) ∙ last j lt' b

pub store_after : (node : Shape) (old new : List Shape) → GoesInto node old new → IsStore old → PartsBelow (length old) node → IsStore new
store_after node old new goes store parts = elim (both_ways node old new goes) [
  | inl there ↦ rw there.0 store
  | inr added ↦ rw added.0 (record { grounded = grounded_with old node store.grounded parts; once = once_with old node store.once added.1 })
]

pub keeps_after : (node : Shape) (old new : List Shape) → GoesInto node old new → Keeps old new
keeps_after node old new goes = elim (both_ways node old new goes) [
  | inl there ↦ rw there.0 (keeps_itself old)
  | inr added ↦ keeps-pushed old new node added.0
]

pub added_after : (node : Shape) (old new : List Shape) → GoesInto node old new → (Contains old node → ⊥) → new ≡ old ++ node ∷ []
added_after node old new goes none = elim (both_ways node old new goes) [
  | inl there ↦ absurd (none there.1)
  | inr added ↦ added.0
]

pub value_after : (node : Shape) (old new : List Shape) (at : ℕ) → GoesInto node old new → IsStore old → PartsBelow (length old) node → slice_get new at ≡ Some node → at < length new →
    value_at new at ≡ made_of (values_of old) node
value_after node old new at goes store parts here lt =
    let is : slice_index_or new at UnitNode ≡ node = get_or_from_slice_get new at node UnitNode here in
    let below : PartsBelow at (slice_index_or new at UnitNode) = (store_after node old new goes store parts).grounded at UnitNode lt in
    let kept : Keeps old new = keeps_after node old new goes in
    value_at-node new at UnitNode below lt ∙ (ap (made_of (values_of new)) is ∙ made_of-same (values_of new) (values_of old) (length old) node parts kept.same)

-- two nodes that make one value of the values of a store are one node, where their parts that stand for one value are one place
one_node : (values : List Value) (n m : ℕ) (x y : Shape) → PartsBelow n x → PartsBelow m y → ((a b : ℕ) → a < n → b < m → value_in values a ≡ value_in values b → a ≡ b) → made_of values x ≡ made_of values y → x ≡ y
one_node values n m UnitNode UnitNode below below' one e = refl
one_node values n m (PairNode a b) (PairNode c d) below below' one e =
    let first : a ≡ c = one a c below.0 below'.0 cc in
    let rest : b ≡ d = one b d below.1 below'.1 cc in
    cc
one_node values n m (InlNode a) (InlNode b) below below' one e = ap InlNode (one a b below below' cc)
one_node values n m (InrNode a) (InrNode b) below below' one e = ap InrNode (one a b below below' cc)
one_node values n m _ _ below below' one e = absurd cc

below_bound : (nodes : List Shape) → IsStore nodes → (n a b : ℕ) → a < n → a < length nodes → b < length nodes → value_at nodes a ≡ value_at nodes b → a ≡ b
below_bound nodes store zero a b less lt lt' e = absurd (omega arith)
below_bound nodes store (suc n) a b less lt lt' e =
    let x : Shape = slice_index_or nodes a UnitNode in
    let y : Shape = slice_index_or nodes b UnitNode in
    let below : PartsBelow a x = store.grounded a UnitNode lt in
    let below' : PartsBelow b y = store.grounded b UnitNode lt' in
    let made : made_of (values_of nodes) x ≡ made_of (values_of nodes) y = sym (value_at-node nodes a UnitNode below lt) ∙ (e ∙ value_at-node nodes b UnitNode below' lt') in
    let more : (p q : ℕ) → p < a → q < b → value_at nodes p ≡ value_at nodes q → p ≡ q = λ p q pl ql same. below_bound nodes store n p q (omega arith) (omega arith) (omega arith) same in
    store.once a b UnitNode lt lt' (one_node (values_of nodes) a b x y below below' more made)

-- each value has one place
pub one_place : (nodes : List Shape) → IsStore nodes → (a b : ℕ) → a < length nodes → b < length nodes → value_at nodes a ≡ value_at nodes b → a ≡ b
one_place nodes store a b lt lt' e = below_bound nodes store (suc a) a b (omega arith) lt lt' e
