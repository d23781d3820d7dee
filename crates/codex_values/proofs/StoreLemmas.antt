-- A place stands for the same value whatever nodes follow.
use Rattle.std.specs.Prelude.{◌≡◌, ℕ, suc, ◌+◌, ◌<◌, List, [], ◌∷◌, ◌++◌, length, take, drop, slice_index_or}
use Rattle.std.proofs.Common.{refl, sym, ◌∙◌, ap, arith}
use Rattle.std.proofs.lemmas.List.{length-append, get_or_append_left, append_assoc, get_or_push, length-take-le, take-append-drop, take-take}
use Rattle.std.proofs.Math.Seq.{drop-cons, take-append_seam, take-length}
use Rattle.codex_values.specs.declared.shape.Shape.{Shape}
use Rattle.codex_values.specs.declared.shape.Shape.TheVariants.{Unit as UnitNode, Pair as PairNode, Inl as InlNode, Inr as InrNode}
use Rattle.codex_values.specs.Value.{Value, unit}
use Rattle.codex_values.specs.Store.{value_in, made_of, values_behind, values_of, value_at, PartsBelow, Keeps}

pub values_behind-append : (values : List Value) (xs ys : List Shape) → values_behind values (xs ++ ys) ≡ values_behind (values_behind values xs) ys
values_behind-append values [] ys = refl
values_behind-append values (x ∷ xs) ys = values_behind-append (values ++ made_of values x ∷ []) xs ys

pub length-values_behind : (values : List Value) (xs : List Shape) → length (values_behind values xs) ≡ length values + length xs
length-values_behind values [] = omega arith
length-values_behind values (x ∷ xs) = omega (arith, length-values_behind (values ++ made_of values x ∷ []) xs, length-append values (made_of values x ∷ []))

pub value_in-behind : (values : List Value) (xs : List Shape) (at : ℕ) → at < length values → value_in (values_behind values xs) at ≡ value_in values at
value_in-behind values [] at lt = refl
value_in-behind values (x ∷ xs) at lt =
    value_in-behind (values ++ made_of values x ∷ []) xs at (rw length-append (omega arith))
    ∙ get_or_append_left values (made_of values x ∷ []) unit at lt

-- what follows changes no value
pub value_at-append : (xs ys : List Shape) (at : ℕ) → at < length xs → value_at (xs ++ ys) at ≡ value_at xs at
value_at-append xs ys at lt =
    ap (λ (l : List Value). value_in l at) (values_behind-append [] xs ys)
    ∙ value_in-behind (values_of xs) ys at (omega (arith, length-values_behind [] xs, lt))

-- a new node is made of the values that stand
pub value_at-push : (xs : List Shape) (node : Shape) → value_at (xs ++ node ∷ []) (length xs) ≡ made_of (values_of xs) node
value_at-push xs node =
    ap (λ (l : List Value). value_in l (length xs)) (values_behind-append [] xs (node ∷ []))
    ∙ get_or_push (values_of xs) (made_of (values_of xs) node) unit (length xs) (omega (arith, length-values_behind [] xs))

pub made_of-same : (values values' : List Value) (n : ℕ) (node : Shape) → PartsBelow n node → ((at : ℕ) → at < n → value_in values at ≡ value_in values' at) →
    made_of values node ≡ made_of values' node
made_of-same values values' n UnitNode below same = refl
made_of-same values values' n (PairNode a b) below same = rw (same a below.0, same b below.1) refl
made_of-same values values' n (InlNode a) below same = rw (same a below) refl
made_of-same values values' n (InrNode a) below same = rw (same a below) refl

-- a place stands for what its node makes of its parts
pub value_at-node : (nodes : List Shape) (at : ℕ) (d : Shape) → PartsBelow at (slice_index_or nodes at d) → at < length nodes →
    value_at nodes at ≡ made_of (values_of nodes) (slice_index_or nodes at d)
value_at-node nodes at d below lt = by (take at nodes) (drop (suc at) nodes) split (length-take-le at nodes (omega arith))
  where
    node : Shape
    node = slice_index_or nodes at d

    split : (take at nodes ++ node ∷ []) ++ drop (suc at) nodes ≡ nodes
    split = append_assoc (take at nodes) (node ∷ []) (drop (suc at) nodes) ∙ (ap (λ l. take at nodes ++ l) (sym (drop-cons nodes at d lt)) ∙ take-append-drop at nodes)

    by : (front rest : List Shape) → (front ++ node ∷ []) ++ rest ≡ nodes → length front ≡ at → value_at nodes at ≡ made_of (values_of nodes) node
    by front rest is size =
        let here : value_at ((front ++ node ∷ []) ++ rest) (length front) ≡ made_of (values_of front) node =
        value_at-append (front ++ node ∷ []) rest (length front) (rw length-append (omega arith)) ∙ value_at-push front node in
        let there : value_at nodes at ≡ made_of (values_of front) node = rw (is, size) at here in
        there ∙ made_of-same (values_of front) (values_of nodes) at node below (λ k under.
        let longer : value_at (front ++ (node ∷ rest)) k ≡ value_at front k = value_at-append front (node ∷ rest) k (omega arith) in
        let same : front ++ (node ∷ rest) ≡ nodes = sym (append_assoc front (node ∷ []) rest) ∙ is in
        sym (rw same at longer))

pub keeps-push : (nodes : List Shape) (node : Shape) → Keeps nodes (nodes ++ node ∷ [])
keeps-push nodes node = record { nodes = take-append_seam nodes (node ∷ []); longer = rw length-append (omega arith); same = λ at lt. value_at-append nodes (node ∷ []) at lt }

pub keeps_itself : (nodes : List Shape) → Keeps nodes nodes
keeps_itself nodes = record { nodes = take-length nodes; longer = omega arith; same = λ at lt. refl }

pub keeps-keeps : (a b c : List Shape) → Keeps a b → Keeps b c → Keeps a c
keeps-keeps a b c h k = record {
  nodes = sym (take-take (length a) (length b) c h.longer) ∙ (ap (take (length a)) k.nodes ∙ h.nodes);
  longer = omega (arith, h.longer, k.longer);
  same = λ at lt. k.same at (omega (arith, h.longer)) ∙ h.same at lt;
}

pub value_at-pushed : (old new : List Shape) (node : Shape) (at : ℕ) → new ≡ old ++ node ∷ [] → at ≡ length old → value_at new at ≡ made_of (values_of old) node
value_at-pushed old new node at is size = rw (is, size) (value_at-push old node)

pub keeps-pushed : (old new : List Shape) (node : Shape) → new ≡ old ++ node ∷ [] → Keeps old new
keeps-pushed old new node is = rw is (keeps-push old node)
