-- Sums over lists, one element more.
use Rattle.std.specs.Prelude.{◌≡◌, ℕ, zero, suc, ◌+◌, ◌<◌, List, [], ◌∷◌, ◌++◌, length, min, map, take, slice_index_or}
use Rattle.std.proofs.Common.{◌∙◌, arith, ap, refl, subst}
use Rattle.two_d.specs.declared.command.Exp.{Exp}
use Rattle.two_d.specs.declared.command.Side.{Side}
use Rattle.two_d.specs.declared.module.BoxRow.{BoxRow}
use Rattle.two_d.specs.declared.module.Module.{Module}
use Rattle.two_d.specs.Trees.{tree_of, outs_of}
use Rattle.two_d.specs.Programs.{Program, box_of, module_of, module_at}
use Rattle.two_d.specs.Weights.{nodes, all_nodes, box_part, boxes_part, part, weight}
use Rattle.lower_emit.specs.Tables.{frame_sizes}

abbrev pub outs_nodes : List (Exp × Side) → ℕ
outs_nodes outs = all_nodes (map (λ out. out.0) (outs_of outs))

nodes_suc : (outs : List (Exp × Side)) (i : ℕ) (d : Exp × Side) → i < length outs → outs_nodes (take (suc i) outs) ≡ outs_nodes (take i outs) + nodes (tree_of (slice_index_or outs i d).0)
nodes_suc [] i d lt = absurd (omega (arith, lt))
nodes_suc (out ∷ outs) zero d lt = omega arith
nodes_suc (out ∷ outs) (suc i) d lt = omega (arith, nodes_suc outs i d (omega (arith, lt)))

pub nodes_next : (outs : List (Exp × Side)) (i : ℕ) (d : Exp × Side) → i < length outs → outs_nodes (take (i + 1) outs) ≡ outs_nodes (take i outs) + nodes (tree_of (slice_index_or outs i d).0)
nodes_next outs i d lt = let one : suc i ≡ i + 1 = omega arith in subst (λ j. outs_nodes (take j outs) ≡ outs_nodes (take i outs) + nodes (tree_of (slice_index_or outs i d).0)) one (nodes_suc outs i d lt)

boxes_suc : (rows : List BoxRow) (i : ℕ) (d : BoxRow) → i < length rows → boxes_part (map box_of (take (suc i) rows)) ≡ boxes_part (map box_of (take i rows)) + box_part (box_of (slice_index_or rows i d))
boxes_suc [] i d lt = absurd (omega (arith, lt))
boxes_suc (row ∷ rows) zero d lt = omega arith
boxes_suc (row ∷ rows) (suc i) d lt = omega (arith, boxes_suc rows i d (omega (arith, lt)))

pub boxes_next : (rows : List BoxRow) (i : ℕ) (d : BoxRow) → i < length rows → boxes_part (map box_of (take (i + 1) rows)) ≡ boxes_part (map box_of (take i rows)) + box_part (box_of (slice_index_or rows i d))
boxes_next rows i d lt = let one : suc i ≡ i + 1 = omega arith in subst (λ j. boxes_part (map box_of (take j rows)) ≡ boxes_part (map box_of (take i rows)) + box_part (box_of (slice_index_or rows i d))) one (boxes_suc rows i d lt)

weight_suc : (modules : List Module) (i : ℕ) (d : Module) → i < length modules → weight (map module_of (take (suc i) modules)) ≡ weight (map module_of (take i modules)) + part (module_of (slice_index_or modules i d))
weight_suc [] i d lt = absurd (omega (arith, lt))
weight_suc (m ∷ modules) zero d lt = omega arith
weight_suc (m ∷ modules) (suc i) d lt = omega (arith, weight_suc modules i d (omega (arith, lt)))

pub weight_next : (modules : List Module) (i : ℕ) (d : Module) → i < length modules → weight (map module_of (take (i + 1) modules)) ≡ weight (map module_of (take i modules)) + part (module_of (slice_index_or modules i d))
weight_next modules i d lt = let one : suc i ≡ i + 1 = omega arith in subst (λ j. weight (map module_of (take j modules)) ≡ weight (map module_of (take i modules)) + part (module_of (slice_index_or modules i d))) one (weight_suc modules i d lt)

-- a sum that stops at a largest number, one more
pub stops_next : (total more sum next whole result most : ℕ) → total ≡ min sum most → more ≡ min next most → whole ≡ sum + next → result ≡ min (total + more) most → result ≡ min whole most
stops_next total more sum next whole result most t m w r = omega (arith, t, m, w, r)

sizes_suc : (modules : List Module) (i : ℕ) (d : Module) → i < length modules →
    frame_sizes (map module_of (take (suc i) modules)) ≡ frame_sizes (map module_of (take i modules)) ++ (12 + part (module_of (slice_index_or modules i d))) ∷ []
sizes_suc [] i d lt = absurd (omega (arith, lt))
sizes_suc (m ∷ modules) zero d lt = refl
sizes_suc (m ∷ modules) (suc i) d lt = ap (λ sizes. (12 + part (module_of m)) ∷ sizes) (sizes_suc modules i d (omega (arith, lt)))

pub sizes_next : (modules : List Module) (i : ℕ) (d : Module) → i < length modules →
    frame_sizes (map module_of (take (i + 1) modules)) ≡ frame_sizes (map module_of (take i modules)) ++ (12 + part (module_of (slice_index_or modules i d))) ∷ []
sizes_next modules i d lt =
    let one : suc i ≡ i + 1 = omega arith in
    subst (λ j. frame_sizes (map module_of (take j modules)) ≡ frame_sizes (map module_of (take i modules)) ++ (12 + part (module_of (slice_index_or modules i d))) ∷ []) one (sizes_suc modules i d lt)

-- the size at a number is that of the module's frame
pub size_at : (P : Program) (number d : ℕ) → number < length P → slice_index_or (frame_sizes P) number d ≡ 12 + part (module_at P number)
size_at [] number d lt = absurd (omega (arith, lt))
size_at (m ∷ P) zero d lt = refl
size_at (m ∷ P) (suc number) d lt = size_at P number d (omega (arith, lt))

pub sizes_count : (P : Program) → length (frame_sizes P) ≡ length P
sizes_count [] = refl
sizes_count (m ∷ P) = ap suc (sizes_count P)

pub size_read : (P : Program) (frames : List ℕ) → frames ≡ frame_sizes P → (number size : ℕ) → number < length P → size ≡ slice_index_or frames number size → size ≡ 12 + part (module_at P number)
size_read P frames are number size there is = is ∙ ap (λ sizes. slice_index_or sizes number size) are ∙ size_at P number size there
