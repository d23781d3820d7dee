-- How plain trees are told apart in proofs.
use Rattle.std.specs.Prelude.{◌≡◌}
use base.Stored.{Gv, gnil, gnum, gcons}
use Rattle.std.specs.Coded.{Coded}
use Rattle.std.proofs.Common.{refl, ap}
use Rattle.codex_values.specs.inner.Codes.{code_first, code_rest}
use Rattle.two_d.specs.Trees.{Tree, unit, n, w, pair, inl, inr}

abbrev pub tree_code : Tree → Gv
tree_code unit = gnum 0
tree_code n = gnum 1
tree_code w = gnum 2
tree_code (pair a b) = gcons (gnum 0) (gcons (tree_code a) (tree_code b))
tree_code (inl a) = gcons (gnum 1) (tree_code a)
tree_code (inr a) = gcons (gnum 2) (tree_code a)

pub tree_code-inj : (a b : Tree) → tree_code a ≡ tree_code b → a ≡ b
tree_code-inj unit unit e = refl
tree_code-inj n n e = refl
tree_code-inj w w e = refl
tree_code-inj (pair a b) (pair c d) e =
    λ i. pair (tree_code-inj a c (ap (λ g. code_first (code_rest g)) e) i)
    (tree_code-inj b d (ap (λ g. code_rest (code_rest g)) e) i)
tree_code-inj (inl a) (inl b) e = ap inl (tree_code-inj a b (ap code_rest e))
tree_code-inj (inr a) (inr b) e = ap inr (tree_code-inj a b (ap code_rest e))
tree_code-inj _ _ e = absurd (cc)

abbrev pub coded_tree : Coded Tree
coded_tree = record { code = tree_code; inj = tree_code-inj }
