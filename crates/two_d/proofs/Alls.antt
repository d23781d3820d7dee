-- What holds of each of a list, and of each of a mapped list.
use Rattle.std.specs.Prelude.{List, map, All, Any}
use Rattle.std.proofs.lemmas.Option.{slice_get_cases}
use Rattle.two_d.specs.Good.{trees_of}
use Rattle.std.proofs.Common.{arith, subst, sym, ap, ◌∙◌, inl, inr}
use Rattle.std.proofs.lemmas.List.{get_or-map, length-map}
use Rattle.std.proofs.lemmas.List.Elements.{All-map}
use Rattle.std.specs.Prelude.{◌≤◌}
use Rattle.two_d.specs.Trees.{Tree, send, depth, tree_of, outs_of, AreApart, IsWithin}
use Rattle.two_d.specs.declared.command.Exp.{Exp}
use Rattle.two_d.specs.declared.command.Side.{Side}

pub all_mapped : {A B : Type 0} (f : A → B) (P : B → Type 0) (xs : List A) → All (λ x. P (f x)) xs → All P (map f xs)
all_mapped f P xs h = All-map P f xs h

pub all_of_mapped : {A B : Type 0} (f : A → B) (P : B → Type 0) (xs : List A) → All P (map f xs) → All (λ x. P (f x)) xs
all_of_mapped f P xs h k d lt = subst P (get_or-map f xs k d (f d) lt) (h k (f d) (omega (arith, length-map xs f)))

pub sent_within : (outs : List (Exp × Side)) → All (λ out. depth (tree_of out.0) ≤ 64) outs → AreApart (outs_of outs) → IsWithin (send (outs_of outs))
sent_within outs shallow apart = (all_mapped (λ out. (tree_of out.0, out.1)) (λ (o : Tree × Side). depth o.0 ≤ 64) outs shallow, apart)

pub shallow_outs : (outs : List (Exp × Side)) → All (λ (o : Tree × Side). depth o.0 ≤ 64) (outs_of outs) → All (λ out. depth (tree_of out.0) ≤ 64) outs
shallow_outs outs h = all_of_mapped (λ (out : Exp × Side). (tree_of out.0, out.1)) (λ (o : Tree × Side). depth o.0 ≤ 64) outs h

pub any_mapped : {A B : Type 0} (f : A → B) (Q : B → Type 0) (xs : List A) → Any (λ x. Q (f x)) xs → Any Q (map f xs)
any_mapped f Q xs (k, x, lt, is, q) = (k, f x, omega (arith, length-map xs f), get_or-map f xs k x (f x) lt ∙ ap f is, q)

pub any_of_mapped : {A B : Type 0} (f : A → B) (Q : B → Type 0) (xs : List A) → Any Q (map f xs) → Any (λ x. Q (f x)) xs
any_of_mapped f Q xs (k, y, lt, is, q) = elim (slice_get_cases xs k).1 [
  | inl (x, low, there, here) ↦ (k, x, low, here, subst Q (sym is ∙ (get_or-map f xs k x y low ∙ ap f here)) q)
  | inr (past, e) ↦ absurd (omega (arith, length-map xs f))
]

pub any_sent : (Q : Tree → Type 0) (outs : List (Exp × Side)) → Any (λ out. Q (tree_of out.0)) outs → Any Q (trees_of (send (outs_of outs)))
any_sent Q outs h =
    any_mapped (λ (o : Tree × Side). o.0) Q (outs_of outs) (any_mapped (λ (out : Exp × Side). (tree_of out.0, out.1)) (λ (o : Tree × Side). Q o.0) outs h)

pub any_of_sent : (Q : Tree → Type 0) (outs : List (Exp × Side)) → Any Q (trees_of (send (outs_of outs))) → Any (λ out. Q (tree_of out.0)) outs
any_of_sent Q outs h =
    any_of_mapped (λ (out : Exp × Side). (tree_of out.0, out.1)) (λ (o : Tree × Side). Q o.0) outs (any_of_mapped (λ (o : Tree × Side). o.0) Q (outs_of outs) h)
