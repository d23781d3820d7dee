-- Worked rows of the definitions.
use Rattle.std.specs.Prelude.{◌≡◌, [], ◌∷◌, codes}
use Rattle.std.proofs.Common.{refl, arith}
use Rattle.codex_values.specs.declared.shape.Shape.TheVariants.{Unit as UnitNode, Pair as PairNode, Inl as InlNode}
use Rattle.codex_values.specs.Value.{unit, pair, inl, show}
use Rattle.codex_values.specs.Store.{value_at}
use Rattle.codex_values.specs.Reading.{Reads, IsBadAt}
use Rattle.codex_values.proofs.Bytes.{reads_at_end, bad_at_end, bad_at}

show_pair : show (pair (inl unit) unit) ≡ codes "(Inl (),())"
show_pair = refl

value_at_pair : value_at (UnitNode ∷ InlNode 0 ∷ PairNode 1 0 ∷ []) 2 ≡ pair (inl unit) unit
value_at_pair = refl

reads_spaced : Reads (codes "( Inl () , () )") (pair (inl unit) unit)
reads_spaced = reads_at_end (codes "( Inl () , () )") 15 _ _ (omega arith) refl refl

reads_parens : Reads (codes "((Inl(())))") (inl unit)
reads_parens = reads_at_end (codes "((Inl(())))") 11 _ _ (omega arith) refl refl

bad_word : IsBadAt (codes "Inl") 3
bad_word = bad_at_end (codes "Inl") 3 _ (omega arith) refl refl

bad_comma : IsBadAt (codes "(),") 2
bad_comma = bad_at (codes "(),") 2 _ _ (omega arith) refl refl refl
