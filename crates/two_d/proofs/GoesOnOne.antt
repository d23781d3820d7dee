-- From a position a wire goes on in one way.
use Rattle.std.proofs.Common.{◌≡◌, ◌<◌, List, [], ◌∷◌, refl, ap, arith}
use Rattle.two_d.specs.Cells.{cell}
use Rattle.two_d.specs.Ports.{Drawing}
use Rattle.two_d.specs.Wires.{Position, EndsAt, at_n, at_w, at_exit, IsTurn, GoesOn, ends, turns, stands, keeps, next}
use Rattle.two_d.specs.declared.module.To.{To}

pub end_no_turn : (m : Drawing) (s : Position) (end : To) → EndsAt m s end → IsTurn m s → ⊥
end_no_turn m _ _ (at_n p i b e port) turn = let v : cell m.grid p ≡ 118 = port.0.1 in let t : cell m.grid p ≡ 43 = turn.1 in omega arith
end_no_turn m _ _ (at_w p i b e port) turn = let v : cell m.grid p ≡ 62 = port.0.1 in let t : cell m.grid p ≡ 43 = turn.1 in omega arith
end_no_turn m _ _ (at_exit row i e) turn = let l : m.frame.right < m.frame.right = turn.0.before_right in omega arith

pub goes_on_one : (m : Drawing) (s : Position) (xs ys : List Position) → GoesOn m s xs → GoesOn m s ys → xs ≡ ys
goes_on_one m s _ _ (ends e) (ends f) = refl
goes_on_one m s _ _ (ends e) (turns d t to) = absurd (end_no_turn m s e.0 e.1 t)
goes_on_one m s _ _ (ends e) (stands t no_way) = refl
goes_on_one m s _ _ (ends e) (keeps not_end not_turn) = absurd (not_end e)
goes_on_one m s _ _ (turns d t to) (ends e) = absurd (end_no_turn m s e.0 e.1 t)
goes_on_one m s _ _ (turns d t to) (turns e u go) = ap (λ x. next s x ∷ []) (go.only d to.may)
goes_on_one m s _ _ (turns d t to) (stands u no_way) = absurd (no_way d to)
goes_on_one m s _ _ (turns d t to) (keeps not_end not_turn) = absurd (not_turn t)
goes_on_one m s _ _ (stands t no_way) (ends e) = refl
goes_on_one m s _ _ (stands t no_way) (turns e u go) = absurd (no_way e go)
goes_on_one m s _ _ (stands t no_way) (stands u none) = refl
goes_on_one m s _ _ (stands t no_way) (keeps not_end not_turn) = absurd (not_turn t)
goes_on_one m s _ _ (keeps not_end not_turn) (ends e) = absurd (not_end e)
goes_on_one m s _ _ (keeps not_end not_turn) (turns e u go) = absurd (not_turn u)
goes_on_one m s _ _ (keeps not_end not_turn) (stands u none) = absurd (not_turn u)
goes_on_one m s _ _ (keeps not_end not_turn) (keeps a b) = refl
