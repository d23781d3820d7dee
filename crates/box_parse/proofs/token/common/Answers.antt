use Rattle.std.proofs.Common.{◌≡◌, ℕ, ◌≤◌, List, [], ◌∷◌, length, drop, refl, arith}
use Rattle.std.proofs.lemmas.List.{drop_all}
use Rattle.two_d.proofs.Agree.{agree}
use Rattle.box_parse.proofs.token.common.Goals as goal

agree_nil : (a : List ℕ) → agree a [] ≡ 0
agree_nil [] = refl
agree_nil (x ∷ a) = refl

agree_past : (a b : List ℕ) (i : ℕ) → length b ≤ i → agree (drop i a) (drop i b) ≡ 0
agree_past a b i past = rw (drop_all i b past) (agree_nil (drop i a))

pub returns-else-i-b : goal.returns-else-i-b
returns-else-i-b c = omega (arith, c.loop-i.invariant, agree_past c.args.a.now c.args.b.now c.loop-i.i (omega arith))
