-- The mirrored functions by their cases, for the code's goals.
use Rattle.std.proofs.Common.{◌≡◌, ℕ, zero, suc, ◌-◌, List, [], ◌∷◌, Ok, refl, sub-one}
use Rattle.box_parse.specs.inner.ReaderOnLists.{◌>>=◌, head_at, first_at, choose_at, innermost_at, tail_at, exp_at, inside_at, ended_at, mapped, inside_from, ended_from, pair_from, leaf_of, head_of}
use Rattle.box_parse.specs.declared.token.Token.{Token}
use Rattle.box_parse.specs.declared.token.Token.TheVariants.{Paren, ParenEnd, North, Left, Right}
use Rattle.two_d.proofs.Heads.{Head, paren, paren_end, comma, north, west, left, right}
use Rattle.two_d.specs.Trees as trees
use Rattle.two_d.specs.Trees.{Tree}

pub head_at-zero : (d : ℕ) (a : List ℕ) → d ≡ 0 → head_at d a ≡ innermost_at (north ∷ west ∷ []) a
unfolding head_at
head_at-zero d a e = rw e refl

pub head_at-suc : (d : ℕ) (a : List ℕ) → (d ≡ 0 → ⊥) → head_at d a ≡ choose_at (north ∷ west ∷ paren ∷ left ∷ right ∷ []) a
unfolding head_at
head_at-suc zero a more = absurd (more refl)
head_at-suc (suc d) a more = refl

pub first_at-zero : (d : ℕ) (a : List ℕ) → d ≡ 0 → first_at d a ≡ innermost_at (paren_end ∷ north ∷ west ∷ []) a
unfolding first_at
first_at-zero d a e = rw e refl

pub first_at-suc : (d : ℕ) (a : List ℕ) → (d ≡ 0 → ⊥) → first_at d a ≡ choose_at (paren_end ∷ north ∷ west ∷ paren ∷ left ∷ right ∷ []) a
unfolding first_at
first_at-suc zero a more = absurd (more refl)
first_at-suc (suc d) a more = refl

pub ruleset head_rules = (head_at-zero, head_at-suc, first_at-zero, first_at-suc)

pub exp_at-is : (d : ℕ) (a : List ℕ) → exp_at d a ≡ (head_at d a >>= λ h. tail_at d h.0 h.1)
unfolding exp_at
exp_at-is d a = refl

pub ruleset exp_rules = (exp_at-is)

pub tail_at-zero : (d : ℕ) (h : Head) (a : List ℕ) → d ≡ 0 → tail_at d h a ≡ Ok (leaf_of h, a)
unfolding tail_at
tail_at-zero d h a e = rw e refl

pub tail_at-north : (d : ℕ) (a : List ℕ) → (d ≡ 0 → ⊥) → tail_at d north a ≡ Ok (trees.n, a)
unfolding tail_at
tail_at-north zero a more = absurd (more refl)
tail_at-north (suc d) a more = refl

pub tail_at-left : (d : ℕ) (a : List ℕ) → (d ≡ 0 → ⊥) → tail_at d left a ≡ mapped trees.inl (exp_at (d - 1) a)
unfolding tail_at exp_at
tail_at-left zero a more = absurd (more refl)
tail_at-left (suc d) a more = rw sub-one refl

pub tail_at-right : (d : ℕ) (a : List ℕ) → (d ≡ 0 → ⊥) → tail_at d right a ≡ mapped trees.inr (exp_at (d - 1) a)
unfolding tail_at exp_at
tail_at-right zero a more = absurd (more refl)
tail_at-right (suc d) a more = rw sub-one refl

pub tail_at-paren : (d : ℕ) (a : List ℕ) → (d ≡ 0 → ⊥) → tail_at d paren a ≡ inside_at (d - 1) a
unfolding tail_at exp_at inside_at
tail_at-paren zero a more = absurd (more refl)
tail_at-paren (suc d) a more = rw sub-one refl

pub tail_at-other : (t : Token) (d : ℕ) (a : List ℕ) → (d ≡ 0 → ⊥) → (t ≡ North → ⊥) → (t ≡ Left → ⊥) → (t ≡ Right → ⊥) → (t ≡ Paren → ⊥) → tail_at d (head_of t) a ≡ Ok (trees.w, a)
unfolding tail_at
tail_at-other t zero a more north_not left_not right_not paren_not = absurd (more refl)
tail_at-other North (suc d) a more north_not left_not right_not paren_not = absurd (north_not refl)
tail_at-other Left (suc d) a more north_not left_not right_not paren_not = absurd (left_not refl)
tail_at-other Right (suc d) a more north_not left_not right_not paren_not = absurd (right_not refl)
tail_at-other Paren (suc d) a more north_not left_not right_not paren_not = absurd (paren_not refl)
tail_at-other t (suc d) a more north_not left_not right_not paren_not = refl

pub ruleset tail_rules = (tail_at-zero, tail_at-north, tail_at-left, tail_at-right, tail_at-paren, tail_at-other)

pub inside_at-is : (d : ℕ) (a : List ℕ) → inside_at d a ≡ (first_at d a >>= λ h. inside_from (exp_at d) (tail_at d) h.0 h.1)
unfolding inside_at
inside_at-is d a = refl

pub ended_at-is : (d : ℕ) (x : Tree) (a : List ℕ) → ended_at d x a ≡ (choose_at (paren_end ∷ comma ∷ []) a >>= λ h. pair_from (exp_at d) x h.0 h.1)
unfolding ended_at
ended_at-is d x a = refl

pub ended_from-is : (d : ℕ) (x : Tree) (a : List ℕ) → ended_from (exp_at d) x a ≡ ended_at d x a
unfolding ended_at
ended_from-is d x a = refl

pub inside_from-other : (t : Token) (d : ℕ) (a : List ℕ) → (t ≡ ParenEnd → ⊥) → inside_from (exp_at d) (tail_at d) (head_of t) a ≡ (tail_at d (head_of t) a >>= λ x. ended_at d x.0 x.1)
unfolding ended_at
inside_from-other ParenEnd d a end_not = absurd (end_not refl)
inside_from-other t d a end_not = refl

pub ruleset inside_rules = (inside_at-is, inside_from-other)

pub ruleset ended_rules = (ended_at-is)
