-- The mirror answers each part of the grammar exactly.
use Rattle.std.proofs.Common.{◌≡◌, ℕ, zero, suc, ◌<◌, inl, inr, List, [], ◌∷◌, refl, sym, subst, arith, Result, Ok, Err}
use Rattle.box_parse.proofs.Answers.{IsAnswer, answer_after, answer_done, answer_mapped}
use Rattle.box_parse.proofs.Choosing.{answer_choice, answer_head, answer_first}
use Rattle.box_parse.specs.inner.ReaderOnLists.{Refusal, Read, ◌>>=◌, mapped, Sides, choose_at, head_at, first_at, tail_at, exp_at, exp_from, inside_from, ended_from, pair_from, side_at, out_at, second_at, outs_from, outs_at, list_from, list_at, case_at}
use Rattle.two_d.proofs.Agree.{Part, After, Done, IsRegular, regular_after, regular_done}
use Rattle.two_d.proofs.Heads.{Head, IsAmong, OneHead, regular_head, paren, paren_end, bracket, bracket_end, comma, north, west, left, right, south, east, of}
use Rattle.two_d.proofs.Parts.{heads, Then, Mapped, pair_part, paren_part, tail_part, exp_part, side_of, other, out_part, other_part, second_part, outs_part, send_part, case_part, regular_heads, regular_then, regular_mapped, regular_pair, regular_ended, regular_paren, regular_tail, regular_exp}
use Rattle.two_d.specs.Trees as trees
use Rattle.two_d.specs.Trees.{Tree, Form}
use Rattle.two_d.specs.declared.command.Side.{Side}

answer_then : {V : Type 0} (h : Head) (v : V) (a : List ℕ) → IsAnswer (Then h v) (Then h v) a (choose_at (h ∷ []) a >>= λ e. Ok (v, e.1))
answer_then h v a = answer_after (OneHead (h ∷ [])) (OneHead (h ∷ [])) (λ _. Done v) (λ _. Done v) (regular_head h []) (regular_head h []) (λ _. regular_done v) (λ _. regular_done v)
    a (choose_at (h ∷ []) a) (λ e. Ok (v, e.1)) (answer_choice h [] a) (λ g b _. answer_done v b)

-- Expressions.
abbrev AreAnswers : ℕ → ℕ → Type 0
AreAnswers d D = (h : Head) (a : List ℕ) → IsAmong (heads d) h → IsAnswer (tail_part d h) (tail_part D h) a (tail_at d h a)

abbrev exp_read : ℕ → Read Tree
exp_read d = exp_from (tail_at d) (head_at d)

module _ (d D : ℕ) (less : d < D) (tails : AreAnswers d D) where
  exp_answer : (a : List ℕ) → IsAnswer (exp_part d) (exp_part D) a (exp_read d a)
  exp_answer a = answer_after (OneHead (heads d)) (OneHead (heads D)) (tail_part d) (tail_part D) (regular_heads d) (regular_heads D) (regular_tail d) (regular_tail D)
      a (head_at d a) (λ h. tail_at d h.0 h.1) (answer_head d D less a) (λ h b one. tails h b one.0)

  pair_answer : (x : Tree) (h : Head) (a : List ℕ) → IsAnswer (pair_part (exp_part d) x h) (pair_part (exp_part D) x h) a (pair_from (exp_read d) x h a)
  pair_answer x comma a = answer_after (exp_part d) (exp_part D) (λ y. Then paren_end (trees.pair x y)) (λ y. Then paren_end (trees.pair x y)) (regular_exp d) (regular_exp D)
      (λ y. regular_then paren_end (trees.pair x y)) (λ y. regular_then paren_end (trees.pair x y)) a (exp_read d a) (λ y. choose_at (paren_end ∷ []) y.1 >>= λ e. Ok (trees.pair x y.0, e.1))
      (exp_answer a) (λ y b _. answer_then paren_end (trees.pair x y) b)
  pair_answer x h a = answer_done x a

  abbrev Ended : ℕ → Tree → Part Tree
  Ended n x = After (OneHead (paren_end ∷ comma ∷ [])) (pair_part (exp_part n) x)

  ended_answer : (x : Tree) (a : List ℕ) → IsAnswer (Ended d x) (Ended D x) a (ended_from (exp_read d) x a)
  ended_answer x a = answer_after (OneHead (paren_end ∷ comma ∷ [])) (OneHead (paren_end ∷ comma ∷ [])) (pair_part (exp_part d) x) (pair_part (exp_part D) x)
      (regular_head paren_end (comma ∷ [])) (regular_head paren_end (comma ∷ [])) (regular_pair (exp_part d) (regular_exp d) x) (regular_pair (exp_part D) (regular_exp D) x)
      a (choose_at (paren_end ∷ comma ∷ []) a) (λ h. pair_from (exp_read d) x h.0 h.1) (answer_choice paren_end (comma ∷ []) a) (λ h b _. pair_answer x h b)

  inside_answer : (h : Head) (a : List ℕ) → IsAmong (paren_end ∷ heads d) h → IsAnswer (paren_part (exp_part d) (tail_part d) h) (paren_part (exp_part D) (tail_part D) h) a (inside_from (exp_read d) (tail_at d) h a)
  inside_answer paren_end a i = answer_done trees.unit a
  inside_answer h a i = elim i as (λ _. IsAnswer (After (tail_part d h) (Ended d)) (After (tail_part D h) (Ended D)) a (tail_at d h a >>= λ x. ended_from (exp_read d) x.0 x.1)) [
    | inl e ↦ cc
    | inr there ↦ answer_after (tail_part d h) (tail_part D h) (Ended d) (Ended D) (regular_tail d h) (regular_tail D h) (regular_ended (exp_part d) (regular_exp d)) (regular_ended (exp_part D) (regular_exp D))
        a (tail_at d h a) (λ x. ended_from (exp_read d) x.0 x.1) (tails h a there) (λ x b _. ended_answer x b)
  ]

  paren_answer : (a : List ℕ) → IsAnswer (After (OneHead (paren_end ∷ heads d)) (paren_part (exp_part d) (tail_part d))) (After (OneHead (paren_end ∷ heads D)) (paren_part (exp_part D) (tail_part D))) a (first_at d a >>= λ h. inside_from (exp_read d) (tail_at d) h.0 h.1)
  paren_answer a = answer_after (OneHead (paren_end ∷ heads d)) (OneHead (paren_end ∷ heads D)) (paren_part (exp_part d) (tail_part d)) (paren_part (exp_part D) (tail_part D))
      (regular_head paren_end (heads d)) (regular_head paren_end (heads D)) (regular_paren (exp_part d) (tail_part d) (regular_exp d) (regular_tail d)) (regular_paren (exp_part D) (tail_part D) (regular_exp D) (regular_tail D))
      a (first_at d a) (λ h. inside_from (exp_read d) (tail_at d) h.0 h.1) (answer_first d D less a) (λ h b one. inside_answer h b one.0)

answer_tail : (d D : ℕ) → d < D → AreAnswers d D
unfolding tail_part tail_at
answer_tail zero zero less h a i = absurd (omega (arith, less))
answer_tail zero (suc D) less north a i = answer_done trees.n a
answer_tail zero (suc D) less west a i = answer_done trees.w a
answer_tail zero (suc D) less h a i = elim i [
  | inl e ↦ cc
  | inr more ↦ elim more [ inl e ↦ cc | inr none ↦ absurd none ]
]
answer_tail (suc d) zero less h a i = absurd (omega (arith, less))
answer_tail (suc d) (suc D) less north a i = answer_done trees.n a
answer_tail (suc d) (suc D) less left a i =
    answer_mapped trees.inl (exp_part d) (exp_part D) (regular_exp d) (regular_exp D) a (exp_read d a) (exp_answer d D (omega (arith, less)) (answer_tail d D (omega (arith, less))) a)
answer_tail (suc d) (suc D) less right a i =
    answer_mapped trees.inr (exp_part d) (exp_part D) (regular_exp d) (regular_exp D) a (exp_read d a) (exp_answer d D (omega (arith, less)) (answer_tail d D (omega (arith, less))) a)
answer_tail (suc d) (suc D) less paren a i = paren_answer d D (omega (arith, less)) (answer_tail d D (omega (arith, less))) a
answer_tail (suc d) (suc D) less h a i = answer_done trees.w a

pub answer_exp : (d D : ℕ) → d < D → (a : List ℕ) → IsAnswer (exp_part d) (exp_part D) a (exp_at d a)
unfolding exp_at
answer_exp d D less a = exp_answer d D less (answer_tail d D less) a

-- a part, the same with a loose bound, and the function that reads the first exactly
pub record Reads {V : Type 0} (P L : Part V) (read : Read V) : Type 0 where
  pub regular : IsRegular P
  pub loose : IsRegular L
  pub exact : (a : List ℕ) → IsAnswer P L a (read a)

pub reads_after : {V W : Type 0} {P L : Part V} {Q M : V → Part W} {read : Read V} {next : V → Read W} → Reads P L read → ((v : V) → Reads (Q v) (M v) (next v)) → Reads (After P Q) (After L M) (λ a. read a >>= λ x. next x.0 x.1)
reads_after {V} {W} {P} {L} {Q} {M} {read} {next} first then = record {
  regular = regular_after P Q first.regular (λ v. (then v).regular);
  loose = regular_after L M first.loose (λ v. (then v).loose);
  exact = λ a. answer_after P L Q M first.regular first.loose (λ v. (then v).regular) (λ v. (then v).loose) a (read a) (λ x. next x.0 x.1) (first.exact a) (λ v b _. (then v).exact b);
}

reads_done : {V : Type 0} (v : V) → Reads (Done v) (Done v) (λ a. Ok (v, a))
reads_done v = record { regular = regular_done v; loose = regular_done v; exact = answer_done v }

pub reads_head : (h : Head) (hs : List Head) → Reads (OneHead (h ∷ hs)) (OneHead (h ∷ hs)) (choose_at (h ∷ hs))
reads_head h hs = record { regular = regular_head h hs; loose = regular_head h hs; exact = answer_choice h hs }

reads_then : {V : Type 0} (h : Head) (v : V) → Reads (Then h v) (Then h v) (λ a. choose_at (h ∷ []) a >>= λ e. Ok (v, e.1))
reads_then h v = record { regular = regular_then h v; loose = regular_then h v; exact = answer_then h v }

pub reads_mapped : {V W : Type 0} {P L : Part V} {read : Read V} (f : V → W) → Reads P L read → Reads (Mapped f P) (Mapped f L) (λ a. mapped f (read a))
reads_mapped {V} {W} {P} {L} {read} f r = record {
  regular = regular_mapped f P r.regular;
  loose = regular_mapped f L r.loose;
  exact = λ a. answer_mapped f P L r.regular r.loose a (read a) (r.exact a);
}

pub reads_exp : (d D : ℕ) → d < D → Reads (exp_part d) (exp_part D) (exp_at d)
reads_exp d D less = record { regular = regular_exp d; loose = regular_exp D; exact = answer_exp d D less }

-- a reading through a view may be read before it
mapped_then : {U V W : Type 0} (f : U → V) (r : Result (U × List ℕ) Refusal) (k : V × List ℕ → Result W Refusal) → (mapped f r >>= k) ≡ (r >>= λ x. k (f x.0, x.1))
mapped_then f (Ok x) k = refl
mapped_then f (Err e) k = refl

side_then : {W : Type 0} (hs : List Head) (a : List ℕ) (k : Side × List ℕ → Result W Refusal) → (side_at hs a >>= k) ≡ (choose_at hs a >>= λ x. k (side_of x.0, x.1))
unfolding side_at
side_then hs a k = mapped_then side_of (choose_at hs a) k

reads_as : {V : Type 0} {P L : Part V} {read : Read V} (other_read : Read V) → Reads P L read → ((a : List ℕ) → other_read a ≡ read a) → Reads P L other_read
reads_as {V} {P} {L} {read} other_read r same = record { regular = r.regular; loose = r.loose; exact = λ a. subst (IsAnswer P L a) (sym (same a)) (r.exact a) }

reads_out : (d D : ℕ) → d < D → (h : Head) (hs : List Head) → Reads (out_part d (h ∷ hs)) (out_part D (h ∷ hs)) (out_at d (h ∷ hs))
unfolding out_at
reads_out d D less h hs = reads_after (reads_exp d D less) (λ x. reads_after (reads_head comma []) (λ _.
    reads_as (λ b. side_at (h ∷ hs) b >>= λ s. (choose_at (paren_end ∷ []) s.1 >>= λ e. Ok ((x, s.0), e.1)))
    (reads_after (reads_head h hs) (λ g. reads_then paren_end (x, side_of g)))
    (λ b. side_then (h ∷ hs) b (λ s. choose_at (paren_end ∷ []) s.1 >>= λ e. Ok ((x, s.0), e.1)))))

reads_second : (d D : ℕ) → d < D → (s : Side) → Reads (other_part d s) (other_part D s) (second_at d s)
unfolding second_at
reads_second d D less s = reads_after (reads_head paren []) (λ _. reads_after (reads_out d D less (other s) []) (λ o. reads_then bracket_end o))

reads_more : (d D : ℕ) → d < D → (o : Tree × Side) (h : Head) → Reads (second_part d o h) (second_part D o h) (outs_from d o h)
reads_more d D less o comma = reads_mapped (λ p. o ∷ p ∷ []) (reads_second d D less o.1)
reads_more d D less o h = reads_done (o ∷ [])

reads_list_from : (d D : ℕ) → d < D → (h : Head) → Reads (outs_part d h) (outs_part D h) (list_from d h)
unfolding outs_at
reads_list_from d D less paren = reads_after (reads_out d D less south (east ∷ [])) (λ o. reads_after (reads_head bracket_end (comma ∷ [])) (reads_more d D less o))
reads_list_from d D less h = reads_done []

pub reads_list : (d D : ℕ) → d < D → Reads (send_part d) (send_part D) (list_at d)
unfolding list_at
reads_list d D less = reads_after (reads_head bracket []) (λ _. reads_after (reads_head bracket_end (paren ∷ [])) (reads_list_from d D less))

pub reads_case : (d D : ℕ) → d < D → Reads (case_part d) (case_part D) (case_at d)
unfolding case_at
reads_case d D less = reads_after (reads_exp d D less) (λ x. reads_after (reads_head of []) (λ _.
    reads_as (λ b. side_at Sides b >>= λ s. (choose_at (comma ∷ []) s.1 >>= λ k. (side_at Sides k.1 >>= λ t. Ok (trees.case x s.0 t.0, t.1))))
    (reads_after (reads_head south (east ∷ [])) (λ g. reads_after (reads_head comma []) (λ _.
    reads_as (λ b. side_at Sides b >>= λ t. Ok (trees.case x (side_of g) t.0, t.1)) (reads_mapped (λ t. trees.case x (side_of g) (side_of t)) (reads_head south (east ∷ [])))
    (λ b. side_then Sides b (λ t. Ok (trees.case x (side_of g) t.0, t.1))))))
    (λ b. side_then Sides b (λ s. choose_at (comma ∷ []) s.1 >>= λ k. (side_at Sides k.1 >>= λ t. Ok (trees.case x s.0 t.0, t.1))))))
