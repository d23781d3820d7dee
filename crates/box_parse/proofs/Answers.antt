-- Each answer of the reader is exact. A part `P` stands beside a part `L` whose levels are bounded more loosely.
use Rattle.std.proofs.Common.{◌≡◌, ℕ, ◌+◌, ◌-◌, ◌≤◌, inr, List, ◌++◌, length, take, drop, refl, sym, arith, Result, Ok, Err, length-drop, take-append-drop}
use Rattle.box_parse.specs.inner.ReaderOnLists.{Refusal, bad, deep, ◌>>=◌, mapped}
use Rattle.two_d.proofs.Agree.{Part, After, Done, IsFree, IsRegular, IsStuck, IsOpenAt, stuck_first, stuck_second, none_first, none_second, open_first, open_second, regular_done, leaves_join}
use Rattle.two_d.proofs.Parts.{Mapped}
use Rattle.two_d.specs.Grammar as grammar
use Rattle.two_d.specs.Grammar.{OpensLevel}

-- No text of the part agrees with a beyond the last n bytes, which are rest; up to there it may still become one.
pub record IsDeadEnd {V : Type 0} (P : Part V) (a rest : List ℕ) (n : ℕ) : Type 0 where
  pub front : List ℕ
  pub whole : a ≡ front ++ rest
  pub long : length rest ≡ n
  pub stuck : IsStuck P a n
  pub none : (b : List ℕ) (v : V) → P a b v → ⊥
  pub begins : IsOpenAt P a n

-- no text of the loose part goes on with a token that opens a level
abbrev pub IsShallow : {V : Type 0} → Part V → List ℕ → List ℕ → ℕ → Type 0
IsShallow L a rest n = (m : ℕ) → OpensLevel rest m → (k : ℕ) × (n + 1 ≤ k + m) × IsStuck L a k

-- a token that opens a level stands there, and up to its end the loose part may still be read
abbrev pub IsDeep : {V : Type 0} → Part V → List ℕ → List ℕ → ℕ → Type 0
IsDeep L a rest n = (m : ℕ) × (k : ℕ) × OpensLevel rest m × (k + m ≡ n) × IsOpenAt L a k

abbrev pub IsAnswer : {V : Type 0} → Part V → Part V → List ℕ → Result (V × List ℕ) Refusal → Type 0
IsAnswer P L a (Ok r) = P a r.1 r.0 × L a r.1 r.0
IsAnswer P L a (Err (bad n)) = (rest : List ℕ) × IsDeadEnd P a rest n × IsShallow L a rest n
IsAnswer P L a (Err (deep n)) = (rest : List ℕ) × IsDeadEnd P a rest n × IsDeep L a rest n

dead_first : {V W : Type 0} (P : Part V) (Q : V → Part W) → ((v : V) → IsRegular (Q v)) → (a rest : List ℕ) (n : ℕ) → IsDeadEnd P a rest n → IsDeadEnd (After P Q) a rest n
dead_first P Q rq a rest n d = record {
  front = d.front;
  whole = d.whole;
  long = d.long;
  stuck = stuck_first P Q a n d.stuck;
  none = none_first P Q a d.none;
  begins = open_first P Q a n (λ v. (rq v).fillable) d.begins;
}

dead_second : {V W : Type 0} (P : Part V) (Q : V → Part W) → IsRegular P → (a b : List ℕ) (v : V) (rest : List ℕ) (n : ℕ) → P a b v → IsDeadEnd (Q v) b rest n → IsDeadEnd (After P Q) a rest n
dead_second P Q rp a b v rest n p d =
    let (front, is) = rp.leaves a b v p in
    record {
      front = front ++ d.front;
      whole = leaves_join a b rest front d.front is d.whole;
      long = d.long;
      stuck = stuck_second P Q rp a b v n p d.stuck;
      none = none_second P Q rp a b v p d.none;
      begins = open_second P Q rp a b v n p d.begins;
    }

pub answer_after : {V W : Type 0} (P L : Part V) (Q M : V → Part W) → IsRegular P → IsRegular L → ((v : V) → IsRegular (Q v)) → ((v : V) → IsRegular (M v))
    → (a : List ℕ) (r : Result (V × List ℕ) Refusal) (k : V × List ℕ → Result (W × List ℕ) Refusal)
    → IsAnswer P L a r → ((v : V) (b : List ℕ) → P a b v → IsAnswer (Q v) (M v) b (k (v, b))) → IsAnswer (After P Q) (After L M) a (r >>= k)
answer_after P L Q M rp rl rq rm a (Err (bad n)) k h next =
    (h.0, dead_first P Q rq a h.0 n h.1, λ m opens. (let (j, most, stuck) = h.2 m opens in (j, most, stuck_first L M a j stuck)))
answer_after P L Q M rp rl rq rm a (Err (deep n)) k h next =
    (let (m, j, opens, is, begins) = h.2 in (h.0, dead_first P Q rq a h.0 n h.1, (m, j, opens, is, open_first L M a j (λ v. (rm v).fillable) begins)))
answer_after {V} {W} P L Q M rp rl rq rm a (Ok (v, b)) k h next = second (k (v, b)) (next v b h.0)
  where
    second : (s : Result (W × List ℕ) Refusal) → IsAnswer (Q v) (M v) b s → IsAnswer (After P Q) (After L M) a s
    second (Ok x) q = (record { middle = b; value = v; first = h.0; second = q.0 }, record { middle = b; value = v; first = h.1; second = q.1 })
    second (Err (bad n)) q = (q.0, dead_second P Q rp a b v q.0 n h.0 q.1, λ m opens. (let (j, most, stuck) = q.2 m opens in (j, most, stuck_second L M rl a b v j h.1 stuck)))
    second (Err (deep n)) q = (let (m, j, opens, is, begins) = q.2 in (q.0, dead_second P Q rp a b v q.0 n h.0 q.1, (m, j, opens, is, open_second L M rl a b v j h.1 begins)))

pub answer_done : {V : Type 0} (v : V) (a : List ℕ) → IsAnswer (Done v) (Done v) a (Ok (v, a))
answer_done v a = (record { rest = refl; value = refl }, record { rest = refl; value = refl })

pub answer_mapped : {V W : Type 0} (f : V → W) (P L : Part V) → IsRegular P → IsRegular L → (a : List ℕ) (r : Result (V × List ℕ) Refusal) → IsAnswer P L a r → IsAnswer (Mapped f P) (Mapped f L) a (mapped f r)
answer_mapped f P L rp rl a r h = answer_after P L (λ v. Done (f v)) (λ v. Done (f v)) rp rl (λ v. regular_done (f v)) (λ v. regular_done (f v)) a r (λ x. Ok (f x.0, x.1)) h (λ v b p. answer_done (f v) b)

-- What was read is open up to its end.
pub open_read : {V : Type 0} (P : Part V) → IsFree P → (a b : List ℕ) (v : V) → P a b v → IsOpenAt P a (length b)
open_read P free a b v p = (v, λ e ends. (let (c, q, far, may) = free a b v e p (inr ends) in (c, q, omega (arith, far), may)))

pub opens_some : (rest : List ℕ) (m : ℕ) → OpensLevel rest m → (1 ≤ m) × (m ≤ length rest)
opens_some _ _ (grammar.parens {b}) = (omega arith, omega arith)
opens_some _ _ (grammar.inl {b} ends) = (omega arith, omega arith)
opens_some _ _ (grammar.inr {b} ends) = (omega arith, omega arith)

-- the last n bytes
pub last_bytes : (a : List ℕ) (n : ℕ) → n ≤ length a → (rest : List ℕ) × (front : List ℕ) × (a ≡ front ++ rest) × (length rest ≡ n)
last_bytes a n le = (drop (length a - n) a, take (length a - n) a, sym (take-append-drop (length a - n) a), omega (arith, length-drop (length a - n) a))
