-- Reading in order. A reading of a text has one answer: what was read, or the first fault.
-- The lines of a `do` block stand in the order in which faults are tried: each line presupposes
-- that those above it gave no fault.
use Rattle.std.specs.Prelude.{ℕ, ◌+◌, List, [], ◌∷◌, ◌++◌, Result, Ok, Err, MatchResult, Option, MatchOption, ⊤}

-- a reading, by its answers: a value of A or a fault of F
abbrev pub Reading : Type 0 → Type 0 → Type 1
Reading F A = Result A F → Type 0

-- the value x
pub data Gave {F A : Type 0} (x : A) : Result A F → Type 0 where
  gave : Gave x (Ok x)

-- first m, then k with what m gave
pub data Then {F A B : Type 0} (m : Reading F A) (k : A → Reading F B) : Result B F → Type 0 where
  goes_on : {r : Result B F} (x : A) → m (Ok x) → k x r → Then m k r
  stops : (f : F) → m (Err f) → Then m k (Err f)

-- the one that has the property
pub data The {F A : Type 0} (P : A → Type 0) : Result A F → Type 0 where
  it : (x : A) → P x → The P (Ok x)

-- the one that has the property, or a fault where there is none
pub data TheOr {F A : Type 0} (f : F) (P : A → Type 0) : Result A F → Type 0 where
  found : (x : A) → P x → TheOr f P (Ok x)
  missing : ((x : A) → P x → ⊥) → TheOr f P (Err f)

-- a fault where the fact holds
pub data Refused {F : Type 0} (f : F) (P : Type 0) : Result (Unit {0}) F → Type 0 where
  refused : P → Refused f P (Err f)
  passed : (P → ⊥) → Refused f P (Ok tt)

-- a fault at the one that has the property, where there is one
pub data RefusedAt {F A : Type 0} (f : A → F) (P : A → Type 0) : Result (Unit {0}) F → Type 0 where
  refused_at : (x : A) → P x → RefusedAt f P (Err (f x))
  none : ((x : A) → P x → ⊥) → RefusedAt f P (Ok tt)

infixl 10 ◌>>=◌
abbrev pub ◌>>=◌ : {F A B : Type 0} → Reading F A → (A → Reading F B) → Reading F B
m >>= k = Then m k

infixl 10 ◌>>◌
abbrev pub ◌>>◌ : {F A B : Type 0} → Reading F A → Reading F B → Reading F B
m >> k = Then m (λ _. k)

abbrev pub give : {F A : Type 0} → A → Reading F A
give x = Gave x

abbrev pub the : {F A : Type 0} → (A → Type 0) → Reading F A
the P = The P

abbrev pub the_or : {F A : Type 0} → F → (A → Type 0) → Reading F A
the_or f P = TheOr f P

abbrev pub refuse : {F : Type 0} → F → Type 0 → Reading F (Unit {0})
refuse f P = Refused f P

abbrev pub refuse_at : {F A : Type 0} → (A → F) → (A → Type 0) → Reading F (Unit {0})
refuse_at f P = RefusedAt f P

-- the same reading, whose faults are told in another way
pub data Told {F G A : Type 0} (tell : F → G) (m : Reading F A) : Result A G → Type 0 where
  went : (x : A) → m (Ok x) → Told tell m (Ok x)
  failed : (f : F) → m (Err f) → Told tell m (Err (tell f))

abbrev pub faults_mapped : {F G A : Type 0} → (F → G) → Reading F A → Reading G A
faults_mapped tell m = Told tell m

-- each of the list, in order
abbrev pub each : {F A B : Type 0} → (A → Reading F B) → List A → Reading F (List B)
each k [] = give []
each k (x ∷ xs) = do
  y ← k x
  ys ← each k xs
  give (y ∷ ys)

-- each of the list, in order; k is also given what those before gave
abbrev pub each_after :
    {F A B : Type 0} → (List B → A → Reading F B) → List B → List A → Reading F (List B)
each_after k before [] = give before
each_after k before (x ∷ xs) = do
  y ← k before x
  each_after k (before ++ y ∷ []) xs

-- each of the list, in order, with its number, of which n is the first
abbrev pub each_from :
    {F A : Type 0} → (ℕ → A → Reading F (Unit {0})) → ℕ → List A → Reading F (Unit {0})
each_from k n [] = give tt
each_from k n (x ∷ xs) = do
  k n x
  each_from k (n + 1) xs

-- the fault, where there is one, is the one that the reading gives
abbrev pub Refuses : {F A : Type 0} → Reading F A → Option F → Type 0
Refuses m fault = MatchOption fault ⊤ (λ f. m (Err f))

-- What a function answered is what the reading gives, unless memory ran out.
-- (view shows a value, and fault a refusal, which is none for want of memory.)
abbrev pub Gives : {F X A E : Type 0} → (X → A) → (E → Option F) → Result X E → Reading F A → Type 0
Gives view fault result m =
    MatchResult result (λ x. m (Ok (view x))) (λ e. Refuses m (fault e))
