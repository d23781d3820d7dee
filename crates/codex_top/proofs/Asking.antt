-- The numbers that a word joins, and what lists of words ask for.
use Rattle.std.proofs.Common.{◌≡◌, ◌≢◌, ℕ, suc, ◌+◌, ◌%◌, ◌<◌, ◌≤◌, ◌^◌, List, [], ◌∷◌, All, map, length, get_or, false, eqb, refl, sym, ap, ◌∙◌, arith}
use Rattle.std.specs.Prelude.{decimal}
use Rattle.std.specs.List.{join_with_byte, slice_split}
use Rattle.std.proofs.lemmas.Bool.Decides.{nat_tests}
use Rattle.std.proofs.lemmas.Fmt.{decimal_by_steps}
use Rattle.std.proofs.lemmas.List.{get_or-map, length-map}
use Rattle.std.proofs.lemmas.List.Elements.{All-nil, All-cons, All-append, All-get_or, All-from_get_or}
use Rattle.std.proofs.lemmas.List.Splits.{slice_split_none, slice_split_at, length-slice_split, join_with_byte-slice_split}
use Rattle.two_d.specs.Steps.{Choice}
use Rattle.codex_top.specs.Words.{Job, Asks, IsPicks, IsDecimal, AreJoined, IsAllowed, PicksSome}
use Rattle.codex_top.specs.Words as plain

-- the pieces of a word between its commas
unfoldable pub pieces : List ℕ → List (List ℕ)
pieces word = slice_split (λ b. eqb b 44) word

one_byte : (d : ℕ) → All (λ b. eqb b 44 ≡ false) ((48 + d) ∷ [])
one_byte d = All-cons (λ b. eqb b 44 ≡ false) (48 + d) [] (grind (arith, nat_tests)) (All-nil (λ b. eqb b 44 ≡ false))

no_comma : (n : ℕ) → n < 2 ^ 64 → All (λ b. eqb b 44 ≡ false) (decimal n)
no_comma n lt =
    decimal_by_steps (λ _ ds. All (λ b. eqb b 44 ≡ false) ds) (λ d small. one_byte d)
    (λ m ds ten none. All-append (λ b. eqb b 44 ≡ false) ds ((48 + m % 10) ∷ []) none (one_byte (m % 10))) n lt

pub first_small : (n : ℕ) (numbers : List ℕ) → All (λ n. n < 2 ^ 32) (n ∷ numbers) → n < 2 ^ 64
first_small n numbers small = let lt = All-get_or (λ n. n < 2 ^ 32) (n ∷ numbers) 0 0 (omega arith) small in omega (arith, lt)

pub others_small : (n : ℕ) (numbers : List ℕ) → All (λ n. n < 2 ^ 32) (n ∷ numbers) → All (λ n. n < 2 ^ 32) numbers
others_small n numbers small =
    All-from_get_or (λ n. n < 2 ^ 32) numbers 0 (λ i lt. All-get_or (λ n. n < 2 ^ 32) (n ∷ numbers) (suc i) 0 (omega (arith, lt)) small)

pieces_joined : (numbers : List ℕ) → numbers ≢ [] → All (λ n. n < 2 ^ 32) numbers → pieces (join_with_byte 44 (map decimal numbers)) ≡ map decimal numbers
unfolding pieces
pieces_joined [] some small = absurd (some refl)
pieces_joined (n ∷ []) some small = slice_split_none (λ b. eqb b 44) (decimal n) (no_comma n (first_small n [] small))
pieces_joined (n ∷ m ∷ numbers) some small =
    slice_split_at (λ b. eqb b 44) (decimal n) 44 (join_with_byte 44 (map decimal (m ∷ numbers))) (no_comma n (first_small n (m ∷ numbers) small)) refl
    ∙ ap (λ parts. decimal n ∷ parts) (pieces_joined (m ∷ numbers) (λ e. cc) (others_small n (m ∷ numbers) small))

-- the numbers that a word joins are those that its pieces write
pub pieces_of : (word numbers : List ℕ) → AreJoined word numbers → pieces word ≡ map decimal numbers
pieces_of word numbers joined = ap pieces joined.joins ∙ pieces_joined numbers joined.some joined.small

pub joined_of : (word numbers : List ℕ) → All (λ n. n < 2 ^ 32) numbers → pieces word ≡ map decimal numbers → AreJoined word numbers
unfolding pieces
joined_of word numbers small is = record {
  some = λ none. absurd (let e : length (slice_split (λ b. eqb b 44) word) ≡ 0 = ap length is ∙ ap (λ ns. length (map decimal ns)) none in
      omega (arith, e, length-slice_split (λ b. eqb b 44) word));
  small = small;
  joins = sym (join_with_byte-slice_split 44 word) ∙ ap (join_with_byte 44) is;
}

-- each piece of a word that joins numbers writes one of them
pub piece_at : (word numbers part : List ℕ) (k : ℕ) → AreJoined word numbers → k < length (slice_split (λ b. eqb b 44) word) →
    part ≡ get_or (slice_split (λ b. eqb b 44) word) k part → IsDecimal 4294967295 part (get_or numbers k 0)
unfolding pieces
piece_at word numbers part k joined lt is =
    let same : slice_split (λ b. eqb b 44) word ≡ map decimal numbers = pieces_of word numbers joined in
    let count = ap length same in
    let within : k < length numbers = omega (arith, lt, count, length-map numbers decimal) in
    let small = All-get_or (λ n. n < 2 ^ 32) numbers k 0 within joined.small in
    record {
      writes = is ∙ ap (λ parts. get_or parts k part) same ∙ get_or-map decimal numbers k 0 part within;
      small = omega (arith, small);
    }

-- one text, two, or three are the texts of a list
pub one_text : {A : Type 0} (f : A → List ℕ) (xs : List A) (a : A) → 1 ≤ length xs → length xs < 2 → a ≡ get_or xs 0 a →
    (s : List ℕ) → s ≡ f a → map f xs ≡ s ∷ []
one_text f [] a least below ea s es = absurd (omega (arith, least))
one_text f (w ∷ []) a least below ea s es = ap (λ p. p ∷ []) (ap f (sym ea) ∙ sym es)
one_text f (w ∷ x ∷ rest) a least below ea s es = absurd (omega (arith, below))

pub two_texts : {A : Type 0} (f : A → List ℕ) (xs : List A) (a b : A) → 2 ≤ length xs → length xs < 3 →
    a ≡ get_or xs 0 a → b ≡ get_or xs 1 b → (s t : List ℕ) → s ≡ f a → t ≡ f b → map f xs ≡ s ∷ t ∷ []
two_texts f [] a b least below ea eb s t es et = absurd (omega (arith, least))
two_texts f (w ∷ []) a b least below ea eb s t es et = absurd (omega (arith, least))
two_texts f (w ∷ x ∷ []) a b least below ea eb s t es et =
    ap (λ p. p ∷ f x ∷ []) (ap f (sym ea) ∙ sym es) ∙ ap (λ p. s ∷ p ∷ []) (ap f (sym eb) ∙ sym et)
two_texts f (w ∷ x ∷ y ∷ rest) a b least below ea eb s t es et = absurd (omega (arith, below))

pub three_texts : {A : Type 0} (f : A → List ℕ) (xs : List A) (a b c : A) → 3 ≤ length xs → length xs < 4 →
    a ≡ get_or xs 0 a → b ≡ get_or xs 1 b → c ≡ get_or xs 2 c → (s t u : List ℕ) → s ≡ f a → t ≡ f b → u ≡ f c → map f xs ≡ s ∷ t ∷ u ∷ []
three_texts f [] a b c least below ea eb ec s t u es et eu = absurd (omega (arith, least))
three_texts f (w ∷ []) a b c least below ea eb ec s t u es et eu = absurd (omega (arith, least))
three_texts f (w ∷ x ∷ []) a b c least below ea eb ec s t u es et eu = absurd (omega (arith, least))
three_texts f (w ∷ x ∷ y ∷ []) a b c least below ea eb ec s t u es et eu =
    ap (λ p. p ∷ f x ∷ f y ∷ []) (ap f (sym ea) ∙ sym es) ∙ ap (λ p. s ∷ p ∷ f y ∷ []) (ap f (sym eb) ∙ sym et)
    ∙ ap (λ p. s ∷ t ∷ p ∷ []) (ap f (sym ec) ∙ sym eu)
three_texts f (w ∷ x ∷ y ∷ z ∷ rest) a b c least below ea eb ec s t u es et eu = absurd (omega (arith, below))

picks_some : (word : List ℕ) (picks : Choice) → IsPicks word picks → PicksSome picks
picks_some _ _ plain.first = tt
picks_some _ _ plain.last = tt
picks_some _ _ (plain.listed word numbers joined) = joined.some

-- what a list of words asks for is allowed
pub is_allowed : (words : List (List ℕ)) (job : Job) → Asks words job → IsAllowed job
is_allowed _ _ (plain.eval file) = (tt, omega arith)
is_allowed _ _ (plain.eval_by file word picks names) = (picks_some word picks names, omega arith)
is_allowed _ _ (plain.eval_for file word number picks n names writes) = (picks_some word picks names, writes.small)
is_allowed _ _ (plain.trace file word number picks n names writes) = (picks_some word picks names, writes.small)
is_allowed _ _ (plain.run file) = omega arith
is_allowed _ _ (plain.run_for file number n writes) = writes.small
is_allowed _ _ (plain.save file number out n writes) = writes.small
is_allowed _ _ (plain.resume file number n writes) = writes.small
is_allowed _ _ _ = tt
