-- A list of words asks for one job.
use Rattle.std.proofs.Common.{◌≡◌, ℕ, ◌+◌, ◌%◌, ◌<◌, ◌≤◌, ◌^◌, List, [], ◌∷◌, All, map, length, get_or, refl, sym, ap, ◌∙◌, arith}
use Rattle.std.specs.Prelude.{codes, decimal}
use Rattle.std.specs.List.{join_with_byte}
use Rattle.std.proofs.lemmas.Fmt.{decimal_by_steps, decimal_injective, decimal_nonempty}
use Rattle.std.proofs.lemmas.List.{get_or_append_left}
use Rattle.std.proofs.lemmas.List.Elements.{All-nil, All-cons, All-append, All-get_or}
use Rattle.two_d.specs.Steps.{Choice, Listed}
use Rattle.codex_top.specs.Words.{Job, Asks, IsPicks, IsDecimal, AreJoined}
use Rattle.codex_top.specs.Limits.{most_made, most_number}
use Rattle.codex_top.specs.Words as plain
use Rattle.codex_top.proofs.Asking.{pieces_of, first_small, others_small}

-- the bytes of a number are digits
digits : (n : ℕ) → n < 2 ^ 64 → All (λ b. b < 58) (decimal n)
digits n lt =
    decimal_by_steps (λ _ ds. All (λ b. b < 58) ds) (λ d small. All-cons (λ b. b < 58) (48 + d) []
    (omega (arith, small)) (All-nil (λ b. b < 58)))
    (λ m ds ten none. All-append (λ b. b < 58) ds ((48 + m % 10) ∷ []) none
    (All-cons (λ b. b < 58) (48 + m % 10) [] (omega arith) (All-nil (λ b. b < 58)))) n lt

-- numbers that are written alike are the same
same_numbers : (ns ms : List ℕ) → All (λ n. n < 2 ^ 32) ns → All (λ n. n < 2 ^ 32) ms →
    map decimal ns ≡ map decimal ms → ns ≡ ms
same_numbers [] [] f g e = refl
same_numbers [] (m ∷ ms) f g e = absurd (cc)
same_numbers (n ∷ ns) [] f g e = absurd (cc)
same_numbers (n ∷ ns) (m ∷ ms) f g e =
    let heads : decimal n ≡ decimal m = cc in
    let tails : map decimal ns ≡ map decimal ms = cc in
    let head : n ≡ m = decimal_injective n m (first_small n ns f) (first_small m ms g) heads in
    let tail : ns ≡ ms = same_numbers ns ms (others_small n ns f) (others_small m ms g) tails in
    cc

one_list : (word ns ms : List ℕ) → AreJoined word ns → AreJoined word ms → ns ≡ ms
one_list word ns ms f g = same_numbers ns ms f.small g.small
    (sym (pieces_of word ns f) ∙ pieces_of word ms g)

-- no letter begins a list of numbers
no_letter : (word : List ℕ) (ns : List ℕ) → 58 ≤ get_or word 0 0 → AreJoined word ns → ⊥
no_letter word [] letter f = f.some refl
no_letter word (n ∷ ns) letter f =
    let lt = first_small n ns f.small in
    let some = decimal_nonempty n lt in
    let d = All-get_or (λ b. b < 58) (decimal n) 0 0 some (digits n lt) in
    let e : get_or word 0 0 ≡ get_or (decimal n) 0 0 = ap (λ w. get_or w 0 0) f.joins
    ∙ begins n ns some in
    omega (arith, letter, e, d)
  where
    begins : (n : ℕ) (ns : List ℕ) → 0 < length (decimal n) →
        get_or (join_with_byte 44 (map decimal (n ∷ ns))) 0 0 ≡ get_or (decimal n) 0 0
    begins n [] some = refl
    begins n (m ∷ ns) some = get_or_append_left (decimal n) _ 0 0 some

one_choice : (word : List ℕ) (p q : Choice) → IsPicks word p → IsPicks word q → p ≡ q
one_choice _ _ _ plain.first plain.first = refl
one_choice _ _ _ plain.first (plain.listed _ ns f) = absurd (no_letter (codes "first") ns
    (omega arith) f)
one_choice _ _ _ plain.last plain.last = refl
one_choice _ _ _ plain.last (plain.listed _ ns f) = absurd (no_letter (codes "last") ns
    (omega arith) f)
one_choice _ _ _ (plain.listed word ns f) (plain.listed _ ms g) =
    ap Listed (one_list word ns ms f g)
one_choice _ _ _ (plain.listed _ ns f) plain.first = absurd (no_letter (codes "first") ns
    (omega arith) f)
one_choice _ _ _ (plain.listed _ ns f) plain.last = absurd (no_letter (codes "last") ns
    (omega arith) f)

one_number : (most : ℕ) → most < 2 ^ 64 → (word : List ℕ) (n m : ℕ) → IsDecimal most word n →
    IsDecimal most word m → n ≡ m
one_number most fits word n m f g = decimal_injective n m (omega (arith, fits, f.small))
    (omega (arith, fits, g.small)) (sym f.writes ∙ g.writes)

pub one_job : (words : List (List ℕ)) (j k : Job) → Asks words j → Asks words k → j ≡ k
one_job _ _ _ (plain.check file) (plain.check _) = refl
one_job _ _ _ (plain.eval file) (plain.eval _) = refl
one_job _ _ _ (plain.eval_by file word p f) (plain.eval_by _ _ q g) =
    ap (λ picks. plain.evaluates file picks most_made) (one_choice word p q f g)
one_job _ _ _ (plain.eval_for file word number p n f i) (plain.eval_for _ _ _ q m g j) =
    let picks = one_choice word p q f g in
    let count = one_number most_made (omega arith) number n m i j in
    rw (picks, count) refl
one_job _ _ _ (plain.trace file word number p n f i) (plain.trace _ _ _ q m g j) =
    let picks = one_choice word p q f g in
    let count = one_number most_made (omega arith) number n m i j in
    rw (picks, count) refl
one_job _ _ _ (plain.compile file out) (plain.compile _ _) = refl
one_job _ _ _ (plain.run file) (plain.run _) = refl
one_job _ _ _ (plain.run_for file number n i) (plain.run_for _ _ m j) =
    ap (plain.runs file) (one_number most_made (omega arith) number n m i j)
one_job _ _ _ (plain.asm file out) (plain.asm _ _) = refl
one_job _ _ _ (plain.dis file) (plain.dis _) = refl
one_job _ _ _ (plain.debug file input) (plain.debug _ _) = refl
one_job _ _ _ (plain.selftest number n i) (plain.selftest _ m j) =
    ap plain.selftests (one_number most_number (omega arith) number n m i j)
one_job _ _ _ (plain.draw file) (plain.draw _) = refl
one_job _ _ _ (plain.type file sheet) (plain.type _ _) = refl
one_job _ _ _ (plain.save file number out n i) (plain.save _ _ _ m j) =
    ap (λ cycles. plain.saves file cycles out) (one_number most_made (omega arith) number n m i j)
one_job _ _ _ (plain.resume file number n i) (plain.resume _ _ m j) =
    ap (plain.resumes file) (one_number most_made (omega arith) number n m i j)
