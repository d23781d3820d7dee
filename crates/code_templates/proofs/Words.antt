-- A filled row says its operator.
use Rattle.std.proofs.Common.{◌≡◌, ℕ, zero, suc, ◌+◌, ◌*◌, ◌/◌, ◌%◌, ◌^◌, ◌<◌, ◌≤◌, List, [], ◌∷◌, ◌++◌, refl, sym, ap, subst, ◌∙◌, arith, Option, Some, None, length, map, take, get_or}
use Rattle.std.specs.Prelude.{All, slice_get, slice_set, slice_index}
use Rattle.std.proofs.lemmas.List.{append-nil}
use Rattle.um_word.specs.declared.op.Op.{Op}
use Rattle.um_word.specs.declared.op.Op.TheVariants.{Move, Set}
use Rattle.um_word.specs.Operators.{decode_word, operators}
use Rattle.um_word.specs.Table.{op_of}
use Rattle.code_templates.specs.Lines.{StandsAt}
use Rattle.code_templates.specs.declared.template.Hole.{Hole}
use Rattle.code_templates.specs.declared.template.Hole.TheVariants.{Empty, Value}
use Rattle.code_templates.specs.declared.template.Row.{Row}
use Rattle.code_templates.specs.Rows.{filled_by, filled, FitsHole, HoleFits, row_said, says, Say}

-- one more element of a list that is a map of another so far
pub take_set_map : {A : Type 0} (f : A → ℕ) (ws : List ℕ) (rs : List A) (i : ℕ) (d : A) → i < length rs → length ws ≡ length rs → take i ws ≡ map f (take i rs) → take (i + 1) (slice_set ws i (f (get_or rs i d))) ≡ map f (take (i + 1) rs)
take_set_map f [] [] i d lt l e = absurd (omega arith)
take_set_map f (w ∷ ws) [] i d lt l e = absurd (omega arith)
take_set_map f [] (r ∷ rs) i d lt l e = cc
take_set_map f (w ∷ ws) (r ∷ rs) zero d lt l e = refl
take_set_map f (w ∷ ws) (r ∷ rs) (suc i) d lt l e =
    let k : suc i + 1 ≡ suc (i + 1) = omega arith in
    rw k (let h : w ≡ f r = cc in let t : take i ws ≡ map f (take i rs) = cc in let m : length ws ≡ length rs = omega arith in
    let n = take_set_map f ws rs i d (omega arith) m t in λ j. h j ∷ n j)

pub take_all : {A : Type 0} (xs : List A) (n : ℕ) → length xs ≤ n → take n xs ≡ xs
take_all [] zero h = refl
take_all [] (suc n) h = refl
take_all (x ∷ xs) zero h = absurd (omega arith)
take_all (x ∷ xs) (suc n) h = let t = take_all xs n (omega arith) in λ j. x ∷ t j

-- an Orthography's word with another value
set_word : (a v : ℕ) → a < 8 → v < 2 ^ 25 → decode_word (13 * 2 ^ 28 + a * 2 ^ 25 + v) ≡ Some (Set a v)
set_word a v ha hv =
    let word = 13 * 2 ^ 28 + a * 2 ^ 25 + v in
    let number : word / 2 ^ 28 ≡ 13 = omega arith in
    let register : word / 2 ^ 25 % 8 ≡ a = omega arith in
    let value : word % 2 ^ 25 ≡ v = omega arith in
    let e : slice_get (operators (word / 64 % 8) (word / 8 % 8) (word % 8) (word / 2 ^ 25 % 8) (word % 2 ^ 25)) (word / 2 ^ 28) ≡ Some (Set (word / 2 ^ 25 % 8) (word % 2 ^ 25)) =
    ap (slice_get (operators (word / 64 % 8) (word / 8 % 8) (word % 8) (word / 2 ^ 25 % 8) (word % 2 ^ 25))) number in
    e ∙ (λ i. Some (Set (register i) (value i)))

-- one more than the register of an Orthography
abbrev tag : Option Op → ℕ
tag (Some (Set a value)) = suc a
tag _ = 0

not_set : {r : ℕ} → 0 ≡ suc r → ⊥
not_set e = omega (arith, e)

suc_same : {x y : ℕ} → suc x ≡ suc y → x ≡ y
suc_same e = omega (arith, e)

-- Orthography is operator 13
set_number : (a b c high value number r v : ℕ) → slice_get (operators a b c high value) number ≡ Some (Set r v) → (number ≡ 13) × (high ≡ r)
set_number a b c high value zero r v e = absurd (not_set (ap tag e))
set_number a b c high value (suc zero) r v e = absurd (not_set (ap tag e))
set_number a b c high value (suc (suc zero)) r v e = absurd (not_set (ap tag e))
set_number a b c high value (suc (suc (suc zero))) r v e = absurd (not_set (ap tag e))
set_number a b c high value (suc (suc (suc (suc zero)))) r v e = absurd (not_set (ap tag e))
set_number a b c high value (suc (suc (suc (suc (suc zero))))) r v e = absurd (not_set (ap tag e))
set_number a b c high value (suc (suc (suc (suc (suc (suc zero)))))) r v e = absurd (not_set (ap tag e))
set_number a b c high value (suc (suc (suc (suc (suc (suc (suc zero))))))) r v e = absurd (not_set (ap tag e))
set_number a b c high value (suc (suc (suc (suc (suc (suc (suc (suc zero)))))))) r v e = absurd (not_set (ap tag e))
set_number a b c high value (suc (suc (suc (suc (suc (suc (suc (suc (suc zero))))))))) r v e = absurd (not_set (ap tag e))
set_number a b c high value (suc (suc (suc (suc (suc (suc (suc (suc (suc (suc zero)))))))))) r v e = absurd (not_set (ap tag e))
set_number a b c high value (suc (suc (suc (suc (suc (suc (suc (suc (suc (suc (suc zero))))))))))) r v e = absurd (not_set (ap tag e))
set_number a b c high value (suc (suc (suc (suc (suc (suc (suc (suc (suc (suc (suc (suc zero)))))))))))) r v e = absurd (not_set (ap tag e))
set_number a b c high value (suc (suc (suc (suc (suc (suc (suc (suc (suc (suc (suc (suc (suc zero))))))))))))) r v e = (refl, suc_same (ap tag e))
set_number a b c high value (suc (suc (suc (suc (suc (suc (suc (suc (suc (suc (suc (suc (suc (suc n)))))))))))))) r v e = absurd (not_set (ap tag e))

with_hole : (word number : ℕ) (values : List ℕ) (decoded : Option Op) (op : Op) → decode_word word ≡ decoded → slice_index values number < 2 ^ 25 →
    row_said (Value number) decoded values ≡ Some op → decode_word (word / 2 ^ 25 * 2 ^ 25 + slice_index values number) ≡ Some op
with_hole word number values None op d fits e = cc
with_hole word number values (Some (Set a value)) op d fits e =
    let set = set_number (word / 2 ^ 6 % 8) (word / 2 ^ 3 % 8) (word % 8) (word / 2 ^ 25 % 8) (word % 2 ^ 25) (word / 2 ^ 28) a value d in
    let number_is = set.0 in
    let register_is = set.1 in
    let small : a < 8 = omega (arith, register_is) in
    let same : word / 2 ^ 25 * 2 ^ 25 + slice_index values number ≡ 13 * 2 ^ 28 + a * 2 ^ 25 + slice_index values number = omega (arith, number_is, register_is) in
    ap decode_word same ∙ set_word a (slice_index values number) small fits ∙ e
with_hole word number values (Some (Move a b c)) op d fits e = cc
with_hole word number values (Some _) op d fits e = cc

said : (hole : Hole) (word : ℕ) (values : List ℕ) (op : Op) → FitsHole hole values → row_said hole (decode_word word) values ≡ Some op → decode_word (filled_by hole word values) ≡ Some op
said Empty word values op fits e = e
said (Value number) word values op fits e = with_hole word number values (decode_word word) op refl fits.1 e

-- the word of a row decodes to the operator that the row says
pub filled_says : (values : List ℕ) (row : Row) (op : Op) → HoleFits values row → says values row ≡ Some op → decode_word (filled values row) ≡ Some op
filled_says values row op fits e = said row.hole row.word values op fits e

all_rest : {X : Type 0} (P : X → Type 0) (x : X) (xs : List X) → All P (x ∷ xs) → P x × All P xs
all_rest P x xs h = (h 0 x (omega arith), λ k d lt. h (suc k) d (omega (arith, lt)))

-- so do all words of a filled template
pub filled_say : (values : List ℕ) (rows : List Row) (ops : List Op) → All (HoleFits values) rows → Say rows values ops →
    map decode_word (map (filled values) rows) ≡ map Some ops
filled_say values [] [] h e = refl
filled_say values [] (op ∷ ops) h e = cc
filled_say values (row ∷ rows) [] h e = cc
filled_say values (row ∷ rows) (op ∷ ops) h e =
    let here : says values row ≡ Some op = cc in
    let rest : map (says values) rows ≡ map Some ops = cc in
    let all = all_rest (HoleFits values) row rows h in
    let one = filled_says values row op all.0 here in
    let more = filled_say values rows ops all.1 rest in
    λ i. one i ∷ more i

get_seam : (front : List ℕ) (x : ℕ) (back : List ℕ) → slice_get (front ++ x ∷ back) (length front) ≡ Some x
get_seam [] x back = refl
get_seam (y ∷ front) x back = get_seam front x back

push_front : (front : List ℕ) (x : ℕ) (xs : List ℕ) → front ++ x ∷ xs ≡ (front ++ x ∷ []) ++ xs
push_front [] x xs = refl
push_front (y ∷ front) x xs = ap (λ zs. y ∷ zs) (push_front front x xs)

length_push : (front : List ℕ) (x : ℕ) → length (front ++ x ∷ []) ≡ length front + 1
length_push [] x = refl
length_push (y ∷ front) x = let e = length_push front x in omega (arith, e)

-- operators stand where their words do
pub words_stand : (front words back : List ℕ) (ops : List Op) → map decode_word words ≡ map Some ops → StandsAt (front ++ (words ++ back)) (length front) ops
words_stand front words back [] e = tt
words_stand front [] back (op ∷ ops) e = cc
words_stand front (word ∷ words) back (op ∷ ops) e =
    let here : decode_word word ≡ Some op = cc in
    let rest : map decode_word words ≡ map Some ops = cc in (
      ap op_of (get_seam front word (words ++ back)) ∙ here,
      subst (λ n. StandsAt (front ++ word ∷ (words ++ back)) n ops) (length_push front word)
          (subst (λ ws. StandsAt ws (length (front ++ word ∷ [])) ops) (sym (push_front front word (words ++ back)))
          (words_stand (front ++ word ∷ []) words back ops rest)),
    )

-- the words of a filled template say its operators
pub filled_stand : (words values : List ℕ) (rows : List Row) (ops : List Op) → words ≡ map (filled values) rows →
    All (HoleFits values) rows → Say rows values ops → StandsAt words 0 ops
filled_stand words values rows ops are fits say =
    subst (λ ws. StandsAt ws 0 ops) (append-nil words)
    (words_stand [] words [] ops (ap (map decode_word) are ∙ filled_say values rows ops fits say))
