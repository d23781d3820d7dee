-- What code says when words are added.
use Rattle.std.specs.Prelude.{◌≡◌, ℕ, zero, suc, ◌+◌, ◌-◌, ◌++◌, List, [], ◌∷◌, length, map, take, All, Option, Some, None, Result, OnOk, IfSome, slice_get, slice_index_or}
use Rattle.std.proofs.Common.{refl, sym, ◌∙◌, ap, subst, arith, ◌<◌, ◌≤◌, inl, inr, length-append}
use Rattle.std.proofs.lemmas.List.{map-append, append_assoc, append-nil, length-map}
use Rattle.std.proofs.lemmas.Result.{on_ok_weaker}
use Rattle.um_word.specs.declared.op.Op.{Op}
use Rattle.um_word.specs.Operators.{decode_word}
use Rattle.code_templates.specs.declared.template.Row.{Row}
use Rattle.code_templates.specs.Rows.{filled, HoleFits, Say}
use Rattle.code_templates.proofs.Words.{filled_say}
use Rattle.lower_emit.specs.declared.code.Code.{Code}
use Rattle.two_d.specs.Trees.{Tree, pair, inl as inl_of, inr as inr_of}
use Rattle.code_templates.specs.Templates.{make_cell, set_slot, choose_slot}
use Rattle.lower_emit.specs.Layouts.{zero_slot, Layout, stuck_slot}
use Rattle.lower_emit.specs.Expressions.{past, expression_slot, code_of}
use Rattle.lower_emit.proofs.Placed.{IsWhere, is_where, past-grows}
use Rattle.std.proofs.lemmas.Option.{slice_get-get_or}
use Rattle.lower_emit.specs.Blocks.{read_exit, read_exits, marks_code}
use Rattle.lower_emit.specs.inner.Codes.{AddsOps, Says, AreWithin}

pub adds_filled : (old new words values : List ℕ) (rows : List Row) → new ≡ old ++ words → words ≡ map (filled values) rows → All (HoleFits values) rows →
    (ops : List Op) → Say rows values ops → map decode_word new ≡ map decode_word old ++ map Some ops
adds_filled old new words values rows is are fits ops say =
    ap (map decode_word) is ∙ (map-append decode_word old words
    ∙ ap (λ ws. map decode_word old ++ ws) (ap (map decode_word) are ∙ filled_say values rows ops fits say))

pub adds_none : (old : Code) → AddsOps old old []
adds_none old = sym (append-nil (map decode_word old.words.items))

pub adds_then : (a b c : Code) (xs ys : List Op) → AddsOps a b xs → AddsOps b c ys → AddsOps a c (xs ++ ys)
adds_then a b c xs ys h k =
    k ∙ (ap (λ ws. ws ++ map Some ys) h ∙ (append_assoc (map decode_word a.words.items) (map Some xs) (map Some ys)
    ∙ ap (λ ws. map decode_word a.words.items ++ ws) (sym (map-append Some xs ys))))

-- so many words more
pub adds_length : (a b : Code) (xs : List Op) → AddsOps a b xs → length b.words.items ≡ length a.words.items + length xs
adds_length a b xs h =
    let n = ap length h in
    omega (arith, n, length-map b.words.items decode_word, length-map a.words.items decode_word, length-append (map decode_word a.words.items) (map Some xs), length-map xs Some)

pub adds_said : {T E : Type 0} (r : Result T E) (old new : Code) (rows : List Row) (values : List ℕ) (ops : List Op) → OnOk r ((ops : List Op) → Say rows values ops → AddsOps old new ops) → Say rows values ops → OnOk r (AddsOps old new ops)
adds_said r old new rows values ops h say = on_ok_weaker r (λ (k : (ops : List Op) → Say rows values ops → AddsOps old new ops). k ops say) h

-- the code of an expression, from that of its parts
pub adds_pair : (c0 c1 c2 c3 : Code) (x t u t' u' : Tree) (n w free s1 f1 s2 f2 : ℕ) → x ≡ pair t u → t' ≡ t → u' ≡ u → s1 ≡ expression_slot t' n w free → f1 ≡ past t' free → s2 ≡ expression_slot u' n w f1 → f2 ≡ past u' f1 →
    AddsOps c0 c1 (code_of t' n w free) → AddsOps c1 c2 (code_of u' n w f1) → AddsOps c2 c3 (make_cell s1 s2 2 3 f2) → AddsOps c0 c3 (code_of x n w free)
adds_pair c0 c1 c2 c3 x t u t' u' n w free s1 f1 s2 f2 is et eu es1 ef1 es2 ef2 h k l =
    subst (AddsOps c0 c3) same (adds_then c0 c1 c3 (code_of t' n w free) (code_of u' n w f1 ++ make_cell s1 s2 2 3 f2) h (adds_then c1 c2 c3 (code_of u' n w f1) (make_cell s1 s2 2 3 f2) k l))
  where
    same : code_of t' n w free ++ (code_of u' n w f1 ++ make_cell s1 s2 2 3 f2) ≡ code_of x n w free
    same = rw (is, ← et, ← eu, ef2, es2, ef1, es1) refl

pub adds_inl : (c0 c1 c2 : Code) (x t t' : Tree) (n w free s1 f1 : ℕ) → x ≡ inl_of t → t' ≡ t → s1 ≡ expression_slot t' n w free → f1 ≡ past t' free →
    AddsOps c0 c1 (code_of t' n w free) → AddsOps c1 c2 (make_cell s1 zero_slot 0 1 f1) → AddsOps c0 c2 (code_of x n w free)
adds_inl c0 c1 c2 x t t' n w free s1 f1 is et es1 ef1 h k =
    subst (AddsOps c0 c2) same (adds_then c0 c1 c2 (code_of t' n w free) (make_cell s1 zero_slot 0 1 f1) h k)
  where
    same : code_of t' n w free ++ make_cell s1 zero_slot 0 1 f1 ≡ code_of x n w free
    same = rw (is, ← et, ef1, es1) refl

pub adds_inr : (c0 c1 c2 : Code) (x t t' : Tree) (n w free s1 f1 : ℕ) → x ≡ inr_of t → t' ≡ t → s1 ≡ expression_slot t' n w free → f1 ≡ past t' free →
    AddsOps c0 c1 (code_of t' n w free) → AddsOps c1 c2 (make_cell zero_slot s1 0 1 f1) → AddsOps c0 c2 (code_of x n w free)
adds_inr c0 c1 c2 x t t' n w free s1 f1 is et es1 ef1 h k =
    subst (AddsOps c0 c2) same (adds_then c0 c1 c2 (code_of t' n w free) (make_cell zero_slot s1 0 1 f1) h k)
  where
    same : code_of t' n w free ++ make_cell zero_slot s1 0 1 f1 ≡ code_of x n w free
    same = rw (is, ← et, ef1, es1) refl

-- a slot of an expression's code
pub slot_small : (x : Tree) (n w free bound : ℕ) → n < bound → w < bound → past x free ≤ bound → expression_slot x n w free < bound
slot_small x n w free bound hn hw h = by (is_where x n w free)
  where
    by : IsWhere x n w free → expression_slot x n w free < bound
    by (inl (has, at)) = omega (arith, at, hn)
    by (inr (inl (has, at))) = omega (arith, at, hw)
    by (inr (inr (low, high))) = omega (arith, high, h)

-- no node takes a slot below the first free one
pub past_grows : (x : Tree) (free : ℕ) → free ≤ past x free
past_grows x free = past-grows x free

-- one exit more
exits_next : (y : Layout) (xs : List (Option ℕ)) (i : ℕ) (x : Option ℕ) → slice_get xs i ≡ Some x → read_exits y (take (i + 1) xs) ≡ read_exits y (take i xs) ++ read_exit y x
exits_next y xs i x e = let one : i + 1 ≡ suc i = omega arith in rw one (by xs i e)
  where
    by : (xs : List (Option ℕ)) (i : ℕ) → slice_get xs i ≡ Some x → read_exits y (take (suc i) xs) ≡ read_exits y (take i xs) ++ read_exit y x
    by [] i e = absurd (cc)
    by (z ∷ xs) zero e = let f : z ≡ x = cc in ap (λ o. read_exit y o ++ []) f ∙ append-nil (read_exit y x)
    by (z ∷ xs) (suc i) e = ap (λ ops. read_exit y z ++ ops) (by xs i e) ∙ sym (append_assoc (read_exit y z) (read_exits y (take i xs)) (read_exit y x))

pub adds_exit : (a b c : Code) (y : Layout) (xs items : List (Option ℕ)) (i : ℕ) → items ≡ xs → i < length items → AddsOps a b (read_exits y (take i xs)) → AddsOps b c (read_exit y (slice_index_or items i None)) →
    AddsOps a c (read_exits y (take (i + 1) xs))
adds_exit a b c y xs items i are lt h k =
    let here : slice_get xs i ≡ Some (slice_index_or items i None) = subst (λ (xs : List (Option ℕ)). slice_get xs i ≡ Some (slice_index_or items i None)) are (slice_get-get_or items i None lt) in
    subst (AddsOps a c) (sym (exits_next y xs i _ here)) (adds_then a b c (read_exits y (take i xs)) (read_exit y (slice_index_or items i None)) h k)

pub within_at : (wires : ℕ) (xs items : List (Option ℕ)) (i : ℕ) → items ≡ xs → i < length items → AreWithin wires xs → IfSome (slice_index_or items i None) (λ k. k < wires)
within_at wires xs items i are lt h = by (slice_index_or items i None) (subst (λ (xs : List (Option ℕ)). slice_get xs i ≡ Some (slice_index_or items i None)) are (slice_get-get_or items i None lt))
  where
    by : (o : Option ℕ) → slice_get xs i ≡ Some o → IfSome o (λ k. k < wires)
    by None e = tt
    by (Some k) e = h i k e

pub says_length : (code : Code) (ops : List Op) → Says code ops → length code.words.items ≡ length ops
says_length code ops h =
    let n = ap length h in
    omega (arith, n, length-map code.words.items decode_word, length-map ops Some)

-- what is added to no code, the code says
pub says_new : (old new : Code) (ops : List Op) → old.words.items ≡ [] → AddsOps old new ops → Says new ops
says_new old new ops e h = h ∙ ap (λ (words : List ℕ). map decode_word words ++ map Some ops) e

-- other code is added
pub adds_other : (old new other : Code) (ops : List Op) → new.words.items ≡ old.words.items ++ other.words.items → Says other ops → AddsOps old new ops
adds_other old new other ops e h =
    ap (map decode_word) e ∙ (map-append decode_word old.words.items other.words.items ∙ ap (λ said. map decode_word old.words.items ++ said) h)

-- the same operators, said otherwise
pub adds_as : (a b : Code) (xs ys : List Op) → xs ≡ ys → AddsOps a b xs → AddsOps a b ys
adds_as a b xs ys e h = subst (AddsOps a b) e h

pub on_ok_as : {T E : Type 0} (r : Result T E) (a b : Code) (xs ys : List Op) → xs ≡ ys → OnOk r (AddsOps a b xs) → OnOk r (AddsOps a b ys)
on_ok_as r a b xs ys e h = subst (λ (zs : List Op). OnOk r (AddsOps a b zs)) e h

pub same_choose : (c a b d c' a' b' d' : ℕ) → c ≡ c' → a ≡ a' → b ≡ b' → d ≡ d' → choose_slot c a b d ≡ choose_slot c' a' b' d'
same_choose c a b d c' a' b' d' ec ea eb ed = rw (ec, ea, eb, ed) refl

pub same_set : (k d d' : ℕ) → d ≡ d' → set_slot k d ≡ set_slot k d'
same_set k d d' e = rw e refl

-- one mark more, and one less to come
pub marks_next : (y : Layout) (a b : Code) (whole : List (Option Op)) (n d slot : ℕ) → d < n → slot ≡ stuck_slot y (n - 1 - d) → AddsOps a b (choose_slot slot slot 6 6) →
    map decode_word a.words.items ++ map Some (marks_code y (n - d)) ≡ whole → map decode_word b.words.items ++ map Some (marks_code y (n - (d + 1))) ≡ whole
marks_next y a b whole n d slot lt is adds e =
    let k = n - (d + 1) in
    let here : slot ≡ stuck_slot y k = omega (arith, is, lt) in
    let next : n - d ≡ suc k = omega (arith, lt) in
    let one = adds_as a b (choose_slot slot slot 6 6) (choose_slot (stuck_slot y k) (stuck_slot y k) 6 6) (same_choose slot slot 6 6 (stuck_slot y k) (stuck_slot y k) 6 6 here here refl refl) adds in
    let was : map decode_word a.words.items ++ map Some (marks_code y (suc k)) ≡ whole = subst (λ j. map decode_word a.words.items ++ map Some (marks_code y j) ≡ whole) next e in
    ap (λ ws. ws ++ map Some (marks_code y k)) one
    ∙ (append_assoc (map decode_word a.words.items) (map Some (choose_slot (stuck_slot y k) (stuck_slot y k) 6 6)) (map Some (marks_code y k)) ∙ was)

-- the same where the last of them may fail
pub adds_last : {T E : Type 0} (r : Result T E) (a b c : Code) (xs ys : List Op) → AddsOps a b xs → OnOk r (AddsOps b c ys) → OnOk r (AddsOps a c (xs ++ ys))
adds_last r a b c xs ys h l = on_ok_weaker r (λ (k : AddsOps b c ys). adds_then a b c xs ys h k) l
