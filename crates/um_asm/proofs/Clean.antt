-- Texts made of clean tokens are read back.
use Rattle.std.proofs.Common.{◌≡◌, ℕ, suc, ◌<◌, ◌==◌, nat_lt, Bool, true, false, not, cond, ◌&&◌, List, [], ◌∷◌, ◌++◌, length, take, drop, reverse, codes, Option, Some, None, refl, ◌∙◌, ap, arith, append_assoc, add-one, length-append}
use Rattle.std.specs.List.{list_all, position_or_len, AllByRecursion}
use Rattle.std.specs.Str.{bytes_eq}
use Rattle.std.specs.Option.{option_map}
use Rattle.std.proofs.lemmas.List.{reverse-append, reverse-reverse, append-nil, length-reverse}
use Rattle.um_asm.specs.declared.line.Line.{Line}
use Rattle.um_asm.specs.declared.line.Line.TheVariants.{Code}
use Rattle.um_asm.specs.Tokens.{before, behind_byte, is_space, is_printable, trimmed_start, trimmed_end, trimmed}
use Rattle.um_asm.specs.Lines.{operands_in, array_line, end_at, statement_of, unlabelled_at, parsed_line}
use Rattle.um_asm.specs.Listing.{more_operands}
use Rattle.um_asm.proofs.Cuts.{before_none, operands-cut}

-- no colon and no semicolon
abbrev pub is_plain : ℕ → Bool
is_plain b = is_printable b && (not (b == 58) && not (b == 59))

-- and no space and no comma
abbrev pub is_clean : ℕ → Bool
is_clean b = is_plain b && (not (b == 32) && not (b == 44))

and_fst : (x y : Bool) → (x && y) ≡ true → x ≡ true
and_fst true y h = refl
and_fst false y h = h

and_snd : (x y : Bool) → (x && y) ≡ true → y ≡ true
and_snd true y h = h
and_snd false y h = cc

and_both : (x y : Bool) → x ≡ true → y ≡ true → (x && y) ≡ true
and_both true y h k = k
and_both false y h k = cc

all_weaker : (p q : ℕ → Bool) → ((b : ℕ) → p b ≡ true → q b ≡ true) → (text : List ℕ) → list_all p text ≡ true → list_all q text ≡ true
all_weaker p q weaker [] h = refl
all_weaker p q weaker (b ∷ bs) h =
    and_both (q b) (list_all q bs) (weaker b (and_fst (p b) (list_all p bs) h)) (all_weaker p q weaker bs (and_snd (p b) (list_all p bs) h))

all_joined : (p : ℕ → Bool) (a b : List ℕ) → list_all p a ≡ true → list_all p b ≡ true → list_all p (a ++ b) ≡ true
all_joined p [] b h k = k
all_joined p (x ∷ xs) b h k = and_both (p x) (list_all p (xs ++ b)) (and_fst (p x) (list_all p xs) h) (all_joined p xs b (and_snd (p x) (list_all p xs) h) k)

abbrev lacks : ℕ → List ℕ → Bool
lacks mark text = list_all (λ b. not (b == mark)) text

place_of : (mark : ℕ) (text rest : List ℕ) → lacks mark text ≡ true → position_or_len (λ b. b == mark) (text ++ mark ∷ rest) ≡ length text
place_of mark [] rest h = let same : (mark == mark) ≡ true = grind arith in rw same refl
place_of mark (b ∷ bs) rest h =
    let other : not (b == mark) ≡ true = and_fst (not (b == mark)) (lacks mark bs) h in
    rw (other, place_of mark bs rest (and_snd (not (b == mark)) (lacks mark bs) h)) (omega arith)

no_place : (mark : ℕ) (text : List ℕ) → lacks mark text ≡ true → position_or_len (λ b. b == mark) text ≡ length text
no_place mark [] h = refl
no_place mark (b ∷ bs) h =
    let other : not (b == mark) ≡ true = and_fst (not (b == mark)) (lacks mark bs) h in
    rw (other, no_place mark bs (and_snd (not (b == mark)) (lacks mark bs) h)) (omega arith)

take_front : (text rest : List ℕ) → take (length text) (text ++ rest) ≡ text
take_front [] rest = refl
take_front (b ∷ bs) rest = ap (λ t. b ∷ t) (take_front bs rest)

drop_front : (text : List ℕ) (mark : ℕ) (rest : List ℕ) → drop (suc (length text)) (text ++ mark ∷ rest) ≡ rest
drop_front [] mark rest = refl
drop_front (b ∷ bs) mark rest = drop_front bs mark rest

pub before_mark : (mark : ℕ) (text rest : List ℕ) → lacks mark text ≡ true → before mark (text ++ mark ∷ rest) ≡ text
before_mark mark text rest h = rw (place_of mark text rest h) (take_front text (mark ∷ rest))

pub after_mark : (mark : ℕ) (text rest : List ℕ) → lacks mark text ≡ true → behind_byte mark (text ++ mark ∷ rest) ≡ Some rest
after_mark mark text rest h =
    let inside : nat_lt (length text) (length (text ++ mark ∷ rest)) ≡ true = grind (arith, length-append text (mark ∷ rest)) in
    rw (place_of mark text rest h, inside, add-one) (ap Some (drop_front text mark rest))

pub after_nothing : (mark : ℕ) (text : List ℕ) → lacks mark text ≡ true → behind_byte mark text ≡ None
after_nothing mark text h =
    let outside : nat_lt (length text) (length text) ≡ false = grind arith in
    rw (no_place mark text h, outside) refl

pub before_nothing : (mark : ℕ) (text : List ℕ) → lacks mark text ≡ true → before mark text ≡ text
before_nothing mark text h = before_none mark text (after_nothing mark text h)

not_space : (b : ℕ) → not (b == 32) ≡ true → is_space b ≡ false
not_space b h = grind (arith, h)

-- a text that begins without a space
start_same : (front rest : List ℕ) → 0 < length front → lacks 32 front ≡ true → trimmed_start (front ++ rest) ≡ front ++ rest
start_same [] rest some h = absurd (omega (arith, some))
start_same (b ∷ bs) rest some h = rw (not_space b (and_fst (not (b == 32)) (lacks 32 bs) h)) refl

all_reversed : (p : ℕ → Bool) (text : List ℕ) → list_all p text ≡ true → list_all p (reverse text) ≡ true
all_reversed p [] h = refl
all_reversed p (b ∷ bs) h =
    let last : list_all p (b ∷ []) ≡ true = and_both (p b) true (and_fst (p b) (list_all p bs) h) refl in
    rw (reverse-append (b ∷ []) bs) (all_joined p (reverse bs) (b ∷ []) (all_reversed p bs (and_snd (p b) (list_all p bs) h)) last)

-- a text that ends without a space
end_same : (front back : List ℕ) → 0 < length back → lacks 32 back ≡ true → trimmed_end (front ++ back) ≡ front ++ back
end_same front back some h =
    let same : trimmed_start (reverse back ++ reverse front) ≡ reverse back ++ reverse front =
    start_same (reverse back) (reverse front) (omega (arith, length-reverse back)) (all_reversed (λ b. not (b == 32)) back h) in
    rw (reverse-append front back, same, ← reverse-append front back) (reverse-reverse (front ++ back))

-- a token
pub record Clean (token : List ℕ) : Type 0 where
  pub some : 0 < length token
  pub clean : list_all is_clean token ≡ true

lacks_of : (mark : ℕ) → ((b : ℕ) → is_clean b ≡ true → not (b == mark) ≡ true) → (token : List ℕ) → Clean token → lacks mark token ≡ true
lacks_of mark weaker token c = all_weaker is_clean (λ b. not (b == mark)) weaker token c.clean

no_space : (b : ℕ) → is_clean b ≡ true → not (b == 32) ≡ true
no_space b h = and_fst (not (b == 32)) (not (b == 44)) (and_snd (is_plain b) (not (b == 32) && not (b == 44)) h)

no_comma : (b : ℕ) → is_clean b ≡ true → not (b == 44) ≡ true
no_comma b h = and_snd (not (b == 32)) (not (b == 44)) (and_snd (is_plain b) (not (b == 32) && not (b == 44)) h)

plain_of : (b : ℕ) → is_clean b ≡ true → is_plain b ≡ true
plain_of b h = and_fst (is_plain b) (not (b == 32) && not (b == 44)) h

no_colon : (b : ℕ) → is_plain b ≡ true → not (b == 58) ≡ true
no_colon b h = and_fst (not (b == 58)) (not (b == 59)) (and_snd (is_printable b) (not (b == 58) && not (b == 59)) h)

no_semicolon : (b : ℕ) → is_plain b ≡ true → not (b == 59) ≡ true
no_semicolon b h = and_snd (not (b == 58)) (not (b == 59)) (and_snd (is_printable b) (not (b == 58) && not (b == 59)) h)

printable_of : (b : ℕ) → is_plain b ≡ true → is_printable b ≡ true
printable_of b h = and_fst (is_printable b) (not (b == 58) && not (b == 59)) h

trimmed_token : (token : List ℕ) → Clean token → trimmed token ≡ token
trimmed_token token c =
    let h = lacks_of 32 no_space token c in
    let start : trimmed_start token ≡ token = rw (← append-nil token) (start_same token [] c.some h) in
    rw start (end_same [] token c.some h)

-- a token behind a space
trimmed_behind : (token : List ℕ) → Clean token → trimmed (32 ∷ token) ≡ token
trimmed_behind token c = trimmed_token token c

operands_read : (lead first : List ℕ) (others : List (List ℕ)) → trimmed (lead ++ first) ≡ first → lacks 44 (lead ++ first) ≡ true → AllByRecursion Clean others
    → operands_in (Some ((lead ++ first) ++ more_operands others)) ≡ first ∷ others
operands_read lead first [] same uncut all =
    rw (append-nil (lead ++ first), operands-cut (lead ++ first), before_nothing 44 (lead ++ first) uncut, after_nothing 44 (lead ++ first) uncut, same) refl
operands_read lead first (other ∷ others) same uncut (c, all) =
    let rest = 32 ∷ (other ++ more_operands others) in
    let text = (lead ++ first) ++ (44 ∷ rest) in
    rw (operands-cut text, before_mark 44 (lead ++ first) rest uncut, after_mark 44 (lead ++ first) rest uncut, same)
    (ap (λ t. first ∷ t) (operands_read (32 ∷ []) other others (trimmed_behind other c) (lacks_of 44 no_comma other c) all))

plain_more : (others : List (List ℕ)) → AllByRecursion Clean others → list_all is_plain (more_operands others) ≡ true
plain_more [] all = refl
plain_more (other ∷ others) (c, all) = all_joined is_plain other (more_operands others) (all_weaker is_clean is_plain plain_of other c.clean) (plain_more others all)

-- the last token
last_token : (lead first : List ℕ) (others : List (List ℕ)) → Clean first → AllByRecursion Clean others
    → (front : List ℕ) × (back : List ℕ) × Clean back × (lead ++ (first ++ more_operands others) ≡ front ++ back)
last_token lead first [] c all = (lead, first, c, ap (λ t. lead ++ t) (append-nil first))
last_token lead first (other ∷ others) c (d, all) =
    let last = last_token (lead ++ (first ++ (44 ∷ 32 ∷ []))) other others d all in
    let same : lead ++ (first ++ (44 ∷ 32 ∷ (other ++ more_operands others))) ≡ (lead ++ (first ++ (44 ∷ 32 ∷ []))) ++ (other ++ more_operands others) = simp append_assoc in
    (last.0, last.1, last.2, same ∙ last.3)

end_well : (text front back : List ℕ) → text ≡ front ++ back → Clean back → trimmed_end text ≡ text
end_well text front back e c = rw e (end_same front back c.some (lacks_of 32 no_space back c))

-- what a word and its operands say
abbrev pub read_as : List ℕ → List (List ℕ) → Option (Line (List ℕ))
read_as word operands =
    cond (bytes_eq word (codes ".array")) (array_line operands)
    (cond (bytes_eq word (codes ".end")) (end_at operands) (option_map (λ s. Code None (Some s)) (statement_of word operands)))

-- a plain text is read as it is
plain_line : (text : List ℕ) → list_all is_plain text ≡ true → trimmed text ≡ text → parsed_line text ≡ unlabelled_at text
plain_line text plain same =
    let printable = all_weaker is_plain is_printable printable_of text plain in
    let uncommented = before_nothing 59 text (all_weaker is_plain (λ b. not (b == 59)) no_semicolon text plain) in
    let unlabelled = after_nothing 58 text (all_weaker is_plain (λ b. not (b == 58)) no_colon text plain) in
    rw (printable, uncommented, unlabelled, same) refl

pub line_spaced : (word first : List ℕ) (others : List (List ℕ)) → Clean word → Clean first → AllByRecursion Clean others
    → parsed_line (word ++ 32 ∷ (first ++ more_operands others)) ≡ read_as word (first ∷ others)
line_spaced word first others c d all =
    let rest = first ++ more_operands others in
    let text = word ++ 32 ∷ rest in
    let plain_rest : list_all is_plain rest ≡ true = all_joined is_plain first (more_operands others) (all_weaker is_clean is_plain plain_of first d.clean) (plain_more others all) in
    let plain : list_all is_plain text ≡ true = all_joined is_plain word (32 ∷ rest) (all_weaker is_clean is_plain plain_of word c.clean) plain_rest in
    let start : trimmed_start text ≡ text = start_same word (32 ∷ rest) c.some (lacks_of 32 no_space word c) in
    let last = last_token (word ++ (32 ∷ [])) first others d all in
    let seam : text ≡ (word ++ (32 ∷ [])) ++ rest = simp append_assoc in
    let whole : trimmed text ≡ text = rw start (end_well text last.0 last.1 (seam ∙ last.3) last.2) in
    let front = before_mark 32 word rest (lacks_of 32 no_space word c) in
    let back = after_mark 32 word rest (lacks_of 32 no_space word c) in
    let operands : operands_in (Some rest) ≡ first ∷ others = operands_read [] first others (trimmed_token first d) (lacks_of 44 no_comma first d) all in
    let some : (length text == 0) ≡ false = grind (arith, length-append word (32 ∷ rest)) in
    plain_line text plain whole ∙ rw (front, back, operands, some) refl

pub line_alone : (word : List ℕ) → Clean word → parsed_line word ≡ read_as word []
line_alone word c =
    let plain : list_all is_plain word ≡ true = all_weaker is_clean is_plain plain_of word c.clean in
    let front = before_nothing 32 word (lacks_of 32 no_space word c) in
    let back = after_nothing 32 word (lacks_of 32 no_space word c) in
    let some : (length word == 0) ≡ false = grind (arith, c.some) in
    plain_line word plain (trimmed_token word c) ∙ rw (front, back, some) refl
