-- The grammar of commands as regular parts: a choice of tokens, and what follows each.
use Rattle.codex_values.specs.Tokens.{IsWordByte}
use Rattle.std.proofs.Common.{ℕ, zero, suc, inl, inr, List, [], ◌∷◌, arith, All}
use Rattle.std.proofs.lemmas.List.Elements.{recursion_from_All, All-from_recursion}
use Rattle.std.specs.List.{AllByRecursion}
use Rattle.two_d.proofs.Agree.{Part, IsRegular, After, Done, regular_after, regular_done}
use Rattle.two_d.proofs.Heads.{Head, OneHead, regular_head, paren, paren_end, bracket, bracket_end, comma, north, west, left, right, south, east, send, case, of, split, called}
use Rattle.two_d.proofs.Tokens.{Token, symbol, word, quoted, IsProper, OneOf, regular_one_of}
use Rattle.two_d.specs.Names.{IsNameByte, IsName}
use Rattle.two_d.specs.Trees as trees
use Rattle.two_d.specs.Trees.{Tree, Form}
use Rattle.two_d.specs.declared.command.Side.TheVariants.{S, E}
use Rattle.two_d.specs.declared.command.Side.{Side}

-- the tokens that begin an expression of at most d levels
abbrev pub heads : ℕ → List Head
heads zero = north ∷ west ∷ []
heads (suc d) = north ∷ west ∷ paren ∷ left ∷ right ∷ []

-- this token, and then a value
abbrev pub Then : {V : Type 0} → Head → V → Part V
Then h v = After (OneHead (h ∷ [])) (λ _. Done v)

abbrev pub Mapped : {V W : Type 0} → (V → W) → Part V → Part W
Mapped f P = After P (λ v. Done (f v))

-- after `(`, an expression x and this token: `)`, or `,` and a second expression
abbrev pub pair_part : Part Tree → Tree → Head → Part Tree
pair_part Exp x comma = After Exp (λ y. Then paren_end (trees.pair x y))
pair_part Exp x h = Done x

-- after `(` and this token, where Tail is what follows the first token of an expression
abbrev pub paren_part : Part Tree → (Head → Part Tree) → Head → Part Tree
paren_part Exp Tail paren_end = Done trees.unit
paren_part Exp Tail h = After (Tail h) (λ x. After (OneHead (paren_end ∷ comma ∷ [])) (pair_part Exp x))

-- what follows the first token of an expression of at most d levels
unfoldable pub tail_part : ℕ → Head → Part Tree
tail_part d north = Done trees.n
tail_part d west = Done trees.w
tail_part (suc d) left = Mapped trees.inl (After (OneHead (heads d)) (tail_part d))
tail_part (suc d) right = Mapped trees.inr (After (OneHead (heads d)) (tail_part d))
tail_part (suc d) paren = After (OneHead (paren_end ∷ heads d)) (paren_part (After (OneHead (heads d)) (tail_part d)) (tail_part d))
tail_part d h = Done trees.w

-- an expression of at most d levels
abbrev pub exp_part : ℕ → Part Tree
exp_part d = After (OneHead (heads d)) (tail_part d)

abbrev pub side_of : Head → Side
side_of south = S
side_of h = E

abbrev pub other : Side → Head
other S = east
other E = south

abbrev pub others : Side → List Head
others s = other s ∷ []

-- after the `(` of an out, to one of these sides
abbrev pub out_part : ℕ → List Head → Part (Tree × Side)
out_part d sides = After (exp_part d) (λ x. After (OneHead (comma ∷ [])) (λ _. After (OneHead sides) (λ h. Then paren_end (x, side_of h))))

-- after an out to this side and `,`
abbrev pub other_part : ℕ → Side → Part (Tree × Side)
other_part d s = After (OneHead (paren ∷ [])) (λ _. After (out_part d (others s)) (λ o. Then bracket_end o))

-- after an out and this token: `]`, or `,` and a second out
abbrev pub second_part : ℕ → Tree × Side → Head → Part (List (Tree × Side))
second_part d o comma = Mapped (λ p. o ∷ p ∷ []) (other_part d o.1)
second_part d o h = Done (o ∷ [])

-- after `[` and this token
abbrev pub outs_part : ℕ → Head → Part (List (Tree × Side))
outs_part d paren = After (out_part d (south ∷ east ∷ [])) (λ o. After (OneHead (bracket_end ∷ comma ∷ [])) (second_part d o))
outs_part d h = Done []

abbrev pub send_part : ℕ → Part (List (Tree × Side))
send_part d = After (OneHead (bracket ∷ [])) (λ _. After (OneHead (bracket_end ∷ paren ∷ [])) (outs_part d))

abbrev pub case_part : ℕ → Part Form
case_part d = After (exp_part d) (λ x. After (OneHead (of ∷ [])) (λ _. After (OneHead (south ∷ east ∷ [])) (λ s. After (OneHead (comma ∷ [])) (λ _. Mapped (λ t. trees.case x (side_of s) (side_of t)) (OneHead (south ∷ east ∷ []))))))

-- a name, in quotation marks or not
abbrev pub IsNameToken : Token → Type 0
IsNameToken (symbol x) = ⊥
IsNameToken (word xs) = IsName xs
IsNameToken (quoted xs) = IsName xs

abbrev pub name_in : Token → List ℕ
name_in (symbol x) = []
name_in (word xs) = xs
name_in (quoted xs) = xs

abbrev pub name_part : Part (List ℕ)
name_part = Mapped name_in (OneOf IsNameToken)

-- what follows the first word of a command, whose expressions have at most d levels
abbrev pub rest_part : ℕ → Head → Part Form
rest_part d send = Mapped trees.send (send_part d)
rest_part d case = case_part d
rest_part d split = Mapped trees.split (exp_part d)
rest_part d h = Mapped trees.call name_part

abbrev pub command_part : ℕ → Part Form
command_part d = After (OneHead (send ∷ case ∷ split ∷ called ∷ [])) (rest_part d)

-- All of them are regular.
pub regular_heads : (d : ℕ) → IsRegular (OneHead (heads d))
regular_heads zero = regular_head north (west ∷ [])
regular_heads (suc d) = regular_head north (west ∷ paren ∷ left ∷ right ∷ [])

pub regular_then : {V : Type 0} (h : Head) (v : V) → IsRegular (Then h v)
regular_then h v = regular_after (OneHead (h ∷ [])) (λ _. Done v) (regular_head h []) (λ _. regular_done v)

pub regular_mapped : {V W : Type 0} (f : V → W) (P : Part V) → IsRegular P → IsRegular (Mapped f P)
regular_mapped f P r = regular_after P (λ v. Done (f v)) r (λ v. regular_done (f v))

pub regular_pair : (Exp : Part Tree) → IsRegular Exp → (x : Tree) (h : Head) → IsRegular (pair_part Exp x h)
regular_pair Exp r x comma = regular_after Exp (λ y. Then paren_end (trees.pair x y)) r (λ y. regular_then paren_end (trees.pair x y))
regular_pair Exp r x h = regular_done x

pub regular_ended : (Exp : Part Tree) → IsRegular Exp → (x : Tree) → IsRegular (After (OneHead (paren_end ∷ comma ∷ [])) (pair_part Exp x))
regular_ended Exp r x = regular_after (OneHead (paren_end ∷ comma ∷ [])) (pair_part Exp x) (regular_head paren_end (comma ∷ [])) (regular_pair Exp r x)

pub regular_paren : (Exp : Part Tree) (Tail : Head → Part Tree) → IsRegular Exp → ((h : Head) → IsRegular (Tail h)) → (h : Head) → IsRegular (paren_part Exp Tail h)
regular_paren Exp Tail r t paren_end = regular_done trees.unit
regular_paren Exp Tail r t h = regular_after (Tail h) (λ x. After (OneHead (paren_end ∷ comma ∷ [])) (pair_part Exp x)) (t h) (regular_ended Exp r)

pub regular_tail : (d : ℕ) (h : Head) → IsRegular (tail_part d h)
unfolding tail_part
regular_tail d north = regular_done trees.n
regular_tail d west = regular_done trees.w
regular_tail (suc d) left = regular_mapped trees.inl (exp_part d) (regular_after (OneHead (heads d)) (tail_part d) (regular_heads d) (regular_tail d))
regular_tail (suc d) right = regular_mapped trees.inr (exp_part d) (regular_after (OneHead (heads d)) (tail_part d) (regular_heads d) (regular_tail d))
regular_tail (suc d) paren = regular_after (OneHead (paren_end ∷ heads d)) (paren_part (exp_part d) (tail_part d)) (regular_head paren_end (heads d))
    (regular_paren (exp_part d) (tail_part d) (regular_after (OneHead (heads d)) (tail_part d) (regular_heads d) (regular_tail d)) (regular_tail d))
regular_tail d h = regular_done trees.w

pub regular_exp : (d : ℕ) → IsRegular (exp_part d)
regular_exp d = regular_after (OneHead (heads d)) (tail_part d) (regular_heads d) (regular_tail d)

pub regular_out : (d : ℕ) (h : Head) (hs : List Head) → IsRegular (out_part d (h ∷ hs))
regular_out d h hs = regular_after (exp_part d) (λ x. After (OneHead (comma ∷ [])) (λ _. After (OneHead (h ∷ hs)) (λ g. Then paren_end (x, side_of g)))) (regular_exp d) (λ x.
    regular_after (OneHead (comma ∷ [])) (λ _. After (OneHead (h ∷ hs)) (λ g. Then paren_end (x, side_of g))) (regular_head comma []) (λ _.
    regular_after (OneHead (h ∷ hs)) (λ g. Then paren_end (x, side_of g)) (regular_head h hs) (λ g. regular_then paren_end (x, side_of g))))

pub regular_other : (d : ℕ) (s : Side) → IsRegular (other_part d s)
regular_other d s = regular_after (OneHead (paren ∷ [])) (λ _. After (out_part d (others s)) (λ o. Then bracket_end o)) (regular_head paren []) (λ _.
    regular_after (out_part d (others s)) (λ o. Then bracket_end o) (regular_out d (other s) []) (λ o. regular_then bracket_end o))

pub regular_second : (d : ℕ) (o : Tree × Side) (h : Head) → IsRegular (second_part d o h)
regular_second d o comma = regular_mapped (λ p. o ∷ p ∷ []) (other_part d o.1) (regular_other d o.1)
regular_second d o h = regular_done (o ∷ [])

pub regular_outs : (d : ℕ) (h : Head) → IsRegular (outs_part d h)
regular_outs d paren = regular_after (out_part d (south ∷ east ∷ [])) (λ o. After (OneHead (bracket_end ∷ comma ∷ [])) (second_part d o)) (regular_out d south (east ∷ [])) (λ o.
    regular_after (OneHead (bracket_end ∷ comma ∷ [])) (second_part d o) (regular_head bracket_end (comma ∷ [])) (regular_second d o))
regular_outs d h = regular_done []

pub regular_send : (d : ℕ) → IsRegular (send_part d)
regular_send d = regular_after (OneHead (bracket ∷ [])) (λ _. After (OneHead (bracket_end ∷ paren ∷ [])) (outs_part d)) (regular_head bracket []) (λ _.
    regular_after (OneHead (bracket_end ∷ paren ∷ [])) (outs_part d) (regular_head bracket_end (paren ∷ [])) (regular_outs d))

pub regular_case : (d : ℕ) → IsRegular (case_part d)
regular_case d = regular_after (exp_part d) (λ x. After (OneHead (of ∷ [])) (λ _. After (OneHead (south ∷ east ∷ [])) (λ s. After (OneHead (comma ∷ [])) (λ _. Mapped (λ t. trees.case x (side_of s) (side_of t)) (OneHead (south ∷ east ∷ [])))))) (regular_exp d) (λ x.
    regular_after (OneHead (of ∷ [])) (λ _. After (OneHead (south ∷ east ∷ [])) (λ s. After (OneHead (comma ∷ [])) (λ _. Mapped (λ t. trees.case x (side_of s) (side_of t)) (OneHead (south ∷ east ∷ []))))) (regular_head of []) (λ _.
    regular_after (OneHead (south ∷ east ∷ [])) (λ s. After (OneHead (comma ∷ [])) (λ _. Mapped (λ t. trees.case x (side_of s) (side_of t)) (OneHead (south ∷ east ∷ [])))) (regular_head south (east ∷ [])) (λ s.
    regular_after (OneHead (comma ∷ [])) (λ _. Mapped (λ t. trees.case x (side_of s) (side_of t)) (OneHead (south ∷ east ∷ []))) (regular_head comma []) (λ _.
    regular_mapped (λ t. trees.case x (side_of s) (side_of t)) (OneHead (south ∷ east ∷ [])) (regular_head south (east ∷ []))))))

word_byte : (b : ℕ) → IsNameByte b → IsWordByte b
word_byte b (inl lower) = inl lower
word_byte b (inr (inl digit)) = inr (inr (inl digit))
word_byte b (inr (inr line)) = inr (inr (inr line))

pub word_bytes : (xs : List ℕ) → AllByRecursion IsNameByte xs → AllByRecursion IsWordByte xs
word_bytes [] all = tt
word_bytes (x ∷ xs) all = (word_byte x all.0, word_bytes xs all.1)

pub all_of : (xs : List ℕ) → All IsNameByte xs → AllByRecursion IsNameByte xs
all_of xs all = recursion_from_All IsNameByte xs all

pub proper_name : (t : Token) → IsNameToken t → IsProper t
proper_name (symbol x) n = absurd n
proper_name (word []) n = absurd n.first
proper_name (word (x ∷ xs)) n = word_bytes (x ∷ xs) (all_of (x ∷ xs) n.letters)
proper_name (quoted xs) n = word_bytes xs (all_of xs n.letters)

pub name_a : IsName (97 ∷ [])
name_a = record { letters = All-from_recursion IsNameByte (97 ∷ []) (inl (omega arith, omega arith), tt); first = (omega arith, omega arith); short = omega arith }

pub regular_name : IsRegular name_part
regular_name = regular_mapped name_in (OneOf IsNameToken) (regular_one_of IsNameToken proper_name (word (97 ∷ [])) name_a)

pub regular_rest : (d : ℕ) (h : Head) → IsRegular (rest_part d h)
regular_rest d send = regular_mapped trees.send (send_part d) (regular_send d)
regular_rest d case = regular_case d
regular_rest d split = regular_mapped trees.split (exp_part d) (regular_exp d)
regular_rest d h = regular_mapped trees.call name_part regular_name

pub regular_command : (d : ℕ) → IsRegular (command_part d)
regular_command d = regular_after (OneHead (send ∷ case ∷ split ∷ called ∷ [])) (rest_part d) (regular_head send (case ∷ split ∷ called ∷ [])) (regular_rest d)
