-- A device of the proofs, which no public clause cites: reading from left to right, as functions
-- on lists.
use Rattle.std.specs.Char.{is_ascii_alphanumeric, is_ascii_digit, is_ascii_lowercase}
use Rattle.std.specs.Prelude.{◌≡◌, ⊤, ℕ, zero, suc, ◌-◌, ◌≤◌, ◌||◌, ◌&&◌, ◌==◌, Bool, true, false}
use Rattle.std.specs.Prelude.{not, cond, nat_lt, List, [], ◌∷◌, length, take, drop, Option, Some}
use Rattle.std.specs.Prelude.{None, is_some, Result, Ok, Err}
use Rattle.two_d.proofs.Agree.{agree}
use Rattle.two_d.proofs.Choices.{bytes_of, best}
use Rattle.two_d.proofs.Heads.{Head, spelled, spelt, paren, paren_end, bracket, bracket_end, comma}
use Rattle.two_d.proofs.Heads.{north, west, left, right, south, east, send, case, of, split, called}
use Rattle.two_d.proofs.Parts.{heads, side_of, others}
use Rattle.two_d.specs.Trees as trees
use Rattle.two_d.specs.Trees.{Tree, Form}
use Rattle.two_d.specs.declared.command.Side.{Side}
use Rattle.box_parse.specs.declared.fault.BoxFault.{BoxFault}
use Rattle.box_parse.specs.declared.fault.BoxFault.TheVariants as fault
use Rattle.box_parse.specs.declared.stop.Stop.{Stop}
use Rattle.box_parse.specs.declared.stop.Stop.TheVariants as stop
use Rattle.box_parse.specs.declared.token.Token.{Token}
use Rattle.box_parse.specs.declared.token.Token.TheVariants.{Paren, ParenEnd, Bracket, BracketEnd}
use Rattle.box_parse.specs.declared.token.Token.TheVariants.{Comma, North, West, Left, Right, South}
use Rattle.box_parse.specs.declared.token.Token.TheVariants.{East, Send, Case, Of, Split, Use}

-- the code's tokens
abbrev pub head_of : Token → Head
head_of Paren = paren
head_of ParenEnd = paren_end
head_of Bracket = bracket
head_of BracketEnd = bracket_end
head_of Comma = comma
head_of North = north
head_of West = west
head_of Left = left
head_of Right = right
head_of South = south
head_of East = east
head_of Send = send
head_of Case = case
head_of Of = of
head_of Split = split
head_of Use = called

-- Why reading stops, with how many bytes are left there.
pub data Refusal : Type 0 where
  bad deep : ℕ → Refusal

-- from a text a value and the rest
abbrev pub Read : Type 0 → Type 0
Read V = List ℕ → Result (V × List ℕ) Refusal

infixl 10 ◌>>=◌
abbrev pub ◌>>=◌ : {A B : Type 0} → Result A Refusal → (A → Result B Refusal) → Result B Refusal
(Ok x) >>= f = f x
(Err e) >>= f = Err e

-- what the code returned is what reading gives, unless there was no memory
abbrev pub Fails : {Y : Type 0} → Stop → Result Y Refusal → Type 0
Fails stop.Memory read = ⊤
Fails (stop.Bad n) read = read ≡ Err (bad n)
Fails (stop.TooDeep n) read = read ≡ Err (deep n)

abbrev pub Gives : {X Y : Type 0} → (X → Y) → Result X Stop → Result Y Refusal → Type 0
Gives view (Ok x) read = read ≡ Ok (view x)
Gives view (Err e) read = Fails e read

-- the text without its first spaces
abbrev pub skip : List ℕ → List ℕ
skip [] = []
skip (x ∷ a) = cond (x == 32) (skip a) (x ∷ a)

abbrev pub is_word_byte : ℕ → Bool
is_word_byte b = is_ascii_alphanumeric b || (b == 95)

abbrev pub ends_word : List ℕ → Bool
ends_word [] = true
ends_word (x ∷ a) = not (is_word_byte x)

abbrev pub is_word : Head → Bool
is_word paren = false
is_word paren_end = false
is_word bracket = false
is_word bracket_end = false
is_word comma = false
is_word h = true

abbrev pub head_bytes : Head → List ℕ
head_bytes h = bytes_of (spelled h)

-- the text behind the token, where it stands at the front
unfoldable pub after_head : Head → List ℕ → Option (List ℕ)
after_head h a =
    cond (nat_lt (agree (head_bytes h) a) (length (head_bytes h))) None
    (cond (is_word h && not (ends_word (drop (length (head_bytes h)) a))) None (Some (drop (length (head_bytes h)) a)))

abbrev pub found : Head → Option (List ℕ) → Result (Head × List ℕ) Refusal
    → Result (Head × List ℕ) Refusal
found h (Some b) otherwise = Ok (h, b)
found h None otherwise = otherwise

-- one of these tokens, or the refusal
abbrev pub choose_from : List Head → Refusal → Read Head
choose_from [] e a = Err e
choose_from (h ∷ hs) e a = found h (after_head h a) (choose_from hs e a)

-- one of these tokens, behind spaces
unfoldable pub choose_at : List Head → Read Head
choose_at hs a = choose_from hs (bad (length (skip a) - best (spelt hs) (skip a))) (skip a)

-- whether a token stands there that opens a level
abbrev pub opens : List ℕ → Bool
opens a = (is_some (after_head paren a) || is_some (after_head left a)) || is_some (after_head right a)

-- one of these tokens, where no token may stand that opens a level
unfoldable pub innermost_at : List Head → Read Head
innermost_at hs a = cond (opens (skip a)) (Err (deep (length (skip a)))) (choose_at hs a)

-- the first token of an expression of at most d levels
unfoldable pub head_at : ℕ → Read Head
head_at zero a = innermost_at (heads zero) a
head_at (suc d) a = choose_at (heads (suc d)) a

-- such a token, or `)`
unfoldable pub first_at : ℕ → Read Head
first_at zero a = innermost_at (paren_end ∷ heads zero) a
first_at (suc d) a = choose_at (paren_end ∷ heads (suc d)) a

abbrev pub leaf_of : Head → Tree
leaf_of north = trees.n
leaf_of h = trees.w

-- behind an expression in parentheses and this token
abbrev pub pair_from : Read Tree → Tree → Head → Read Tree
pair_from exp x comma a = do
  y ← exp a
  e ← choose_at (paren_end ∷ []) y.1
  Ok (trees.pair x y.0, e.1)
pair_from exp x h a = Ok (x, a)

abbrev pub ended_from : Read Tree → Tree → Read Tree
ended_from exp x a = do
  h ← choose_at (paren_end ∷ comma ∷ []) a
  pair_from exp x h.0 h.1

-- behind `(` and this token
abbrev pub inside_from : Read Tree → (Head → Read Tree) → Head → Read Tree
inside_from exp tail paren_end a = Ok (trees.unit, a)
inside_from exp tail h a = do
  x ← tail h a
  ended_from exp x.0 x.1

abbrev pub exp_from : (Head → Read Tree) → Read Head → Read Tree
exp_from tail first a = do
  h ← first a
  tail h.0 h.1

abbrev pub mapped : {V W : Type 0} → (V → W) → Result (V × List ℕ) Refusal
    → Result (W × List ℕ) Refusal
mapped f r = do
  x ← r
  Ok (f x.0, x.1)

-- behind the first token of an expression of at most d levels
unfoldable pub tail_at : ℕ → Head → Read Tree
tail_at zero h a = Ok (leaf_of h, a)
tail_at (suc d) north a = Ok (trees.n, a)
tail_at (suc d) left a = mapped trees.inl (exp_from (tail_at d) (head_at d) a)
tail_at (suc d) right a = mapped trees.inr (exp_from (tail_at d) (head_at d) a)
tail_at (suc d) paren a = do
  h ← first_at d a
  inside_from (exp_from (tail_at d) (head_at d)) (tail_at d) h.0 h.1
tail_at (suc d) h a = Ok (trees.w, a)

-- an expression of at most d levels
unfoldable pub exp_at : ℕ → Read Tree
exp_at d a = exp_from (tail_at d) (head_at d) a

-- behind `(`
unfoldable pub inside_at : ℕ → Read Tree
inside_at d a = do
  h ← first_at d a
  inside_from (exp_at d) (tail_at d) h.0 h.1

-- behind `(` and an expression
unfoldable pub ended_at : ℕ → Tree → Read Tree
ended_at d x a = ended_from (exp_at d) x a

abbrev pub Sides : List Head
Sides = south ∷ east ∷ []

unfoldable pub side_at : List Head → Read Side
side_at hs a = mapped side_of (choose_at hs a)

-- behind the `(` of an out, to one of these sides
unfoldable pub out_at : ℕ → List Head → Read (Tree × Side)
out_at d hs a = do
  x ← exp_at d a
  k ← choose_at (comma ∷ []) x.1
  s ← side_at hs k.1
  e ← choose_at (paren_end ∷ []) s.1
  Ok ((x.0, s.0), e.1)

-- behind an out to this side and `,`
unfoldable pub second_at : ℕ → Side → Read (Tree × Side)
second_at d s a = do
  p ← choose_at (paren ∷ []) a
  o ← out_at d (others s) p.1
  e ← choose_at (bracket_end ∷ []) o.1
  Ok (o.0, e.1)

-- behind an out and this token
abbrev pub outs_from : ℕ → Tree × Side → Head → Read (List (Tree × Side))
outs_from d o comma a = do
  p ← second_at d o.1 a
  Ok (o ∷ p.0 ∷ [], p.1)
outs_from d o h a = Ok (o ∷ [], a)

-- behind the first `(` of the outs
unfoldable pub outs_at : ℕ → Read (List (Tree × Side))
outs_at d a = do
  o ← out_at d Sides a
  h ← choose_at (bracket_end ∷ comma ∷ []) o.1
  outs_from d o.0 h.0 h.1

-- behind `[` and this token
abbrev pub list_from : ℕ → Head → Read (List (Tree × Side))
list_from d paren a = outs_at d a
list_from d h a = Ok ([], a)

-- behind `send`
unfoldable pub list_at : ℕ → Read (List (Tree × Side))
list_at d a = do
  b ← choose_at (bracket ∷ []) a
  h ← choose_at (bracket_end ∷ paren ∷ []) b.1
  list_from d h.0 h.1

-- behind `case`
unfoldable pub case_at : ℕ → Read Form
case_at d a = do
  x ← exp_at d a
  o ← choose_at (of ∷ []) x.1
  s ← side_at Sides o.1
  k ← choose_at (comma ∷ []) s.1
  t ← side_at Sides k.1
  Ok (trees.case x.0 s.0 t.0, t.1)

abbrev pub is_name_byte : ℕ → Bool
is_name_byte b = (is_ascii_lowercase b || is_ascii_digit b) || (b == 95)

-- how many bytes of a name's stand at the front, up to a bound
unfoldable pub run : ℕ → List ℕ → ℕ
run zero a = 0
run (suc m) [] = 0
run (suc m) (x ∷ a) = cond (is_name_byte x) (suc (run m a)) 0

-- how many bytes at the front begin a name
unfoldable pub name_len : List ℕ → ℕ
name_len [] = 0
name_len (x ∷ a) = cond (is_ascii_lowercase x) (run 32 (x ∷ a)) 0

-- the name of these bytes
abbrev pub named : List ℕ → ℕ → Result (List ℕ) Refusal
named [] n = Err (bad n)
named (x ∷ xs) n = Ok (x ∷ xs)

abbrev pub begins_quote : List ℕ → Bool
begins_quote [] = false
begins_quote (x ∷ a) = x == 34

-- a name behind a quotation mark
unfoldable pub quoted_at : Read (List ℕ)
quoted_at a =
    cond (begins_quote (drop (name_len a) a))
    (do
      name ← named (take (name_len a) a) (length a)
      Ok (name, drop 1 (drop (name_len a) a)))
    (Err (bad (length a - name_len a)))

-- a name without quotation marks
unfoldable pub bare_at : Read (List ℕ)
bare_at a =
    cond (ends_word (drop (name_len a) a))
    (do
      name ← named (take (name_len a) a) (length a)
      Ok (name, drop (name_len a) a))
    (Err (bad (length a - name_len a)))

-- a name, behind spaces
unfoldable pub name_at : Read (List ℕ)
name_at a = cond (begins_quote (skip a)) (quoted_at (drop 1 (skip a))) (bare_at (skip a))

-- behind the first word of a command
abbrev pub rest_from : ℕ → Head → Read Form
rest_from d send a = mapped trees.send (list_at d a)
rest_from d case a = case_at d a
rest_from d split a = mapped trees.split (exp_at d a)
rest_from d h a = mapped trees.call (name_at a)

unfoldable pub command_at : ℕ → Read Form
command_at d a = do
  h ← choose_at (send ∷ case ∷ split ∷ called ∷ []) a
  rest_from d h.0 h.1

-- a command and nothing but spaces behind it
unfoldable pub whole_at : ℕ → List ℕ → Result Form Refusal
whole_at d a = do
  c ← command_at d a
  cond (length (skip c.1) == 0) (Ok c.0) (Err (bad (length (skip c.1))))

-- no more bytes are left than the text has
abbrev pub IsWithin : Stop → ℕ → Type 0
IsWithin stop.Memory len = ⊤
IsWithin (stop.Bad n) len = n ≤ len
IsWithin (stop.TooDeep n) len = n ≤ len

-- the fault of a text of this length, by its place
abbrev pub fault_of : Stop → ℕ → BoxFault
fault_of stop.Memory len = fault.Memory
fault_of (stop.Bad n) len = fault.Bad (len - n)
fault_of (stop.TooDeep n) len = fault.TooDeep (len - n)
