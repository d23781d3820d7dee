-- A command has no more nodes than its text has bytes, and the lines of a text have no more bytes than the text.
use Rattle.std.specs.Prelude.{◌≡◌, ◌+◌, ◌-◌, ◌*◌, ◌<◌, ◌≤◌, ◌==◌, ℕ, Bool, true, false, List, [], ◌∷◌, ◌++◌, length, map, replicate, take}
use Rattle.std.specs.List.{join_with_byte, slice_split, onto_first}
use Rattle.std.specs.Str.Lines.{lines, lines_of_parts, strip_carriage_return}
use Rattle.std.proofs.Common.{arith, ap, ◌∙◌, cond}
use Rattle.std.proofs.lemmas.List.{length-map, length-append, length-take}
use Rattle.std.proofs.lemmas.List.FromFn.{length-range_with_len}
use Rattle.codex_values.specs.Tokens.{Symbol, Word}
use Rattle.two_d.specs.Boxes.{row_text, command_text}
use Rattle.two_d.specs.Cells.{Grid, cell}
use Rattle.two_d.specs.Good.{trees_of}
use Rattle.two_d.specs.Grammar as grammar
use Rattle.two_d.specs.Grammar.{IsExp, IsSide, IsOut, AreOuts, IsCommand, IsTextOf}
use Rattle.two_d.specs.Places.{Rect, at, inner_rows, inner_columns}
use Rattle.two_d.specs.Trees.{Tree, Form}
use Rattle.two_d.specs.declared.command.Side.{Side}
use Rattle.two_d.specs.Weights.{nodes, all_nodes}
use Rattle.module_table.proofs.Sums.{added}

symbol_long : (bytes a b : List ℕ) → Symbol bytes a b → length bytes + length b ≤ length a
symbol_long bytes a b s =
    let whole = ap length s.is in
    let outer = length-append (replicate s.spaces 32 ++ bytes) b in
    let inner = length-append (replicate s.spaces 32) bytes in
    omega arith

word_long : (bytes a b : List ℕ) → Word bytes a b → length bytes + length b ≤ length a
word_long bytes a b w = symbol_long bytes a b w.symbol

exp_nodes : (a b : List ℕ) (x : Tree) (m : ℕ) → IsExp a b x m → nodes x + length b ≤ length a
exp_nodes _ _ _ _ (grammar.unit {a} {b} {c} l r) = let first = symbol_long (40 ∷ []) a b l in let last = symbol_long (41 ∷ []) b c r in omega arith
exp_nodes _ _ _ _ (grammar.pair {a} {b} {c} {d} {e} {f} {x} {y} {m} {n} l p k q r) =
    let first = symbol_long (40 ∷ []) a b l in
    let one = exp_nodes b c x m p in
    let comma = symbol_long (44 ∷ []) c d k in
    let other = exp_nodes d e y n q in
    let last = symbol_long (41 ∷ []) e f r in
    omega arith
exp_nodes _ _ _ _ (grammar.parens {a} {b} {c} {d} {x} {n} l p r) =
    let first = symbol_long (40 ∷ []) a b l in
    let one = exp_nodes b c x n p in
    let last = symbol_long (41 ∷ []) c d r in
    omega arith
exp_nodes _ _ _ _ (grammar.inl {a} {b} {c} {x} {n} w p) = let first = word_long (73 ∷ 110 ∷ 108 ∷ []) a b w in let one = exp_nodes b c x n p in omega arith
exp_nodes _ _ _ _ (grammar.inr {a} {b} {c} {x} {n} w p) = let first = word_long (73 ∷ 110 ∷ 114 ∷ []) a b w in let one = exp_nodes b c x n p in omega arith
exp_nodes _ _ _ _ (grammar.n {a} {b} w) = let first = word_long (78 ∷ []) a b w in omega arith
exp_nodes _ _ _ _ (grammar.w {a} {b} w) = let first = word_long (87 ∷ []) a b w in omega arith

side_long : (a b : List ℕ) (s : Side) → IsSide a b s → length b ≤ length a
side_long _ _ _ (grammar.s {a} {b} w) = let first = word_long (83 ∷ []) a b w in omega arith
side_long _ _ _ (grammar.e {a} {b} w) = let first = word_long (69 ∷ []) a b w in omega arith

out_nodes : (a b : List ℕ) (x : Tree) (s : Side) (m : ℕ) → IsOut a b x s m → nodes x + length b ≤ length a
out_nodes _ _ _ _ _ (grammar.out {a} {b} {c} {d} {e} {f} {x} {s} {n} l p k side r) =
    let first = symbol_long (40 ∷ []) a b l in
    let one = exp_nodes b c x n p in
    let comma = symbol_long (44 ∷ []) c d k in
    let to = side_long d e s side in
    let last = symbol_long (41 ∷ []) e f r in
    omega arith

outs_nodes : (a b : List ℕ) (outs : List (Tree × Side)) (m : ℕ) → AreOuts a b outs m → all_nodes (map (λ out. out.0) outs) + length b ≤ length a
outs_nodes _ _ _ _ grammar.none = omega arith
outs_nodes _ _ _ _ (grammar.one {a} {b} {x} {s} {n} o) = let one = out_nodes a b x s n o in omega arith
outs_nodes _ _ _ _ (grammar.two {a} {b} {c} {d} {x} {y} {s} {t} {m} {n} o k p apart) =
    let one = out_nodes a b x s m o in
    let comma = symbol_long (44 ∷ []) b c k in
    let other = out_nodes c d y t n p in
    omega arith

command_nodes : (a b : List ℕ) (c : Form) (m : ℕ) → IsCommand a b c m → all_nodes (trees_of c) + length b ≤ length a
command_nodes _ _ _ _ (grammar.send {a} {b} {c} {d} {e} {outs} {n} w l p r) =
    let first = word_long (115 ∷ 101 ∷ 110 ∷ 100 ∷ []) a b w in
    let bracket = symbol_long (91 ∷ []) b c l in
    let all = outs_nodes c d outs n p in
    let last = symbol_long (93 ∷ []) d e r in
    omega arith
command_nodes _ _ _ _ (grammar.case {a} {b} {c} {d} {e} {f} {g} {x} {s} {t} {n} w p o first k second) =
    let begin = word_long (99 ∷ 97 ∷ 115 ∷ 101 ∷ []) a b w in
    let one = exp_nodes b c x n p in
    let word = word_long (111 ∷ 102 ∷ []) c d o in
    let to = side_long d e s first in
    let comma = symbol_long (44 ∷ []) e f k in
    let last = side_long f g t second in
    omega arith
command_nodes _ _ _ _ (grammar.split {a} {b} {c} {x} {n} w p) =
    let begin = word_long (115 ∷ 112 ∷ 108 ∷ 105 ∷ 116 ∷ []) a b w in
    let one = exp_nodes b c x n p in
    omega arith
command_nodes _ _ _ _ (grammar.named {a} {b} {c} {name} w n is) =
    let begin = word_long (117 ∷ 115 ∷ 101 ∷ []) a b w in
    let called = word_long name b c n in
    omega arith
command_nodes _ _ _ _ (grammar.quoted {a} {b} {c} {name} w n is) =
    let begin = word_long (117 ∷ 115 ∷ 101 ∷ []) a b w in
    let called = symbol_long _ b c n in
    omega arith

pub text_nodes : (text : List ℕ) (c : Form) → IsTextOf text c → all_nodes (trees_of c) ≤ length text
text_nodes text c (m, (i, is), le) = let all = command_nodes text (replicate i 32) c m is in omega arith

-- parts of one length, joined by a byte
joined_long : (c w : ℕ) (f : ℕ → List ℕ) → ((i : ℕ) → length (f i) ≡ w) → (i : ℕ) (is : List ℕ) → length (join_with_byte c (map f (i ∷ is))) + 1 ≡ length (i ∷ is) * (w + 1)
joined_long c w f long i [] = let e = long i in omega arith
joined_long c w f long i (j ∷ is) =
    let rest = joined_long c w f long j is in
    let first = long i in
    let whole = length-append (f i) (c ∷ join_with_byte c (map f (j ∷ is))) in
    omega arith

joined_some : (c w : ℕ) (f : ℕ → List ℕ) → ((i : ℕ) → length (f i) ≡ w) → (is : List ℕ) → 0 < length is → length (join_with_byte c (map f is)) + 1 ≡ length is * (w + 1)
joined_some c w f long [] some = absurd (omega arith)
joined_some c w f long (i ∷ is) some = joined_long c w f long i is

-- how long the text of a box is
pub text_long : (grid : Grid) (b : Rect) → b.top + 1 < b.bottom → length (command_text grid b) + 1 ≡ (b.bottom - b.top - 1) * (b.right - b.left - 1 + 1)
text_long grid b high =
    let rows = length-range_with_len (b.top + 1) (b.bottom - b.top - 1) in
    joined_some 32 (b.right - b.left - 1) (row_text grid b) (λ row. length-map (inner_columns b) (λ col. cell grid (at row col)) ∙ length-range_with_len (b.left + 1) (b.right - b.left - 1)) (inner_rows b) (omega arith)
    ∙ ap (λ n. n * (b.right - b.left - 1 + 1)) rows

-- the parts between newlines
first_added : (x : ℕ) (parts : List (List ℕ)) → added length (onto_first x parts) ≤ added length parts + 1
first_added x [] = omega arith
first_added x (part ∷ parts) = omega arith

split_added : (test : ℕ → Bool) (bs : List ℕ) → added length (slice_split test bs) ≤ length bs
split_added test [] = omega arith
split_added test (b ∷ bs) = by (test b) (split_added test bs)
  where
    by : (t : Bool) → added length (slice_split test bs) ≤ length bs → added length (cond t ([] ∷ slice_split test bs) (onto_first b (slice_split test bs))) ≤ length (b ∷ bs)
    by true rest = omega arith
    by false rest = let first = first_added b (slice_split test bs) in omega arith

stripped : (l : List ℕ) → length (strip_carriage_return l) ≤ length l
stripped l = by _
  where
    by : (t : Bool) → length (cond t (take (length l - 1) l) l) ≤ length l
    by true = let e = length-take (length l - 1) l in omega arith
    by false = omega arith

parts_added : (parts : List (List ℕ)) → added length (lines_of_parts parts) ≤ added length parts
parts_added [] = omega arith
parts_added (x ∷ []) = by _
  where
    by : (t : Bool) → added length (cond t [] (x ∷ [])) ≤ length x + 0
    by true = omega arith
    by false = omega arith
parts_added (x ∷ y ∷ more) = let rest = parts_added (y ∷ more) in let first = stripped x in omega arith

pub lines_added : (text : List ℕ) → added length (lines text) ≤ length text
lines_added text = let parts = parts_added (slice_split (λ b. b == 10) text) in let all = split_added (λ b. b == 10) text in omega arith
