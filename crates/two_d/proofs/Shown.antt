-- The canonical text is in the grammar.
use Rattle.codex_values.specs.Tokens.{EndsWord, Symbol, Word}
use Rattle.std.proofs.Common.{◌≡◌, ℕ, ◌+◌, ◌≤◌, max, List, [], ◌∷◌, ◌++◌, replicate, refl, sym, ap, subst, arith, append_assoc, append-nil, add-one}
use Rattle.std.proofs.lemmas.List.Elements.{recursion_from_All, All-from_recursion}
use Rattle.std.specs.List.{AllByRecursion}
use Rattle.two_d.proofs.Tokens.{not_word_space}
use Rattle.two_d.specs.Canonical.{shown, shown_side, shown_out, shown_outs, canonical}
use Rattle.two_d.specs.Grammar as grammar
use Rattle.two_d.specs.Grammar.{IsExp, IsSide, IsOut, AreOuts, IsCommand, IsTextOf}
use Rattle.two_d.specs.Trees as trees
use Rattle.two_d.specs.Trees.{Tree, Form, depth, AreApart, IsWithin}
use Rattle.two_d.specs.declared.command.Side.TheVariants.{S, E}
use Rattle.two_d.specs.declared.command.Side.{Side}

here : (bytes b : List ℕ) → Symbol bytes (bytes ++ b) b
here bytes b = record { spaces = 0; is = refl }

behind : (bytes b : List ℕ) → Symbol bytes (32 ∷ bytes ++ b) b
behind bytes b = record { spaces = 1; is = refl }

here_whole : (bytes b : List ℕ) → EndsWord b → Word bytes (bytes ++ b) b
here_whole bytes b ends = record { symbol = here bytes b; whole = ends }

not_word_close : EndsWord (41 ∷ [])
not_word_close is = grind (arith, is)

not_word_comma : EndsWord (44 ∷ [])
not_word_comma is = grind (arith, is)

not_word_open : EndsWord (91 ∷ [])
not_word_open is = grind (arith, is)

-- A space more may stand before it.
symbol_more : (bytes a b : List ℕ) → Symbol bytes a b → Symbol bytes (32 ∷ a) b
symbol_more bytes a b s = record { spaces = s.spaces + 1; is = rw add-one (ap (λ u. 32 ∷ u) s.is) }

word_more : (bytes a b : List ℕ) → Word bytes a b → Word bytes (32 ∷ a) b
word_more bytes a b w = record { symbol = symbol_more bytes a b w.symbol; whole = w.whole }

exp_more : (a b : List ℕ) (x : Tree) (n : ℕ) → IsExp a b x n → IsExp (32 ∷ a) b x n
exp_more _ _ _ _ (grammar.unit {a} {b} l r) = grammar.unit (symbol_more _ a b l) r
exp_more _ _ _ _ (grammar.pair {a} {b} l p k q r) = grammar.pair (symbol_more _ a b l) p k q r
exp_more _ _ _ _ (grammar.parens {a} {b} l p r) = grammar.parens (symbol_more _ a b l) p r
exp_more _ _ _ _ (grammar.inl {a} {b} w p) = grammar.inl (word_more _ a b w) p
exp_more _ _ _ _ (grammar.inr {a} {b} w p) = grammar.inr (word_more _ a b w) p
exp_more _ _ _ _ (grammar.n {a} {b} w) = grammar.n (word_more _ a b w)
exp_more _ _ _ _ (grammar.w {a} {b} w) = grammar.w (word_more _ a b w)

side_more : (a b : List ℕ) (s : Side) → IsSide a b s → IsSide (32 ∷ a) b s
side_more _ _ _ (grammar.s {a} {b} w) = grammar.s (word_more _ a b w)
side_more _ _ _ (grammar.e {a} {b} w) = grammar.e (word_more _ a b w)

exp_shown : (x : Tree) (b : List ℕ) → EndsWord b → IsExp (shown x ++ b) b x (depth x)
exp_shown trees.unit b ends = grammar.unit (here (40 ∷ []) (41 ∷ b)) (here (41 ∷ []) b)
exp_shown trees.n b ends = grammar.n (here_whole (78 ∷ []) b ends)
exp_shown trees.w b ends = grammar.w (here_whole (87 ∷ []) b ends)
exp_shown (trees.pair x y) b ends =
    let end = 41 ∷ b in
    let second = shown y ++ end in
    let first = shown x ++ 44 ∷ second in
    let grouped : shown (trees.pair x y) ++ b ≡ 40 ∷ first = simp append_assoc in
    subst (λ u. IsExp u b (trees.pair x y) (1 + max (depth x) (depth y))) (sym grouped)
    (grammar.pair (here (40 ∷ []) first) (exp_shown x (44 ∷ second) not_word_comma) (here (44 ∷ []) second) (exp_shown y end not_word_close) (here (41 ∷ []) b))
exp_shown (trees.inl x) b ends = grammar.inl (here_whole (73 ∷ 110 ∷ 108 ∷ []) (32 ∷ shown x ++ b) not_word_space) (exp_more (shown x ++ b) b x (depth x) (exp_shown x b ends))
exp_shown (trees.inr x) b ends = grammar.inr (here_whole (73 ∷ 110 ∷ 114 ∷ []) (32 ∷ shown x ++ b) not_word_space) (exp_more (shown x ++ b) b x (depth x) (exp_shown x b ends))

side_shown : (s : Side) (b : List ℕ) → EndsWord b → IsSide (shown_side s ++ b) b s
side_shown S b ends = grammar.s (here_whole (83 ∷ []) b ends)
side_shown E b ends = grammar.e (here_whole (69 ∷ []) b ends)

out_shown : (x : Tree) (s : Side) (b : List ℕ) → IsOut (shown_out (x, s) ++ b) b x s (depth x)
out_shown x s b =
    let end = 41 ∷ b in
    let side = shown_side s ++ end in
    let first = shown x ++ 44 ∷ side in
    let grouped : shown_out (x, s) ++ b ≡ 40 ∷ first = simp append_assoc in
    subst (λ u. IsOut u b x s (depth x)) (sym grouped)
    (grammar.out (here (40 ∷ []) first) (exp_shown x (44 ∷ side) not_word_comma) (here (44 ∷ []) side) (side_shown s end not_word_close) (here (41 ∷ []) b))

regroup : (p q b : List ℕ) → ((p ++ 44 ∷ []) ++ q) ++ b ≡ p ++ 44 ∷ (q ++ b)
regroup p q b = simp append_assoc

outs_shown : (outs : List (Tree × Side)) (b : List ℕ) → AllByRecursion (λ o. depth o.0 ≤ 64) outs → AreApart outs → (m : ℕ) × AreOuts (shown_outs outs ++ b) b outs m × (m ≤ 64)
outs_shown [] b shallow apart = (0, grammar.none, omega arith)
outs_shown ((x, s) ∷ []) b shallow apart = (depth x, grammar.one (out_shown x s b), shallow.0)
outs_shown ((x, s) ∷ (y, t) ∷ []) b shallow apart =
    let second = shown_out (y, t) ++ b in
    let grouped : shown_outs ((x, s) ∷ (y, t) ∷ []) ++ b ≡ shown_out (x, s) ++ 44 ∷ second = regroup (shown_out (x, s)) (shown_out (y, t)) b in
    let levels = max (depth x) (depth y) in
    (levels, subst (λ u. AreOuts u b ((x, s) ∷ (y, t) ∷ []) levels) (sym grouped) (grammar.two (out_shown x s (44 ∷ second)) (here (44 ∷ []) second) (out_shown y t b) apart), omega (arith, shallow.0, shallow.1.0))
outs_shown (o ∷ p ∷ q ∷ more) b shallow apart = absurd apart

-- The canonical text of a command that can be written is a text of it.
pub canonical_text : (c : Form) → IsWithin c → IsTextOf (canonical c) c
canonical_text (trees.send outs) within =
    let (m, are, le) = outs_shown outs (93 ∷ []) (recursion_from_All (λ o. depth o.0 ≤ 64) outs within.0) within.1 in
    let text = shown_outs outs ++ 93 ∷ [] in
    (m, (0, grammar.send (here_whole (115 ∷ 101 ∷ 110 ∷ 100 ∷ []) (32 ∷ 91 ∷ text) not_word_space) (behind (91 ∷ []) text) are (here (93 ∷ []) [])), le)
canonical_text (trees.case x s t) within =
    let last = shown_side t in
    let side = shown_side s ++ 44 ∷ last in
    let first = shown x ++ 32 ∷ 111 ∷ 102 ∷ 32 ∷ side in
    let grouped : canonical (trees.case x s t) ≡ 99 ∷ 97 ∷ 115 ∷ 101 ∷ 32 ∷ first = simp append_assoc in
    let second : IsSide last [] t = subst (λ u. IsSide u [] t) (append-nil last) (side_shown t [] tt) in (
      depth x,
      (
        0,
        subst (λ u. IsCommand u [] (trees.case x s t) (depth x)) (sym grouped)
            (grammar.case (here_whole (99 ∷ 97 ∷ 115 ∷ 101 ∷ []) (32 ∷ first) not_word_space) (exp_more first (32 ∷ 111 ∷ 102 ∷ 32 ∷ side) x (depth x) (exp_shown x (32 ∷ 111 ∷ 102 ∷ 32 ∷ side) not_word_space))
            (record { symbol = behind (111 ∷ 102 ∷ []) (32 ∷ side); whole = not_word_space }) (side_more side (44 ∷ last) s (side_shown s (44 ∷ last) not_word_comma)) (here (44 ∷ []) last) second),
      ),
      within,
    )
canonical_text (trees.split x) within =
    let shown_whole : IsExp (shown x) [] x (depth x) = subst (λ u. IsExp u [] x (depth x)) (append-nil (shown x)) (exp_shown x [] tt) in
    (depth x, (0, grammar.split (here_whole (115 ∷ 112 ∷ 108 ∷ 105 ∷ 116 ∷ []) (32 ∷ shown x) not_word_space) (exp_more (shown x) [] x (depth x) shown_whole)), within)
canonical_text (trees.call name) within =
    let whole : Word name (32 ∷ name) [] = record { symbol = record { spaces = 1; is = ap (λ u. 32 ∷ u) (sym (append-nil name)) }; whole = tt } in
    (0, (0, grammar.named (here_whole (117 ∷ 115 ∷ 101 ∷ []) (32 ∷ name) not_word_space) whole within), omega arith)

-- What is written is a command that can be written.
exp_depth : (a b : List ℕ) (x : Tree) (m : ℕ) → IsExp a b x m → depth x ≤ m
exp_depth _ _ _ _ (grammar.unit l r) = omega arith
exp_depth _ _ _ _ (grammar.pair {a} {b} {c} {d} {e} {f} {x} {y} {m} {n} l p k q r) = omega (arith, exp_depth b c x m p, exp_depth d e y n q)
exp_depth _ _ _ _ (grammar.parens {a} {b} {c} {d} {x} {n} l p r) = omega (arith, exp_depth b c x n p)
exp_depth _ _ _ _ (grammar.inl {a} {b} {c} {x} {n} w p) = omega (arith, exp_depth b c x n p)
exp_depth _ _ _ _ (grammar.inr {a} {b} {c} {x} {n} w p) = omega (arith, exp_depth b c x n p)
exp_depth _ _ _ _ (grammar.n w) = omega arith
exp_depth _ _ _ _ (grammar.w w) = omega arith

out_depth : (a b : List ℕ) (x : Tree) (s : Side) (m : ℕ) → IsOut a b x s m → depth x ≤ m
out_depth _ _ _ _ _ (grammar.out {a} {b} {c} {d} {e} {f} {x} {s} {n} l p k side r) = exp_depth b c x n p

outs_within : (a b : List ℕ) (outs : List (Tree × Side)) (m : ℕ) → AreOuts a b outs m → m ≤ 64 → AllByRecursion (λ o. depth o.0 ≤ 64) outs × AreApart outs
outs_within _ _ _ _ grammar.none le = (tt, tt)
outs_within _ _ _ _ (grammar.one {a} {b} {x} {s} {n} o) le = ((omega (arith, out_depth a b x s n o, le), tt), tt)
outs_within _ _ _ _ (grammar.two {a} {b} {c} {d} {x} {y} {s} {t} {m} {n} o k p apart) le =
    ((omega (arith, out_depth a b x s m o, le), (omega (arith, out_depth c d y t n p, le), tt)), apart)

command_within : (a b : List ℕ) (c : Form) (m : ℕ) → IsCommand a b c m → m ≤ 64 → IsWithin c
command_within _ _ _ _ (grammar.send {a} {b} {c} {d} {e} {outs} {n} w l p r) le =
    (let (shallow, apart) = outs_within c d outs n p le in (All-from_recursion (λ o. depth o.0 ≤ 64) outs shallow, apart))
command_within _ _ _ _ (grammar.case {a} {b} {c} {d} {e} {f} {g} {x} {s} {t} {n} w p o first k second) le = omega (arith, exp_depth b c x n p, le)
command_within _ _ _ _ (grammar.split {a} {b} {c} {x} {n} w p) le = omega (arith, exp_depth b c x n p, le)
command_within _ _ _ _ (grammar.named w n is) le = is
command_within _ _ _ _ (grammar.quoted w n is) le = is

pub written_within : (text : List ℕ) (c : Form) → IsTextOf text c → IsWithin c
written_within text c (m, (i, is), le) = command_within text (replicate i 32) c m is le
