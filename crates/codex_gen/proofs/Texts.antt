-- The texts of strips are of their commands.
use Rattle.std.specs.Prelude.{ℕ, ◌+◌, ◌≤◌, List, [], ◌∷◌, ◌++◌, max, codes}
use Rattle.std.proofs.Common.{arith, refl}
use Rattle.codex_values.specs.Tokens.{EndsWord, Symbol, Word}
use Rattle.two_d.specs.Grammar as grammar
use Rattle.two_d.specs.Grammar.{IsExp, IsSide, IsOut, AreOuts, IsCommand, IsTextOf}
use Rattle.two_d.specs.Trees as trees
use Rattle.two_d.specs.Trees.{Tree, Form}
use Rattle.two_d.specs.Names.{IsName}
use Rattle.two_d.proofs.Shown.{canonical_text}
use Rattle.two_d.specs.declared.command.Side.TheVariants.{E}

here : (bytes b : List ℕ) → Symbol bytes (bytes ++ b) b
here bytes b = record { spaces = 0; is = refl }

word : (bytes b : List ℕ) → EndsWord b → Word bytes (bytes ++ b) b
word bytes b ends = record { symbol = here bytes b; whole = ends }

spaced : (bytes b : List ℕ) → EndsWord b → Word bytes (32 ∷ bytes ++ b) b
spaced bytes b ends = record { symbol = record { spaces = 1; is = refl }; whole = ends }

ends_at : (c : ℕ) (bs : List ℕ) → (c ≤ 47) → EndsWord (c ∷ bs)
ends_at c bs le is = grind (arith, is, le)

ends_bracket : (bs : List ℕ) → EndsWord (91 ∷ bs)
ends_bracket bs is = grind (arith, is)

-- what is sent east, without a space before the bracket
sends : (x : Tree) (n : ℕ) (text : List ℕ) → n ≤ 64 → IsExp (text ++ codes ",E)]") (codes ",E)]") x n → IsTextOf (codes "send[(" ++ (text ++ codes ",E)]")) (trees.send ((x, E) ∷ []))
sends x n text few exp = (
  n,
  (
    0,
    grammar.send (word (codes "send") (91 ∷ 40 ∷ (text ++ codes ",E)]")) (ends_bracket (40 ∷ (text ++ codes ",E)]")))) (here (codes "[") (40 ∷ (text ++ codes ",E)]")))
        (grammar.one (grammar.out (here (codes "(") (text ++ codes ",E)]")) exp (here (codes ",") (codes "E)]")) (grammar.e (word (codes "E") (codes ")]") (ends_at 41 (codes "]") (omega arith)))) (here (codes ")") (codes "]"))))
        (here (codes "]") []),
  ),
  few,
)

w_text : (b : List ℕ) → EndsWord b → IsExp (codes "W" ++ b) b trees.w 0
w_text b ends = grammar.w (word (codes "W") b ends)

pub sends_unit : IsTextOf (codes "send[((),E)]") (trees.send ((trees.unit, E) ∷ []))
sends_unit = sends trees.unit 1 (codes "()") (omega arith) (grammar.unit (here (codes "(") (codes "),E)]")) (here (codes ")") (codes ",E)]")))

pub sends_inl : IsTextOf (codes "send[(Inl W,E)]") (trees.send ((trees.inl trees.w, E) ∷ []))
sends_inl = sends (trees.inl trees.w) (1 + 0) (codes "Inl W") (omega arith)
    (grammar.inl (word (codes "Inl") (codes " W,E)]") (ends_at 32 (codes "W,E)]") (omega arith))) (grammar.w (spaced (codes "W") (codes ",E)]") (ends_at 44 (codes "E)]") (omega arith)))))

pub sends_inr : IsTextOf (codes "send[(Inr W,E)]") (trees.send ((trees.inr trees.w, E) ∷ []))
sends_inr = sends (trees.inr trees.w) (1 + 0) (codes "Inr W") (omega arith)
    (grammar.inr (word (codes "Inr") (codes " W,E)]") (ends_at 32 (codes "W,E)]") (omega arith))) (grammar.w (spaced (codes "W") (codes ",E)]") (ends_at 44 (codes "E)]") (omega arith)))))

pub sends_pair : IsTextOf (codes "send[((W,()),E)]") (trees.send ((trees.pair trees.w trees.unit, E) ∷ []))
sends_pair = sends (trees.pair trees.w trees.unit) (1 + max 0 1) (codes "(W,())") (omega arith)
    (grammar.pair (here (codes "(") (codes "W,()),E)]")) (w_text (codes ",()),E)]") (ends_at 44 (codes "()),E)]") (omega arith))) (here (codes ",") (codes "()),E)]"))
    (grammar.unit (here (codes "(") (codes ")),E)]")) (here (codes ")") (codes "),E)]"))) (here (codes ")") (codes ",E)]")))

pub sends_nested : IsTextOf (codes "send[(((),W),E)]") (trees.send ((trees.pair trees.unit trees.w, E) ∷ []))
sends_nested = sends (trees.pair trees.unit trees.w) (1 + max 1 0) (codes "((),W)") (omega arith)
    (grammar.pair (here (codes "(") (codes "(),W),E)]")) (grammar.unit (here (codes "(") (codes "),W),E)]")) (here (codes ")") (codes ",W),E)]")))
    (here (codes ",") (codes "W),E)]")) (w_text (codes "),E)]") (ends_at 41 (codes ",E)]") (omega arith))) (here (codes ")") (codes ",E)]")))

-- texts that are canonical
pub splits : IsTextOf (codes "split W") (trees.split trees.w)
splits = canonical_text (trees.split trees.w) (omega arith)

pub cases : IsTextOf (codes "case W of E,E") (trees.case trees.w E E)
cases = canonical_text (trees.case trees.w E E) (omega arith)

pub uses : (name : List ℕ) → IsName name → IsTextOf (codes "use " ++ name) (trees.call name)
uses name valid = canonical_text (trees.call name) valid
