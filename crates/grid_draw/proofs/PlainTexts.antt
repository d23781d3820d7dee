-- The bytes of canonical texts: letters, digits, `_`, parentheses, brackets, commas and spaces.
use Rattle.std.specs.Prelude.{◌≡◌, ◌<◌, ◌≤◌, ◌&&◌, ◌==◌, ℕ, Bool, true}
use Rattle.std.specs.Prelude.{not, nat_le, List, [], ◌∷◌, ◌++◌, length, All, codes}
use Rattle.std.specs.List.{list_all}
use Rattle.std.proofs.Common.{arith, refl, inl, inr, get_or}
use Rattle.std.proofs.lemmas.Bool.{eqb-false, leb-true, and_parts, not-true}
use Rattle.std.proofs.lemmas.List.Elements.{Contains-append_cases}
use Rattle.two_d.specs.Canonical.{shown, shown_side, shown_out, shown_outs, canonical}
use Rattle.two_d.specs.Names.{IsNameByte}
use Rattle.two_d.specs.Trees as trees
use Rattle.two_d.specs.Trees.{Tree, Form, IsWithin}
use Rattle.two_d.specs.declared.command.Side.TheVariants.{S, E}
use Rattle.two_d.specs.declared.command.Side.{Side}
use Rattle.grid_picture.proofs.Pairs.{all_cons, all_there, there_all}

-- a printable byte that no wire and no corner of a box has
pub record IsPlain (b : ℕ) : Type 0 where
  pub low : 32 ≤ b
  pub high : b ≤ 126
  pub no_star : b ≡ 42 → ⊥
  pub no_plus : b ≡ 43 → ⊥
  pub no_hash : b ≡ 35 → ⊥
  pub no_minus : b ≡ 45 → ⊥
  pub no_bar : b ≡ 124 → ⊥

-- the same as a test
is_plain : ℕ → Bool
is_plain b =
    nat_le 32 b && nat_le b 126 && not (b == 42) && not (b == 43) && not (b == 35)
    && not (b == 45) && not (b == 124)

-- what passes it is plain
plain_byte : (b : ℕ) → is_plain b ≡ true → IsPlain b
unfolding is_plain
plain_byte b e =
    let (a6, bar) = and_parts _ _ e in
    let (a5, minus) = and_parts _ _ a6 in
    let (a4, hash) = and_parts _ _ a5 in
    let (a3, plus) = and_parts _ _ a4 in
    let (a2, star) = and_parts _ _ a3 in
    let (low, high) = and_parts _ _ a2 in
    record {
      low = leb-true 32 b low;
      high = leb-true b 126 high;
      no_star = eqb-false b 42 (not-true _ star);
      no_plus = eqb-false b 43 (not-true _ plus);
      no_hash = eqb-false b 35 (not-true _ hash);
      no_minus = eqb-false b 45 (not-true _ minus);
      no_bar = eqb-false b 124 (not-true _ bar);
    }

-- a text whose bytes are tried one after the other
tried : (text : List ℕ) → list_all is_plain text ≡ true → All IsPlain text
tried [] e = λ k d lt. absurd (omega arith)
tried (b ∷ bs) e =
    let (first, rest) = and_parts (is_plain b) (list_all is_plain bs) e in
    all_cons IsPlain b bs (plain_byte b first) (tried bs rest)

-- two texts, one behind the other
both : (xs ys : List ℕ) → All IsPlain xs → All IsPlain ys → All IsPlain (xs ++ ys)
both xs ys one other =
    all_there IsPlain (xs ++ ys) (λ x there. elim (Contains-append_cases xs ys x there) [
      | inl here ↦ there_all IsPlain xs one x here
      | inr later ↦ there_all IsPlain ys other x later
    ])

-- a comma
tried_comma : All IsPlain (codes ",")
unfolding is_plain
tried_comma = tried (codes ",") refl

-- an opening parenthesis
tried_open : All IsPlain (codes "(")
unfolding is_plain
tried_open = tried (codes "(") refl

-- a closing one
tried_close : All IsPlain (codes ")")
unfolding is_plain
tried_close = tried (codes ")") refl

-- the text of an expression
plain_tree : (x : Tree) → All IsPlain (shown x)
unfolding is_plain
plain_tree trees.unit = tried (codes "()") refl
plain_tree trees.n = tried (codes "N") refl
plain_tree trees.w = tried (codes "W") refl
plain_tree (trees.pair a b) =
    both (codes "(" ++ shown a ++ codes "," ++ shown b) (codes ")")
    (both (codes "(" ++ shown a ++ codes ",") (shown b)
    (both (codes "(" ++ shown a) (codes ",")
    (both (codes "(") (shown a) tried_open (plain_tree a)) tried_comma) (plain_tree b)) tried_close
plain_tree (trees.inl a) = both (codes "Inl ") (shown a) (tried (codes "Inl ") refl) (plain_tree a)
plain_tree (trees.inr a) = both (codes "Inr ") (shown a) (tried (codes "Inr ") refl) (plain_tree a)

-- the text of a side
plain_side : (s : Side) → All IsPlain (shown_side s)
unfolding is_plain
plain_side S = tried (codes "S") refl
plain_side E = tried (codes "E") refl

-- the text of what is sent to a side
plain_out : (o : Tree × Side) → All IsPlain (shown_out o)
plain_out (x, s) =
    both (codes "(" ++ shown x ++ codes "," ++ shown_side s) (codes ")")
    (both (codes "(" ++ shown x ++ codes ",") (shown_side s)
    (both (codes "(" ++ shown x) (codes ",")
    (both (codes "(") (shown x) tried_open (plain_tree x)) tried_comma) (plain_side s)) tried_close

-- the text of all that is sent
plain_outs : (outs : List (Tree × Side)) → All IsPlain (shown_outs outs)
plain_outs [] = λ k d lt. absurd (omega arith)
plain_outs (o ∷ []) = plain_out o
plain_outs (o ∷ p ∷ more) =
    both (shown_out o ++ codes ",") (shown_outs (p ∷ more))
    (both (shown_out o) (codes ",") (plain_out o) tried_comma) (plain_outs (p ∷ more))

-- a byte of a name is plain
pub plain_letter : (b : ℕ) → IsNameByte b → IsPlain b
plain_letter b (inl lower) = record {
  low = omega arith;
  high = omega arith;
  no_star = λ e. omega arith;
  no_plus = λ e. omega arith;
  no_hash = λ e. omega arith;
  no_minus = λ e. omega arith;
  no_bar = λ e. omega arith;
}
plain_letter b (inr (inl digit)) = record {
  low = omega arith;
  high = omega arith;
  no_star = λ e. omega arith;
  no_plus = λ e. omega arith;
  no_hash = λ e. omega arith;
  no_minus = λ e. omega arith;
  no_bar = λ e. omega arith;
}
plain_letter b (inr (inr underline)) = record {
  low = omega arith;
  high = omega arith;
  no_star = λ e. omega arith;
  no_plus = λ e. omega arith;
  no_hash = λ e. omega arith;
  no_minus = λ e. omega arith;
  no_bar = λ e. omega arith;
}

-- all bytes of a canonical text are plain
pub plain_text : (c : Form) → IsWithin c → All IsPlain (canonical c)
unfolding is_plain
plain_text (trees.send outs) within =
    both (codes "send [" ++ shown_outs outs) (codes "]")
    (both (codes "send [") (shown_outs outs) (tried (codes "send [") refl) (plain_outs outs))
    (tried (codes "]") refl)
plain_text (trees.case x s t) within =
    both (codes "case " ++ shown x ++ codes " of " ++ shown_side s ++ codes ",") (shown_side t)
    (both (codes "case " ++ shown x ++ codes " of " ++ shown_side s) (codes ",")
    (both (codes "case " ++ shown x ++ codes " of ") (shown_side s)
    (both (codes "case " ++ shown x) (codes " of ")
    (both (codes "case ") (shown x) (tried (codes "case ") refl) (plain_tree x))
    (tried (codes " of ") refl)) (plain_side s)) tried_comma) (plain_side t)
plain_text (trees.split x) within =
    both (codes "split ") (shown x) (tried (codes "split ") refl) (plain_tree x)
plain_text (trees.call name) within =
    both (codes "use ") name (tried (codes "use ") refl)
    (λ k d lt. plain_letter (get_or name k d) (within.letters k d lt))

-- no canonical text is empty
pub text_some : (c : Form) → 0 < length (canonical c)
text_some (trees.send outs) = omega arith
text_some (trees.case x s t) = omega arith
text_some (trees.split x) = omega arith
text_some (trees.call name) = omega arith
