-- The parts and the grammar are the same.
use Rattle.codex_values.specs.Tokens.{Symbol, Word}
use Rattle.std.proofs.Common.{◌≡◌, ◌≢◌, ℕ, zero, suc, ◌+◌, ◌≤◌, ◌⊎◌, inl, inr, max, List, [], ◌∷◌, ◌++◌, replicate, codes, refl, sym, ap, subst, ◌∙◌, arith, append_assoc}
use Rattle.two_d.proofs.Agree.{Part, After, Done}
use Rattle.two_d.proofs.Heads.{Head, IsAmong, OneHead, spelled, paren, paren_end, bracket, bracket_end, comma, north, west, left, right, south, east, send, case, of, split, called}
use Rattle.two_d.proofs.Parts.{heads, Then, pair_part, paren_part, tail_part, exp_part, side_of, others, out_part, second_part, outs_part, IsNameToken, name_in, name_part, rest_part, command_part, regular_command}
use Rattle.two_d.proofs.Tokens.{Token, symbol, word, quoted, Begins, OneOf, Reads, Spaced, spaced_of, begins_is, reads_text}
use Rattle.two_d.specs.Grammar as grammar
use Rattle.two_d.specs.Grammar.{IsExp, IsSide, IsOut, AreOuts, IsCommand, IsTextOf}
use Rattle.two_d.specs.Names.{IsName}
use Rattle.two_d.specs.Trees as trees
use Rattle.two_d.specs.Trees.{Tree, Form}
use Rattle.two_d.specs.declared.command.Side.TheVariants.{S, E}
use Rattle.two_d.specs.declared.command.Side.{Side}

-- Tokens.
at_spaces : (t : Token) (n : ℕ) (body b : List ℕ) → Reads t body b → Spaced t (replicate n 32 ++ body) b
at_spaces t zero body b r = spaced_of t body b r
at_spaces t (suc n) body b r = inr (refl, at_spaces t n body b r)

front_of : (t : Token) (a b : List ℕ) → Spaced t a b → (n : ℕ) × (body : List ℕ) × (a ≡ replicate n 32 ++ body) × Reads t body b
front_of t [] b r = (0, [], refl, r)
front_of t (x ∷ a) b (inl r) = (0, x ∷ a, refl, r)
front_of t (x ∷ a) b (inr r) = (let (n, body, is, reads) = front_of t a b r.1 in (suc n, body, cc (is, r.0), reads))

spaced_at : (t : Token) (bytes a b : List ℕ) → Symbol bytes a b → Reads t (bytes ++ b) b → Spaced t a b
spaced_at t bytes a b s r = subst (λ u. Spaced t u b) (sym (s.is ∙ append_assoc (replicate s.spaces 32) bytes b)) (at_spaces t s.spaces (bytes ++ b) b r)

pub spaced_symbol : (x : ℕ) (a b : List ℕ) → Symbol (x ∷ []) a b → Spaced (symbol x) a b
spaced_symbol x a b s = spaced_at (symbol x) (x ∷ []) a b s (refl, refl)

pub spaced_word : (xs a b : List ℕ) → Word xs a b → Spaced (word xs) a b
spaced_word xs a b w = spaced_at (word xs) xs a b w.symbol (reads_text (word xs) b w.whole)

spaced_quoted : (xs a b : List ℕ) → Symbol (34 ∷ xs ++ 34 ∷ []) a b → Spaced (quoted xs) a b
spaced_quoted xs a b s = spaced_at (quoted xs) (34 ∷ xs ++ 34 ∷ []) a b s (refl, subst (λ u. Begins xs u (34 ∷ b)) (sym (append_assoc xs (34 ∷ []) b)) (begins_text xs (34 ∷ b)))
  where
    begins_text : (ys e : List ℕ) → Begins ys (ys ++ e) e
    begins_text [] e = refl
    begins_text (y ∷ ys) e = (refl, begins_text ys e)

symbol_of : (bytes a b : List ℕ) (n : ℕ) (body : List ℕ) → a ≡ replicate n 32 ++ body → body ≡ bytes ++ b → Symbol bytes a b
symbol_of bytes a b n body is also = record { spaces = n; is = is ∙ ap (λ u. replicate n 32 ++ u) also ∙ sym (append_assoc (replicate n 32) bytes b) }

is_symbol : (x : ℕ) (a b : List ℕ) → Spaced (symbol x) a b → Symbol (x ∷ []) a b
is_symbol x a b r = (let (n, body, is, reads) = front_of (symbol x) a b r in symbol_of (x ∷ []) a b n body is (begins_is (x ∷ []) body b reads))

is_word : (xs a b : List ℕ) → Spaced (word xs) a b → Word xs a b
is_word xs a b r = (let (n, body, is, reads) = front_of (word xs) a b r in record { symbol = symbol_of xs a b n body is (begins_is xs body b reads.0); whole = reads.1 })

is_quoted : (xs a b : List ℕ) → Spaced (quoted xs) a b → Symbol (34 ∷ xs ++ 34 ∷ []) a b
is_quoted xs a b r = (let (n, body, is, reads) = front_of (quoted xs) a b r in symbol_of (34 ∷ xs ++ 34 ∷ []) a b n body is (text body reads))
  where
    text : (body : List ℕ) → Reads (quoted xs) body b → body ≡ (34 ∷ xs ++ 34 ∷ []) ++ b
    text [] reads = absurd reads
    text (y ∷ body) reads = (let more = begins_is xs body (34 ∷ b) reads.1 in let grouped = append_assoc xs (34 ∷ []) b in cc (more, grouped, reads.0))

-- Each expression of at most d levels fits the part.
end_not_head : (d : ℕ) → IsAmong (heads d) paren_end → ⊥
end_not_head zero (inl e) = cc
end_not_head zero (inr (inl e)) = cc
end_not_head zero (inr (inr e)) = e
end_not_head (suc d) (inl e) = cc
end_not_head (suc d) (inr (inl e)) = cc
end_not_head (suc d) (inr (inr (inl e))) = cc
end_not_head (suc d) (inr (inr (inr (inl e)))) = cc
end_not_head (suc d) (inr (inr (inr (inr (inl e))))) = cc
end_not_head (suc d) (inr (inr (inr (inr (inr e))))) = e

abbrev Ended : ℕ → Tree → Part Tree
Ended d x = After (OneHead (paren_end ∷ comma ∷ [])) (pair_part (exp_part d) x)

inside : (d : ℕ) (h : Head) (b e : List ℕ) (y : Tree) → IsAmong (heads d) h → After (tail_part d h) (Ended d) b e y → paren_part (exp_part d) (tail_part d) h b e y
inside d paren_end b e y i t = absurd (end_not_head d i)
inside d h b e y i t = t

abbrev In : ℕ → Part Tree
In d = After (OneHead (paren_end ∷ heads d)) (paren_part (exp_part d) (tail_part d))

in_paren : (d : ℕ) (b c e : List ℕ) (x y : Tree) → exp_part d b c x → Ended d x c e y → In d b e y
in_paren d b c e x y p t = record {
  middle = p.middle;
  value = p.value;
  first = (inr p.first.0, p.first.1);
  second = inside d p.value p.middle e y p.first.0 (record { middle = c; value = x; first = p.second; second = t });
}

then_fits : {V : Type 0} (h : Head) (v : V) (a b : List ℕ) → Spaced (spelled h) a b → Then h v a b v
then_fits h v a b s = record { middle = b; value = h; first = (inl refl, s); second = record { rest = refl; value = refl } }

pub exp_fits : (a b : List ℕ) (x : Tree) (m : ℕ) → IsExp a b x m → (d : ℕ) → m ≤ d → exp_part d a b x
unfolding tail_part
exp_fits _ _ _ _ (grammar.n {a} {b} w) zero le = record { middle = b; value = north; first = (inl refl, spaced_word _ a b w); second = record { rest = refl; value = refl } }
exp_fits _ _ _ _ (grammar.n {a} {b} w) (suc d) le = record { middle = b; value = north; first = (inl refl, spaced_word _ a b w); second = record { rest = refl; value = refl } }
exp_fits _ _ _ _ (grammar.w {a} {b} w) zero le = record { middle = b; value = west; first = (inr (inl refl), spaced_word _ a b w); second = record { rest = refl; value = refl } }
exp_fits _ _ _ _ (grammar.w {a} {b} w) (suc d) le = record { middle = b; value = west; first = (inr (inl refl), spaced_word _ a b w); second = record { rest = refl; value = refl } }
exp_fits _ _ _ _ (grammar.unit l r) zero le = absurd (omega (arith, le))
exp_fits _ _ _ _ (grammar.unit {a} {b} {c} l r) (suc d) le = record {
  middle = b;
  value = paren;
  first = (inr (inr (inl refl)), spaced_symbol _ a b l);
  second = record { middle = c; value = paren_end; first = (inl refl, spaced_symbol _ b c r); second = record { rest = refl; value = refl } };
}
exp_fits _ _ _ _ (grammar.pair l p m q r) zero le = absurd (omega (arith, le))
exp_fits _ _ _ _ (grammar.pair {a} {b} {c} {d} {e} {f} {x} {y} {m} {n} l p comma_there q r) (suc levels) le = record {
  middle = b;
  value = paren;
  first = (inr (inr (inl refl)), spaced_symbol _ a b l);
  second = in_paren levels b c f x (trees.pair x y) (exp_fits b c x m p levels (omega (arith, le))) (record {
    middle = d;
    value = comma;
    first = (inr (inl refl), spaced_symbol _ c d comma_there);
    second = record { middle = e; value = y; first = exp_fits d e y n q levels (omega (arith, le)); second = then_fits paren_end (trees.pair x y) e f (spaced_symbol _ e f r) };
  });
}
exp_fits _ _ _ _ (grammar.parens l p r) zero le = absurd (omega (arith, le))
exp_fits _ _ _ _ (grammar.parens {a} {b} {c} {d} {x} {n} l p r) (suc levels) le = record {
  middle = b;
  value = paren;
  first = (inr (inr (inl refl)), spaced_symbol _ a b l);
  second = in_paren levels b c d x x (exp_fits b c x n p levels (omega (arith, le))) (record {
    middle = d;
    value = paren_end;
    first = (inl refl, spaced_symbol _ c d r);
    second = record { rest = refl; value = refl };
  });
}
exp_fits _ _ _ _ (grammar.inl l p) zero le = absurd (omega (arith, le))
exp_fits _ _ _ _ (grammar.inl {a} {b} {c} {x} {n} l p) (suc levels) le = record {
  middle = b;
  value = left;
  first = (inr (inr (inr (inl refl))), spaced_word _ a b l);
  second = record { middle = c; value = x; first = exp_fits b c x n p levels (omega (arith, le)); second = record { rest = refl; value = refl } };
}
exp_fits _ _ _ _ (grammar.inr l p) zero le = absurd (omega (arith, le))
exp_fits _ _ _ _ (grammar.inr {a} {b} {c} {x} {n} l p) (suc levels) le = record {
  middle = b;
  value = right;
  first = (inr (inr (inr (inr (inl refl)))), spaced_word _ a b l);
  second = record { middle = c; value = x; first = exp_fits b c x n p levels (omega (arith, le)); second = record { rest = refl; value = refl } };
}

-- What the part holds of is an expression of at most d levels.
abbrev pub Fit : ℕ → Part Tree
Fit d a b x = (m : ℕ) × IsExp a b x m × (m ≤ d)

moved : (d m : ℕ) (a b c : List ℕ) (x y : Tree) → IsExp a b x m → b ≡ c → x ≡ y → m ≤ d → Fit d a c y
moved d m a b c x y is rest value le = (m, subst (λ u. IsExp a u y m) rest (subst (λ u. IsExp a b u m) value is), le)

abbrev AreFit : ℕ → Type 0
AreFit d = (h : Head) (a b c : List ℕ) (x : Tree) → OneHead (heads d) a b h → tail_part d h b c x → Fit d a c x

exp_from : (d : ℕ) → AreFit d → (a c : List ℕ) (x : Tree) → exp_part d a c x → Fit d a c x
exp_from d each a c x t = each t.value a t.middle c x t.first t.second

then_is : {V : Type 0} (h : Head) (v w : V) (a b : List ℕ) → Then h v a b w → Spaced (spelled h) a b × (v ≡ w)
then_is h v w a b t = elim t.first.0 [
  | inl e ↦ (subst (λ u. Spaced (spelled h) a u) t.second.rest (subst (λ u. Spaced (spelled u) a t.middle) (sym e) t.first.1), t.second.value)
  | inr none ↦ absurd none
]

ended_is : (d : ℕ) → AreFit d → (m : ℕ) → m ≤ d → (a b c e : List ℕ) (x y : Tree) (h : Head) (i : List ℕ) → Symbol (40 ∷ []) a b → IsExp b c x m → OneHead (paren_end ∷ comma ∷ []) c i h → pair_part (exp_part d) x h i e y → Fit (suc d) a e y
ended_is d each m le a b c e x y comma i l p one t =
    let (n, q, also) = exp_from d each i t.middle t.value t.first in
    let end = then_is paren_end (trees.pair x t.value) y t.middle e t.second in
    moved (suc d) (1 + max m n) a e e (trees.pair x t.value) y (grammar.pair l p (is_symbol 44 c i one.1) q (is_symbol 41 t.middle e end.0)) refl end.1 (omega (arith, le, also))
ended_is d each m le a b c e x y paren_end i l p one t =
    moved (suc d) (1 + m) a i e x y (grammar.parens l p (is_symbol 41 c i one.1)) t.rest t.value (omega (arith, le))
ended_is d each m le a b c e x y h i l p one t = elim one.0 [
  | inl other ↦ cc
  | inr more ↦ elim more [ inl other ↦ cc | inr none ↦ absurd none ]
]

paren_is : (d : ℕ) → AreFit d → (h : Head) (a b c e : List ℕ) (x : Tree) → Symbol (40 ∷ []) a b → OneHead (paren_end ∷ heads d) b c h → paren_part (exp_part d) (tail_part d) h c e x → Fit (suc d) a e x
paren_is d each paren_end a b c e x l one t = moved (suc d) 1 a c e trees.unit x (grammar.unit l (is_symbol 41 b c one.1)) t.rest t.value (omega arith)
paren_is d each h a b c e x l one t = elim one.0 [
  | inl other ↦ cc
  | inr there ↦
      let (m, p, le) = each h b c t.middle t.value (there, one.1) t.first in
      ended_is d each m le a b t.middle e t.value x t.second.value t.second.middle l p t.second.first t.second.second
]

tail_is : (d : ℕ) → AreFit d
unfolding tail_part
tail_is zero north a b c x one t = moved 0 0 a b c trees.n x (grammar.n (is_word _ a b one.1)) t.rest t.value (omega arith)
tail_is zero west a b c x one t = moved 0 0 a b c trees.w x (grammar.w (is_word _ a b one.1)) t.rest t.value (omega arith)
tail_is zero h a b c x one t = elim one.0 [
  | inl other ↦ cc
  | inr more ↦ elim more [ inl other ↦ cc | inr none ↦ absurd none ]
]
tail_is (suc d) north a b c x one t = moved (suc d) 0 a b c trees.n x (grammar.n (is_word _ a b one.1)) t.rest t.value (omega arith)
tail_is (suc d) west a b c x one t = moved (suc d) 0 a b c trees.w x (grammar.w (is_word _ a b one.1)) t.rest t.value (omega arith)
tail_is (suc d) left a b c x one t =
    (let (m, p, le) = exp_from d (tail_is d) b t.middle t.value t.first in
    moved (suc d) (1 + m) a t.middle c (trees.inl t.value) x (grammar.inl (is_word _ a b one.1) p) t.second.rest t.second.value (omega (arith, le)))
tail_is (suc d) right a b c x one t =
    (let (m, p, le) = exp_from d (tail_is d) b t.middle t.value t.first in
    moved (suc d) (1 + m) a t.middle c (trees.inr t.value) x (grammar.inr (is_word _ a b one.1) p) t.second.rest t.second.value (omega (arith, le)))
tail_is (suc d) paren a b c x one t = paren_is d (tail_is d) t.value a b t.middle c x (is_symbol 40 a b one.1) t.first t.second
tail_is (suc d) h a b c x one t = elim one.0 [
  | inl other ↦ cc
  | inr more ↦ elim more [
    | inl other ↦ cc
    | inr more ↦ elim more [
      | inl other ↦ cc
      | inr more ↦ elim more [ inl other ↦ cc | inr more ↦ elim more [ inl other ↦ cc | inr none ↦ absurd none ] ]
    ]
  ]
]

pub exp_is : (d : ℕ) (a b : List ℕ) (x : Tree) → exp_part d a b x → Fit d a b x
exp_is d a b x t = exp_from d (tail_is d) a b x t

-- Sides and outs.
abbrev Sides : List Head
Sides = south ∷ east ∷ []

side_fits : (a b : List ℕ) (s : Side) → IsSide a b s → (h : Head) × OneHead Sides a b h × (side_of h ≡ s)
side_fits _ _ _ (grammar.s {a} {b} w) = (south, (inl refl, spaced_word _ a b w), refl)
side_fits _ _ _ (grammar.e {a} {b} w) = (east, (inr (inl refl), spaced_word _ a b w), refl)

other_fits : (a b : List ℕ) (s t : Side) → IsSide a b t → s ≢ t → (h : Head) × OneHead (others s) a b h × (side_of h ≡ t)
other_fits _ _ S _ (grammar.s {a} {b} w) apart = absurd (apart refl)
other_fits _ _ E _ (grammar.s {a} {b} w) apart = (south, (inl refl, spaced_word _ a b w), refl)
other_fits _ _ S _ (grammar.e {a} {b} w) apart = (east, (inl refl, spaced_word _ a b w), refl)
other_fits _ _ E _ (grammar.e {a} {b} w) apart = absurd (apart refl)

side_is : (a b : List ℕ) (h : Head) → OneHead Sides a b h → IsSide a b (side_of h)
side_is a b south one = grammar.s (is_word _ a b one.1)
side_is a b east one = grammar.e (is_word _ a b one.1)
side_is a b h one = elim one.0 [
  | inl other ↦ cc
  | inr more ↦ elim more [ inl other ↦ cc | inr none ↦ absurd none ]
]

other_is : (s : Side) (a b : List ℕ) (h : Head) → OneHead (others s) a b h → IsSide a b (side_of h) × (s ≢ side_of h)
other_is S a b east one = (grammar.e (is_word _ a b one.1), λ e. cc)
other_is S a b h one = elim one.0 [ inl other ↦ cc | inr none ↦ absurd none ]
other_is E a b south one = (grammar.s (is_word _ a b one.1), λ e. cc)
other_is E a b h one = elim one.0 [ inl other ↦ cc | inr none ↦ absurd none ]

-- an out behind its `(`
out_fits : (d : ℕ) (hs : List Head) (b c e f g : List ℕ) (x : Tree) (s : Side) (n : ℕ) → IsExp b c x n → n ≤ d → Symbol (44 ∷ []) c e → (h : Head) → OneHead hs e f h → side_of h ≡ s → Symbol (41 ∷ []) f g → out_part d hs b g (x, s)
out_fits d hs b c e f g x s n p le comma_there h one is r = record {
  middle = c;
  value = x;
  first = exp_fits b c x n p d le;
  second = record {
    middle = e;
    value = comma;
    first = (inl refl, spaced_symbol _ c e comma_there);
    second = record { middle = f; value = h; first = one; second = record { middle = g; value = paren_end; first = (inl refl, spaced_symbol _ f g r); second = record { rest = refl; value = ap (λ u. (x, u)) is } } };
  };
}

only : (g h : Head) (a b : List ℕ) → OneHead (g ∷ []) a b h → Spaced (spelled g) a b
only g h a b one = elim one.0 [ inl e ↦ subst (λ u. Spaced (spelled u) a b) (sym e) one.1 | inr none ↦ absurd none ]

out_is : (d : ℕ) (hs : List Head) (Q : Side → Type 0) → ((u v : List ℕ) (h : Head) → OneHead hs u v h → IsSide u v (side_of h) × Q (side_of h)) → (a b c : List ℕ) (o : Tree × Side) → Symbol (40 ∷ []) a b → out_part d hs b c o → (m : ℕ) × IsOut a c o.0 o.1 m × (m ≤ d) × Q o.1
out_is d hs Q sides a b c o l t =
    let (m, p, le) = exp_is d b t.middle t.value t.first in
    let comma_there = is_symbol 44 t.middle t.second.middle (only comma t.second.value t.middle t.second.middle t.second.first) in
    let last = t.second.second in
    let side = sides t.second.middle last.middle last.value last.first in
    let end = then_is paren_end (t.value, side_of last.value) o last.middle c last.second in
    (m, subst (λ u. IsOut a c u.0 u.1 m) end.1 (grammar.out l p comma_there side.0 (is_symbol 41 last.middle c end.0)), le, subst (λ u. Q u.1) end.1 side.1)

abbrev FitsSide : List Head → Side → Type 0
FitsSide hs s = (u v : List ℕ) → IsSide u v s → (h : Head) × OneHead hs u v h × (side_of h ≡ s)

out_open : (a g : List ℕ) (x : Tree) (s : Side) (n : ℕ) → IsOut a g x s n → (d : ℕ) → n ≤ d → (hs : List Head) → FitsSide hs s → (b : List ℕ) × Symbol (40 ∷ []) a b × out_part d hs b g (x, s)
out_open _ _ _ _ _ (grammar.out {a} {b} {c} {d} {e} {f} {x} {s} {n} l p comma_there side r) levels le hs fit =
    (let (h, one, is) = fit d e side in (b, l, out_fits levels hs b c d e f x s n p le comma_there h one is r))

abbrev Outs : ℕ → Part (List (Tree × Side))
Outs d = After (OneHead (bracket_end ∷ paren ∷ [])) (outs_part d)

outs_fit : (a b : List ℕ) (outs : List (Tree × Side)) (m : ℕ) → AreOuts a b outs m → (d : ℕ) → m ≤ d → (c : List ℕ) → Symbol (93 ∷ []) b c → Outs d a c outs
outs_fit _ _ _ _ (grammar.none {a}) d le c r = record { middle = c; value = bracket_end; first = (inl refl, spaced_symbol _ a c r); second = record { rest = refl; value = refl } }
outs_fit _ _ _ _ (grammar.one {a} {b} {x} {s} {n} o) d le c r =
    let (i, l, p) = out_open a b x s n o d le Sides (λ u v. side_fits u v s) in
    record {
      middle = i;
      value = paren;
      first = (inr (inl refl), spaced_symbol _ a i l);
      second = record { middle = b; value = (x, s); first = p; second = record { middle = c; value = bracket_end; first = (inl refl, spaced_symbol _ b c r); second = record { rest = refl; value = refl } } };
    }
outs_fit _ _ _ _ (grammar.two {a} {b} {c} {d} {x} {y} {s} {t} {m} {n} o comma_there q apart) levels le e r =
    let (i, l, p) = out_open a b x s m o levels (omega (arith, le)) Sides (λ u v. side_fits u v s) in
    let (j, k, also) = out_open c d y t n q levels (omega (arith, le)) (others s) (λ u v side. other_fits u v s t side apart) in
    record {
      middle = i;
      value = paren;
      first = (inr (inl refl), spaced_symbol _ a i l);
      second = record {
        middle = b;
        value = (x, s);
        first = p;
        second = record {
          middle = c;
          value = comma;
          first = (inr (inl refl), spaced_symbol _ b c comma_there);
          second = record {
            middle = e;
            value = (y, t);
            first = record { middle = j; value = paren; first = (inl refl, spaced_symbol _ c j k); second = record { middle = d; value = (y, t); first = also; second = then_fits bracket_end (y, t) d e (spaced_symbol _ d e r) } };
            second = record { rest = refl; value = refl };
          };
        };
      };
    }

abbrev FitOuts : ℕ → List ℕ → List ℕ → List (Tree × Side) → Type 0
FitOuts d a c outs = (b : List ℕ) × (m : ℕ) × AreOuts a b outs m × Symbol (93 ∷ []) b c × (m ≤ d)

second_is : (d : ℕ) (a b c e : List ℕ) (o : Tree × Side) (outs : List (Tree × Side)) (h : Head) (m : ℕ) → IsOut a b o.0 o.1 m → m ≤ d → OneHead (bracket_end ∷ comma ∷ []) b c h → second_part d o h c e outs → FitOuts d a e outs
second_is d a b c e o outs comma m is le one t =
    let p = t.first in
    let l = only paren p.value c p.middle p.first in
    let (n, also, less, apart) = out_is d (others o.1) (λ s. o.1 ≢ s) (other_is o.1) c p.middle p.second.middle p.second.value (is_symbol 40 c p.middle l) p.second.first in
    let end = then_is bracket_end p.second.value t.value p.second.middle t.middle p.second.second in
    let outs_are_two = ap (λ u. o ∷ u ∷ []) end.1 ∙ t.second.value in
    (p.second.middle, max m n, subst (λ u. AreOuts a p.second.middle u (max m n)) outs_are_two (grammar.two is (is_symbol 44 b c one.1) also apart), subst (λ u. Symbol (93 ∷ []) p.second.middle u) t.second.rest (is_symbol 93 p.second.middle t.middle end.0), omega (arith, le, less))
second_is d a b c e o outs bracket_end m is le one t =
    (b, m, subst (λ u. AreOuts a b u m) t.value (grammar.one is), subst (λ u. Symbol (93 ∷ []) b u) t.rest (is_symbol 93 b c one.1), le)
second_is d a b c e o outs h m is le one t = elim one.0 [
  | inl other ↦ cc
  | inr more ↦ elim more [ inl other ↦ cc | inr none ↦ absurd none ]
]

outs_are : (d : ℕ) (a b c : List ℕ) (outs : List (Tree × Side)) (h : Head) → OneHead (bracket_end ∷ paren ∷ []) a b h → outs_part d h b c outs → FitOuts d a c outs
outs_are d a b c outs bracket_end one t = (a, 0, subst (λ u. AreOuts a a u 0) t.value grammar.none, subst (λ u. Symbol (93 ∷ []) a u) t.rest (is_symbol 93 a b one.1), omega arith)
outs_are d a b c outs paren one t =
    let (m, is, le, _) = out_is d Sides (λ s. Unit {0}) (λ u v h there. (side_is u v h there, tt)) a b t.middle t.value (is_symbol 40 a b one.1) t.first in
    second_is d a t.middle t.second.middle c t.value outs t.second.value m is le t.second.first t.second.second
outs_are d a b c outs h one t = elim one.0 [
  | inl other ↦ cc
  | inr more ↦ elim more [ inl other ↦ cc | inr none ↦ absurd none ]
]

-- Commands.
name_fits : (a b name : List ℕ) → ((Word name a b) ⊎ (Symbol (34 ∷ name ++ 34 ∷ []) a b)) → IsName name → name_part a b name
name_fits a b name (inl w) is = record { middle = b; value = word name; first = (is, spaced_word name a b w); second = record { rest = refl; value = refl } }
name_fits a b name (inr s) is = record { middle = b; value = quoted name; first = (is, spaced_quoted name a b s); second = record { rest = refl; value = refl } }

abbrev Commands : List Head
Commands = send ∷ case ∷ split ∷ called ∷ []

done : {V : Type 0} (v : V) (a : List ℕ) → Done v a a v
done v a = record { rest = refl; value = refl }

pub command_fits : (a b : List ℕ) (c : Form) (m : ℕ) → IsCommand a b c m → (d : ℕ) → m ≤ d → command_part d a b c
command_fits _ _ _ _ (grammar.send {a} {b} {c} {d} {e} {outs} {n} w l p r) levels le = record {
  middle = b;
  value = send;
  first = (inl refl, spaced_word _ a b w);
  second = record {
    middle = e;
    value = outs;
    first = record { middle = c; value = bracket; first = (inl refl, spaced_symbol _ b c l); second = outs_fit c d outs n p levels le e r };
    second = done (trees.send outs) e;
  };
}
command_fits _ _ _ _ (grammar.case {a} {b} {c} {d} {e} {f} {g} {x} {s} {t} {n} w p o first comma_there last) levels le =
    let (h, one, is) = side_fits d e s first in
    let (k, two, also) = side_fits f g t last in
    record {
      middle = b;
      value = case;
      first = (inr (inl refl), spaced_word _ a b w);
      second = record {
        middle = c;
        value = x;
        first = exp_fits b c x n p levels le;
        second = record {
          middle = d;
          value = of;
          first = (inl refl, spaced_word _ c d o);
          second = record {
            middle = e;
            value = h;
            first = one;
            second = record {
              middle = f;
              value = comma;
              first = (inl refl, spaced_symbol _ e f comma_there);
              second = record { middle = g; value = k; first = two; second = record { rest = refl; value = cc (is, also) } };
            };
          };
        };
      };
    }
command_fits _ _ _ _ (grammar.split {a} {b} {c} {x} {n} w p) levels le = record {
  middle = b;
  value = split;
  first = (inr (inr (inl refl)), spaced_word _ a b w);
  second = record { middle = c; value = x; first = exp_fits b c x n p levels le; second = done (trees.split x) c };
}
command_fits _ _ _ _ (grammar.named {a} {b} {c} {name} w n is) levels le = record {
  middle = b;
  value = called;
  first = (inr (inr (inr (inl refl))), spaced_word _ a b w);
  second = record { middle = c; value = name; first = name_fits b c name (inl n) is; second = done (trees.call name) c };
}
command_fits _ _ _ _ (grammar.quoted {a} {b} {c} {name} w n is) levels le = record {
  middle = b;
  value = called;
  first = (inr (inr (inr (inl refl))), spaced_word _ a b w);
  second = record { middle = c; value = name; first = name_fits b c name (inr n) is; second = done (trees.call name) c };
}

abbrev pub FitCommand : ℕ → Part Form
FitCommand d a b c = (m : ℕ) × IsCommand a b c m × (m ≤ d)

moved_command : (d m : ℕ) (a b e : List ℕ) (c f : Form) → IsCommand a b c m → b ≡ e → c ≡ f → m ≤ d → FitCommand d a e f
moved_command d m a b e c f is rest value le = (m, subst (λ u. IsCommand a u f m) rest (subst (λ u. IsCommand a b u m) value is), le)

name_is : (d : ℕ) (a b e : List ℕ) (name : List ℕ) → Word (codes "use") a b → name_part b e name → FitCommand d a e (trees.call name)
name_is d a b e name w t = by_token t.value t.first t.second.value
  where
    by_token : (u : Token) → OneOf IsNameToken b t.middle u → name_in u ≡ name → FitCommand d a e (trees.call name)
    by_token (symbol x) one is = absurd one.0
    by_token (word xs) one is = moved_command d 0 a t.middle e (trees.call xs) (trees.call name) (grammar.named w (is_word xs b t.middle one.1) one.0) t.second.rest (ap trees.call is) (omega arith)
    by_token (quoted xs) one is = moved_command d 0 a t.middle e (trees.call xs) (trees.call name) (grammar.quoted w (is_quoted xs b t.middle one.1) one.0) t.second.rest (ap trees.call is) (omega arith)

command_rest : (d : ℕ) (a b e : List ℕ) (c : Form) (h : Head) → OneHead Commands a b h → rest_part d h b e c → FitCommand d a e c
command_rest d a b e c send one t =
    let l = only bracket t.first.value b t.first.middle t.first.first in
    let (i, m, are, r, le) = outs_are d t.first.middle t.first.second.middle t.middle t.value t.first.second.value t.first.second.first t.first.second.second in
    moved_command d m a t.middle e (trees.send t.value) c (grammar.send (is_word _ a b one.1) (is_symbol 91 b t.first.middle l) are r) t.second.rest t.second.value le
command_rest d a b e c case one t =
    let (m, p, le) = exp_is d b t.middle t.value t.first in
    let o = only of t.second.value t.middle t.second.middle t.second.first in
    let more = t.second.second in
    let comma_there = only comma more.second.value more.middle more.second.middle more.second.first in
    let last = more.second.second in
    moved_command d m a last.middle e (trees.case t.value (side_of more.value) (side_of last.value)) c
    (grammar.case (is_word _ a b one.1) p (is_word _ t.middle t.second.middle o) (side_is t.second.middle more.middle more.value more.first) (is_symbol 44 more.middle more.second.middle comma_there) (side_is more.second.middle last.middle last.value last.first))
    last.second.rest last.second.value le
command_rest d a b e c split one t =
    (let (m, p, le) = exp_is d b t.middle t.value t.first in
    moved_command d m a t.middle e (trees.split t.value) c (grammar.split (is_word _ a b one.1) p) t.second.rest t.second.value le)
command_rest d a b e c called one t =
    (let (m, is, le) = name_is d a b t.middle t.value (is_word _ a b one.1) t.first in
    moved_command d m a t.middle e (trees.call t.value) c is t.second.rest t.second.value le)
command_rest d a b e c h one t = elim one.0 [
  | inl other ↦ cc
  | inr more ↦ elim more [
    | inl other ↦ cc
    | inr more ↦ elim more [
      | inl other ↦ cc
      | inr more ↦ elim more [ inl other ↦ cc | inr none ↦ absurd none ]
    ]
  ]
]

pub command_is : (d : ℕ) (a b : List ℕ) (c : Form) → command_part d a b c → FitCommand d a b c
command_is d a b c t = command_rest d a t.middle b c t.value t.first t.second

-- A text is of at most one command.
pub one_command : (text : List ℕ) (c d : Form) → IsTextOf text c → IsTextOf text d → c ≡ d
one_command text c d (m, (i, is), le) (n, (j, also), less) =
    ((regular_command 64).functional text (replicate i 32) (replicate j 32) c d (command_fits text (replicate i 32) c m is 64 le) (command_fits text (replicate j 32) d n also 64 less)).1
