-- The generated strips fit.
use Rattle.std.specs.Prelude.{◌≡◌, ◌&&◌, ◌==◌, ℕ, Bool, true, false, not, nat_le, List, [], ◌∷◌, All, codes}
use Rattle.std.specs.List.{list_all}
use Rattle.std.proofs.Common.{arith, refl}
use Rattle.std.proofs.lemmas.Bool.{eqb-false, leb-true}
use Rattle.grid_picture.proofs.Pairs.{all_cons}
use Rattle.codex_gen.proofs.BoxRow.{IsPlain}

is_plain : ℕ → Bool
is_plain b = nat_le 32 b && nat_le b 126 && not (b == 42) && not (b == 43) && not (b == 35) && not (b == 45) && not (b == 124) && not (b == 62)

and_true : (a b : Bool) → (a && b) ≡ true → (a ≡ true) × (b ≡ true)
and_true true true e = (refl, refl)
and_true true false e = absurd (cc)
and_true false b e = absurd (cc)

not_true : (a : Bool) → not a ≡ true → a ≡ false
not_true true e = absurd (cc)
not_true false e = refl

plain_byte : (b : ℕ) → is_plain b ≡ true → IsPlain b
unfolding is_plain
plain_byte b e =
    let (a7, greater) = and_true _ _ e in
    let (a6, bar) = and_true _ _ a7 in
    let (a5, minus) = and_true _ _ a6 in
    let (a4, hash) = and_true _ _ a5 in
    let (a3, plus) = and_true _ _ a4 in
    let (a2, star) = and_true _ _ a3 in
    let (low, high) = and_true _ _ a2 in
    record {
      low = leb-true 32 b low;
      high = leb-true b 126 high;
      no_star = eqb-false b 42 (not_true _ star);
      no_plus = eqb-false b 43 (not_true _ plus);
      no_hash = eqb-false b 35 (not_true _ hash);
      no_minus = eqb-false b 45 (not_true _ minus);
      no_bar = eqb-false b 124 (not_true _ bar);
      no_greater = eqb-false b 62 (not_true _ greater);
    }

all_plain : (text : List ℕ) → list_all is_plain text ≡ true → All IsPlain text
all_plain [] e = λ k d lt. absurd (omega arith)
all_plain (b ∷ bs) e =
    let (first, rest) = and_true (is_plain b) (list_all is_plain bs) e in
    all_cons IsPlain b bs (plain_byte b first) (all_plain bs rest)

pub plain_unit : All IsPlain (codes "send[((),E)]")
unfolding is_plain
plain_unit = all_plain (codes "send[((),E)]") refl

pub plain_inl : All IsPlain (codes "send[(Inl W,E)]")
unfolding is_plain
plain_inl = all_plain (codes "send[(Inl W,E)]") refl

pub plain_inr : All IsPlain (codes "send[(Inr W,E)]")
unfolding is_plain
plain_inr = all_plain (codes "send[(Inr W,E)]") refl

pub plain_pair : All IsPlain (codes "send[((W,()),E)]")
unfolding is_plain
plain_pair = all_plain (codes "send[((W,()),E)]") refl

pub plain_nested : All IsPlain (codes "send[(((),W),E)]")
unfolding is_plain
plain_nested = all_plain (codes "send[(((),W),E)]") refl

pub plain_split : All IsPlain (codes "split W")
unfolding is_plain
plain_split = all_plain (codes "split W") refl

pub plain_case : All IsPlain (codes "case W of E,E")
unfolding is_plain
plain_case = all_plain (codes "case W of E,E") refl
