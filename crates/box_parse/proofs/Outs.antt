-- How outs are written one after the other.
use Rattle.std.proofs.Common.{◌≡◌, ℕ, List, [], ◌∷◌, ◌++◌, sym, ap, ◌∙◌, append_assoc, append-nil, codes, ◌≤◌, arith, length, drop, map, get_or, Result, Ok, Err, OnOk}
use Rattle.two_d.specs.Canonical.{shown_out, shown_outs}
use Rattle.two_d.specs.Trees.{Tree}
use Rattle.two_d.specs.declared.command.Exp.{Exp}
use Rattle.two_d.specs.declared.command.Side.{Side}
use Rattle.box_parse.specs.Views.{more_outs, out_of}

pub shown_outs-cons : (o : Tree × Side) (os : List (Tree × Side)) → shown_outs (o ∷ os) ≡ shown_out o ++ more_outs os
shown_outs-cons o [] = sym (append-nil (shown_out o))
shown_outs-cons o (p ∷ os) = rw (shown_outs-cons p os) (append_assoc (shown_out o) (codes ",") (shown_out p ++ more_outs os) ∙ ap (λ u. shown_out o ++ u) (sym (append_assoc (codes ",") (shown_out p) (more_outs os))))

pub ruleset outs_rules = (shown_outs-cons)

split_outs : (outs : List (Exp × Side)) (first : Exp × Side) → 1 ≤ length outs → first ≡ get_or outs 0 first → shown_outs (map out_of outs) ≡ shown_out (out_of first) ++ more_outs (map out_of (drop 1 outs))
split_outs [] first some is = absurd (omega (arith, some))
split_outs (o ∷ os) first some is = shown_outs-cons (out_of o) (map out_of os) ∙ ap (λ u. shown_out (out_of u) ++ more_outs (map out_of os)) (sym is)

-- what the first out and those behind it write is what all of them do
pub outs_join : (old mid now : List ℕ) (outs more : List (Exp × Side)) (first : Exp × Side) → 1 ≤ length outs → first ≡ get_or outs 0 first → more ≡ drop 1 outs → mid ≡ old ++ shown_out (out_of first) → now ≡ mid ++ more_outs (map out_of more) → now ≡ old ++ shown_outs (map out_of outs)
outs_join old mid now outs more first some is rest wrote then =
    then ∙ ap (λ u. u ++ more_outs (map out_of more)) wrote ∙ append_assoc old (shown_out (out_of first)) (more_outs (map out_of more))
    ∙ ap (λ u. old ++ u) (ap (λ u. shown_out (out_of first) ++ more_outs (map out_of u)) rest ∙ sym (split_outs outs first some is))

pub on_ok_map : {X E P Q : Type 0} (r : Result X E) → (P → Q) → OnOk r P → OnOk r Q
on_ok_map (Ok x) f h = f h
on_ok_map (Err e) f h = h
