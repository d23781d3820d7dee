-- What a sink has received of pieces that are written one after another.
use Rattle.std.proofs.Common.{◌≡◌, ◌≤◌, ◌<◌, ◌+◌, ℕ, zero, suc, List, [], ◌∷◌, ◌++◌, length, take, drop, Option, Some, None, refl, sym, ap, ◌∙◌, arith}
use Rattle.std.specs.Option.{option_map}
use Rattle.std.specs.List.{flat_map}
use Rattle.std.proofs.Common.{Bor, get_or}
use Rattle.std.proofs.lemmas.Grind.{flat_map-append}
use Rattle.std.proofs.lemmas.List.{append_assoc, append-nil, take-append-drop, take-append-le, length-append}
use Rattle.std.proofs.Math.Seq.{take-append-add, drop-cons}

-- bytes that were written after others
pub written_after : (old mid new : Option (List ℕ)) (before more : List ℕ) → mid ≡ option_map (λ held. held ++ before) old → new ≡ option_map (λ held. held ++ more) mid → new ≡ option_map (λ held. held ++ (before ++ more)) old
written_after None mid new before more e f = f ∙ ap (option_map (λ held. held ++ more)) e
written_after (Some held) mid new before more e f =
    f ∙ ap (option_map (λ h. h ++ more)) e ∙ ap Some (append_assoc held before more)

-- a beginning of the second of two pieces, after the first
pub begun_after : (old mid new : Option (List ℕ)) (before piece rest all : List ℕ) (k : ℕ) → before ++ (piece ++ rest) ≡ all →
    mid ≡ option_map (λ held. held ++ before) old → k ≤ length piece → new ≡ option_map (λ held. held ++ take k piece) mid →
    (j : ℕ) × (j ≤ length all) × (new ≡ option_map (λ held. held ++ take j all) old)
begun_after old mid new before piece rest all k is e le f =
    let beginning : take (length before + k) all ≡ before ++ take k piece =
    ap (take (length before + k)) (sym is) ∙ take-append-add before (piece ++ rest) k ∙ ap (λ bytes. before ++ bytes) (take-append-le k piece rest le) in
    let long : length all ≡ length before + (length piece + length rest) =
    ap length (sym is) ∙ length-append before (piece ++ rest) ∙ ap (λ n. length before + n) (length-append piece rest) in (
      length before + k,
      omega (arith, le, long),
      written_after old mid new before (take k piece) e f ∙ ap (λ bytes. option_map (λ held. held ++ bytes) old) (sym beginning),
    )

-- the pieces before one of them, it, and those after it are all
pub pieces_around : (pieces : List (Bor (List ℕ))) (i : ℕ) (d : Bor (List ℕ)) → i < length pieces →
    flat_map (λ piece. piece.now) (take i pieces) ++ ((get_or pieces i d).now ++ flat_map (λ piece. piece.now) (drop (suc i) pieces)) ≡ flat_map (λ piece. piece.now) pieces
pieces_around pieces i d lt =
    let text : List (Bor (List ℕ)) → List ℕ = flat_map (λ piece. piece.now) in
    ap (λ xs. text (take i pieces) ++ text xs) (sym (drop-cons pieces i d lt))
    ∙ sym (flat_map-append (λ piece. piece.now) (take i pieces) (drop i pieces))
    ∙ ap text (take-append-drop i pieces)

-- nothing was written
pub received_none : (o : Option (List ℕ)) → o ≡ option_map (λ held. held ++ []) o
received_none None = refl
received_none (Some held) = ap Some (sym (append-nil held))

-- all of a list
pub take_whole : {A : Type 0} (most : ℕ) (held : List A) → length held ≤ most → take most held ≡ held
take_whole zero [] le = refl
take_whole zero (x ∷ held) le = absurd (omega (arith, le))
take_whole (suc most) [] le = refl
take_whole (suc most) (x ∷ held) le = ap (λ xs. x ∷ xs) (take_whole most held (omega (arith, le)))
