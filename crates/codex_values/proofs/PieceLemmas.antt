-- What a piece opens to.
use Rattle.std.specs.Prelude.{Option, Some, None, ◌≡◌, ℕ, ◌+◌, ◌<◌, List, [], ◌∷◌, ◌++◌, length, slice_index_or, slice_get, take, drop, is_some, option_map}
use Rattle.std.proofs.Common.{refl, sym, ◌∙◌, ap, arith}
use Rattle.std.proofs.lemmas.List.{length-append, append_assoc, append-nil, take-append-drop}
use Rattle.std.proofs.lemmas.Option.{get_or_from_slice_get}
use Rattle.std.proofs.Math.Seq.{take-append_seam}
use Rattle.umix_base.specs.Causes.{KeepsTelling}
use Rattle.codex_values.specs.declared.shape.Shape.{Shape}
use Rattle.codex_values.specs.declared.print.Piece.{Piece}
use Rattle.codex_values.specs.declared.print.Piece.TheVariants.{Whole, Comma, Close}
use Rattle.codex_values.specs.Value.{unit, pair, inl, inr, show}
use Rattle.codex_values.specs.Store.{value_at, values_of, made_of, PartsBelow}
use Rattle.codex_values.specs.inner.Pieces.{piece_text, stack_text, piece_weight, stack_weight, IsPieceIn, ArePiecesIn, Opens, IsPrinting}
use Rattle.codex_values.specs.Writing.{HasWritten, HasWrittenPart, Writes}
use Rattle.std.specs.Prelude.{codes, IsErr, Result, Ok, Err}
use Rattle.codex_values.proofs.StoreLemmas.{value_at-node}

pub stack_text-push : (nodes : List Shape) (stack : List Piece) (p : Piece) → stack_text nodes (stack ++ p ∷ []) ≡ piece_text nodes p ++ stack_text nodes stack
stack_text-push nodes [] p = sym (append-nil (piece_text nodes p))
stack_text-push nodes (q ∷ stack) p =
    ap (λ l. l ++ piece_text nodes q) (stack_text-push nodes stack p) ∙ append_assoc (piece_text nodes p) (stack_text nodes stack) (piece_text nodes q)

pub stack_weight-push : (nodes : List Shape) (stack : List Piece) (p : Piece) → stack_weight nodes (stack ++ p ∷ []) ≡ piece_weight nodes p + stack_weight nodes stack
stack_weight-push nodes [] p = refl
stack_weight-push nodes (q ∷ stack) p = omega (arith, stack_weight-push nodes stack p)

pub ArePiecesIn-push : (nodes : List Shape) (stack : List Piece) (p : Piece) → ArePiecesIn nodes stack → IsPieceIn nodes p → ArePiecesIn nodes (stack ++ p ∷ [])
ArePiecesIn-push nodes [] p h here = (here, tt)
ArePiecesIn-push nodes (q ∷ stack) p h here = (h.0, ArePiecesIn-push nodes stack p h.1 here)

-- what stands at a place, by its node
pub value_is : (nodes : List Shape) (at : ℕ) (node : Shape) → at < length nodes → slice_get nodes at ≡ Some node → PartsBelow at node →
    value_at nodes at ≡ made_of (values_of nodes) node
value_is nodes at node lt found below =
    let is : slice_index_or nodes at node ≡ node = get_or_from_slice_get nodes at node node found in
    value_at-node nodes at node (rw is below) lt ∙ ap (made_of (values_of nodes)) is

pub opens_unit : (nodes : List Shape) (at : ℕ) (stack : List Piece) → ArePiecesIn nodes stack → value_at nodes at ≡ unit → Opens nodes (Whole at) stack stack (codes "()")
opens_unit nodes at stack places is = record { same = rw is refl; nearer = rw is (omega arith); places = places }

pub opens_inl : (nodes : List Shape) (at a : ℕ) (old new : List Piece) → ArePiecesIn nodes old → a < length nodes → value_at nodes at ≡ inl (value_at nodes a) →
    new ≡ old ++ Whole a ∷ [] → Opens nodes (Whole at) old new (codes "Inl ")
opens_inl nodes at a old new places lt is made = rw made (record {
  same = rw (is, stack_text-push) (sym (append_assoc (codes "Inl ") (show (value_at nodes a)) (stack_text nodes old)));
  nearer = rw (is, stack_weight-push) (omega arith);
  places = ArePiecesIn-push nodes old (Whole a) places lt;
})

pub opens_inr : (nodes : List Shape) (at a : ℕ) (old new : List Piece) → ArePiecesIn nodes old → a < length nodes → value_at nodes at ≡ inr (value_at nodes a) →
    new ≡ old ++ Whole a ∷ [] → Opens nodes (Whole at) old new (codes "Inr ")
opens_inr nodes at a old new places lt is made = rw made (record {
  same = rw (is, stack_text-push) (sym (append_assoc (codes "Inr ") (show (value_at nodes a)) (stack_text nodes old)));
  nearer = rw (is, stack_weight-push) (omega arith);
  places = ArePiecesIn-push nodes old (Whole a) places lt;
})

pub opens_pair : (nodes : List Shape) (at a b : ℕ) (old s1 s2 s3 new : List Piece) → ArePiecesIn nodes old → a < length nodes → b < length nodes →
    value_at nodes at ≡ pair (value_at nodes a) (value_at nodes b) →
    s1 ≡ old ++ Close ∷ [] → s2 ≡ s1 ++ Whole b ∷ [] → s3 ≡ s2 ++ Comma ∷ [] → new ≡ s3 ++ Whole a ∷ [] → Opens nodes (Whole at) old new (codes "(")
opens_pair nodes at a b old s1 s2 s3 new places lta ltb is e1 e2 e3 e4 = rw (e4, e3, e2, e1) (record {
  same = rw (is, stack_text-push, stack_text-push, stack_text-push, stack_text-push) (simp append_assoc);
  nearer = rw is (simp stack_weight-push (omega arith));
  places = ArePiecesIn-push nodes _ (Whole a) (ArePiecesIn-push nodes _ Comma (ArePiecesIn-push nodes _ (Whole b) (ArePiecesIn-push nodes old Close places tt) ltb) tt) lta;
})

-- a piece that is taken off and opened
pub nearer_end : (nodes : List Shape) (old rest new : List Piece) (p : Piece) (text : List ℕ) → old ≡ rest ++ p ∷ [] → Opens nodes p rest new text →
    stack_weight nodes new < stack_weight nodes old
nearer_end nodes old rest new p text is opens = rw (is, stack_weight-push) opens.nearer

pub written-append : (t0 t1 t2 : Option (List ℕ)) (xs ys : List ℕ) → HasWritten xs t0 t1 → HasWritten ys t1 t2 → HasWritten (xs ++ ys) t0 t2
written-append None t1 t2 xs ys e f = f ∙ ap (option_map (λ held. held ++ ys)) e
written-append (Some held) t1 t2 xs ys e f = f ∙ (ap (option_map (λ held. held ++ ys)) e ∙ ap Some (append_assoc held xs ys))

-- nothing was written
pub written_nothing : (t : Option (List ℕ)) → HasWritten [] t t
written_nothing None = refl
written_nothing (Some held) = ap Some (sym (append-nil held))

-- what was written is a beginning of the text
pub written_part : (text part rest : List ℕ) (old new : Option (List ℕ)) → part ++ rest ≡ text → HasWritten part old new → HasWrittenPart text old new
written_part text part rest old new whole written =
    let is : take (length part) text ≡ part = rw (← whole) (take-append_seam part rest) in
    (length part, omega (arith, length-append part rest, ap length whole), rw is written)

-- a sink that tells goes on telling
pub tells-written : (bytes : List ℕ) (old new : Option (List ℕ)) → HasWritten bytes old new → KeepsTelling old new
tells-written bytes None new e = ap is_some e
tells-written bytes (Some held) new e = ap is_some e

pub tells-part : (text : List ℕ) (old new : Option (List ℕ)) → HasWrittenPart text old new → KeepsTelling old new
tells-part text old new (k, within, written) = tells-written (take k text) old new written

pub printing-more : (nodes : List Shape) (old rest new : List Piece) (p : Piece) (text piece : List ℕ) (t0 t1 t2 : Option (List ℕ)) →
    old ≡ rest ++ p ∷ [] → Opens nodes p rest new piece → IsPrinting nodes old text t0 t1 → HasWritten piece t1 t2 → IsPrinting nodes new text t0 t2
printing-more nodes old rest new p text piece t0 t1 t2 is opens printing more = record {
  done = printing.done ++ piece;
  whole = append_assoc printing.done piece (stack_text nodes new)
      ∙ (ap (λ l. printing.done ++ l) (opens.same ∙ (sym (stack_text-push nodes rest p) ∙ ap (stack_text nodes) (sym is))) ∙ printing.whole);
  written = written-append t0 t1 t2 printing.done piece printing.written more;
  places = opens.places;
}

pub printing-part : (nodes : List Shape) (old rest new : List Piece) (p : Piece) (text piece : List ℕ) (t0 t1 t2 : Option (List ℕ)) →
    old ≡ rest ++ p ∷ [] → Opens nodes p rest new piece → IsPrinting nodes old text t0 t1 → HasWrittenPart piece t1 t2 → HasWrittenPart text t0 t2
printing-part nodes old rest new p text piece t0 t1 t2 is opens printing (k, within, written) =
    written_part text (printing.done ++ take k piece) (drop k piece ++ stack_text nodes new) t0 t2 prefix (written-append t0 t1 t2 printing.done (take k piece) printing.written written)
  where
    prefix : (printing.done ++ take k piece) ++ (drop k piece ++ stack_text nodes new) ≡ text
    prefix = append_assoc printing.done (take k piece) (drop k piece ++ stack_text nodes new)
        ∙ (ap (λ l. printing.done ++ l) (sym (append_assoc (take k piece) (drop k piece) (stack_text nodes new)) ∙ (ap (λ l. l ++ stack_text nodes new) (take-append-drop k piece)
        ∙ (opens.same ∙ (sym (stack_text-push nodes rest p) ∙ ap (stack_text nodes) (sym is))))) ∙ printing.whole)

-- a call that stopped in the middle has written a beginning
pub printing-stopped : (nodes : List Shape) (stack : List Piece) (text : List ℕ) (t0 t1 : Option (List ℕ)) → IsPrinting nodes stack text t0 t1 → HasWrittenPart text t0 t1
printing-stopped nodes stack text t0 t1 printing = written_part text printing.done (stack_text nodes stack) t0 t1 printing.whole printing.written

pub failed-writes : {T E : Type 0} (text : List ℕ) (old new : Option (List ℕ)) (r : Result T E) → IsErr r → HasWrittenPart text old new → Writes text old new r
failed-writes text old new (Ok x) failed part = cc
failed-writes text old new (Err e) failed part = part

pub tells-writes : {T E : Type 0} (text : List ℕ) (old new : Option (List ℕ)) (r : Result T E) → Writes text old new r → KeepsTelling old new
tells-writes text old new (Ok x) written = tells-written text old new written
tells-writes text old new (Err e) part = tells-part text old new part
