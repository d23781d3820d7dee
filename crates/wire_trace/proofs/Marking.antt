-- The marks tell of the traces so far.
use Rattle.std.proofs.Common.{◌≡◌, ◌⊎◌, ◌++◌, ◌↔◌, zero, suc, inl, inr, List, [], ◌∷◌, length, refl, sym, subst, ◌∙◌, arith}
use Rattle.std.specs.List.{Any}
use Rattle.std.proofs.lemmas.Bool.{cases_lt}
use Rattle.std.proofs.lemmas.List.{get_or_append_left, get_or_push, length_push}
use Rattle.std.proofs.lemmas.List.Quantifiers.{Any-push}
use Rattle.two_d.specs.Places.{Covers}
use Rattle.two_d.specs.Ports.{Drawing}
use Rattle.two_d.specs.Wires.{Position, Trace, Collide}
use Rattle.wire_trace.specs.declared.marks.Marks.{Marks}
use Rattle.wire_trace.specs.inner.Ways.{IsOccupied, OccupiesAt}

any_left : {X : Type 0} (P : X → Type 0) (xs : List X) (y : X) → Any P xs → Any P (xs ++ y ∷ [])
any_left P xs y (k, x, less, is, p) = (k, x, let len = length_push xs y in omega arith, get_or_append_left xs (y ∷ []) x k less ∙ is, p)

any_cases : {X : Type 0} (P : X → Type 0) (xs : List X) (y : X) → Any P (xs ++ y ∷ []) → Any P xs ⊎ P y
any_cases P xs y (k, x, less, is, p) = elim (cases_lt k (length xs)) [
  | inl inside ↦ inl (k, x, inside, sym (get_or_append_left xs (y ∷ []) x k inside) ∙ is, p)
  | inr past ↦ (let len = length_push xs y in let here : length xs ≡ k = omega arith in inr (subst P (sym is ∙ get_or_push xs y x k here) p))
]

-- each cell is occupied exactly where a wire of the list passes it
abbrev Tells : Drawing → Marks → List Trace → Type 0
Tells m marks traces = (t : Position) → Covers m.frame t.place → IsOccupied marks t ↔ Any (Any (Collide m t)) traces

-- a wire begins
pub marks_first : (m : Drawing) (old new : Marks) (earlier : List Trace) (s : Position) → Tells m old earlier → OccupiesAt m old new s → Tells m new (earlier ++ (s ∷ []) ∷ [])
marks_first m old new earlier s tells occupies t inside = (
  (λ marked. elim ((occupies t inside).0 marked) [
    | inl before ↦ any_left (Any (Collide m t)) earlier (s ∷ []) ((tells t inside).0 before)
    | inr hit ↦ Any-push (Any (Collide m t)) earlier (s ∷ []) (0, s, omega arith, refl, hit)
  ]),
  (λ any. elim (any_cases (Any (Collide m t)) earlier (s ∷ []) any) [
    | inl before ↦ (occupies t inside).1 (inl ((tells t inside).1 before))
    | inr own ↦ (occupies t inside).1 (inr (elim (any_cases (Collide m t) [] s own) [ inl none ↦ absurd (omega (arith, none.2)) | inr hit ↦ hit ]))
  ]),
)

-- a wire goes on
pub marks_next : (m : Drawing) (old new : Marks) (earlier : List Trace) (way : Trace) (s : Position) → Tells m old (earlier ++ way ∷ []) → OccupiesAt m old new s → Tells m new (earlier ++ (way ++ s ∷ []) ∷ [])
marks_next m old new earlier way s tells occupies t inside = (
  (λ marked. elim ((occupies t inside).0 marked) [
    | inl before ↦ elim (any_cases (Any (Collide m t)) earlier way ((tells t inside).0 before)) [
      | inl other ↦ any_left (Any (Collide m t)) earlier (way ++ s ∷ []) other
      | inr own ↦ Any-push (Any (Collide m t)) earlier (way ++ s ∷ []) (any_left (Collide m t) way s own)
    ]
    | inr hit ↦ Any-push (Any (Collide m t)) earlier (way ++ s ∷ []) (Any-push (Collide m t) way s hit)
  ]),
  (λ any. elim (any_cases (Any (Collide m t)) earlier (way ++ s ∷ []) any) [
    | inl other ↦ (occupies t inside).1 (inl ((tells t inside).1 (any_left (Any (Collide m t)) earlier way other)))
    | inr own ↦ elim (any_cases (Collide m t) way s own) [
      | inl before ↦ (occupies t inside).1 (inl ((tells t inside).1 (Any-push (Any (Collide m t)) earlier way before)))
      | inr hit ↦ (occupies t inside).1 (inr hit)
    ]
  ]),
)

any_front : {X : Type 0} (P : X → Type 0) (xs : List X) (y : X) → Any P (y ∷ xs) → Any P (xs ++ y ∷ [])
any_front P xs y (zero, x, less, is, p) = Any-push P xs y (subst P (sym is) p)
any_front P xs y (suc k, x, less, is, p) = any_left P xs y (k, x, omega arith, is, p)

-- a cell that is free is on no wire so far
pub free_of_all : (m : Drawing) (marks : Marks) (earlier : List Trace) (way : Trace) (t : Position) → Tells m marks (earlier ++ way ∷ []) → Covers m.frame t.place → (IsOccupied marks t → ⊥) → Any (Any (Collide m t)) (way ∷ earlier) → ⊥
free_of_all m marks earlier way t tells inside free any = free ((tells t inside).1 (any_front (Any (Collide m t)) earlier way any))

-- a cell that is occupied is on an earlier wire or on this one
pub taken_by : (m : Drawing) (marks : Marks) (earlier : List Trace) (way : Trace) (t : Position) → Tells m marks (earlier ++ way ∷ []) → Covers m.frame t.place → IsOccupied marks t → Any (Any (Collide m t)) earlier ⊎ Any (Collide m t) way
taken_by m marks earlier way t tells inside marked = any_cases (Any (Collide m t)) earlier way ((tells t inside).0 marked)
