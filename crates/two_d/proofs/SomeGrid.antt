-- A text has a grid, a grid its frames, a frame its name and its boxes; or something is the first that is wrong.
use Rattle.std.specs.Prelude.{◌≡◌, ◌+◌, ◌-◌, ◌<◌, ◌≤◌, ℕ, zero, suc, List, [], ◌∷◌, length, map, slice_get, slice_index, slice_index_or, Option, Some, None, All}
use Rattle.std.specs.List.{range_with_len}
use Rattle.std.specs.Str.Lines.{lines}
use Rattle.std.proofs.Common.{arith, refl, sym, ap, subst, ◌∙◌, inl, inr, get_or}
use Rattle.std.proofs.lemmas.Bool.{cases_eq, cases_lt, cases_order}
use Rattle.std.proofs.lemmas.List.{get_or_past, same_lists, get_or_default}
use Rattle.two_d.specs.Places.{at, Rect, IsLeast}
use Rattle.two_d.specs.Faults.{too_long, bad_byte, line_too_long, two_entries, no_name, open_frame, frames_meet, open_box, boxes_meet}
use Rattle.two_d.specs.Reading.{Refused, RefusedAt, Gave}
use Rattle.two_d.specs.Cells.{Grid, cell, place_at, MayStand, IsBadByte, IsTooLong, grid_of}
use Rattle.two_d.specs.Names.{IsName, IsNameByte, BeginsWithLetter}
use Rattle.two_d.specs.Frames.{IsCorner, IsFrame, IsSecond, IsWritten, IsNameOf, north_entries, west_entries, one_entry_a_side, first_inner, frames_of, name_of}
use Rattle.two_d.specs.Boxes.{IsBoxCorner, IsBox, boxes_of}
use Rattle.two_d.proofs.BoxAt.{boxes_searchable}
use Rattle.two_d.proofs.FrameAt.{frames_searchable}
use Rattle.two_d.proofs.CellsEnd.{cell-past_line}
use Rattle.two_d.proofs.Decide.{Decided, decided_both, decided_either, decided_lt, decided_not, least_below, end_of_run}
use Rattle.two_d.proofs.SomeFigures.{decided_le, figures_some}
use Rattle.two_d.proofs.SomeReading.{HasAnswer, Found, then_some, refused_some, least_some, refused_at_some, the_or_some, gave_some}

decided_stand : (text : List ℕ) (i : ℕ) → Decided (MayStand text i)
decided_stand text i =
    decided_either (decided_both (decided_le 32 (slice_index text i)) (decided_le (slice_index text i) 126))
    (decided_either (cases_eq (slice_index text i) 10) (decided_both (cases_eq (slice_index text i) 13) (cases_eq (slice_index text (i + 1)) 10)))

decided_bad : (text : List ℕ) (i : ℕ) → Decided (IsBadByte text i)
decided_bad text i = elim (decided_both (decided_lt i (length text)) (decided_not (decided_stand text i))) [
  | inl both ↦ inl (record { within = both.0; bad = both.1 })
  | inr not_both ↦ inr (λ b. not_both (b.within, b.bad))
]

long_there : (grid : Grid) (i : ℕ) → IsTooLong grid i → i < length grid
long_there grid i long = elim (cases_lt i (length grid)) [
  | inl here ↦ here
  | inr past ↦ (let e = ap length (get_or_past grid i [] past) in omega arith)
]

pub some_grid : (text : List ℕ) → HasAnswer (grid_of text)
some_grid text =
    then_some (Refused too_long (262144 < length text)) _ (refused_some too_long (262144 < length text) (decided_lt 262144 (length text)))
    (λ _. then_some (RefusedAt (λ i. bad_byte (place_at text i)) (IsLeast (IsBadByte text))) _
    (least_some (λ i. bad_byte (place_at text i)) (IsBadByte text) (least_below (IsBadByte text) (decided_bad text) (length text) (λ i b. b.within)))
    (λ _. then_some (RefusedAt (λ i. line_too_long (at (i + 1) 4097)) (IsLeast (IsTooLong (lines text)))) (λ _. Gave (lines text))
    (least_some (λ i. line_too_long (at (i + 1) 4097)) (IsTooLong (lines text)) (least_below (IsTooLong (lines text)) (λ i. decided_lt 4096 (length (slice_index_or (lines text) i []))) (length (lines text)) (long_there (lines text))))
    (λ _. gave_some (lines text))))

second_or_none : (ns : List ℕ) → Found (IsSecond ns)
second_or_none ns = by (slice_get ns 1) refl
  where
    by : (o : Option ℕ) → slice_get ns 1 ≡ o → Found (IsSecond ns)
    by (Some n) is = inl (n, is)
    by None is = inr (λ n second. let e : Some n ≡ None = sym second ∙ is in cc)

entries_some : (grid : Grid) (f : Rect) → HasAnswer (one_entry_a_side grid f)
entries_some grid f =
    then_some (RefusedAt (λ col. two_entries (at f.top col)) (IsSecond (north_entries grid f))) (λ _. RefusedAt (λ row. two_entries (at row f.left)) (IsSecond (west_entries grid f)))
    (refused_at_some (λ col. two_entries (at f.top col)) (IsSecond (north_entries grid f)) (second_or_none (north_entries grid f)))
    (λ _. refused_at_some (λ row. two_entries (at row f.left)) (IsSecond (west_entries grid f)) (second_or_none (west_entries grid f)))

pub some_list_of_frames : (grid : Grid) → HasAnswer (frames_of grid)
some_list_of_frames grid = figures_some (IsCorner grid) (IsFrame grid) (frames_searchable grid) open_frame frames_meet (one_entry_a_side grid) (entries_some grid)

pub some_list_of_boxes : (grid : Grid) (f : Rect) → HasAnswer (boxes_of grid f)
some_list_of_boxes grid f = figures_some (IsBoxCorner grid f) (IsBox grid f) (boxes_searchable grid f) open_box boxes_meet (λ _. Gave tt) (λ _. gave_some tt)

decided_lowercase : (b : ℕ) → Decided ((97 ≤ b) × (b ≤ 122))
decided_lowercase b = decided_both (decided_le 97 b) (decided_le b 122)

decided_name_byte : (b : ℕ) → Decided (IsNameByte b)
decided_name_byte b = decided_either (decided_lowercase b) (decided_either (decided_both (decided_le 48 b) (decided_le b 57)) (cases_eq b 95))

no_name_space : (b : ℕ) → b ≡ 32 → IsNameByte b → ⊥
no_name_space b e (inl lower) = let low = lower.0 in omega arith
no_name_space b e (inr (inl digit)) = let low = digit.0 in omega arith
no_name_space b e (inr (inr line)) = omega arith

decided_letter : (bs : List ℕ) → Decided (BeginsWithLetter bs)
decided_letter [] = inr (λ x. x)
decided_letter (b ∷ bs) = decided_lowercase b

-- the bytes of a row from a column on
run_at : Grid → ℕ → ℕ → ℕ → List ℕ
run_at grid row col n = map (λ c. cell grid (at row c)) (range_with_len col n)

run_length : (grid : Grid) (row n col : ℕ) → length (map (λ c. cell grid (at row c)) (range_with_len col n)) ≡ n
run_length grid row zero col = refl
run_length grid row (suc n) col = ap suc (run_length grid row n (col + 1))

run_get : (grid : Grid) (row n col i d : ℕ) → i < n → cell grid (at row (col + i)) ≡ get_or (map (λ c. cell grid (at row c)) (range_with_len col n)) i d
run_get grid row zero col i d lt = absurd (omega arith)
run_get grid row (suc n) col zero d lt = let e : col + 0 ≡ col = omega arith in ap (λ c. cell grid (at row c)) e
run_get grid row (suc n) col (suc i) d lt =
    let e : col + suc i ≡ col + 1 + i = omega arith in
    ap (λ c. cell grid (at row c)) e ∙ run_get grid row n (col + 1) i d (omega arith)

-- the longest run of a name's bytes is the only name that can stand there
pub name_is_run : (grid : Grid) (f : Rect) (run : List ℕ) → All IsNameByte run → IsWritten grid (f.top + 1) (f.left + 1) run → (IsNameByte (cell grid (at (f.top + 1) (f.left + 1 + length run))) → ⊥) → (name : List ℕ) → IsNameOf grid f name → name ≡ run
name_is_run grid f run letters written ends name h = elim (cases_order (length name) (length run)) [
  | inl same ↦ same_lists name run same (λ k d within. get_or_default name k d 0 within ∙ (sym (h.written k within) ∙ written k (omega arith)) ∙ get_or_default run k 0 d (omega arith))
  | inr (inl less) ↦ absurd (h.longest (subst IsNameByte (sym (written (length name) less)) (letters (length name) 0 less)))
  | inr (inr more) ↦ absurd (ends (subst IsNameByte (sym (h.written (length run) more)) (h.valid.letters (length run) 0 more)))
]

name_or_none : (grid : Grid) (f : Rect) → Found (IsNameOf grid f)
name_or_none grid f =
    let row = f.top + 1 in
    let col = f.left + 1 in
    let (k, from, here, ends) = end_of_run (λ c. IsNameByte (cell grid (at row c))) (λ c. decided_name_byte (cell grid (at row c))) col (length (32 ∷ get_or ([] ∷ grid) row []))
    (λ c past. no_name_space (cell grid (at row c)) (cell-past_line grid row c past)) in
    let run = map (λ c. cell grid (at row c)) (range_with_len col (k - col)) in
    let long : length run ≡ k - col = run_length grid row (k - col) col in
    let letters : All IsNameByte run = (λ i d lt. subst IsNameByte (run_get grid row (k - col) col i d (omega arith)) (here (col + i) (omega arith) (omega arith))) in
    let written : IsWritten grid row col run = (λ i lt. run_get grid row (k - col) col i 0 (omega arith)) in
    let there : col + length run ≡ k = omega arith in
    let stops : IsNameByte (cell grid (at row (col + length run))) → ⊥ = (λ b. ends (subst (λ c. IsNameByte (cell grid (at row c))) there b)) in
    elim (decided_both (decided_letter run) (decided_le (length run) 32)) [
      | inl both ↦ inl (run, record { valid = record { letters = letters; first = both.0; short = both.1 }; written = written; longest = stops })
      | inr not_both ↦ inr (λ name h.
          let valid : IsName run = subst IsName (name_is_run grid f run letters written stops name h) h.valid in
          not_both (valid.first, valid.short))
    ]

pub some_name : (grid : Grid) (f : Rect) → HasAnswer (name_of grid f)
some_name grid f = the_or_some (no_name (first_inner f)) (IsNameOf grid f) (name_or_none grid f)
