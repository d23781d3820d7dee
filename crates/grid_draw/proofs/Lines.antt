-- No two legs of the wires of a drawing are near each other.
use Rattle.std.specs.Prelude.{◌≡◌, ◌≢◌, ◌+◌, ◌*◌, ◌<◌, ◌≤◌, ℕ, suc, length}
use Rattle.std.proofs.Common.{arith, refl, sym, ap, ◌∙◌}
use Rattle.two_d.specs.Programs.{ModuleForm}
use Rattle.two_d.specs.Wires.{Axis, horizontal, vertical, axis_of}
use Rattle.two_d.specs.declared.module.Origin.{Origin}
use Rattle.two_d.specs.declared.module.Origin.TheVariants.{North, West, South, East}
use Rattle.two_d.specs.declared.module.To.{To}
use Rattle.two_d.specs.declared.module.To.TheVariants.{N, W, Exit}
use Rattle.grid_picture.specs.Courses.{Leg}
use Rattle.grid_picture.proofs.Legs.{Near, across, low, high}
use Rattle.grid_draw.specs.Layout.{box_row, start_row, end_row}
use Rattle.grid_draw.proofs.Pieces.{IsPiece, from_west, from_east, out_south, from_south, falls}
use Rattle.grid_draw.proofs.Pieces.{rises, to_n, to_w, to_exit, into_n, down_w, into_w, before}
use Rattle.grid_draw.proofs.Pieces.{AreThere, IsPast}

-- a leg that runs in a row, from a column to another
pub data RunsIn (m : ModuleForm) (o : Origin) (e : To) (k row from to : ℕ) : Type 0 where
  to_track : suc k ≡ before o → o ≢ North → row ≡ start_row o → ((b : ℕ) → o ≡ East b → 6 ≤ from)
      → RunsIn m o e k row from to
  off_track : k ≡ suc (before o) → row ≡ end_row m e → RunsIn m o e k row from to
  into_box : (b : ℕ) → k ≡ suc (suc (suc (before o))) → e ≡ W b → row ≡ box_row b 4 → to ≡ 3
      → RunsIn m o e k row from to

-- a leg that runs in a column, from a row to another
pub data RunsDown (m : ModuleForm) (t : ℕ) (o : Origin) (e : To) (k col from to : ℕ) : Type 0 where
  on_track : k ≡ before o → col ≡ t → RunsDown m t o e k col from to
  from_box : (b : ℕ) → k ≡ 0 → o ≡ South b → col ≡ 5 → from ≡ box_row b 6 → to ≡ box_row b 7
      → RunsDown m t o e k col from to
  onto_box : (b : ℕ) → k ≡ suc (suc (before o)) → e ≡ N b → col ≡ 5 → from ≡ box_row b 1
      → to ≡ box_row b 2 → RunsDown m t o e k col from to
  beside_box : (b : ℕ) → k ≡ suc (suc (before o)) → e ≡ W b → col ≡ 2 → from ≡ box_row b 0
      → to ≡ box_row b 4 → RunsDown m t o e k col from to

module _ (m : ModuleForm) where
  -- each horizontal piece runs so
  pub runs_in : (t : ℕ) (o : Origin) (e : To) (k : ℕ) (l : Leg) → IsPiece m t o e k l
      → axis_of l.to ≡ horizontal → RunsIn m o e k l.from.row (low l.to l.from l.long)
      (high l.to l.from l.long)
  runs_in t o e k l (from_west is) axis =
      to_track (ap before (sym is)) (λ x. let y = sym is ∙ x in absurd (cc)) (ap start_row (sym is))
      (λ b x. let y = sym is ∙ x in absurd (cc))
  runs_in t o e k l (from_east b is) axis =
      to_track (ap before (sym is)) (λ x. let y = sym is ∙ x in absurd (cc)) (ap start_row (sym is))
      (λ c x. omega arith)
  runs_in t o e k l (out_south b is) axis = absurd (cc)
  runs_in t o e k l (from_south b is) axis =
      to_track (ap before (sym is)) (λ x. let y = sym is ∙ x in absurd (cc)) (ap start_row (sym is))
      (λ c x. let y = sym is ∙ x in absurd (cc))
  runs_in t o e k l (falls lt) axis = absurd (cc)
  runs_in t o e k l (rises le) axis = absurd (cc)
  runs_in t o e k l (to_n b is) axis = off_track refl refl
  runs_in t o e k l (to_w b is) axis = off_track refl refl
  runs_in t o e k l (to_exit i is) axis = off_track refl refl
  runs_in t o e k l (into_n b is) axis = absurd (cc)
  runs_in t o e k l (down_w b is) axis = absurd (cc)
  runs_in t o e k l (into_w b is) axis = into_box b refl is refl (omega arith)

  -- each vertical piece runs so
  pub runs_down : (t : ℕ) (o : Origin) (e : To) (k : ℕ) (l : Leg) → IsPiece m t o e k l
      → axis_of l.to ≡ vertical → RunsDown m t o e k l.from.col (low l.to l.from l.long)
      (high l.to l.from l.long)
  runs_down t o e k l (from_west is) axis = absurd (cc)
  runs_down t o e k l (from_east b is) axis = absurd (cc)
  runs_down t o e k l (out_south b is) axis = from_box b refl is refl refl (omega arith)
  runs_down t o e k l (from_south b is) axis = absurd (cc)
  runs_down t o e k l (falls lt) axis = on_track refl refl
  runs_down t o e k l (rises le) axis = on_track refl refl
  runs_down t o e k l (to_n b is) axis = absurd (cc)
  runs_down t o e k l (to_w b is) axis = absurd (cc)
  runs_down t o e k l (to_exit i is) axis = absurd (cc)
  runs_down t o e k l (into_n b is) axis = onto_box b refl is refl refl (omega arith)
  runs_down t o e k l (down_w b is) axis = beside_box b refl is refl refl (omega arith)
  runs_down t o e k l (into_w b is) axis = absurd (cc)

-- two starts other than the entry at the top are told apart by their rows
one_start : (o p : Origin) → o ≢ North → p ≢ North → start_row o ≡ start_row p → o ≡ p
one_start North p x y e = absurd (x refl)
one_start West North x y e = absurd (y refl)
one_start West West x y e = refl
one_start West (East c) x y e = absurd (omega arith)
one_start West (South c) x y e = absurd (omega arith)
one_start (East b) North x y e = absurd (y refl)
one_start (East b) West x y e = absurd (omega arith)
one_start (East b) (East c) x y e = ap East (omega arith)
one_start (East b) (South c) x y e = absurd (omega arith)
one_start (South b) North x y e = absurd (y refl)
one_start (South b) West x y e = absurd (omega arith)
one_start (South b) (East c) x y e = absurd (omega arith)
one_start (South b) (South c) x y e = ap South (omega arith)

module _ (m : ModuleForm) where
  -- two ends are told apart by their rows
  pub one_end : (o p : Origin) (e f : To) → AreThere m o e → AreThere m p f
      → end_row m e ≡ end_row m f → e ≡ f
  one_end o p (N b) (N c) x y is = ap N (omega arith)
  one_end o p (N b) (W c) x y is = absurd (omega arith)
  one_end o p (N b) (Exit j) x y is = absurd (let lt = x.n_box b refl in omega arith)
  one_end o p (W b) (N c) x y is = absurd (omega arith)
  one_end o p (W b) (W c) x y is = ap W (omega arith)
  one_end o p (W b) (Exit j) x y is = absurd (let lt = x.w_box b refl in omega arith)
  one_end o p (Exit i) (N c) x y is = absurd (let lt = y.n_box c refl in omega arith)
  one_end o p (Exit i) (W c) x y is = absurd (let lt = y.w_box c refl in omega arith)
  one_end o p (Exit i) (Exit j) x y is = ap Exit (omega arith)

  -- no start is in the row of an end
  pub start_no_end : (o p : Origin) (e f : To) → AreThere m o e → AreThere m p f
      → start_row o ≡ end_row m f → ⊥
  start_no_end North p e (N c) x y is = omega arith
  start_no_end North p e (W c) x y is = omega arith
  start_no_end North p e (Exit j) x y is = omega arith
  start_no_end West p e (N c) x y is = omega arith
  start_no_end West p e (W c) x y is = omega arith
  start_no_end West p e (Exit j) x y is = omega arith
  start_no_end (East b) p e (N c) x y is = omega arith
  start_no_end (East b) p e (W c) x y is = omega arith
  start_no_end (East b) p e (Exit j) x y is = let lt = x.east_box b refl in omega arith
  start_no_end (South b) p e (N c) x y is = omega arith
  start_no_end (South b) p e (W c) x y is = omega arith
  start_no_end (South b) p e (Exit j) x y is = let lt = x.south_box b refl in omega arith

  -- no end is in the row of a box's text
  end_no_text : (p : Origin) (f : To) → AreThere m p f → (b : ℕ) → b < length m.boxes
      → end_row m f ≡ box_row b 4 → ⊥
  end_no_text p (N c) y b lt is = omega arith
  end_no_text p (W c) y b lt is = omega arith
  end_no_text p (Exit j) y b lt is = omega arith

-- the start in the row of a box's text is its E port
start_at_text : (o : Origin) (b : ℕ) → start_row o ≡ box_row b 4 → o ≡ East b
start_at_text North b is = absurd (omega arith)
start_at_text West b is = absurd (omega arith)
start_at_text (East c) b is = ap East (omega arith)
start_at_text (South c) b is = absurd (omega arith)

-- of two wires: which facts make them one
pub record AreApart (t u : ℕ) (o p : Origin) (e f : To) : Type 0 where
  pub by_start : o ≡ p → e ≡ f
  pub by_end : e ≡ f → o ≡ p
  pub by_track : t ≡ u → (o ≡ p) × (e ≡ f)

module _ (m : ModuleForm) (t u : ℕ) (past : IsPast m t) (past_u : IsPast m u) (o p : Origin)
    (e f : To) (x : AreThere m o e) (y : AreThere m p f) (apart : AreApart t u o p e f) where
  -- in one row
  in_one : (k j row row' from from' to to' : ℕ) → RunsIn m o e k row from to
      → RunsIn m p f j row' from' to' → row ≡ row' → from ≤ to' + 1 → from' ≤ to + 1
      → (o ≡ p) × (e ≡ f) × (k ≡ j)
  in_one k j row row' from from' to to' (to_track at_k not_n at_row east_from)
      (to_track at_j not_n' at_row' east_from') same a b =
      let starts = one_start o p not_n not_n' (sym at_row ∙ (same ∙ at_row')) in
      let long = ap before starts in
      (starts, apart.by_start starts, omega arith)
  in_one k j row row' from from' to to' (to_track at_k not_n at_row east_from)
      (off_track at_j at_row') same a b =
      absurd (start_no_end m o p e f x y (sym at_row ∙ (same ∙ at_row')))
  in_one k j row row' from from' to to' (to_track at_k not_n at_row east_from)
      (into_box c at_j is at_row' at_to') same a b =
      absurd (let six = east_from c (start_at_text o c (sym at_row ∙ (same ∙ at_row'))) in
      omega arith)
  in_one k j row row' from from' to to' (off_track at_k at_row)
      (to_track at_j not_n' at_row' east_from') same a b =
      absurd (start_no_end m p o f e y x (sym at_row' ∙ (sym same ∙ at_row)))
  in_one k j row row' from from' to to' (off_track at_k at_row) (off_track at_j at_row') same a b =
      let ends = one_end m o p e f x y (sym at_row ∙ (same ∙ at_row')) in
      let starts = apart.by_end ends in
      let long = ap before starts in
      (starts, ends, omega arith)
  in_one k j row row' from from' to to' (off_track at_k at_row)
      (into_box c at_j is at_row' at_to') same a b =
      absurd (end_no_text m o e x c (y.w_box c is) (sym at_row ∙ (same ∙ at_row')))
  in_one k j row row' from from' to to' (into_box c at_k is at_row at_to)
      (to_track at_j not_n' at_row' east_from') same a b =
      absurd (let six = east_from' c (start_at_text p c (sym at_row' ∙ (sym same ∙ at_row))) in
      omega arith)
  in_one k j row row' from from' to to' (into_box c at_k is at_row at_to)
      (off_track at_j at_row') same a b =
      absurd (end_no_text m p f y c (x.w_box c is) (sym at_row' ∙ (sym same ∙ at_row)))
  in_one k j row row' from from' to to' (into_box c at_k is at_row at_to)
      (into_box d at_j is' at_row' at_to') same a b =
      let box : c ≡ d = omega arith in
      let ends = is ∙ (ap W box ∙ sym is') in
      let starts = apart.by_end ends in
      let long = ap before starts in
      (starts, ends, omega arith)

  -- in one column
  down_one : (k j col col' from from' to to' : ℕ) → RunsDown m t o e k col from to
      → RunsDown m u p f j col' from' to' → col ≡ col' → from ≤ to' + 1 → from' ≤ to + 1
      → (o ≡ p) × (e ≡ f) × (k ≡ j)
  down_one k j col col' from from' to to' (on_track at_k at_col) (on_track at_j at_col') same a b =
      let (starts, ends) = apart.by_track (sym at_col ∙ (same ∙ at_col')) in
      let long = ap before starts in
      (starts, ends, omega arith)
  down_one k j col col' from from' to to' (on_track at_k at_col)
      (from_box c at_j is at_col' at_from at_to) same a b =
      absurd (let right = past c (y.south_box c is) in omega arith)
  down_one k j col col' from from' to to' (on_track at_k at_col)
      (onto_box c at_j is at_col' at_from at_to) same a b =
      absurd (let right = past c (y.n_box c is) in omega arith)
  down_one k j col col' from from' to to' (on_track at_k at_col)
      (beside_box c at_j is at_col' at_from at_to) same a b =
      absurd (let right = past c (y.w_box c is) in omega arith)
  down_one k j col col' from from' to to' (from_box c at_k is at_col at_from at_to)
      (on_track at_j at_col') same a b =
      absurd (let right = past_u c (x.south_box c is) in omega arith)
  down_one k j col col' from from' to to' (onto_box c at_k is at_col at_from at_to)
      (on_track at_j at_col') same a b = absurd (let right = past_u c (x.n_box c is) in omega arith)
  down_one k j col col' from from' to to' (beside_box c at_k is at_col at_from at_to)
      (on_track at_j at_col') same a b = absurd (let right = past_u c (x.w_box c is) in omega arith)
  down_one k j col col' from from' to to' (from_box c at_k is at_col at_from at_to)
      (from_box d at_j is' at_col' at_from' at_to') same a b =
      let box : c ≡ d = omega arith in
      let starts = is ∙ (ap South box ∙ sym is') in
      (starts, apart.by_start starts, omega arith)
  down_one k j col col' from from' to to' (from_box c at_k is at_col at_from at_to)
      (onto_box d at_j is' at_col' at_from' at_to') same a b = absurd (omega arith)
  down_one k j col col' from from' to to' (from_box c at_k is at_col at_from at_to)
      (beside_box d at_j is' at_col' at_from' at_to') same a b = absurd (omega arith)
  down_one k j col col' from from' to to' (onto_box c at_k is at_col at_from at_to)
      (from_box d at_j is' at_col' at_from' at_to') same a b = absurd (omega arith)
  down_one k j col col' from from' to to' (onto_box c at_k is at_col at_from at_to)
      (onto_box d at_j is' at_col' at_from' at_to') same a b =
      let box : c ≡ d = omega arith in
      let ends = is ∙ (ap N box ∙ sym is') in
      let starts = apart.by_end ends in
      let long = ap before starts in
      (starts, ends, omega arith)
  down_one k j col col' from from' to to' (onto_box c at_k is at_col at_from at_to)
      (beside_box d at_j is' at_col' at_from' at_to') same a b = absurd (omega arith)
  down_one k j col col' from from' to to' (beside_box c at_k is at_col at_from at_to)
      (from_box d at_j is' at_col' at_from' at_to') same a b = absurd (omega arith)
  down_one k j col col' from from' to to' (beside_box c at_k is at_col at_from at_to)
      (onto_box d at_j is' at_col' at_from' at_to') same a b = absurd (omega arith)
  down_one k j col col' from from' to to' (beside_box c at_k is at_col at_from at_to)
      (beside_box d at_j is' at_col' at_from' at_to') same a b =
      let box : c ≡ d = omega arith in
      let ends = is ∙ (ap W box ∙ sym is') in
      let starts = apart.by_end ends in
      let long = ap before starts in
      (starts, ends, omega arith)

  -- legs that are near each other are one leg of one wire
  pub near_one : (k j : ℕ) (l n : Leg) → IsPiece m t o e k l → IsPiece m u p f j n → Near l n
      → (o ≡ p) × (e ≡ f) × (k ≡ j)
  near_one k j l n one other near = by (axis_of l.to) refl near.line
    where
      by : (a : Axis) → axis_of l.to ≡ a → across a l.from ≡ across a n.from → (o ≡ p) × (e ≡ f)
          × (k ≡ j)
      by horizontal axis line =
          in_one k j l.from.row n.from.row (low l.to l.from l.long) (low n.to n.from n.long)
          (high l.to l.from l.long) (high n.to n.from n.long)
          (runs_in m t o e k l one axis) (runs_in m u p f j n other (sym near.axis ∙ axis)) line
          near.from_low near.to_high
      by vertical axis line =
          down_one k j l.from.col n.from.col (low l.to l.from l.long) (low n.to n.from n.long)
          (high l.to l.from l.long) (high n.to n.from n.long)
          (runs_down m t o e k l one axis) (runs_down m u p f j n other (sym near.axis ∙ axis)) line
          near.from_low near.to_high

-- the legs of a wire run across and down by turns: a leg across has an odd number, from the track's
odd_across : (m : ModuleForm) (o : Origin) (e : To) (k row from to : ℕ) → RunsIn m o e k row from to
    → (i : ℕ) × (k + before o ≡ 2 * i + 1)
odd_across m o e k row from to (to_track at_k not_n at_row east_from) = (k, omega arith)
odd_across m o e k row from to (off_track at_k at_row) = (before o, omega arith)
odd_across m o e k row from to (into_box b at_k is at_row at_to) = (suc (before o), omega arith)

-- a leg down has an even one
even_down : (m : ModuleForm) (t : ℕ) (o : Origin) (e : To) (k col from to : ℕ)
    → RunsDown m t o e k col from to → (i : ℕ) × (k + before o ≡ 2 * i)
even_down m t o e k col from to (on_track at_k at_col) = (before o, omega arith)
even_down m t o e k col from to (from_box b at_k is at_col at_from at_to) =
    (1, let two = ap before is in omega arith)
even_down m t o e k col from to (onto_box b at_k is at_col at_from at_to) =
    (suc (before o), omega arith)
even_down m t o e k col from to (beside_box b at_k is at_col at_from at_to) =
    (suc (before o), omega arith)

-- from each leg to the one after it the wire turns
pub pieces_turn : (m : ModuleForm) (t : ℕ) (o : Origin) (e : To) (k : ℕ) (l n : Leg)
    → IsPiece m t o e k l → IsPiece m t o e (suc k) n → axis_of n.to ≢ axis_of l.to
pieces_turn m t o e k l n one next same = by (axis_of l.to) refl
  where
    by : (a : Axis) → axis_of l.to ≡ a → ⊥
    by horizontal axis =
        let (i, odd) =
        odd_across m o e k l.from.row (low l.to l.from l.long) (high l.to l.from l.long)
        (runs_in m t o e k l one axis) in
        let (j, also) =
        odd_across m o e (suc k) n.from.row (low n.to n.from n.long) (high n.to n.from n.long)
        (runs_in m t o e (suc k) n next (same ∙ axis)) in
        omega arith
    by vertical axis =
        let (i, even) =
        even_down m t o e k l.from.col (low l.to l.from l.long) (high l.to l.from l.long)
        (runs_down m t o e k l one axis) in
        let (j, also) =
        even_down m t o e (suc k) n.from.col (low n.to n.from n.long) (high n.to n.from n.long)
        (runs_down m t o e (suc k) n next (same ∙ axis)) in
        omega arith
