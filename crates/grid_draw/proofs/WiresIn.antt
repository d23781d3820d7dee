-- The wires of a drawing are those of its module; no end comes twice among them.
use Rattle.std.specs.Prelude.{◌≡◌, ◌≢◌, ◌+◌, ◌<◌, ◌≤◌, ◌⊎◌, ◌↔◌, ℕ, zero, suc, List, [], ◌∷◌, ◌++◌}
use Rattle.std.specs.Prelude.{length, map, slice_get, slice_index_or, Option, Some, None, AllPairs}
use Rattle.std.specs.List.{Contains}
use Rattle.std.proofs.Common.{arith, refl, sym, ap, subst, ◌∙◌, inl, inr, get_or}
use Rattle.std.proofs.lemmas.Bool.{cases_order}
use Rattle.std.proofs.lemmas.List.Elements.{Contains-append_left, Contains-append_right}
use Rattle.std.proofs.lemmas.List.Elements.{Contains-append_cases}
use Rattle.std.proofs.lemmas.Option.{same_Some, slice_get_within, get_or_from_slice_get}
use Rattle.two_d.specs.Clean.{WireForm}
use Rattle.two_d.specs.Programs.{BoxForm, ModuleForm}
use Rattle.two_d.specs.Sound.{Comes, Exists, IsSound}
use Rattle.two_d.specs.declared.module.Origin.{Origin}
use Rattle.two_d.specs.declared.module.Origin.TheVariants.{North, West, South, East}
use Rattle.two_d.specs.declared.module.To.{To}
use Rattle.two_d.specs.declared.module.To.TheVariants.{N, W, Exit}
use Rattle.grid_picture.specs.Courses.{Course}
use Rattle.grid_picture.proofs.Pairs.{pairs_append}
use Rattle.grid_draw.specs.Layout.{width, reach_over, wire_to, box_wires, exit_wires, wires_in}
use Rattle.grid_draw.specs.Layout.{track, course_on, courses_from, courses}
use Rattle.grid_draw.proofs.Pieces.{AreThere, IsPast}
use Rattle.grid_draw.proofs.Lines.{AreApart}

-- what stands at a number of a list is in it
pub contains_at : {A : Type 0} (xs : List A) (k : ℕ) (x : A) → slice_get xs k ≡ Some x
    → Contains xs x
contains_at xs k x at_k = (k, slice_get_within xs k x at_k, get_or_from_slice_get xs k x x at_k)

-- the number of an end's box or of its exit
abbrev number_of : To → ℕ
number_of (N b) = b
number_of (W b) = b
number_of (Exit i) = i

-- the wire to an end comes from its origin
of_end : (o : Option Origin) (end : To) (w : WireForm) → Contains (wire_to o end) w
    → (o ≡ Some w.from) × (w.to ≡ end)
of_end None end w (k, lt, is) = absurd (omega arith)
of_end (Some o) end w (zero, lt, is) =
    (ap (λ (v : WireForm). Some v.from) is, ap (λ (v : WireForm). v.to) (sym is))
of_end (Some o) end w (suc k, lt, is) = absurd (omega arith)

-- a wire to one of these boxes, of which the first is box b
record IsToBox (b : ℕ) (rows : List BoxForm) (w : WireForm) : Type 0 where
  number : ℕ
  row : BoxForm
  is : slice_get rows number ≡ Some row
  wired : ((row.n ≡ Some w.from) × (w.to ≡ N (b + number)))
      ⊎ ((row.w ≡ Some w.from) × (w.to ≡ W (b + number)))

-- a wire to one of these exits, of which the first is exit i
record IsToExit (i : ℕ) (os : List (Option Origin)) (w : WireForm) : Type 0 where
  number : ℕ
  is : slice_get os number ≡ Some (Some w.from)
  to : w.to ≡ Exit (i + number)

-- each wire in the list of wires to boxes is to one of them
to_box : (b : ℕ) (rows : List BoxForm) (w : WireForm) → Contains (box_wires b rows) w
    → IsToBox b rows w
to_box b [] w (k, lt, is) = absurd (omega arith)
to_box b (row ∷ rows) w there =
    elim (Contains-append_cases (wire_to row.n (N b))
    (wire_to row.w (W b) ++ box_wires (suc b) rows) w there) [
      | inl in_n ↦ (let (from, to) = of_end row.n (N b) w in_n in
          record { number = 0; row = row; is = refl; wired = inl (from, to ∙ ap N (omega arith)) })
      | inr after ↦ elim (Contains-append_cases (wire_to row.w (W b))
          (box_wires (suc b) rows) w after) [
            | inl in_w ↦ (let (from, to) = of_end row.w (W b) w in_w in
                record {
                  number = 0;
                  row = row;
                  is =
                      refl;
                  wired = inr (from, to ∙ ap W (omega arith));
                })
            | inr later ↦ (let rest = to_box (suc b) rows w later in record {
              number = suc rest.number;
              row = rest.row;
              is = rest.is;
              wired = elim rest.wired [
                | inl by_n ↦ inl (by_n.0, by_n.1 ∙ ap N (omega arith))
                | inr by_w ↦ inr (by_w.0, by_w.1 ∙ ap W (omega arith))
              ];
            })
          ]
    ]

-- each wire in the list of wires to exits is to one of them
to_exit : (i : ℕ) (os : List (Option Origin)) (w : WireForm) → Contains (exit_wires i os) w
    → IsToExit i os w
to_exit i [] w (k, lt, is) = absurd (omega arith)
to_exit i (o ∷ os) w there =
    elim (Contains-append_cases (wire_to o (Exit i)) (exit_wires (suc i) os) w there) [
      | inl here ↦ (let (from, to) = of_end o (Exit i) w here in
          record { number = 0; is = ap (λ x. Some x) from; to = to ∙ ap Exit (omega arith) })
      | inr later ↦ (let rest = to_exit (suc i) os w later in
          record { number = suc rest.number; is = rest.is; to = rest.to ∙ ap Exit (omega arith) })
    ]

-- a wire of the drawing is one of the module
pub wire_comes : (m : ModuleForm) (w : WireForm) → Contains (wires_in m) w → Comes m w.from w.to
wire_comes m w there =
    elim (Contains-append_cases (box_wires 0 m.boxes) (exit_wires 0 m.exits) w there) [
      | inl in_boxes ↦ by_box (to_box 0 m.boxes w in_boxes)
      | inr in_exits ↦ (let x = to_exit 0 m.exits w in_exits in
          subst (Comes m w.from) (sym x.to)
          (subst (λ k. slice_get m.exits k ≡ Some (Some w.from)) (omega arith) x.is))
    ]
  where
    by_box : IsToBox 0 m.boxes w → Comes m w.from w.to
    by_box x = elim x.wired [
      | inl by_n ↦ subst (Comes m w.from) (sym by_n.1)
          (x.row, subst (λ k. slice_get m.boxes k ≡ Some x.row) (omega arith) x.is, by_n.0)
      | inr by_w ↦ subst (Comes m w.from) (sym by_w.1)
          (x.row, subst (λ k. slice_get m.boxes k ≡ Some x.row) (omega arith) x.is, by_w.0)
    ]

-- two wires with different ends
abbrev ToOthers : WireForm → WireForm → Type 0
ToOthers v w = v.to ≢ w.to

-- to one end there is one wire at most
one_apart : (o : Option Origin) (end : To) → AllPairs ToOthers (wire_to o end)
one_apart None end = λ i j d less lt. absurd (omega arith)
one_apart (Some o) end = λ i j d less lt. absurd (omega arith)

-- no two wires to exits have one end
exits_apart : (i : ℕ) (os : List (Option Origin)) → AllPairs ToOthers (exit_wires i os)
exits_apart i [] = λ k j d less lt. absurd (omega arith)
exits_apart i (o ∷ os) =
    pairs_append ToOthers (wire_to o (Exit i)) (exit_wires (suc i) os) (one_apart o (Exit i))
    (exits_apart (suc i) os)
    (λ v w in_first later e.
    let (from, to) = of_end o (Exit i) v in_first in
    let x = to_exit (suc i) os w later in
    let same = ap number_of (sym to ∙ (e ∙ x.to)) in
    omega arith)

-- no two wires to boxes have one end
boxes_apart : (b : ℕ) (rows : List BoxForm) → AllPairs ToOthers (box_wires b rows)
boxes_apart b [] = λ k j d less lt. absurd (omega arith)
boxes_apart b (row ∷ rows) =
    pairs_append ToOthers (wire_to row.n (N b)) (wire_to row.w (W b) ++ box_wires (suc b) rows)
    (one_apart row.n (N b))
    (pairs_append ToOthers (wire_to row.w (W b)) (box_wires (suc b) rows) (one_apart row.w (W b))
    (boxes_apart (suc b) rows)
    (λ v w in_first later e. not_later (W b) v w (of_end row.w (W b) v in_first).1 refl
    (to_box (suc b) rows w later) e))
    (λ v w in_first after e. elim (Contains-append_cases (wire_to row.w (W b))
    (box_wires (suc b) rows) w after) [
      | inl in_w ↦ (let one = (of_end row.n (N b) v in_first).1 in
          let other = (of_end row.w (W b) w in_w).1 in let x = sym one ∙ (e ∙ other) in absurd (cc))
      | inr later ↦ not_later (N b) v w (of_end row.n (N b) v in_first).1 refl
          (to_box (suc b) rows w later) e
    ])
  where
    not_later : (end : To) (v w : WireForm) → v.to ≡ end → number_of end ≡ b
        → IsToBox (suc b) rows w → v.to ≡ w.to → ⊥
    not_later end v w to first x e = elim x.wired [
      | inl by_n ↦ (let same = ap number_of (sym to ∙ (e ∙ by_n.1)) in omega arith)
      | inr by_w ↦ (let same = ap number_of (sym to ∙ (e ∙ by_w.1)) in omega arith)
    ]

-- no two wires have one end
wires_apart : (m : ModuleForm) → AllPairs ToOthers (wires_in m)
wires_apart m =
    pairs_append ToOthers (box_wires 0 m.boxes) (exit_wires 0 m.exits) (boxes_apart 0 m.boxes)
    (exits_apart 0 m.exits)
    (λ v w in_boxes in_exits e.
    let x = to_exit 0 m.exits w in_exits in
    elim (to_box 0 m.boxes v in_boxes).wired [
      | inl by_n ↦ (let same = sym by_n.1 ∙ (e ∙ x.to) in absurd (cc))
      | inr by_w ↦ (let same = sym by_w.1 ∙ (e ∙ x.to) in absurd (cc))
    ])

-- two wires of a drawing with one end are one
pub one_wire : (m : ModuleForm) (i j : ℕ) (v w : WireForm) → slice_get (wires_in m) i ≡ Some v
    → slice_get (wires_in m) j ≡ Some w → v.to ≡ w.to → i ≡ j
one_wire m i j v w at_i at_j e = elim (cases_order i j) [
  | inl same ↦ same
  | inr other ↦ elim other [
    | inl less ↦ absurd (before i j v w at_i at_j less e)
    | inr more ↦ absurd
        (before j i w v at_j at_i more (sym e))
  ]
]
  where
    before : (i j : ℕ) (v w : WireForm) → slice_get (wires_in m) i ≡ Some v
        → slice_get (wires_in m) j ≡ Some w → i < j → ToOthers v w
    before i j v w at_i at_j less =
        let apart = wires_apart m i j v less (slice_get_within (wires_in m) j w at_j) in
        subst (λ x. ToOthers x w) (get_or_from_slice_get (wires_in m) i v v at_i)
        (subst (ToOthers (get_or (wires_in m) i v))
        (get_or_from_slice_get (wires_in m) j w v at_j) apart)

-- the boxes reach as far as the layout says
pub text_within : (n b : ℕ) (rows : List BoxForm) → b < length rows
    → slice_index_or (map width rows) b 0 + 5 ≤ reach_over n rows
text_within n b [] lt = absurd (omega arith)
text_within n zero (row ∷ rows) lt = omega arith
text_within n (suc b) (row ∷ rows) lt = let rest = text_within n b rows (omega arith) in omega arith

-- each track is to the right of all boxes
pub tracks_past : (m : ModuleForm) (j : ℕ) → IsPast m (track m j)
tracks_past m j b lt = let within = text_within (length m.name) b m.boxes lt in omega arith

-- the course of a wire of the drawing
pub record IsCourseOf (m : ModuleForm) (c : Course) : Type 0 where
  pub number : ℕ
  pub w : WireForm
  pub is : slice_get (wires_in m) number ≡ Some w
  pub same : course_on m (track m number) w w.from ≡ c

-- each course of a list is that of a wire with the track of its number
courses_of : (m : ModuleForm) (j : ℕ) (ws : List WireForm) (c : Course)
    → Contains (courses_from m j ws) c → (i : ℕ) × (w : WireForm) × (slice_get ws i ≡ Some w)
    × (course_on m (track m (j + i)) w w.from ≡ c)
courses_of m j [] c (k, lt, is) = absurd (omega arith)
courses_of m j (w ∷ ws) c (zero, lt, is) =
    (0, w, refl, ap (λ i. course_on m (track m i) w w.from) (omega arith) ∙ is)
courses_of m j (w ∷ ws) c (suc k, lt, is) =
    let (i, v, at_i, same) = courses_of m (suc j) ws c (k, omega arith, is) in
    (suc i, v, at_i, ap (λ n. course_on m (track m n) v v.from) (omega arith) ∙ same)

-- each course of a drawing is that of a wire
pub course_of : (m : ModuleForm) (c : Course) → Contains (courses m) c → IsCourseOf m c
course_of m c there =
    let (i, w, at_i, same) = courses_of m 0 (wires_in m) c there in
    record {
      number = i;
      w = w;
      is = at_i;
      same =
          ap (λ n. course_on m (track m n) w w.from) (omega arith) ∙ same;
    }

-- the boxes of its start and end are there
pub ends_there : (m : ModuleForm) → IsSound m → (w : WireForm) → Contains (wires_in m) w
    → AreThere m w.from w.to
ends_there m sound w there = record {
  south_box = λ b e. subst (Exists m) e (sound.known w.from w.to (wire_comes m w there));
  east_box = λ b e. subst (Exists m) e (sound.known w.from w.to (wire_comes m w there));
  n_box = λ b e. (let x = subst (Comes m w.from) e (wire_comes m w there) in
      slice_get_within m.boxes b x.0 x.1);
  w_box = λ b e. (let x = subst (Comes m w.from) e (wire_comes m w there) in
      slice_get_within m.boxes b x.0 x.1);
  exit = λ i e. (let x = subst (Comes m w.from) e (wire_comes m w there) in
      slice_get_within m.exits i (Some w.from) x);
}

-- two wires are one where they have one start, one end or one track
pub wires_one : (m : ModuleForm) → IsSound m → (i j : ℕ) (v w : WireForm)
    → slice_get (wires_in m) i ≡ Some v → slice_get (wires_in m) j ≡ Some w
    → AreApart (track m i) (track m j) v.from w.from v.to w.to
wires_one m sound i j v w at_i at_j = record {
  by_start =
      λ e. sound.once v.from v.to w.to (comes i v at_i)
      (subst (λ o. Comes m o w.to) (sym e) (comes j w at_j));
  by_end = λ e. ap (λ (x : WireForm). x.from) (at_one (one_wire m i j v w at_i at_j e));
  by_track =
      λ e. (let same = at_one (omega arith) in
      (ap (λ (x : WireForm). x.from) same, ap (λ (x : WireForm). x.to) same));
}
  where
    comes : (k : ℕ) (x : WireForm) → slice_get (wires_in m) k ≡ Some x → Comes m x.from x.to
    comes k x at_k = wire_comes m x (contains_at (wires_in m) k x at_k)

    at_one : i ≡ j → v ≡ w
    at_one e = same_Some v w (sym at_i ∙ (ap (slice_get (wires_in m)) e ∙ at_j))

-- the wire to an end that has an origin
to_end : (o : Origin) (end : To) (was : Option Origin) → was ≡ Some o
    → Contains (wire_to was end) (record { from = o; to = end })
to_end o end was e =
    subst (λ x. Contains (wire_to x end) (record { from = o; to = end })) (sym e)
    (0, omega arith, refl)

-- each origin at a box has its wire in the list of wires to boxes
at_box : (b : ℕ) (rows : List BoxForm) (k : ℕ) (row : BoxForm) (o : Origin)
    → slice_get rows k ≡ Some row
    → (row.n ≡ Some o → Contains (box_wires b rows) (record { from = o; to = N (b + k) }))
    × (row.w ≡ Some o → Contains (box_wires b rows) (record { from = o; to = W (b + k) }))
at_box b [] k row o is = absurd (cc)
at_box b (first ∷ rows) zero row o is = (
  λ e. subst (λ i. Contains (box_wires b (first ∷ rows)) (record { from = o; to = N i }))
      (omega arith)
      (Contains-append_left (wire_to first.n (N b))
      (wire_to first.w (W b) ++ box_wires (suc b) rows) (record { from = o; to = N b })
      (to_end o (N b) first.n (ap (λ (r : BoxForm). r.n) (same_Some first row is) ∙ e))),
  λ e. subst (λ i. Contains (box_wires b (first ∷ rows)) (record { from = o; to = W i }))
      (omega arith)
      (Contains-append_right (wire_to first.n (N b))
      (wire_to first.w (W b) ++ box_wires (suc b) rows) (record { from = o; to = W b })
      (Contains-append_left (wire_to first.w (W b)) (box_wires (suc b) rows)
      (record { from = o; to = W b })
      (to_end o (W b) first.w (ap (λ (r : BoxForm). r.w) (same_Some first row is) ∙ e)))),
)
at_box b (first ∷ rows) (suc k) row o is =
    let (n, w) = at_box (suc b) rows k row o is in (
      λ e. later (N (b + suc k))
          (subst (λ i. Contains (box_wires (suc b) rows) (record { from = o; to = N i }))
          (omega arith) (n e)),
      λ e. later (W (b + suc k))
          (subst (λ i. Contains (box_wires (suc b) rows) (record { from = o; to = W i }))
          (omega arith) (w e)),
    )
  where
    later : (end : To) → Contains (box_wires (suc b) rows) (record { from = o; to = end })
        → Contains (box_wires b (first ∷ rows)) (record { from = o; to = end })
    later end there =
        Contains-append_right (wire_to first.n (N b))
        (wire_to first.w (W b) ++ box_wires (suc b) rows) (record { from = o; to = end })
        (Contains-append_right (wire_to first.w (W b)) (box_wires (suc b) rows)
        (record { from = o; to = end }) there)

-- each origin at an exit has its wire in the list of wires to exits
at_exit : (i : ℕ) (os : List (Option Origin)) (k : ℕ) (o : Origin) → slice_get os k ≡ Some (Some o)
    → Contains (exit_wires i os) (record { from = o; to = Exit (i + k) })
at_exit i [] k o is = absurd (cc)
at_exit i (first ∷ os) zero o is =
    subst (λ j. Contains (exit_wires i (first ∷ os)) (record { from = o; to = Exit j }))
    (omega arith)
    (Contains-append_left (wire_to first (Exit i)) (exit_wires (suc i) os)
    (record { from = o; to = Exit i }) (to_end o (Exit i) first (same_Some first (Some o) is)))
at_exit i (first ∷ os) (suc k) o is =
    subst (λ j. Contains (exit_wires i (first ∷ os)) (record { from = o; to = Exit j }))
    (omega arith)
    (Contains-append_right (wire_to first (Exit i)) (exit_wires (suc i) os)
    (record { from = o; to = Exit (suc i + k) }) (at_exit (suc i) os k o is))

-- each wire of the module is one of the drawing
pub comes_wire : (m : ModuleForm) (o : Origin) (end : To) → Comes m o end
    → Contains (wires_in m) (record { from = o; to = end })
comes_wire m o (N b) (row, at_b, is) =
    Contains-append_left (box_wires 0 m.boxes) (exit_wires 0 m.exits)
    (record { from = o; to = N b })
    (subst (λ i. Contains (box_wires 0 m.boxes) (record { from = o; to = N i })) (omega arith)
    ((at_box 0 m.boxes b row o at_b).0 is))
comes_wire m o (W b) (row, at_b, is) =
    Contains-append_left (box_wires 0 m.boxes) (exit_wires 0 m.exits)
    (record { from = o; to = W b })
    (subst (λ i. Contains (box_wires 0 m.boxes) (record { from = o; to = W i })) (omega arith)
    ((at_box 0 m.boxes b row o at_b).1 is))
comes_wire m o (Exit i) is =
    Contains-append_right (box_wires 0 m.boxes) (exit_wires 0 m.exits)
    (record { from = o; to = Exit i })
    (subst (λ j. Contains (exit_wires 0 m.exits) (record { from = o; to = Exit j })) (omega arith)
    (at_exit 0 m.exits i o is))

-- the wires on the courses are those of the module
courses_wires : (m : ModuleForm) (j : ℕ) (ws : List WireForm)
    → map (λ (c : Course). c.wire) (courses_from m j ws) ≡ ws
courses_wires m j [] = refl
courses_wires m j (w ∷ ws) =
    ap (λ l. (course_on m (track m j) w w.from).wire ∷ l) (courses_wires m (suc j) ws)
    ∙ ap (λ x. x ∷ ws) (its w.from)
  where
    its : (o : Origin) → (course_on m (track m j) w o).wire ≡ w
    its North = refl
    its West = refl
    its (East b) = refl
    its (South b) = refl

-- the module's wires are those on the courses
pub wires_shown : (m : ModuleForm) (o : Origin) (end : To)
    → Comes m o end ↔ Contains (map (λ (c : Course). c.wire) (courses m))
    (record { from = o; to = end })
wires_shown m o end = (
  λ comes. subst (λ ws. Contains ws (record { from = o; to = end }))
      (sym (courses_wires m 0 (wires_in m))) (comes_wire m o end comes),
  λ there. wire_comes m (record { from = o; to = end })
      (subst (λ ws. Contains ws (record { from = o; to = end }))
      (courses_wires m 0 (wires_in m)) there),
)
