-- The way back from the beginnings of wires to their ends: each wire that is noted stays so, since no two lead
-- from one side.
use Rattle.std.specs.Prelude.{◌≡◌, ℕ, suc, ◌+◌, ◌<◌, ◌≤◌, ◌⊎◌, Option, Some, None, List, length, map, replicate, slice_get, slice_index_or, slice_set}
use Rattle.std.proofs.Common.{refl, sym, ◌∙◌, ap, arith, inl, inr}
use Rattle.std.proofs.lemmas.Bool.{cases_eq, cases_lt}
use Rattle.std.proofs.lemmas.List.{get_or-set_same, get_or-set_other, get_or-replicate, get_or_past, length-set, length-replicate}
use Rattle.std.specs.Option.{option_map}
use Rattle.std.proofs.lemmas.Option.{slice_get-map, slice_get_read, slice_get_within}
use Rattle.two_d.specs.declared.module.BoxRow.{BoxRow}
use Rattle.two_d.specs.Programs.{ModuleForm, BoxForm, box_of}
use Rattle.two_d.specs.Sound.{IsSound, Comes}
use Rattle.two_d.specs.declared.module.Origin.{Origin}
use Rattle.two_d.specs.declared.module.Origin.TheVariants.{North, West, South, East}
use Rattle.two_d.specs.declared.module.To.{To}
use Rattle.two_d.specs.declared.module.To.TheVariants.{N, W, Exit}
use Rattle.ready_marks.specs.Ways.{WaysForm, Leads, Takes, AreWaysOf}
use Rattle.ready_marks.specs.inner.Noted.{IsWithin, lead_to, AreWaysBelow}

takes-once : (m : ModuleForm) → IsSound m → (o : Origin) (b c : ℕ) → Takes m b o → Takes m c o → b ≡ c
takes-once m s o b c (inl n) (inl n') = let e : N b ≡ N c = s.once o (N b) (N c) n n' in cc
takes-once m s o b c (inl n) (inr w') = let e : N b ≡ W c = s.once o (N b) (W c) n w' in cc
takes-once m s o b c (inr w) (inl n') = let e : W b ≡ N c = s.once o (W b) (N c) w n' in cc
takes-once m s o b c (inr w) (inr w') = let e : W b ≡ W c = s.once o (W b) (W c) w w' in cc

leads-old : (list : List (Option ℕ)) (from n f b : ℕ) → from < length list → Leads list f b → (f ≡ from → b ≡ n) → Leads (slice_set list from (Some n)) f b
leads-old list from n f b lt old same = elim (cases_eq f from) [
  | inl is ↦ rw is (get_or-set_same list from (Some n) None lt ∙ ap Some (sym (same is)))
  | inr other ↦ get_or-set_other list from f (Some n) None other ∙ old
]

leads-wired : (list : List (Option ℕ)) (from n : ℕ) (Q : ℕ → ℕ → Type 0) → from < length list → Q from n → ((f t : ℕ) → Leads list f t → Q f t) →
    (f t : ℕ) → Leads (slice_set list from (Some n)) f t → Q f t
leads-wired list from n Q lt wired old f t new = elim (cases_eq f from) [
  | inl is ↦ let here : Some n ≡ Some t = sym (get_or-set_same list from (Some n) None lt) ∙ (rw is at new) in let same : n ≡ t = cc in rw (is, ← same) wired
  | inr other ↦ old f t (sym (get_or-set_other list from f (Some n) None other) ∙ new)
]

some-same : {x y : BoxForm} → Some x ≡ Some y → x ≡ y
some-same e = cc

-- these wires are noted, and what is noted is a wire
pub record AreNoted (m : ModuleForm) (S : ℕ → Origin → Type 0) (ways : WaysForm) : Type 0 where
  pub south_sized : length ways.south ≡ length m.boxes
  pub east_sized : length ways.east ≡ length m.boxes
  pub south : (b from : ℕ) → S b (South from) → Leads ways.south from b
  pub east : (b from : ℕ) → S b (East from) → Leads ways.east from b
  pub south_wired : (from to : ℕ) → Leads ways.south from to → Takes m to (South from)
  pub east_wired : (from to : ℕ) → Leads ways.east from to → Takes m to (East from)

-- these, and one to box n from here, if it comes from anywhere
abbrev With : (ℕ → Origin → Type 0) → ℕ → Option Origin → ℕ → Origin → Type 0
With S n o b o' = S b o' ⊎ ((b ≡ n) × (o ≡ Some o'))

module _ (m : ModuleForm) (sound : IsSound m) (S : ℕ → Origin → Type 0) (real : (b : ℕ) (o : Origin) → S b o → Takes m b o) (n : ℕ) where
  noted-lead : (ways : WaysForm) (o : Option Origin) → AreNoted m S ways → IsWithin ways o → ((o' : Origin) → o ≡ Some o' → Takes m n o') → AreNoted m (With S n o) (lead_to ways o n)
  noted-lead ways None noted in_ takes = record {
    south_sized = noted.south_sized;
    east_sized = noted.east_sized;
    south_wired = noted.south_wired;
    east_wired = noted.east_wired;
    south = λ b from h. elim h [ inl old ↦ noted.south b from old | inr new ↦ let e : None ≡ Some (South from) = new.1 in cc ];
    east = λ b from h. elim h [ inl old ↦ noted.east b from old | inr new ↦ let e : None ≡ Some (East from) = new.1 in cc ];
  }
  noted-lead ways (Some North) noted in_ takes = record {
    south_sized = noted.south_sized;
    east_sized = noted.east_sized;
    south_wired = noted.south_wired;
    east_wired = noted.east_wired;
    south = λ b from h. elim h [ inl old ↦ noted.south b from old | inr new ↦ let e : Some North ≡ Some (South from) = new.1 in cc ];
    east = λ b from h. elim h [ inl old ↦ noted.east b from old | inr new ↦ let e : Some North ≡ Some (East from) = new.1 in cc ];
  }
  noted-lead ways (Some West) noted in_ takes = record {
    south_sized = noted.south_sized;
    east_sized = noted.east_sized;
    south_wired = noted.south_wired;
    east_wired = noted.east_wired;
    south = λ b from h. elim h [ inl old ↦ noted.south b from old | inr new ↦ let e : Some West ≡ Some (South from) = new.1 in cc ];
    east = λ b from h. elim h [ inl old ↦ noted.east b from old | inr new ↦ let e : Some West ≡ Some (East from) = new.1 in cc ];
  }
  noted-lead ways (Some (South at)) noted in_ takes = record {
    south_sized = length-set ways.south at (Some n) ∙ noted.south_sized;
    east_sized = noted.east_sized;
    east_wired = noted.east_wired;
    south_wired = leads-wired ways.south at n (λ f t. Takes m t (South f)) in_ (takes (South at) refl) noted.south_wired;
    south = λ b from h. elim h [
      | inl old ↦ leads-old ways.south at n from b in_ (noted.south b from old)
          (λ is. takes-once m sound (South at) b n (rw is at (real b (South from) old)) (takes (South at) refl))
      | inr new ↦ let e : Some (South at) ≡ Some (South from) = new.1 in let is : from ≡ at = cc in
          rw (is, new.0) (get_or-set_same ways.south at (Some n) None in_)
    ];
    east = λ b from h. elim h [ inl old ↦ noted.east b from old | inr new ↦ let e : Some (South at) ≡ Some (East from) = new.1 in cc ];
  }
  noted-lead ways (Some (East at)) noted in_ takes = record {
    south_sized = noted.south_sized;
    east_sized = length-set ways.east at (Some n) ∙ noted.east_sized;
    south_wired = noted.south_wired;
    east_wired = leads-wired ways.east at n (λ f t. Takes m t (East f)) in_ (takes (East at) refl) noted.east_wired;
    east = λ b from h. elim h [
      | inl old ↦ leads-old ways.east at n from b in_ (noted.east b from old)
          (λ is. takes-once m sound (East at) b n (rw is at (real b (East from) old)) (takes (East at) refl))
      | inr new ↦ let e : Some (East at) ≡ Some (East from) = new.1 in let is : from ≡ at = cc in
          rw (is, new.0) (get_or-set_same ways.east at (Some n) None in_)
    ];
    south = λ b from h. elim h [ inl old ↦ noted.south b from old | inr new ↦ let e : Some (East at) ≡ Some (South from) = new.1 in cc ];
  }

-- none of the lists leads anywhere yet
pub ways-none : (m : ModuleForm) (south east : List (Option ℕ)) → south ≡ replicate (length m.boxes) None → east ≡ replicate (length m.boxes) None →
    AreWaysBelow m 0 (record { south = south; east = east })
ways-none m south east s e = rw (s, e) fresh
  where
    none : Option ℕ
    none = None

    nowhere : (o : ℕ → Origin) (from to : ℕ) → Leads (replicate (length m.boxes) None) from to → Takes m to (o from)
    nowhere o from to leads = elim (cases_lt from (length m.boxes)) [
      | inl lt ↦ let no : None ≡ Some to = sym (get_or-replicate (length m.boxes) from None None lt) ∙ leads in cc
      | inr past ↦ let no : None ≡ Some to = sym (get_or_past (replicate (length m.boxes) None) from None (omega (arith, past, length-replicate (length m.boxes) none))) ∙ leads in cc
    ]

    fresh : AreWaysBelow m 0 (record { south = replicate (length m.boxes) None; east = replicate (length m.boxes) None })
    fresh = record {
      south_sized = length-replicate (length m.boxes) none;
      east_sized = length-replicate (length m.boxes) none;
      south = λ b from lt takes. absurd (omega arith);
      east = λ b from lt takes. absurd (omega arith);
      south_wired = nowhere South;
      east_wired = nowhere East;
    }

within-of : (m : ModuleForm) → IsSound m → (ways : WaysForm) (o : Option Origin) (end : To) → ((o' : Origin) → o ≡ Some o' → Comes m o' end) →
    length ways.south ≡ length m.boxes → length ways.east ≡ length m.boxes → IsWithin ways o
within-of m sound ways None end comes s e = tt
within-of m sound ways (Some North) end comes s e = tt
within-of m sound ways (Some West) end comes s e = tt
within-of m sound ways (Some (South from)) end comes s e = rw s (sound.known (South from) end (comes (South from) refl))
within-of m sound ways (Some (East from)) end comes s e = rw e (sound.known (East from) end (comes (East from) refl))

-- the wires of one more box are noted
pub record IsStep (m : ModuleForm) (ways : WaysForm) (b : ℕ) (row : BoxForm) : Type 0 where
  pub first : IsWithin ways row.n
  pub second : IsWithin (lead_to ways row.n b) row.w
  pub noted : AreWaysBelow m (b + 1) (lead_to (lead_to ways row.n b) row.w b)

pub ways-step : (m : ModuleForm) → IsSound m → (ways : WaysForm) (b : ℕ) (row : BoxForm) → slice_get m.boxes b ≡ Some row → b < length m.boxes → AreWaysBelow m b ways → IsStep m ways b row
ways-step m sound ways b row there lt below = record {
  first = within;
  second = within';
  noted = record {
    south_sized = both.south_sized;
    east_sized = both.east_sized;
    south_wired = both.south_wired;
    east_wired = both.east_wired;
    south = λ d from near takes. both.south d from (by d (South from) near takes);
    east = λ d from near takes. both.east d from (by d (East from) near takes);
  };
}
  where
    S : ℕ → Origin → Type 0
    S d o = (d < b) × Takes m d o

    within : IsWithin ways row.n
    within = within-of m sound ways row.n (N b) (λ o is. (row, there, is)) below.south_sized below.east_sized

    start : AreNoted m S ways
    start = record {
      south_sized = below.south_sized;
      east_sized = below.east_sized;
      south_wired = below.south_wired;
      east_wired = below.east_wired;
      south = λ d from h. below.south d from h.0 h.1;
      east = λ d from h. below.east d from h.0 h.1;
    }

    one : AreNoted m (With S b row.n) (lead_to ways row.n b)
    one = noted-lead m sound S (λ d o h. h.1) b ways row.n start within (λ o is. inl (row, there, is))

    real : (d : ℕ) (o : Origin) → With S b row.n d o → Takes m d o
    real d o (inl old) = old.1
    real d o (inr new) = rw new.0 (inl (row, there, new.1))

    within' : IsWithin (lead_to ways row.n b) row.w
    within' = within-of m sound (lead_to ways row.n b) row.w (W b) (λ o is. (row, there, is)) one.south_sized one.east_sized

    both : AreNoted m (With (With S b row.n) b row.w) (lead_to (lead_to ways row.n b) row.w b)
    both = noted-lead m sound (With S b row.n) real b (lead_to ways row.n b) row.w one within' (λ o is. inr (row, there, is))

    by : (d : ℕ) (o : Origin) → d < b + 1 → Takes m d o → With (With S b row.n) b row.w d o
    by d o near takes = elim (cases_eq d b) [
      | inl is ↦ here d o is takes
      | inr other ↦ inl (inl (omega arith, takes))
    ]
      where
        here : (d : ℕ) (o : Origin) → d ≡ b → Takes m d o → With (With S b row.n) b row.w d o
        here d o is (inl (row', there', n)) = let same : row' ≡ row = some-same (sym there' ∙ (rw is there)) in inl (inr (is, ap (λ (r : BoxForm). r.n) (sym same) ∙ n))
        here d o is (inr (row', there', w)) = let same : row' ≡ row = some-same (sym there' ∙ (rw is there)) in inr (is, ap (λ (r : BoxForm). r.w) (sym same) ∙ w)

-- box b as the module has it
pub box-read : (boxes : List BoxRow) (b : ℕ) (row : BoxRow) → b < length boxes → row ≡ slice_index_or boxes b row → slice_get (map box_of boxes) b ≡ Some (box_of row)
box-read boxes b row lt is = slice_get-map box_of boxes b ∙ ap (option_map box_of) (slice_get_read boxes (length boxes) b row refl lt is)

-- what a way leads to is a box of the module
takes-there : (m : ModuleForm) (b : ℕ) (o : Origin) → Takes m b o → b < length m.boxes
takes-there m b o (inl (row, there, is)) = slice_get_within m.boxes b row there
takes-there m b o (inr (row, there, is)) = slice_get_within m.boxes b row there

-- where those of all boxes are noted, all are
pub ways-all : (m : ModuleForm) (ways : WaysForm) → AreWaysBelow m (length m.boxes) ways → AreWaysOf m ways
ways-all m ways below = record {
  south_sized = below.south_sized;
  east_sized = below.east_sized;
  south = λ b from takes. below.south b from (takes-there m b (South from) takes) takes;
  east = λ b from takes. below.east b from (takes-there m b (East from) takes) takes;
  south_wired = below.south_wired;
  east_wired = below.east_wired;
}

pub south-there : (m : ModuleForm) (ways : WaysForm) → AreWaysOf m ways → (from to : ℕ) → Leads ways.south from to → to < length m.boxes
south-there m ways are from to leads = takes-there m to (South from) (are.south_wired from to leads)

pub east-there : (m : ModuleForm) (ways : WaysForm) → AreWaysOf m ways → (from to : ℕ) → Leads ways.east from to → to < length m.boxes
east-there m ways are from to leads = takes-there m to (East from) (are.east_wired from to leads)
