-- To which box a wire leads, as noted end by end.
use Rattle.std.specs.Prelude.{◌≡◌, ℕ, zero, suc, ◌+◌, ◌<◌, ◌⊎◌, Bool, List, [], length, slice_get, slice_index_or, replicate, Option, Some, None}
use Rattle.std.proofs.Common.{arith, refl, sym, ap, ◌∙◌, inl, inr, subst}
use Rattle.std.proofs.lemmas.Bool.{cases_eq}
use Rattle.std.proofs.lemmas.Option.{slice_get-get_or}
use Rattle.std.proofs.lemmas.List.{get_or-set_same, get_or-set_other, length-set, length-replicate}
use Rattle.two_d.specs.Programs.{BoxForm, ModuleForm}
use Rattle.two_d.specs.Sound.{IsSound, Comes}
use Rattle.two_d.specs.Trees.{send}
use Rattle.two_d.specs.inner.Orders.{north_at, west_at, IsMarkedBox, IsFrom, IsFromBelow, AreFed, origin_of, LeadsAmong, AreTargets, noted}
use Rattle.two_d.specs.declared.command.Side.{Side}
use Rattle.two_d.specs.declared.command.Side.TheVariants.{S, E}
use Rattle.two_d.specs.declared.module.Origin.{Origin}
use Rattle.two_d.specs.declared.module.Origin.TheVariants.{North, West, South, East}
use Rattle.two_d.specs.declared.module.To.TheVariants.{N, W}
use Rattle.two_d.proofs.Decide.{Decided}
use Rattle.two_d.proofs.Rings.{start_of, feeds_of, of_feeds, feeder_there}

no_box : BoxForm
no_box = record { command = send []; n = None; w = None }

pub row_there : (m : ModuleForm) (b : ℕ) → b < length m.boxes → (row : BoxForm) × (slice_get m.boxes b ≡ Some row) × (north_at m b ≡ row.n) × (west_at m b ≡ row.w)
row_there m b lt =
    let row = slice_index_or m.boxes b no_box in
    let is : slice_get m.boxes b ≡ Some row = slice_get-get_or m.boxes b no_box lt in
    (row, is, rw is refl, rw is refl)

from_starts : (marks : List Bool) (o : Option Origin) → IsFrom marks o → (a : ℕ) → start_of o ≡ Some a → IsMarkedBox marks a
from_starts marks None is a e = absurd (cc)
from_starts marks (Some North) is a e = absurd (cc)
from_starts marks (Some West) is a e = absurd (cc)
from_starts marks (Some (South b)) is a e = let f : b ≡ a = cc in subst (IsMarkedBox marks) f is
from_starts marks (Some (East b)) is a e = let f : b ≡ a = cc in subst (IsMarkedBox marks) f is

starts_from : (marks : List Bool) (o : Option Origin) → ((a : ℕ) → start_of o ≡ Some a → IsMarkedBox marks a) → IsFrom marks o
starts_from marks None h = tt
starts_from marks (Some North) h = tt
starts_from marks (Some West) h = tt
starts_from marks (Some (South b)) h = h b refl
starts_from marks (Some (East b)) h = h b refl

starts_below : (n : ℕ) (o : Option Origin) → ((a : ℕ) → start_of o ≡ Some a → a < n) → IsFromBelow n o
starts_below n None h = tt
starts_below n (Some North) h = tt
starts_below n (Some West) h = tt
starts_below n (Some (South b)) h = h b refl
starts_below n (Some (East b)) h = h b refl

pub north_below : (m : ModuleForm) (b : ℕ) → IsSound m → b < length m.boxes → IsFromBelow (length m.boxes) (north_at m b)
north_below m b sound lt =
    let (row, is, n, w) = row_there m b lt in
    subst (IsFromBelow (length m.boxes)) (sym n) (starts_below (length m.boxes) row.n (λ a e. feeder_there m a b sound (feeds_of m a b row is (inl e))))

pub west_below : (m : ModuleForm) (b : ℕ) → IsSound m → b < length m.boxes → IsFromBelow (length m.boxes) (west_at m b)
west_below m b sound lt =
    let (row, is, n, w) = row_there m b lt in
    subst (IsFromBelow (length m.boxes)) (sym w) (starts_below (length m.boxes) row.w (λ a e. feeder_there m a b sound (feeds_of m a b row is (inr e))))

-- what feeds a box is marked where both wires come from what is
pub fed_from : (m : ModuleForm) (marks : List Bool) (b : ℕ) → b < length m.boxes → IsFrom marks (north_at m b) → IsFrom marks (west_at m b) → AreFed m marks b
fed_from m marks b lt north west a feeds =
    let (row, is, n, w) = row_there m b lt in
    elim (of_feeds m a b row is feeds) [
      | inl e ↦ from_starts marks row.n (subst (IsFrom marks) n north) a e
      | inr e ↦ from_starts marks row.w (subst (IsFrom marks) w west) a e
    ]

pub north_fed : (m : ModuleForm) (marks : List Bool) (b : ℕ) → b < length m.boxes → AreFed m marks b → IsFrom marks (north_at m b)
north_fed m marks b lt fed =
    let (row, is, n, w) = row_there m b lt in
    subst (IsFrom marks) (sym n) (starts_from marks row.n (λ a e. fed a (feeds_of m a b row is (inl e))))

pub west_fed : (m : ModuleForm) (marks : List Bool) (b : ℕ) → b < length m.boxes → AreFed m marks b → IsFrom marks (west_at m b)
west_fed m marks b lt fed =
    let (row, is, n, w) = row_there m b lt in
    subst (IsFrom marks) (sym w) (starts_from marks row.w (λ a e. fed a (feeds_of m a b row is (inr e))))

decided_begins : (o : Option Origin) (side : Side) (a : ℕ) → Decided (o ≡ Some (origin_of side a))
decided_begins None side a = inr (λ e. absurd (cc))
decided_begins (Some North) S a = inr (λ e. absurd (cc))
decided_begins (Some North) E a = inr (λ e. absurd (cc))
decided_begins (Some West) S a = inr (λ e. absurd (cc))
decided_begins (Some West) E a = inr (λ e. absurd (cc))
decided_begins (Some (South b)) S a = elim (cases_eq b a) [ inl same ↦ inl (ap (λ x. Some (South x)) same) | inr apart ↦ inr (λ e. apart (cc)) ]
decided_begins (Some (South b)) E a = inr (λ e. absurd (cc))
decided_begins (Some (East b)) S a = inr (λ e. absurd (cc))
decided_begins (Some (East b)) E a = elim (cases_eq b a) [ inl same ↦ inl (ap (λ x. Some (East x)) same) | inr apart ↦ inr (λ e. apart (cc)) ]

hit : (side : Side) (o : Option Origin) (b a : ℕ) (ts : List (Option ℕ)) → o ≡ Some (origin_of side a) → a < length ts → slice_index_or (noted side o b ts) a None ≡ Some b
hit S None b a ts e lt = absurd (cc)
hit E None b a ts e lt = absurd (cc)
hit S (Some North) b a ts e lt = absurd (cc)
hit E (Some North) b a ts e lt = absurd (cc)
hit S (Some West) b a ts e lt = absurd (cc)
hit E (Some West) b a ts e lt = absurd (cc)
hit S (Some (South c)) b a ts e lt = let f : c ≡ a = cc in rw f (get_or-set_same ts a (Some b) None lt)
hit E (Some (South c)) b a ts e lt = absurd (cc)
hit S (Some (East c)) b a ts e lt = absurd (cc)
hit E (Some (East c)) b a ts e lt = let f : c ≡ a = cc in rw f (get_or-set_same ts a (Some b) None lt)

miss : (side : Side) (o : Option Origin) (b a : ℕ) (ts : List (Option ℕ)) → (o ≡ Some (origin_of side a) → ⊥) → slice_index_or (noted side o b ts) a None ≡ slice_index_or ts a None
miss S None b a ts apart = refl
miss E None b a ts apart = refl
miss S (Some North) b a ts apart = refl
miss E (Some North) b a ts apart = refl
miss S (Some West) b a ts apart = refl
miss E (Some West) b a ts apart = refl
miss S (Some (South c)) b a ts apart = get_or-set_other ts c a (Some b) None (λ same. apart (ap (λ x. Some (South x)) (sym same)))
miss E (Some (South c)) b a ts apart = refl
miss S (Some (East c)) b a ts apart = refl
miss E (Some (East c)) b a ts apart = get_or-set_other ts c a (Some b) None (λ same. apart (ap (λ x. Some (East x)) (sym same)))

length_noted : (side : Side) (o : Option Origin) (b : ℕ) (ts : List (Option ℕ)) → length (noted side o b ts) ≡ length ts
length_noted S None b ts = refl
length_noted E None b ts = refl
length_noted S (Some North) b ts = refl
length_noted E (Some North) b ts = refl
length_noted S (Some West) b ts = refl
length_noted E (Some West) b ts = refl
length_noted S (Some (South c)) b ts = length-set ts c (Some b)
length_noted E (Some (South c)) b ts = refl
length_noted S (Some (East c)) b ts = refl
length_noted E (Some (East c)) b ts = length-set ts c (Some b)

-- one more end is seen, at which the wire from o leads to box b
module _ (side : Side) (o : Option Origin) (b : ℕ) (ts : List (Option ℕ)) (Old New : Origin → ℕ → Type 0)
    (within : (a : ℕ) → o ≡ Some (origin_of side a) → a < length ts)
    (new_from : (p : Origin) (t : ℕ) → New p t → Old p t ⊎ (o ≡ Some p))
    (old_new : (p : Origin) (t : ℕ) → Old p t → New p t)
    (here_new : (p : Origin) → o ≡ Some p → New p b)
    (once : (p : Origin) (t : ℕ) → New p t → o ≡ Some p → t ≡ b) where
  noted_leads : ((a t : ℕ) → slice_index_or ts a None ≡ Some t → Old (origin_of side a) t) → (a t : ℕ) → slice_index_or (noted side o b ts) a None ≡ Some t → New (origin_of side a) t
  noted_leads leads a t is = elim (decided_begins o side a) [
    | inl here ↦
        let e : Some b ≡ Some t = sym (hit side o b a ts here (within a here)) ∙ is in
        let f : b ≡ t = cc in subst (New (origin_of side a)) f (here_new (origin_of side a) here)
    | inr apart ↦ old_new (origin_of side a) t (leads a t (sym (miss side o b a ts apart) ∙ is))
  ]

  noted_seen : ((a t : ℕ) → Old (origin_of side a) t → slice_index_or ts a None ≡ Some t) → (a t : ℕ) → New (origin_of side a) t → slice_index_or (noted side o b ts) a None ≡ Some t
  noted_seen seen a t new = elim (decided_begins o side a) [
    | inl here ↦ hit side o b a ts here (within a here) ∙ ap (λ x. Some x) (sym (once (origin_of side a) t new here))
    | inr apart ↦ elim (new_from (origin_of side a) t new) [
      | inl old ↦ miss side o b a ts apart ∙ seen a t old
      | inr here ↦ absurd (apart here)
    ]
  ]

start_origin : (side : Side) (a : ℕ) → start_of (Some (origin_of side a)) ≡ Some a
start_origin S a = refl
start_origin E a = refl

module _ (m : ModuleForm) (sound : IsSound m) (b : ℕ) (lt : b < length m.boxes) (side : Side) (ts : List (Option ℕ)) where
  is_north : (p : Origin) → north_at m b ≡ Some p → Comes m p (N b)
  is_north p e = let (row, is, n, w) = row_there m b lt in (row, is, sym n ∙ e)

  is_west : (p : Origin) → west_at m b ≡ Some p → Comes m p (W b)
  is_west p e = let (row, is, n, w) = row_there m b lt in (row, is, sym w ∙ e)

  north_is : (p : Origin) → Comes m p (N b) → north_at m b ≡ Some p
  north_is p (row, is, n) = rw is n

  west_is : (p : Origin) → Comes m p (W b) → west_at m b ≡ Some p
  west_is p (row, is, w) = rw is w

  below : (a : ℕ) (row : BoxForm) → slice_get m.boxes b ≡ Some row → (start_of row.n ≡ Some a) ⊎ (start_of row.w ≡ Some a) → a < length m.boxes
  below a row is e = feeder_there m a b sound (feeds_of m a b row is e)

  north_noted : AreTargets m side b b ts → AreTargets m side (b + 1) b (noted side (north_at m b) b ts)
  north_noted are = record {
    long = length_noted side (north_at m b) b ts ∙ are.long;
    leads = noted_leads side (north_at m b) b ts (LeadsAmong m b b) (LeadsAmong m (b + 1) b) within new_from old_new here_new once are.leads;
    seen = noted_seen side (north_at m b) b ts (LeadsAmong m b b) (LeadsAmong m (b + 1) b) within new_from old_new here_new once are.seen;
  }
    where
      within : (a : ℕ) → north_at m b ≡ Some (origin_of side a) → a < length ts
      within a e = let (row, is, n, w) = row_there m b lt in
          let l = below a row is (inl (ap start_of (sym n ∙ e) ∙ start_origin side a)) in
          let long = are.long in omega arith

      new_from : (p : Origin) (t : ℕ) → LeadsAmong m (b + 1) b p t → LeadsAmong m b b p t ⊎ (north_at m b ≡ Some p)
      new_from p t (inl (less, comes)) = elim (cases_eq t b) [
        | inl same ↦ inr (north_is p (subst (λ x. Comes m p (N x)) same comes))
        | inr apart ↦ inl (inl (omega arith, comes))
      ]
      new_from p t (inr wests) = inl (inr wests)

      old_new : (p : Origin) (t : ℕ) → LeadsAmong m b b p t → LeadsAmong m (b + 1) b p t
      old_new p t (inl (less, comes)) = inl (omega arith, comes)
      old_new p t (inr wests) = inr wests

      here_new : (p : Origin) → north_at m b ≡ Some p → LeadsAmong m (b + 1) b p b
      here_new p e = inl (omega arith, is_north p e)

      once : (p : Origin) (t : ℕ) → LeadsAmong m (b + 1) b p t → north_at m b ≡ Some p → t ≡ b
      once p t (inl (less, comes)) e = let f : N t ≡ N b = sound.once p (N t) (N b) comes (is_north p e) in cc
      once p t (inr (less, comes)) e = let f : W t ≡ N b = sound.once p (W t) (N b) comes (is_north p e) in absurd (cc)

  west_noted : AreTargets m side (b + 1) b ts → AreTargets m side (b + 1) (b + 1) (noted side (west_at m b) b ts)
  west_noted are = record {
    long = length_noted side (west_at m b) b ts ∙ are.long;
    leads = noted_leads side (west_at m b) b ts (LeadsAmong m (b + 1) b) (LeadsAmong m (b + 1) (b + 1)) within new_from old_new here_new once are.leads;
    seen = noted_seen side (west_at m b) b ts (LeadsAmong m (b + 1) b) (LeadsAmong m (b + 1) (b + 1)) within new_from old_new here_new once are.seen;
  }
    where
      within : (a : ℕ) → west_at m b ≡ Some (origin_of side a) → a < length ts
      within a e = let (row, is, n, w) = row_there m b lt in
          let l = below a row is (inr (ap start_of (sym w ∙ e) ∙ start_origin side a)) in
          let long = are.long in omega arith

      new_from : (p : Origin) (t : ℕ) → LeadsAmong m (b + 1) (b + 1) p t → LeadsAmong m (b + 1) b p t ⊎ (west_at m b ≡ Some p)
      new_from p t (inl norths) = inl (inl norths)
      new_from p t (inr (less, comes)) = elim (cases_eq t b) [
        | inl same ↦ inr (west_is p (subst (λ x. Comes m p (W x)) same comes))
        | inr apart ↦ inl (inr (omega arith, comes))
      ]

      old_new : (p : Origin) (t : ℕ) → LeadsAmong m (b + 1) b p t → LeadsAmong m (b + 1) (b + 1) p t
      old_new p t (inl norths) = inl norths
      old_new p t (inr (less, comes)) = inr (omega arith, comes)

      here_new : (p : Origin) → west_at m b ≡ Some p → LeadsAmong m (b + 1) (b + 1) p b
      here_new p e = inr (omega arith, is_west p e)

      once : (p : Origin) (t : ℕ) → LeadsAmong m (b + 1) (b + 1) p t → west_at m b ≡ Some p → t ≡ b
      once p t (inl (less, comes)) e = let f : N t ≡ W b = sound.once p (N t) (W b) comes (is_west p e) in absurd (cc)
      once p t (inr (less, comes)) e = let f : W t ≡ W b = sound.once p (W t) (W b) comes (is_west p e) in cc

pub noted_north : (m : ModuleForm) → IsSound m → (b : ℕ) → b < length m.boxes → (side : Side) (ts : List (Option ℕ)) → AreTargets m side b b ts → AreTargets m side (b + 1) b (noted side (north_at m b) b ts)
noted_north m sound b lt side ts are = north_noted m sound b lt side ts are

pub noted_west : (m : ModuleForm) → IsSound m → (b : ℕ) → b < length m.boxes → (side : Side) (ts : List (Option ℕ)) → AreTargets m side (b + 1) b ts → AreTargets m side (b + 1) (b + 1) (noted side (west_at m b) b ts)
noted_west m sound b lt side ts are = west_noted m sound b lt side ts are

abbrev nones : ℕ → List (Option ℕ)
nones n = replicate n None

pub none_noted : (m : ModuleForm) (side : Side) → AreTargets m side 0 0 (replicate (length m.boxes) None)
none_noted m side = record {
  long = length-replicate (length m.boxes) None;
  leads = λ a b is. absurd (let e = nowhere (length m.boxes) a in let f = sym e ∙ is in cc);
  seen = λ a b leads. elim leads [ inl n ↦ absurd (let l = n.0 in omega arith) | inr w ↦ absurd (let l = w.0 in omega arith) ];
}
  where
    nowhere : (n a : ℕ) → slice_index_or (nones n) a None ≡ None
    nowhere zero a = refl
    nowhere (suc n) zero = refl
    nowhere (suc n) (suc a) = nowhere n a
