-- Each machine has one image, and each image one machine.
use Rattle.std.proofs.Common.{◌≡◌, ℕ, ◌+◌, ◌*◌, ◌/◌, ◌%◌, ◌^◌, ◌<◌, ◌≤◌, List, [], ◌∷◌, ◌++◌, length, Bool, true, false, refl, sym, ap, subst, ◌∙◌, inl, inr, arith}
use Rattle.std.specs.Prelude.{slice_index, unwrap_or}
use Rattle.std.specs.List.{AllByRecursion}
use Rattle.std.specs.Ordering.{nat_cmp}
use Rattle.std.specs.FinMap as finite
use Rattle.std.proofs.lemmas.Bool.{cases_eq}
use Rattle.std.proofs.lemmas.List.{append-nil}
use Rattle.std.proofs.lemmas.List.Elements.{All-from_recursion, recursion_from_All}
use Rattle.um_word.specs.State.{Arrays, array_at}
use Rattle.um_word.specs.Scroll.{scroll}
use Rattle.um_word.proofs.Arrays.{get-insert_same, get-insert_other}
use Rattle.array_store.specs.StoreView.{most_limits}
use Rattle.array_store.specs.Parts.{Listed}
use Rattle.array_store.proofs.PartLemmas.{parts_are_orderly}
use Rattle.array_store.proofs.HeldLemmas.{at_most_live}
use Rattle.um_machine.specs.MachineView.{MachineView}
use Rattle.um_machine.specs.MachineParts.{MachineParts, machine_of_parts}
use Rattle.um_image.specs.Image.{image_mark, two_words, flag, array_words, arrays_up_to, image_words, parts_of_machine, HasImage}
use Rattle.um_image.specs.Rules.{ImageParts, AreImageParts, KeepsRules}
use Rattle.um_image.specs.Image.{IsImage, most_image_bytes}
use Rattle.um_image.specs.Refusals.{RefusesImage}
use Rattle.um_image.specs.declared.fault.ImageFault.{ImageFault}
use Rattle.um_image.specs.declared.fault.ImageFault.TheVariants.{TooLong, Bad, Memory}
use Rattle.um_image.specs.Laws.{ImagesTellApart, ImagesKeepRules}
use Rattle.um_image.specs.inner.Reading.{ReaderStops}
use Rattle.um_image.proofs.Points.{same_words, words_told, are_words}
use Rattle.um_image.specs.inner.Head.{AreWords}
use Rattle.um_image.proofs.Filled.{append_fit, fronts}
use Rattle.um_image.proofs.Heads.{head_of, rest_of, long_back, length-head, at_head, at_fits}
use Rattle.um_image.proofs.Stops.{seen}
use Rattle.um_image.proofs.Told.{parts_back, machine_back, store_told, each_fits}

small_flag : (b : Bool) → flag b < 2 ^ 32
small_flag true = omega arith
small_flag false = omega arith

known_fit : (made : ℕ) (ids : List ℕ) → made < 2 ^ 32 → AllByRecursion (λ id. (1 ≤ id) × (id ≤ made)) ids → AreWords ids
known_fit made [] h a = tt
known_fit made (x ∷ xs) h a = ((let b = a.0.1 in omega (arith, b, h)), known_fit made xs h a.1)

-- the parts of a machine keep the rules of images
pub told_of : (m : MachineView) (taken : ℕ) → HasImage m taken → AreImageParts (parts_of_machine m) taken
told_of m taken h =
    let w = h.whole in
    let p = parts_of_machine m in
    let store = store_told m w h.saved.limits in
    let formed = w.well_formed [] [] in
    let finger = w.finger in
    let cycles = h.saved.cycles in
    let counted = h.saved.counted in
    let made = store.made in
    let fewer = store.fewer in
    let live = store.words in
    let zero : AreWords (array_at m.arrays 0) = are_words (array_at m.arrays 0) (formed.platters 0) in
    let short : (k : ℕ) → k ≤ m.identifiers.made → length (array_at m.arrays k) < 2 ^ 32 =
    λ k le. (let a = at_most_live m.arrays k in let b = w.orderly.words in let d = w.words_limit in omega (arith, a, b, d)) in
    let arrays = each_fits m w m.identifiers.made (omega (arith, made)) short in
    let flagged = small_flag m.halted in
    let tail : AreWords (m.finger ∷ (two_words m.cycles ++ (two_words taken ++ (flag m.halted ∷ m.identifiers.made ∷ length m.identifiers.abandoned ∷ [])))) =
    (finger, (omega (arith, cycles), (omega arith, (omega (arith, cycles, counted), (omega arith, (flagged, (omega (arith, made), (omega (arith, made, fewer), tt)))))))) in
    let all : AreWords (image_words p taken) = (
      (let t : image_mark < 2 ^ 32 = omega arith in t),
      append_fit (head_of p taken) (rest_of m.identifiers.abandoned (array_at m.arrays 0) (arrays_up_to m.arrays m.identifiers.made))
          (append_fit m.registers (m.finger ∷ (two_words m.cycles ++ (two_words taken ++ (flag m.halted ∷ m.identifiers.made ∷ length m.identifiers.abandoned ∷ [])))) (are_words m.registers formed.registers) tail)
          (append_fit m.identifiers.abandoned (length (array_at m.arrays 0) ∷ (array_at m.arrays 0 ++ array_words (arrays_up_to m.arrays m.identifiers.made)))
          (known_fit m.identifiers.made m.identifiers.abandoned (omega (arith, made)) (recursion_from_All (λ id. (1 ≤ id) × (id ≤ m.identifiers.made)) m.identifiers.abandoned store.known))
          ((omega (arith, live)), append_fit (array_at m.arrays 0) (array_words (arrays_up_to m.arrays m.identifiers.made)) zero arrays)),
    ) in
    record {
      machine = record { cycles = h.saved.cycles; store = store };
      registers = formed.eight;
      counted = counted;
      words = All-from_recursion (λ w. w < 2 ^ 32) (image_words p taken) all;
    }

pub image_keeps : (bytes : List ℕ) → IsImage bytes → KeepsRules bytes
image_keeps bytes is =
    (record { parts = parts_of_machine is.0; taken = is.1; rules = told_of is.0 is.1 is.2 }, is.3)

flag_one : (a b : Bool) → flag a ≡ flag b → a ≡ b
flag_one true true e = refl
flag_one false false e = refl
flag_one true false e = absurd (omega (arith, e))
flag_one false true e = absurd (omega (arith, e))

no_more : (xs : Listed) → array_words xs ≡ [] → xs ≡ []
no_more [] e = refl
no_more (x ∷ xs) e = absurd (let h : x.0 ∷ (length x.1 ∷ (x.1 ++ array_words xs)) ≡ [] = e in cc)

-- parts with the same words are the same
record Same (p q : MachineParts) (t u : ℕ) : Type 0 where
  parts : p ≡ q
  taken : t ≡ u

same_parts : (a b : ImageParts) → image_words a.parts a.taken ≡ image_words b.parts b.taken → Same a.parts b.parts a.taken b.taken
same_parts a b e =
    let p = a.parts in
    let q = b.parts in
    let long = length-head q b.taken b.rules.registers in
    let many = at_head q b.taken b.rules 15 (omega arith) in
    let s = seen a (head_of q b.taken) q.store.abandoned q.store.zero q.store.arrays [] long (sym many)
    (e ∙ ap (λ xs. image_mark ∷ (head_of q b.taken ++ (q.store.abandoned ++ (length q.store.zero ∷ (q.store.zero ++ xs))))) (sym (append-nil (array_words q.store.arrays)))) in
    let f = fronts p.registers q.registers _ _ (a.rules.registers ∙ sym b.rules.registers) s.head_is in
    let tail : p.finger ∷ p.cycles / 2 ^ 32 ∷ p.cycles % 2 ^ 32 ∷ a.taken / 2 ^ 32 ∷ a.taken % 2 ^ 32 ∷ flag p.halted ∷ p.store.made ∷ length p.store.abandoned ∷ []
    ≡ q.finger ∷ q.cycles / 2 ^ 32 ∷ q.cycles % 2 ^ 32 ∷ b.taken / 2 ^ 32 ∷ b.taken % 2 ^ 32 ∷ flag q.halted ∷ q.store.made ∷ length q.store.abandoned ∷ [] = f.rest in
    let finger : p.finger ≡ q.finger = cc in
    let ch : p.cycles / 2 ^ 32 ≡ q.cycles / 2 ^ 32 = cc in
    let cl : p.cycles % 2 ^ 32 ≡ q.cycles % 2 ^ 32 = cc in
    let th : a.taken / 2 ^ 32 ≡ b.taken / 2 ^ 32 = cc in
    let tl : a.taken % 2 ^ 32 ≡ b.taken % 2 ^ 32 = cc in
    let halted : flag p.halted ≡ flag q.halted = cc in
    let made : p.store.made ≡ q.store.made = cc in
    let cycles : p.cycles ≡ q.cycles = sym (long_back p.cycles) ∙ (λ i. ch i * 2 ^ 32 + cl i) ∙ long_back q.cycles in
    let taken : a.taken ≡ b.taken = sym (long_back a.taken) ∙ (λ i. th i * 2 ^ 32 + tl i) ∙ long_back b.taken in
    let arrays : p.store.arrays ≡ q.store.arrays = s.arrays_are ∙ ap (λ xs. q.store.arrays ++ xs) (no_more s.rest s.left) ∙ append-nil q.store.arrays in
    record {
      parts = λ i. record {
        registers = f.first i;
        finger = finger i;
        cycles = cycles i;
        halted = flag_one p.halted q.halted halted i;
        store = record { made = made i; abandoned = s.ids_are i; zero = s.zero_is i; arrays = arrays i };
      };
      taken = taken;
    }

pub images_tell_apart : ImagesTellApart
images_tell_apart m n taken count h g e =
    let a : ImageParts = record { parts = parts_of_machine m; taken = taken; rules = told_of m taken h } in
    let b : ImageParts = record { parts = parts_of_machine n; taken = count; rules = told_of n count g } in
    let s = same_parts a b (same_words (image_words (parts_of_machine m) taken) (image_words (parts_of_machine n) count) (words_told a) (words_told b) e) in (
      sym (machine_back m h.whole) ∙ (λ i. machine_of_parts (s.parts i) ((h.saved.limits ∙ sym g.saved.limits) i)) ∙ machine_back n g.whole,
      s.taken,
    )

-- the words of arrays that are listed fit
back_fit : (xs ys : List ℕ) → AreWords (xs ++ ys) → AreWords ys
back_fit [] ys h = h
back_fit (x ∷ xs) ys h = back_fit xs ys h.1

front_fit : (xs ys : List ℕ) → AreWords (xs ++ ys) → AreWords xs
front_fit [] ys h = tt
front_fit (x ∷ xs) ys h = (h.0, front_fit xs ys h.1)

fit_insert : (m : Arrays) (id : ℕ) (ws : List ℕ) → ((q k : ℕ) → slice_index (array_at m q) k < 2 ^ 32) → AreWords ws →
    (q k : ℕ) → slice_index (array_at (finite.insert m id ws) q) k < 2 ^ 32
fit_insert m id ws h fit q k = elim (cases_eq q id) as (λ _. slice_index (array_at (finite.insert m id ws) q) k < 2 ^ 32) [
  | inl e ↦ subst (λ xs. slice_index xs k < 2 ^ 32) (sym (ap (λ o. unwrap_or o []) (ap (finite.get (finite.insert m id ws)) e ∙ get-insert_same m id ws))) (at_fits ws fit k)
  | inr ne ↦ subst (λ xs. slice_index xs k < 2 ^ 32) (sym (ap (λ o. unwrap_or o []) (get-insert_other m id ws q ne))) (h q k)
]

abbrev map_of : Listed → Arrays
map_of xs = finite.from_entries xs

fit_listed : (xs : Listed) → AreWords (array_words xs) → (q k : ℕ) → slice_index (array_at (map_of xs) q) k < 2 ^ 32
fit_listed [] fit q k = subst (λ ws. slice_index ws k < 2 ^ 32) (sym (ap (λ o. unwrap_or o []) (finite.get-empty nat_cmp q))) (omega arith)
fit_listed (x ∷ xs) fit q k =
    fit_insert (map_of xs) x.0 x.1 (fit_listed xs (back_fit x.1 (array_words xs) fit.1.1)) (front_fit x.1 (array_words xs) fit.1.1) q k

pub kept_image : (bytes : List ℕ) → KeepsRules bytes → IsImage bytes
kept_image bytes is =
    let t = is.0 in
    let p = t.parts in
    let m = machine_of_parts p most_limits in
    let all = (words_told t).1 in
    let behind = p.finger ∷ (two_words p.cycles ++ (two_words t.taken ++ (flag p.halted ∷ p.store.made ∷ length p.store.abandoned ∷ []))) in
    let rest = rest_of p.store.abandoned p.store.zero p.store.arrays in
    let head : AreWords (head_of p t.taken) = front_fit (head_of p t.taken) rest all in
    let others : AreWords (p.store.zero ++ array_words p.store.arrays) = (back_fit p.store.abandoned (length p.store.zero ∷ (p.store.zero ++ array_words p.store.arrays)) (back_fit (head_of p t.taken) rest all)).1 in
    let zero = front_fit p.store.zero (array_words p.store.arrays) others in
    let arrays = back_fit p.store.zero (array_words p.store.arrays) others in
    let registers = front_fit p.registers behind head in
    let finger = (back_fit p.registers behind head).0 in
    let here = get-insert_same (map_of p.store.arrays) 0 p.store.zero in (
      m,
      t.taken,
      record {
        saved = record { limits = refl; cycles = t.rules.machine.cycles; counted = t.rules.counted };
        whole = record {
          well_formed = λ rest out. record {
            eight = t.rules.registers;
            registers = at_fits p.registers registers;
            zero_there = (p.store.zero, here);
            platters = fit_insert (map_of p.store.arrays) 0 p.store.zero (fit_listed p.store.arrays arrays) zero;
          };
          orderly = parts_are_orderly p.store most_limits t.rules.machine.store refl refl;
          finger = finger;
          arrays_limit = omega arith;
          words_limit = omega arith;
        };
      },
      is.1 ∙ ap (λ q. scroll (image_words q t.taken)) (sym (parts_back p most_limits t.rules.machine)),
    )

pub images_keep_rules : ImagesKeepRules
images_keep_rules bytes = (image_keeps bytes, kept_image bytes)

pub stops_refuses : (bytes : List ℕ) (fault : ImageFault) → length bytes ≤ most_image_bytes → ReaderStops bytes fault →
    RefusesImage bytes fault
stops_refuses bytes (TooLong count) le s = absurd s
stops_refuses bytes (Bad k) le s = (le, s)
stops_refuses bytes Memory le s = le
