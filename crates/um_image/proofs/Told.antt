-- A machine and its parts tell each other.
use Rattle.std.proofs.Common.{◌≡◌, ℕ, zero, suc, ◌^◌, ◌<◌, ◌≤◌, List, [], ◌∷◌, ◌++◌, length, true, false, Option, Some, None, refl, sym, ap, subst, ◌∙◌, ◌⊎◌, inl, inr, arith}
use Rattle.std.specs.Prelude.{slice_index, if◌then◌else◌, unwrap_or, IsSome, is_some, Contains}
use Rattle.std.specs.Ordering.{nat_cmp}
use Rattle.std.specs.Cmp.{nat_cmp_total}
use Rattle.std.specs.FinMap as finite
use Rattle.std.proofs.lemmas.Bool.{cases_eq, cases_lt, true≢false}
use Rattle.std.proofs.lemmas.List.{append-nil, map-append}
use Rattle.umix_base.specs.declared.limits.Limits.{Limits}
use Rattle.um_word.specs.State.{Arrays, array_at, live_words}
use Rattle.um_word.specs.Rule.{IsOrderly}
use Rattle.um_word.proofs.Arrays.{get-insert_same, get-insert_other}
use Rattle.um_word.proofs.Live.{same_arrays, live_words-insert_new}
use Rattle.um_word.proofs.Orderly.{none_of}
use Rattle.array_store.specs.StoreView.{most_live_arrays, most_limits}
use Rattle.array_store.specs.Parts.{Listed, AreParts, is_among, active_up_to, arrays_of_parts}
use Rattle.array_store.proofs.PartLemmas.{held, split_last, among_not, not_among}
use Rattle.um_machine.specs.MachineView.{MachineView, IsWhole}
use Rattle.um_machine.specs.MachineParts.{MachineParts, AreMachineParts, machine_of_parts}
use Rattle.um_image.specs.Image.{array_words, one_listed, arrays_up_to, parts_of_machine}
use Rattle.um_image.proofs.Points.{are_words}
use Rattle.um_image.specs.inner.Head.{AreWords}
use Rattle.um_image.proofs.Filled.{firsts, append_fit, array_words-append}

not_none : (o : Option (List ℕ)) → o ≡ None → IsSome o → ⊥
not_none o e h = true≢false (sym h ∙ ap is_some e)

-- the map of these arrays
abbrev map_of : Listed → Arrays
map_of xs = finite.from_entries xs

no_more : (xs : Listed) → firsts xs ≡ [] → xs ≡ []
no_more [] e = refl
no_more (x ∷ xs) e = absurd (let h : x.0 ∷ firsts xs ≡ [] = e in cc)

-- what the arrays up to n hold
pub record Holds (m : Arrays) (n : ℕ) : Type 0 where
  pub there : (q : ℕ) → 1 ≤ q → q ≤ n → finite.get (map_of (arrays_up_to m n)) q ≡ finite.get m q
  pub zero : finite.get (map_of (arrays_up_to m n)) 0 ≡ None
  pub past : (q : ℕ) → n < q → finite.get (map_of (arrays_up_to m n)) q ≡ None

nothing : (q : ℕ) → finite.get (map_of []) q ≡ None
nothing q = finite.get-empty nat_cmp q

holds_more : (m : Arrays) (n : ℕ) (xs : Listed) (o : Option (List ℕ)) → finite.get m (suc n) ≡ o →
    ((q : ℕ) → 1 ≤ q → q ≤ n → finite.get (map_of xs) q ≡ finite.get m q) →
    finite.get (map_of xs) 0 ≡ None → ((q : ℕ) → n < q → finite.get (map_of xs) q ≡ None) →
    ((q : ℕ) → 1 ≤ q → q ≤ suc n → finite.get (map_of (xs ++ one_listed (suc n) o)) q ≡ finite.get m q)
    × (finite.get (map_of (xs ++ one_listed (suc n) o)) 0 ≡ None)
    × ((q : ℕ) → suc n < q → finite.get (map_of (xs ++ one_listed (suc n) o)) q ≡ None)
holds_more m n xs None is there first past =
    let same : xs ++ [] ≡ xs = append-nil xs in (
      λ q a b. ap (λ ys. finite.get (map_of ys) q) same ∙ elim (cases_eq q (suc n)) as (λ _. finite.get (map_of xs) q ≡ finite.get m q) [
        | inl e ↦ past q (omega (arith, e)) ∙ sym (ap (finite.get m) e ∙ is)
        | inr ne ↦ there q a (omega (arith, b, ne))
      ],
      ap (λ ys. finite.get (map_of ys) 0) same ∙ first,
      λ q a. ap (λ ys. finite.get (map_of ys) q) same ∙ past q (omega (arith, a)),
    )
holds_more m n xs (Some ws) is there first past =
    let fresh = sym (finite.get-from_entries nat_cmp_total xs (suc n)) ∙ past (suc n) (omega arith) in
    let pushed : map_of (xs ++ (suc n, ws) ∷ []) ≡ finite.insert (map_of xs) (suc n) ws =
    finite.from_entries_push nat_cmp_total finite.nat_cmp-IsAntisymmetric xs (suc n) ws fresh in (
      λ q a b. ap (λ k. finite.get k q) pushed ∙ elim (cases_eq q (suc n)) as (λ _. finite.get (finite.insert (map_of xs) (suc n) ws) q ≡ finite.get m q) [
        | inl e ↦ ap (finite.get (finite.insert (map_of xs) (suc n) ws)) e ∙ get-insert_same (map_of xs) (suc n) ws ∙ sym (ap (finite.get m) e ∙ is)
        | inr ne ↦ get-insert_other (map_of xs) (suc n) ws q ne ∙ there q a (omega (arith, b, ne))
      ],
      ap (λ k. finite.get k 0) pushed ∙ get-insert_other (map_of xs) (suc n) ws 0 (λ e. omega (arith, e)) ∙ first,
      λ q a. ap (λ k. finite.get k q) pushed ∙ get-insert_other (map_of xs) (suc n) ws q (λ e. omega (arith, e, a)) ∙ past q (omega (arith, a)),
    )

pub holds : (m : Arrays) (n : ℕ) → Holds m n
holds m zero = record { there = λ q a b. absurd (omega (arith, a, b)); zero = nothing 0; past = λ q a. nothing q }
holds m (suc n) =
    let h = holds m n in
    let x = holds_more m n (arrays_up_to m n) (finite.get m (suc n)) refl h.there h.zero h.past in
    record { there = x.0; zero = x.1; past = x.2 }

-- the list of the arrays of a list is the list
pub listed_back : (ids : List ℕ) (m : Arrays) (n : ℕ) (xs : Listed) → firsts xs ≡ active_up_to ids n →
    ((q : ℕ) → 1 ≤ q → q ≤ n → finite.get m q ≡ finite.get (map_of xs) q) → arrays_up_to m n ≡ xs
listed_back ids m zero xs e same = sym (no_more xs e)
listed_back ids m (suc n) xs e same = elim (is_among ids (suc n)) as (λ b. is_among ids (suc n) ≡ b →
    firsts xs ≡ active_up_to ids n ++ (if b then [] else suc n ∷ []) → arrays_up_to m (suc n) ≡ xs) [
      | true ↦ λ is f.
          let whole : firsts xs ≡ active_up_to ids n = f ∙ append-nil (active_up_to ids n) in
          let h = held ids n xs whole in
          let gone : finite.get m (suc n) ≡ None =
          same (suc n) (omega arith) (omega arith) ∙ none_of _ (λ s. true≢false (sym is ∙ h.free (suc n) s)) in
          ap (λ o. arrays_up_to m n ++ one_listed (suc n) o) gone ∙ append-nil (arrays_up_to m n)
          ∙ listed_back ids m n xs whole (λ q a b. same q a (omega (arith, b)))
      | false ↦ λ is f.
          let l = split_last (λ (a : ℕ × List ℕ). a.0) xs (active_up_to ids n) (suc n) f in
          let h = held ids n l.before l.firsts in
          let last : l.last ≡ (suc n, l.last.1) = λ i. (l.at i, l.last.1) in
          let whole : xs ≡ l.before ++ (suc n, l.last.1) ∷ [] = l.is ∙ ap (λ a. l.before ++ a ∷ []) last in
          let absent : finite.get (map_of l.before) (suc n) ≡ None = none_of _ (λ s. let b = (h.low (suc n) s).1 in omega (arith, b)) in
          let fresh = sym (finite.get-from_entries nat_cmp_total l.before (suc n)) ∙ absent in
          let pushed : map_of xs ≡ finite.insert (map_of l.before) (suc n) l.last.1 =
          ap map_of whole ∙ finite.from_entries_push nat_cmp_total finite.nat_cmp-IsAntisymmetric l.before (suc n) l.last.1 fresh in
          let here : finite.get m (suc n) ≡ Some l.last.1 =
          same (suc n) (omega arith) (omega arith) ∙ ap (λ k. finite.get k (suc n)) pushed ∙ get-insert_same (map_of l.before) (suc n) l.last.1 in
          ap (λ o. arrays_up_to m n ++ one_listed (suc n) o) here
          ∙ ap (λ ys. ys ++ (suc n, l.last.1) ∷ []) (listed_back ids m n l.before l.firsts (λ q a b.
          same q a (omega (arith, b)) ∙ ap (λ k. finite.get k q) pushed
          ∙ get-insert_other (map_of l.before) (suc n) l.last.1 q (λ e. omega (arith, e, b))))
          ∙ sym whole
    ] refl e

-- the parts of the machine of parts
pub parts_back : (p : MachineParts) (L : Limits) → AreMachineParts p → parts_of_machine (machine_of_parts p L) ≡ p
parts_back p L rules =
    let m = arrays_of_parts p.store in
    let zero : array_at m 0 ≡ p.store.zero = ap (λ o. unwrap_or o []) (get-insert_same (map_of p.store.arrays) 0 p.store.zero) in
    let arrays : arrays_up_to m p.store.made ≡ p.store.arrays =
    listed_back p.store.abandoned m p.store.made p.store.arrays rules.store.active
    (λ q a b. get-insert_other (map_of p.store.arrays) 0 p.store.zero q (λ e. omega (arith, e, a))) in
    λ i. record {
      registers = p.registers;
      finger = p.finger;
      cycles = p.cycles;
      halted = p.halted;
      store = record { made = p.store.made; abandoned = p.store.abandoned; zero = zero i; arrays = arrays i };
    }

module _ (m : MachineView) (w : IsWhole m) where
  orderly : IsOrderly m.limits m.identifiers m.arrays
  orderly = w.orderly

  zero_there : finite.get m.arrays 0 ≡ Some (array_at m.arrays 0)
  zero_there = let z = (w.well_formed [] []).zero_there in z.1 ∙ ap Some (sym (ap (λ o. unwrap_or o []) z.1))

  taken_low : (q : ℕ) → m.identifiers.made < q → (q ≡ 0) ⊎ ((1 ≤ q) × (q ≤ m.identifiers.made) × (Contains m.identifiers.abandoned q → ⊥)) → ⊥
  taken_low q past (inl e) = omega (arith, e, past)
  taken_low q past (inr t) = let b = t.1 in omega (arith, b, past)

  none_past : (q : ℕ) → m.identifiers.made < q → IsSome (finite.get m.arrays q) → ⊥
  none_past q past s = taken_low q past ((orderly.active q).0 s)

  arrays_back : arrays_of_parts (parts_of_machine m).store ≡ m.arrays
  arrays_back =
      let h = holds m.arrays m.identifiers.made in
      let es = map_of (arrays_up_to m.arrays m.identifiers.made) in
      same_arrays _ _ (λ q. elim (cases_eq q 0) as (λ _. finite.get (finite.insert es 0 (array_at m.arrays 0)) q ≡ finite.get m.arrays q) [
        | inl e ↦ ap (finite.get (finite.insert es 0 (array_at m.arrays 0))) e ∙ get-insert_same es 0 (array_at m.arrays 0) ∙ sym (ap (finite.get m.arrays) e ∙ zero_there)
        | inr ne ↦ get-insert_other es 0 (array_at m.arrays 0) q ne ∙ elim (cases_lt m.identifiers.made q) as (λ _. finite.get es q ≡ finite.get m.arrays q) [
          | inl past ↦ h.past q past ∙ sym (none_of _ (λ s. none_past q past s))
          | inr le ↦ h.there q (omega (arith, ne)) le
        ]
      ])

  -- the machine of a machine's parts
  pub machine_back : machine_of_parts (parts_of_machine m) m.limits ≡ m
  machine_back = λ i. record {
    registers = m.registers;
    finger = m.finger;
    arrays = arrays_back i;
    identifiers = m.identifiers;
    limits = m.limits;
    cycles = m.cycles;
    halted = m.halted;
  }

  one_first : (n : ℕ) → n < m.identifiers.made → (o : Option (List ℕ)) → finite.get m.arrays (suc n) ≡ o →
      firsts (one_listed (suc n) o) ≡ (if is_among m.identifiers.abandoned (suc n) then [] else suc n ∷ [])
  one_first n lt None e =
      let in_list : is_among m.identifiers.abandoned (suc n) ≡ true = elim (is_among m.identifiers.abandoned (suc n)) as (λ b. is_among m.identifiers.abandoned (suc n) ≡ b → b ≡ true) [
        | true ↦ λ _. refl
        | false ↦ λ f. absurd (not_none _ e ((orderly.active (suc n)).1 (inr (omega arith, omega (arith, lt), not_among m.identifiers.abandoned (suc n) f))))
      ] refl in
      ap (λ b. if b then [] else suc n ∷ []) (sym in_list)
  one_first n lt (Some ws) e =
      let free : is_among m.identifiers.abandoned (suc n) ≡ false =
      elim ((orderly.active (suc n)).0 (ap is_some e)) as (λ _. is_among m.identifiers.abandoned (suc n) ≡ false) [
        | inl z ↦ absurd (omega (arith, z))
        | inr t ↦ among_not m.identifiers.abandoned (suc n) t.2
      ] in
      ap (λ b. if b then [] else suc n ∷ []) (sym free)

  firsts_told : (n : ℕ) → n ≤ m.identifiers.made → firsts (arrays_up_to m.arrays n) ≡ active_up_to m.identifiers.abandoned n
  firsts_told zero le = refl
  firsts_told (suc n) le =
      map-append (λ (a : ℕ × List ℕ). a.0) (arrays_up_to m.arrays n) (one_listed (suc n) (finite.get m.arrays (suc n)))
      ∙ (λ i. firsts_told n (omega (arith, le)) i ++ one_first n (omega (arith, le)) (finite.get m.arrays (suc n)) refl i)

  pub store_told : m.limits ≡ most_limits → AreParts (parts_of_machine m).store
  store_told most =
      let made : m.identifiers.made ≤ most_live_arrays = (let a = orderly.made in let b = ap (λ (l : Limits). l.arrays) most in omega (arith, a, b)) in
      let active = firsts_told m.identifiers.made (omega arith) in
      let xs = arrays_up_to m.arrays m.identifiers.made in
      let h = held m.identifiers.abandoned m.identifiers.made xs active in
      let live : live_words (finite.insert (map_of xs) 0 (array_at m.arrays 0)) ≡ live_words m.arrays = ap live_words arrays_back in
      let more = live_words-insert_new (map_of xs) 0 (array_at m.arrays 0) (holds m.arrays m.identifiers.made).zero in
      let counted = h.words in
      let within = orderly.words in
      let limit = ap (λ (l : Limits). l.words) most in
      record {
        made = made;
        fewer = (let c = orderly.counted in omega (arith, c));
        known = orderly.abandoned;
        once = orderly.once;
        active = active;
        words = omega (arith, live, more, counted, within, limit);
      }

  pub each_fits : (n : ℕ) → n < 2 ^ 32 → ((k : ℕ) → k ≤ n → length (array_at m.arrays k) < 2 ^ 32) → AreWords (array_words (arrays_up_to m.arrays n))
  each_fits zero lt short = tt
  each_fits (suc n) lt short =
      subst AreWords (sym (array_words-append (arrays_up_to m.arrays n) (one_listed (suc n) (finite.get m.arrays (suc n)))))
      (append_fit (array_words (arrays_up_to m.arrays n)) (array_words (one_listed (suc n) (finite.get m.arrays (suc n))))
      (each_fits n (omega (arith, lt)) (λ k le. short k (omega (arith, le)))) (one (finite.get m.arrays (suc n)) refl))
    where
      one : (o : Option (List ℕ)) → finite.get m.arrays (suc n) ≡ o → AreWords (array_words (one_listed (suc n) o))
      one None e = tt
      one (Some ws) e =
          let here : array_at m.arrays (suc n) ≡ ws = ap (λ o. unwrap_or o []) e in
          let size = short (suc n) (omega arith) in
          let same = ap length here in (
            lt,
            (
              (omega (arith, size, same)),
              append_fit ws [] (are_words ws (λ k.
                  subst (λ xs. slice_index xs k < 2 ^ 32) here ((w.well_formed [] []).platters (suc n) k))) tt,
            ),
          )
