-- What the parts of the reader find together.
use Rattle.std.proofs.Common.{◌≡◌, ℕ, suc, ◌+◌, ◌*◌, ◌<◌, ◌≤◌, List, [], ◌∷◌, ◌++◌, length, take, set, Bool, true, false, refl, sym, ap, subst, ◌∙◌, inl, inr, arith}
use Rattle.std.specs.Prelude.{slice_index, slice_index_or, nat_eq, if◌then◌else◌, ◌||◌, Result, Ok, Err, IfOk, IfErr}
use Rattle.std.proofs.lemmas.Bool.{cases_eq, eq-eqb, ne_eqb}
use Rattle.std.proofs.lemmas.List.{append_assoc, append-nil, map-append, get_or-set_same, get_or-set_other}
use Rattle.um_word.specs.State.{words_in}
use Rattle.um_word.specs.Scroll.{scroll}
use Rattle.um_word.proofs.Scrolls.{scroll-append}
use Rattle.array_store.specs.StoreView.{most_live_words}
use Rattle.array_store.specs.Parts.{Listed, is_among, active_up_to}
use Rattle.array_store.proofs.PartLemmas.{words_in-append}
use Rattle.um_image.specs.declared.fault.ImageFault.{ImageFault}
use Rattle.um_image.specs.declared.fault.ImageFault.TheVariants.{TooLong, Bad, Memory}
use Rattle.um_image.specs.Image.{image_mark, array_words, IsBadAt}
use Rattle.um_image.specs.inner.Reading.{HasWordAt, HasNone, ReaderStops, so_far, HeadRead, IdsRead, ZeroRead, ArraysRead, ArrayRead, ArrayStops}
use Rattle.um_image.specs.inner.Head.{AreWords}
use Rattle.um_image.proofs.Points.{none_by_end, one_more}
use Rattle.um_image.proofs.Places.{bad}
use Rattle.um_image.proofs.Filled.{append_fit, array_words-append}
use Rattle.um_image.proofs.Stops.{IsSoFar, so_far-append}
use Rattle.um_image.proofs.Goes.{IsHead, AreIds, IsSize, IsAny, size_goes_on, zero_goes_on, id_goes_on, array_size_goes_on, array_goes_on}

pub ok_weaker : {A E : Type 0} (P Q : A → Type 0) (r : Result A E) → ((x : A) → P x → Q x) → IfOk r P → IfOk r Q
ok_weaker P Q (Ok x) f h = f x h
ok_weaker P Q (Err e) f h = tt

pub err_weaker : {A E : Type 0} (P Q : E → Type 0) (r : Result A E) → ((x : E) → P x → Q x) → IfErr r P → IfErr r Q
err_weaker P Q (Ok x) f h = tt
err_weaker P Q (Err e) f h = f e h

or_false : (a b : Bool) → (a || b) ≡ (b || a)
or_false true true = refl
or_false true false = refl
or_false false true = refl
or_false false false = refl

pub among-push : (ids : List ℕ) (id j : ℕ) → is_among (ids ++ id ∷ []) j ≡ (is_among ids j || nat_eq id j)
among-push [] id j = or_false (nat_eq id j) false
among-push (x ∷ ids) id j = ap (λ b. nat_eq x j || b) (among-push ids id j) ∙ grouped (nat_eq x j) (is_among ids j) (nat_eq id j)
  where
    grouped : (a b d : Bool) → (a || (b || d)) ≡ ((a || b) || d)
    grouped true b d = refl
    grouped false b d = refl

-- one more identifier was seen
pub seen_more : (seen : List Bool) (ids : List ℕ) (made id : ℕ) → id < length seen →
    ((j : ℕ) → j ≤ made → slice_index_or seen j false ≡ is_among ids j) →
    (j : ℕ) → j ≤ made → slice_index_or (set seen id true) j false ≡ is_among (ids ++ id ∷ []) j
seen_more seen ids made id lt told j le = elim (cases_eq j id) as (λ _. slice_index_or (set seen id true) j false ≡ is_among (ids ++ id ∷ []) j) [
  | inl same ↦
      ap (λ k. slice_index_or (set seen id true) k false) same ∙ get_or-set_same seen id true false lt
      ∙ sym (among-push ids id j ∙ ap (λ b. is_among ids j || b) (eq-eqb id j (sym same)) ∙ or_false (is_among ids j) true)
  | inr ne ↦
      get_or-set_other seen id j true false ne ∙ told j le
      ∙ sym (among-push ids id j ∙ ap (λ b. is_among ids j || b) (ne_eqb id j (λ e. ne (sym e))) ∙ or_false (is_among ids j) false)
]

pub is_head : (bytes head : List ℕ) → HeadRead bytes head → IsHead head
is_head bytes head h = record { size = h.size; words = h.words; fits = h.fits }

pub are_ids : (bytes head ids : List ℕ) → IdsRead bytes head ids → AreIds head ids
are_ids bytes head ids i = record { many = i.many; known = i.known; once = i.once }

module _ (bytes head ids : List ℕ) (h : IsHead head) (i : IdsRead bytes head ids) where
  abbrev at : ℕ
  at = 68 + 4 * length ids

  pub zero_read : (zeros : List ℕ) → ArrayRead bytes (68 + 4 * length ids) most_live_words zeros → ZeroRead bytes head ids zeros
  zero_read zeros a =
      let group : (image_mark ∷ (head ++ ids)) ++ (length zeros ∷ zeros) ≡ so_far head ids zeros [] [] = simp (append_assoc, append-nil) in
      record {
        words = a.words;
        read = a.read ∙ ap (λ xs. xs ++ scroll (length zeros ∷ zeros)) i.read
            ∙ sym (scroll-append (image_mark ∷ (head ++ ids)) (length zeros ∷ zeros)) ∙ ap scroll group;
        within = a.within;
        live = a.size;
      }

  pub zero_stops : (fault : ImageFault) → ArrayStops bytes (68 + 4 * length ids) most_live_words fault → ReaderStops bytes fault
  zero_stops (TooLong count) s = s
  zero_stops Memory s = tt
  zero_stops (Bad k) (inl s) =
      subst (IsBadAt bytes) (sym s.place) (bad (image_mark ∷ (head ++ ids)) (IsSize 0) (size_goes_on head ids h (are_ids bytes head ids i)) bytes at i.read i.within
      (λ w has rule. s.none w has (omega (arith, rule))))
  zero_stops (Bad k) (inr s) =
      let fits = s.fits in
      let read : take k bytes ≡ scroll (image_mark ∷ (head ++ (ids ++ (s.size ∷ s.there)))) =
      s.read ∙ ap (λ xs. xs ++ scroll (s.size ∷ s.there)) i.read
      ∙ sym (scroll-append (image_mark ∷ (head ++ ids)) (s.size ∷ s.there))
      ∙ ap (λ xs. scroll (image_mark ∷ xs)) (append_assoc head ids (s.size ∷ s.there)) in
      bad (image_mark ∷ (head ++ (ids ++ (s.size ∷ s.there)))) IsAny
      (zero_goes_on head ids s.there s.size h (are_ids bytes head ids i) s.words s.short (omega (arith, fits)))
      bytes k read s.within (none_by_end bytes k IsAny s.end)

module _ (bytes head ids zeros : List ℕ) (arrays : Listed) (n place : ℕ) (h : IsHead head) (i : IdsRead bytes head ids) (platters : AreWords zeros)
    (a : ArraysRead bytes head ids zeros arrays n place) (lt : n < slice_index head 14) where
  so_far_of : IsSoFar head ids zeros arrays n
  so_far_of = record {
    size = h.size;
    words = h.words;
    fits = h.fits;
    many = i.many;
    known = i.known;
    once = i.once;
    zero_words = platters;
    within = omega (arith, lt);
    active = a.active;
    listed = a.words;
    live = a.live;
  }

  -- the next identifier was abandoned
  pub arrays_skip : is_among ids (n + 1) ≡ true → ArraysRead bytes head ids zeros arrays (n + 1) place
  arrays_skip is =
      let next : n + 1 ≡ suc n = omega arith in
      let there : is_among ids (suc n) ≡ true = ap (is_among ids) (sym next) ∙ is in
      record {
        active = a.active ∙ sym (append-nil (active_up_to ids n))
            ∙ ap (λ b. active_up_to ids n ++ (if b then [] else suc n ∷ [])) (sym there) ∙ ap (active_up_to ids) (sym next);
        words = a.words;
        read = a.read;
        within = a.within;
        live = a.live;
      }

  module _ (new : is_among ids (n + 1) ≡ false) where
    active : is_among ids (suc n) ≡ false
    active = let next : n + 1 ≡ suc n = omega arith in ap (is_among ids) (sym next) ∙ new

    -- the identifier is missing
    pub id_stops : HasNone bytes place (λ w. w ≡ n + 1) → IsBadAt bytes place
    id_stops none =
        bad (so_far head ids zeros arrays []) (λ w. w ≡ suc n) (id_goes_on head ids zeros arrays n so_far_of lt active) bytes place a.read a.within
        (λ w has rule. none w has (omega (arith, rule)))

    -- the identifier stands there
    module _ (has : HasWordAt bytes place (n + 1)) where
      id_read : take (place + 4) bytes ≡ scroll (so_far head ids zeros arrays (suc n ∷ []))
      id_read =
          one_more bytes (so_far head ids zeros arrays []) place (n + 1) a.read has
          ∙ ap scroll (so_far-append head ids zeros arrays [] ((n + 1) ∷ []) ∙ (let next : n + 1 ≡ suc n = omega arith in ap (λ k. so_far head ids zeros arrays (k ∷ [])) next))

      module _ (room : ℕ) (counted : room + length zeros + words_in arrays ≡ most_live_words) where
        pub array_stops : (fault : ImageFault) → ArrayStops bytes (place + 4) room fault → ReaderStops bytes fault
        array_stops (TooLong count) s = s
        array_stops Memory s = tt
        array_stops (Bad k) (inl s) =
            let within = has.0 in
            subst (IsBadAt bytes) (sym s.place)
            (bad (so_far head ids zeros arrays (suc n ∷ [])) (IsSize (length zeros + words_in arrays))
            (array_size_goes_on head ids zeros arrays n so_far_of lt active) bytes (place + 4) id_read within
            (λ w has rule. s.none w has (omega (arith, rule, counted))))
        array_stops (Bad k) (inr s) =
            let fits = s.fits in
            let read : take k bytes ≡ scroll (so_far head ids zeros arrays (suc n ∷ (s.size ∷ s.there))) =
            s.read ∙ ap (λ xs. xs ++ scroll (s.size ∷ s.there)) id_read
            ∙ sym (scroll-append (so_far head ids zeros arrays (suc n ∷ [])) (s.size ∷ s.there))
            ∙ ap scroll (so_far-append head ids zeros arrays (suc n ∷ []) (s.size ∷ s.there)) in
            bad (so_far head ids zeros arrays (suc n ∷ (s.size ∷ s.there))) IsAny
            (array_goes_on head ids zeros arrays n so_far_of s.there s.size lt active s.words s.short (omega (arith, fits, counted)))
            bytes k read s.within (none_by_end bytes k IsAny s.end)

        fit_more : (words : List ℕ) → AreWords words → length words ≤ room → AreWords (array_words (arrays ++ (n + 1, words) ∷ []))
        fit_more words each size =
            let made = h.fits.made in
            subst AreWords (sym (array_words-append arrays ((n + 1, words) ∷ [])))
            (append_fit (array_words arrays) (array_words ((n + 1, words) ∷ [])) a.words
            ((omega (arith, lt, made)), ((omega (arith, size, counted)), append_fit words [] each tt)))

        -- one array more was read
        pub arrays_more : (words : List ℕ) → ArrayRead bytes (place + 4) room words →
            ArraysRead bytes head ids zeros (arrays ++ (n + 1, words) ∷ []) (n + 1) (place + (8 + 4 * length words))
        arrays_more words r =
            let next : n + 1 ≡ suc n = omega arith in
            let size = r.size in
            let within = r.within in
            let e = words_in-append arrays ((n + 1, words) ∷ []) in
            let end : place + (8 + 4 * length words) ≡ place + 4 + 4 + 4 * length words = omega arith in
            let group : so_far head ids zeros arrays (suc n ∷ (length words ∷ words)) ≡ so_far head ids zeros (arrays ++ (n + 1, words) ∷ []) [] =
            ap (λ k. so_far head ids zeros arrays (k ∷ (length words ∷ words))) (sym next)
            ∙ ap (λ xs. image_mark ∷ (head ++ (ids ++ (length zeros ∷ (zeros ++ xs)))))
            (sym (append-nil (array_words (arrays ++ (n + 1, words) ∷ [])) ∙ array_words-append arrays ((n + 1, words) ∷ [])
            ∙ ap (λ xs. array_words arrays ++ ((n + 1) ∷ (length words ∷ xs))) (append-nil words))) in
            record {
              active =
                  map-append (λ (x : ℕ × List ℕ). x.0) arrays ((n + 1, words) ∷ []) ∙ ap (λ xs. xs ++ (n + 1) ∷ []) a.active
                  ∙ ap (λ k. active_up_to ids n ++ k ∷ []) next
                  ∙ ap (λ b. active_up_to ids n ++ (if b then [] else suc n ∷ [])) (sym active) ∙ ap (active_up_to ids) (sym next);
              words = fit_more words r.words r.size;
              read = ap (λ m. take m bytes) end ∙ r.read ∙ ap (λ xs. xs ++ scroll (length words ∷ words)) id_read
                  ∙ sym (scroll-append (so_far head ids zeros arrays (suc n ∷ [])) (length words ∷ words))
                  ∙ ap scroll (so_far-append head ids zeros arrays (suc n ∷ []) (length words ∷ words) ∙ group);
              within = omega (arith, within, end);
              live = omega (arith, e, size, counted);
            }
