-- Words of images and their bytes.
use Rattle.std.proofs.Common.{◌≡◌, ℕ, zero, suc, ◌+◌, ◌*◌, ◌^◌, ◌<◌, List, [], ◌∷◌, ◌++◌, length, take, drop, set, refl, sym, ap, subst, ◌∙◌, arith}
use Rattle.std.specs.Int.{w32, to_be_bytes, from_be_bytes}
use Rattle.std.specs.Prelude.{slice_index}
use Rattle.std.proofs.lemmas.Nat.{from_be_bytes-to_be_bytes_4}
use Rattle.std.proofs.lemmas.List.{append_assoc, append-nil, append_cancel_left, length-append}
use Rattle.std.proofs.lemmas.List.Elements.{recursion_from_All}
use Rattle.um_word.specs.Scroll.{scroll}
use Rattle.um_word.proofs.Scrolls.{scroll-more}
use Rattle.um_image.specs.inner.Head.{AreWords}
use Rattle.um_image.specs.inner.Reading.{HasWordAt, HasNone}
use Rattle.um_image.specs.Image.{image_words}
use Rattle.um_image.specs.Rules.{ImageParts}

abbrev pub bytes_of_word : ℕ → List ℕ
bytes_of_word w = to_be_bytes w32 w

pub four : (w : ℕ) → length (bytes_of_word w) ≡ 4
four w = refl

same_word : (v w : ℕ) → v < 2 ^ 32 → w < 2 ^ 32 → bytes_of_word v ≡ bytes_of_word w → v ≡ w
same_word v w a b e = sym (from_be_bytes-to_be_bytes_4 v a) ∙ ap (from_be_bytes w32) e ∙ from_be_bytes-to_be_bytes_4 w b

-- lists alike whose beginnings are as long
record Fronts (a b xs ys : List ℕ) : Type 0 where
  first : a ≡ b
  rest : xs ≡ ys

cons_fronts : (x y : ℕ) (a b xs ys : List ℕ) → x ≡ y → Fronts a b xs ys → Fronts (x ∷ a) (y ∷ b) xs ys
cons_fronts x y a b xs ys e f = record { first = λ i. e i ∷ f.first i; rest = f.rest }

fronts : (a b xs ys : List ℕ) → length a ≡ length b → a ++ xs ≡ b ++ ys → Fronts a b xs ys
fronts [] [] xs ys l e = record { first = refl; rest = e }
fronts [] (y ∷ b) xs ys l e = absurd (omega (arith, l))
fronts (x ∷ a) [] xs ys l e = absurd (omega (arith, l))
fronts (x ∷ a) (y ∷ b) xs ys l e =
    let h : x ∷ (a ++ xs) ≡ y ∷ (b ++ ys) = e in
    let first : x ≡ y = cc in
    let rest : a ++ xs ≡ b ++ ys = cc in
    cons_fronts x y a b xs ys first (fronts a b xs ys (omega (arith, l)) rest)

-- words whose bytes begin with those of others begin with these
pub record Behind (ws vs rest : List ℕ) : Type 0 where
  pub more : List ℕ
  pub is : vs ≡ ws ++ more
  pub bytes : rest ≡ scroll more

behind_more : (w v : ℕ) (ws vs rest : List ℕ) → w ≡ v → Behind ws vs rest → Behind (w ∷ ws) (v ∷ vs) rest
behind_more w v ws vs rest e b = record { more = b.more; is = (λ i. sym e i ∷ b.is i); bytes = b.bytes }

pub behind : (ws vs rest : List ℕ) → AreWords ws → AreWords vs → scroll ws ++ rest ≡ scroll vs → Behind ws vs rest
behind [] vs rest a b e = record { more = vs; is = refl; bytes = e }
behind (w ∷ ws) [] rest a b e =
    absurd (let h : bytes_of_word w ++ scroll ws ++ rest ≡ [] = e in let n = ap length h in
    let l = length-append (bytes_of_word w ++ scroll ws) rest in let m = length-append (bytes_of_word w) (scroll ws) in
    let f = four w in omega (arith, n, l, m, f))
behind (w ∷ ws) (v ∷ vs) rest a b e =
    let h : bytes_of_word w ++ (scroll ws ++ rest) ≡ bytes_of_word v ++ scroll vs = sym (append_assoc (bytes_of_word w) (scroll ws) rest) ∙ e in
    let f = fronts (bytes_of_word w) (bytes_of_word v) (scroll ws ++ rest) (scroll vs) (four w ∙ sym (four v)) h in
    behind_more w v ws vs rest (same_word w v a.0 b.0 f.first) (behind ws vs rest a.1 b.1 f.rest)

-- words with the same bytes are the same
pub same_words : (ws vs : List ℕ) → AreWords ws → AreWords vs → scroll ws ≡ scroll vs → ws ≡ vs
same_words ws vs a b e =
    let x = behind ws vs [] a b (append-nil (scroll ws) ∙ e) in
    let n : length (scroll x.more) ≡ 0 = ap length (sym x.bytes) in
    sym (x.is ∙ ap (λ ys. ws ++ ys) (none x.more n) ∙ append-nil ws)
  where
    none : (ys : List ℕ) → length (scroll ys) ≡ 0 → ys ≡ []
    none [] n = refl
    none (y ∷ ys) n = absurd (let m = length-append (bytes_of_word y) (scroll ys) in let f = four y in omega (arith, n, m, f))

pub words_told : (t : ImageParts) → AreWords (image_words t.parts t.taken)
words_told t = recursion_from_All (λ w. w < 2 ^ 32) (image_words t.parts t.taken) t.rules.words

pub front_words : (ws more : List ℕ) → AreWords (ws ++ more) → AreWords ws
front_words [] more h = tt
front_words (w ∷ ws) more h = (h.0, front_words ws more h.1)

pub back_words : (ws more : List ℕ) → AreWords (ws ++ more) → AreWords more
back_words [] more h = h
back_words (w ∷ ws) more h = back_words ws more h.1

pub length-scroll : (ws : List ℕ) → length (scroll ws) ≡ 4 * length ws
length-scroll [] = refl
length-scroll (w ∷ ws) =
    let m = length-append (bytes_of_word w) (scroll ws) in let f = four w in let n = length-scroll ws in omega (arith, m, f, n)

-- Some image begins with these words, and after them each has a word of this rule.
pub record GoesOn (ws : List ℕ) (R : ℕ → Type 0) : Type 0 where
  pub image : ImageParts
  pub more : List ℕ
  pub begins : image_words image.parts image.taken ≡ ws ++ more
  pub next : (t : ImageParts) (rest : List ℕ) → image_words t.parts t.taken ≡ ws ++ rest →
      (w : ℕ) × (left : List ℕ) × (rest ≡ w ∷ left) × R w

-- Some image begins with these words, and no image goes on after them.
pub record Ends (ws : List ℕ) : Type 0 where
  pub image : ImageParts
  pub begins : image_words image.parts image.taken ≡ ws
  pub only : (t : ImageParts) (rest : List ℕ) → image_words t.parts t.taken ≡ ws ++ rest → rest ≡ []

-- the place has another word, or none
pub none_by_word : (bytes : List ℕ) (k v : ℕ) (R : ℕ → Type 0) → HasWordAt bytes k v → (R v → ⊥) → HasNone bytes k R
none_by_word bytes k v R has not w stands rule =
    let same : bytes_of_word v ≡ bytes_of_word w = append_cancel_left (take k bytes) (bytes_of_word v) (bytes_of_word w) (sym has.1 ∙ stands.1) in
    not (subst R (sym (same_word v w has.2 stands.2 same)) rule)

pub none_by_end : (bytes : List ℕ) (k : ℕ) (R : ℕ → Type 0) → length bytes < k + 4 → HasNone bytes k R
none_by_end bytes k R short w stands rule = let within = stands.0 in omega (arith, short, within)

-- one word more was read
pub one_more : (bytes ws : List ℕ) (k w : ℕ) → take k bytes ≡ scroll ws → HasWordAt bytes k w → take (k + 4) bytes ≡ scroll (ws ++ w ∷ [])
one_more bytes ws k w so_far has = has.1 ∙ ap (λ xs. xs ++ bytes_of_word w) so_far ∙ sym (scroll-more ws w)

-- what is behind the beginning of a list
take_none : (m : ℕ) → take {A = ℕ} m [] ≡ []
take_none zero = refl
take_none (suc m) = refl

pub take_plus : (n m : ℕ) (xs : List ℕ) → take (n + m) xs ≡ take n xs ++ take m (drop n xs)
take_plus zero m xs = let e : 0 + m ≡ m = omega arith in ap (λ k. take k xs) e
take_plus (suc n) m [] = (let e : suc n + m ≡ suc (n + m) = omega arith in ap (λ k. take k []) e) ∙ sym (take_none m)
take_plus (suc n) m (x ∷ xs) =
    (let e : suc n + m ≡ suc (n + m) = omega arith in ap (λ k. take k (x ∷ xs)) e) ∙ ap (λ ys. x ∷ ys) (take_plus n m xs)

-- words are words at each place
pub are_words : (ws : List ℕ) → ((k : ℕ) → slice_index ws k < 2 ^ 32) → AreWords ws
are_words [] h = tt
are_words (w ∷ ws) h = (h 0, are_words ws (λ k. h (suc k)))

-- a word is put among words
pub set_fit : (ws : List ℕ) (k w : ℕ) → AreWords ws → w < 2 ^ 32 → AreWords (set ws k w)
set_fit [] k w h small = tt
set_fit (v ∷ ws) zero w h small = (small, h.1)
set_fit (v ∷ ws) (suc k) w h small = (h.0, set_fit ws k w h.1 small)
