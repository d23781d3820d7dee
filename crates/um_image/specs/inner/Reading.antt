-- What the reader of an image finds, and where it stops.
use Rattle.std.specs.Prelude.{◌≡◌, ◌⊎◌, ℕ, ◌+◌, ◌*◌, ◌^◌, ◌<◌, ◌≤◌, List, [], ◌∷◌, ◌++◌, length}
use Rattle.std.specs.Prelude.{take, map, All, nat_eq}
use Rattle.std.specs.Int.{w32, to_be_bytes}
use Rattle.std.specs.List.{IsDistinct}
use Rattle.um_word.specs.State.{words_in}
use Rattle.um_word.specs.Scroll.{scroll}
use Rattle.array_store.specs.StoreView.{most_live_words}
use Rattle.array_store.specs.Parts.{Listed, active_up_to}
use Rattle.um_image.specs.declared.fault.ImageFault.{ImageFault}
use Rattle.um_image.specs.declared.fault.ImageFault.TheVariants.{TooLong, Bad, Memory}
use Rattle.um_image.specs.Image.{image_mark, array_words, IsBadAt}
use Rattle.um_image.specs.inner.Head.{AreWords, HeadFits, head_length, made_in, count_in}

-- this word stands at this place
abbrev pub HasWordAt : List ℕ → (at word : ℕ) → Type 0
HasWordAt bytes at word =
    (at + 4 ≤ length bytes) × (take (at + 4) bytes ≡ take at bytes ++ to_be_bytes w32 word)
    × (word < 2 ^ 32)

-- no word of the rule stands there
abbrev pub HasNone : List ℕ → ℕ → (ℕ → Type 0) → Type 0
HasNone bytes at R = (w : ℕ) → HasWordAt bytes at w → R w → ⊥

-- why the reader stopped, below the most bytes
abbrev pub ReaderStops : List ℕ → ImageFault → Type 0
ReaderStops bytes (TooLong count) = ⊥
ReaderStops bytes (Bad k) = IsBadAt bytes k
ReaderStops bytes Memory = Unit {0}

-- the words of an image that is begun, from its first word on
abbrev pub so_far : List ℕ → List ℕ → List ℕ → Listed → List ℕ → List ℕ
so_far head ids zeros arrays tail =
    image_mark ∷ (head ++ (ids ++ (length zeros ∷ (zeros ++ (array_words arrays ++ tail)))))

-- where the abandoned identifiers begin: behind the first word and the head
abbrev pub ids_start : ℕ
ids_start = 4 + 4 * head_length

-- the first word and the head
pub record HeadRead (bytes head : List ℕ) : Type 0 where
  pub size : length head ≡ head_length
  pub words : AreWords head
  pub fits : HeadFits head
  pub read : take ids_start bytes ≡ scroll (image_mark ∷ head)
  pub within : ids_start ≤ length bytes

-- the abandoned identifiers
pub record IdsRead (bytes head ids : List ℕ) : Type 0 where
  pub many : length ids ≡ count_in head
  pub known : All (λ id. (1 ≤ id) × (id ≤ made_in head)) ids
  pub once : IsDistinct nat_eq ids
  pub read : take (ids_start + 4 * length ids) bytes ≡ scroll (image_mark ∷ (head ++ ids))
  pub within : ids_start + 4 * length ids ≤ length bytes

-- the words of array 0
pub record ZeroRead (bytes head ids zeros : List ℕ) : Type 0 where
  pub words : AreWords zeros
  pub read : take (ids_start + 4 * length ids + 4 + 4 * length zeros) bytes
      ≡ scroll (so_far head ids zeros [] [])
  pub within : ids_start + 4 * length ids + 4 + 4 * length zeros ≤ length bytes
  pub live : length zeros ≤ most_live_words

-- the arrays of the identifiers up to n, up to this place
pub record ArraysRead (bytes head ids zeros : List ℕ) (arrays : Listed) (n at : ℕ) : Type 0 where
  pub active : map (λ a. a.0) arrays ≡ active_up_to ids n
  pub words : AreWords (array_words arrays)
  pub read : take at bytes ≡ scroll (so_far head ids zeros arrays [])
  pub within : at ≤ length bytes
  pub live : length zeros + words_in arrays ≤ most_live_words

-- the number of an array's words, and the words, behind this place
pub record ArrayRead (bytes : List ℕ) (at room : ℕ) (ws : List ℕ) : Type 0 where
  pub size : length ws ≤ room
  pub words : AreWords ws
  pub read : take (at + 4 + 4 * length ws) bytes ≡ take at bytes ++ scroll (length ws ∷ ws)
  pub within : at + 4 + 4 * length ws ≤ length bytes

-- there is no number of words that fits
pub record SizeStops (bytes : List ℕ) (at room k : ℕ) : Type 0 where
  pub place : k ≡ at
  pub none : HasNone bytes at (λ size. size ≤ room)

-- there are fewer words than their number says
pub record WordsStop (bytes : List ℕ) (at room k : ℕ) : Type 0 where
  pub size : ℕ
  pub fits : size ≤ room
  pub there : List ℕ
  pub words : AreWords there
  pub short : length there < size
  pub place : k ≡ at + 4 + 4 * length there
  pub read : take k bytes ≡ take at bytes ++ scroll (size ∷ there)
  pub within : k ≤ length bytes
  pub end : length bytes < k + 4

-- why the reader of an array stopped
abbrev pub ArrayStops : List ℕ → (at room : ℕ) → ImageFault → Type 0
ArrayStops bytes at room (TooLong count) = ⊥
ArrayStops bytes at room (Bad k) = SizeStops bytes at room k ⊎ WordsStop bytes at room k
ArrayStops bytes at room Memory = Unit {0}
