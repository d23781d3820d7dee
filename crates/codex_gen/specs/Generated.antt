-- The grid of a number: what stands in it, by which words of the generator, and what its program
-- gives (docs/GENERATED.md).
use Rattle.std.specs.Prelude.{ℕ, zero, suc, ◌+◌, ◌-◌, ◌*◌, ◌%◌, ◌==◌, List, [], ◌∷◌, ◌++◌, Bool}
use Rattle.std.specs.Prelude.{true, false, if◌then◌else◌, length, map, replicate, codes, decimal}
use Rattle.std.specs.List.{sum_by}
use Rattle.std.specs.Str.{byte}
use Rattle.grid_picture.specs.Lined.{lined}
use Rattle.codex_values.specs.Value.{Value, unit, pair, inl, inr}
use Rattle.rand_pcg.specs.Lcg.{Lcg, started, increment_of}
use Rattle.rand_pcg.specs.Pcg.{multiplier_64, pcg32}

-- the parts one after the other, and another between two
abbrev pub joined_by : List ℕ → List (List ℕ) → List ℕ
joined_by between [] = []
joined_by between (part ∷ []) = part
joined_by between (part ∷ other ∷ more) = part ++ between ++ joined_by between (other ∷ more)

-- The columns of a strip within its borders: one at the west, two more than its text for each box,
-- and two between boxes.
abbrev pub strip_columns : List (List ℕ) → ℕ
strip_columns texts = 1 + sum_by (λ text. length text + 2) texts + 2 * (length texts - 1)

-- the first line and the last one, by their corners
abbrev pub border : List ℕ → List (List ℕ) → List ℕ
border corner texts = corner ++ replicate (strip_columns texts) (byte ".") ++ corner

-- the second line, which has the name
abbrev pub name_line : List ℕ → List (List ℕ) → List ℕ
name_line name texts =
    codes ":" ++ name ++ replicate (strip_columns texts - length name) (byte " ") ++ codes ":"

-- the upper or lower edge of a box with this text
abbrev pub edge : List ℕ → List ℕ
edge text = codes "*" ++ replicate (length text) (byte "=") ++ codes "*"

-- the third line and the fifth, which have the edges of all boxes
abbrev pub edges : List (List ℕ) → List ℕ
edges texts = codes ": " ++ joined_by (codes "  ") (map edge texts) ++ codes ":"

-- a text within the sides of its box
abbrev pub middle : List ℕ → List ℕ
middle text = codes "!" ++ text ++ codes "!"

-- the fourth line, in which all wires run: from the west entry, if there is one, from box to box, and
-- to the exit
abbrev pub middles : Bool → List (List ℕ) → List ℕ
middles west texts =
    (if west then codes "->" else codes ": ")
    ++ joined_by (codes "->") (map middle texts)
    ++ codes "-"

-- The six lines of a module whose boxes stand side by side, each wired to the next, the first to
-- the west entry if there is one, and the last to the exit.
abbrev pub strip : List ℕ → Bool → List (List ℕ) → List (List ℕ)
strip name west texts =
    border (codes ",") texts
    ∷ name_line name texts
    ∷ edges texts
    ∷ middles west texts
    ∷ edges texts
    ∷ border (codes "'") texts
    ∷ []

-- the texts of a form, by its number
abbrev pub form_texts : ℕ → List (List ℕ)
form_texts f =
    if f == 0 then codes "send[(Inl W,E)]" ∷ [] else
    (if f == 1 then codes "send[(Inr W,E)]" ∷ [] else
    (if f == 2 then codes "send[((W,()),E)]" ∷ [] else
    (if f == 3 then codes "send[(Inr W,E)]" ∷ codes "case W of E,E" ∷ [] else
    (codes "send[(((),W),E)]" ∷ codes "split W" ∷ []))))

-- the name of module i beside `main`: `m` and its number
abbrev pub module_name : ℕ → List ℕ
module_name i = codes "m" ++ decimal i

-- the text that uses the module after module i, if a form follows
abbrev pub use_next : ℕ → List ℕ → List (List ℕ)
use_next i [] = []
use_next i (f ∷ more) = (codes "use " ++ module_name (suc i)) ∷ []

-- the lines of module i and those after it, one for each form
abbrev pub modules_from : ℕ → List ℕ → List (List ℕ)
modules_from i [] = []
modules_from i (f ∷ more) =
    strip (module_name i) true (form_texts f ++ use_next i more) ++ modules_from (suc i) more

-- the texts of `main`
abbrev pub main_texts : List (List ℕ)
main_texts = codes "send[((),E)]" ∷ codes "use m0" ∷ []

-- the grid of these forms: `main`, which has no entry, and a module for each
abbrev pub grid_of_forms : List ℕ → List ℕ
grid_of_forms forms = lined (strip (codes "main") false main_texts ++ modules_from 0 forms)

-- the generator of a number
abbrev pub generator : ℕ → Lcg
generator number = started 64 multiplier_64 number (increment_of 64 54)

-- the next words of a generator, so many
abbrev pub next_words : Lcg → ℕ → List ℕ
next_words g zero = []
next_words g (suc n) = (pcg32 g).0 ∷ next_words (pcg32 g).1 n

-- the generator after so many words
abbrev pub after_words : Lcg → ℕ → Lcg
after_words g zero = g
after_words g (suc n) = after_words (pcg32 g).1 n

-- how many modules there are beside `main`, by the first word
abbrev pub module_count : ℕ → ℕ
module_count number = 24 + (pcg32 (generator number)).0 % 32

-- their forms, by the words after it
abbrev pub forms_of_number : ℕ → List ℕ
forms_of_number number =
    map (λ word. word % 5) (next_words (pcg32 (generator number)).1 (module_count number))

abbrev pub grid_of_number : ℕ → List ℕ
grid_of_number number = grid_of_forms (forms_of_number number)

-- the 16 words after those
abbrev pub words_after : ℕ → List ℕ
words_after number = next_words (after_words (pcg32 (generator number)).1 (module_count number)) 16

-- the value that a form makes of another
abbrev pub form_value : ℕ → Value → Value
form_value f v =
    if f == 0 then inl v else
    (if f == 1 then inr v else
    (if f == 2 then pair v unit else v))

-- the value that the forms, in this order, make of another
abbrev pub forms_value : List ℕ → Value → Value
forms_value [] v = v
forms_value (f ∷ more) v = forms_value more (form_value f v)

-- the value that the program of a number gives: what its forms make of `()`
abbrev pub value_of_number : ℕ → Value
value_of_number number = forms_value (forms_of_number number) unit
