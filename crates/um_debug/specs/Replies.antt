-- The replies, each without the LF that ends it.
use Rattle.std.specs.Prelude.{ℕ, zero, suc, ◌+◌, List, [], ◌∷◌, ◌++◌, codes, decimal, Option, Some}
use Rattle.std.specs.Prelude.{None, slice_get, map}
use Rattle.std.specs.Int.{w32, to_be_bytes}
use Rattle.std.specs.List.{join_with_byte}
use Rattle.std.specs.Str.{byte}
use Rattle.hex.specs.Hex.{encode_lower}
use Rattle.um_word.specs.State.{Arrays, array_at, live_arrays, live_words}
use Rattle.um_word.specs.Operators.{decode_word}
use Rattle.um_machine.specs.declared.stop.Stop.{Stop}
use Rattle.um_machine.specs.declared.stop.Stop.TheVariants.{ArraysFull, WordsFull}
use Rattle.um_machine.specs.Stops.{stop_name}
use Rattle.um_asm.specs.Listing.{word_text}
use Rattle.um_debug.specs.declared.command.WordPlace.{WordPlace}
use Rattle.um_debug.specs.declared.course.Came.{Came}
use Rattle.um_debug.specs.declared.course.Came.TheVariants.{Stopped, Halted, Failed, Watched, Broke}

-- eight digits, in lower case
abbrev pub hex_digits : ℕ → List ℕ
hex_digits word = encode_lower (to_be_bytes w32 word)

-- a word, or `none` where there isn't one
abbrev pub shown_word : Option ℕ → List ℕ
shown_word None = codes "none"
shown_word (Some word) = hex_digits word

-- with one space between them
abbrev pub spaced : List (List ℕ) → List ℕ
spaced texts = join_with_byte (byte " ") texts

-- the word at a place, if it is there
abbrev pub word_at : Arrays → WordPlace → Option ℕ
word_at arrays place = slice_get (array_at arrays place.id) place.offset

-- so many words from a place on
abbrev pub words_from : Arrays → (id offset count : ℕ) → List (Option ℕ)
words_from arrays id offset zero = []
words_from arrays id offset (suc count) =
    slice_get (array_at arrays id) offset ∷ words_from arrays id (offset + 1) count

-- the number of cycles made
abbrev pub cycles_text : ℕ → List ℕ
cycles_text cycles = codes "cycles " ++ decimal cycles

-- a fault that came as the next cycle was tried, by its number: of a limit, or any other
abbrev pub fault_text : Stop → ℕ → List ℕ
fault_text (ArraysFull count) cycle = codes "limit ArraysFull at cycle " ++ decimal cycle
fault_text (WordsFull count) cycle = codes "limit WordsFull at cycle " ++ decimal cycle
fault_text stop cycle = codes "fault " ++ stop_name stop ++ codes " at cycle " ++ decimal cycle

-- what cycles came to, with the number of cycles made and the finger after them
abbrev pub came_text : Came → (cycles finger : ℕ) → List ℕ
came_text Stopped cycles finger = codes "stopped " ++ cycles_text cycles ++ codes " finger " ++ decimal finger
came_text Halted cycles finger = codes "halted " ++ cycles_text cycles
came_text (Failed stop) cycles finger = fault_text stop (cycles + 1)
came_text (Watched place old new) cycles finger =
    codes "watch " ++ decimal place.id ++ codes " " ++ decimal place.offset ++ codes " " ++ shown_word old
    ++ codes " " ++ shown_word new ++ codes " " ++ cycles_text cycles
came_text (Broke offset) cycles finger = codes "break " ++ decimal offset ++ codes " " ++ cycles_text cycles

-- the eight registers
abbrev pub registers_text : List ℕ → List ℕ
registers_text registers = spaced (map hex_digits registers)

-- the words of an array
abbrev pub words_text : Arrays → WordPlace → ℕ → List ℕ
words_text arrays place count = spaced (map shown_word (words_from arrays place.id place.offset count))

-- the platter under the finger, as a listing shows it
abbrev pub next_text : Option ℕ → List ℕ
next_text None = codes "none"
next_text (Some word) = word_text word (decode_word word)

-- where the machine stands
abbrev pub finger_text : Arrays → (cycles finger : ℕ) → List ℕ
finger_text arrays cycles finger =
    codes "finger " ++ decimal finger ++ codes " " ++ cycles_text cycles
    ++ codes " arrays " ++ decimal (live_arrays arrays) ++ codes " words " ++ decimal (live_words arrays)
    ++ codes " next " ++ next_text (slice_get (array_at arrays 0) finger)

-- a line that asks for nothing that can be done
abbrev pub unknown_text : List ℕ
unknown_text = codes "?"
