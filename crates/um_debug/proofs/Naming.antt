-- What a line asks for, by the word before its first space.
use Rattle.std.proofs.Common.{◌≡◌, ◌≢◌, ℕ, ◌+◌, ◌-◌, ◌<◌, ◌≤◌, ◌^◌, List, [], ◌∷◌, ◌++◌, append_assoc, get_or, length, refl, sym, ap, ◌∙◌, subst, arith}
use Rattle.std.specs.Prelude.{codes, decimal}
use Rattle.std.specs.Str.{IsAscii}
use Rattle.std.proofs.lemmas.Fmt.{IsAscii-decimal, decimal_injective}
use Rattle.std.proofs.lemmas.List.Elements.{All-nil, All-cons}
use Rattle.std.proofs.lemmas.Str.{IsAscii-append}
use Rattle.std.proofs.lemmas.Str.Ascii.{IsAscii-nil, IsAscii-cons}
use Rattle.um_debug.specs.declared.command.Command.{Command}
use Rattle.um_debug.specs.declared.command.Command.TheVariants.{Step, Go, Breakpoint, Watch, Registers, Words, Finger, Quit}
use Rattle.um_debug.specs.declared.command.WordPlace.{WordPlace}
use Rattle.um_debug.specs.Commands.{IsCommandLine, IsCycles, most_cycles, most_words}
use Rattle.um_debug.specs.Commands as plain
use Rattle.um_debug.specs.inner.Numbers.{HasNoSpace, IsDecimal, IsPlace}
use Rattle.um_debug.proofs.Spaces.{decimal_no_space, no_cut, one_cut, AreCut, IsCut}

-- the words of a line that isn't `r`, `f` or `q`, by its name
pub data Named (name numbers : List ℕ) : Command → Type 0 where
  step : (n : ℕ) → IsCycles n → name ≡ codes "s" → numbers ≡ decimal n → Named name numbers (Step n)
  go : (n : ℕ) → IsCycles n → name ≡ codes "c" → numbers ≡ decimal n → Named name numbers (Go n)
  breakpoint : (offset : ℕ) → offset < 2 ^ 32 → name ≡ codes "b" → numbers ≡ decimal offset →
      Named name numbers (Breakpoint offset)
  watch : (id offset : ℕ) → id < 2 ^ 32 → offset < 2 ^ 32 → name ≡ codes "w" →
      numbers ≡ decimal id ++ 32 ∷ decimal offset →
      Named name numbers (Watch (record { id = id; offset = offset }))
  words : (id offset n : ℕ) → id < 2 ^ 32 → offset < 2 ^ 32 → 1 ≤ n → n ≤ most_words → offset + n ≤ 2 ^ 32 →
      name ≡ codes "a" → numbers ≡ decimal id ++ 32 ∷ (decimal offset ++ 32 ∷ decimal n) →
      Named name numbers (Words (record { id = id; offset = offset }) n)

one_letter : (letter : ℕ) → letter ≢ 32 → HasNoSpace (letter ∷ [])
one_letter letter other = All-cons (λ byte. byte ≢ 32) letter [] other (All-nil (λ byte. byte ≢ 32))

clash : (name : List ℕ) (a b : ℕ) → a ≢ b → name ≡ a ∷ [] → name ≡ b ∷ [] → ⊥
clash name a b other one two = other (ap (λ text. get_or text 0 0) (sym one ∙ two))

-- the texts of commands, from their front on
watch_text : (id offset : ℕ) → codes "w " ++ decimal id ++ codes " " ++ decimal offset ≡ 119 ∷ 32 ∷ (decimal id ++ 32 ∷ decimal offset)
watch_text id offset = ap (λ text. 119 ∷ 32 ∷ text) (append_assoc (decimal id) (codes " ") (decimal offset))

three_texts : (a b c : List ℕ) → a ++ codes " " ++ b ++ codes " " ++ c ≡ a ++ 32 ∷ (b ++ 32 ∷ c)
three_texts a b c = simp append_assoc

words_text : (id offset n : ℕ) → codes "a " ++ decimal id ++ codes " " ++ decimal offset ++ codes " " ++ decimal n
    ≡ 97 ∷ 32 ∷ (decimal id ++ 32 ∷ (decimal offset ++ 32 ∷ decimal n))
words_text id offset n = ap (λ text. 97 ∷ 32 ∷ text) (three_texts (decimal id) (decimal offset) (decimal n))

-- the first word of a command that is cut at its first space
cut_name : (letter : ℕ) (others name numbers : List ℕ) → letter ≢ 32 → HasNoSpace name →
    letter ∷ 32 ∷ others ≡ name ++ 32 ∷ numbers → AreCut name numbers (letter ∷ []) others
cut_name letter others name numbers other none is =
    one_cut name numbers (letter ∷ []) others none (one_letter letter other) (sym is)

named_at : (line name numbers : List ℕ) (command : Command) → HasNoSpace name → line ≡ name ++ 32 ∷ numbers →
    IsCommandLine line command → Named name numbers command
named_at _ name numbers _ none is (plain.step n cycles) =
    let cut = cut_name 115 (decimal n) name numbers (omega arith) none is in step n cycles cut.first cut.others
named_at _ name numbers _ none is (plain.go n cycles) =
    let cut = cut_name 99 (decimal n) name numbers (omega arith) none is in go n cycles cut.first cut.others
named_at _ name numbers _ none is (plain.breakpoint offset lt) =
    let cut = cut_name 98 (decimal offset) name numbers (omega arith) none is in
    breakpoint offset lt cut.first cut.others
named_at _ name numbers _ none is (plain.watch id offset lt small) =
    let cut = cut_name 119 (decimal id ++ 32 ∷ decimal offset) name numbers (omega arith) none (sym (watch_text id offset) ∙ is) in
    watch id offset lt small cut.first cut.others
named_at _ name numbers _ none is plain.registers = absurd (no_cut (codes "r") name numbers (one_letter 114 (omega arith)) is)
named_at _ name numbers _ none is (plain.words id offset n lt small least most within) =
    let cut = cut_name 97 (decimal id ++ 32 ∷ (decimal offset ++ 32 ∷ decimal n)) name numbers (omega arith) none (sym (words_text id offset n) ∙ is) in
    words id offset n lt small least most within cut.first cut.others
named_at _ name numbers _ none is plain.finger = absurd (no_cut (codes "f") name numbers (one_letter 102 (omega arith)) is)
named_at _ name numbers _ none is plain.quit = absurd (no_cut (codes "q") name numbers (one_letter 113 (omega arith)) is)

-- a command that is cut at its first space has its name before it
pub named : (name numbers : List ℕ) (command : Command) → HasNoSpace name → IsCommandLine (name ++ 32 ∷ numbers) command →
    Named name numbers command
named name numbers command none is = named_at (name ++ 32 ∷ numbers) name numbers command none refl is

-- a line without a space is no command but these
pub no_word : (line : List ℕ) (command : Command) → HasNoSpace line → line ≢ codes "r" → line ≢ codes "f" → line ≢ codes "q" →
    IsCommandLine line command → ⊥
no_word _ _ none r f q (plain.step n cycles) = no_cut _ (codes "s") (decimal n) none refl
no_word _ _ none r f q (plain.go n cycles) = no_cut _ (codes "c") (decimal n) none refl
no_word _ _ none r f q (plain.breakpoint offset lt) = no_cut _ (codes "b") (decimal offset) none refl
no_word _ _ none r f q (plain.watch id offset lt small) = no_cut _ (codes "w") (decimal id ++ 32 ∷ decimal offset) none (watch_text id offset)
no_word _ _ none r f q plain.registers = r refl
no_word _ _ none r f q (plain.words id offset n lt small least most within) =
    no_cut _ (codes "a") (decimal id ++ 32 ∷ (decimal offset ++ 32 ∷ decimal n)) none (words_text id offset n)
no_word _ _ none r f q plain.finger = f refl
no_word _ _ none r f q plain.quit = q refl

module _ (name numbers : List ℕ) where
  no_step_at : (command : Command) → name ≡ codes "s" → ((n : ℕ) → 1 ≤ n → IsDecimal most_cycles numbers n → ⊥) → Named name numbers command → ⊥
  no_step_at _ is none (step n cycles same writes) = none n cycles.0 (record { writes = writes; small = cycles.1 })
  no_step_at _ is none (go n cycles same writes) = absurd (clash name 115 99 (omega arith) is same)
  no_step_at _ is none (breakpoint offset lt same writes) = absurd (clash name 115 98 (omega arith) is same)
  no_step_at _ is none (watch id offset lt small same writes) = absurd (clash name 115 119 (omega arith) is same)
  no_step_at _ is none (words id offset n lt small least most within same writes) = absurd (clash name 115 97 (omega arith) is same)

  no_go_at : (command : Command) → name ≡ codes "c" → ((n : ℕ) → 1 ≤ n → IsDecimal most_cycles numbers n → ⊥) → Named name numbers command → ⊥
  no_go_at _ is none (go n cycles same writes) = none n cycles.0 (record { writes = writes; small = cycles.1 })
  no_go_at _ is none (step n cycles same writes) = absurd (clash name 99 115 (omega arith) is same)
  no_go_at _ is none (breakpoint offset lt same writes) = absurd (clash name 99 98 (omega arith) is same)
  no_go_at _ is none (watch id offset lt small same writes) = absurd (clash name 99 119 (omega arith) is same)
  no_go_at _ is none (words id offset n lt small least most within same writes) = absurd (clash name 99 97 (omega arith) is same)

  no_breakpoint_at : (command : Command) → name ≡ codes "b" → ((n : ℕ) → IsDecimal (2 ^ 32 - 1) numbers n → ⊥) → Named name numbers command → ⊥
  no_breakpoint_at _ is none (breakpoint offset lt same writes) = none offset (record { writes = writes; small = omega (arith, lt) })
  no_breakpoint_at _ is none (step n cycles same writes) = absurd (clash name 98 115 (omega arith) is same)
  no_breakpoint_at _ is none (go n cycles same writes) = absurd (clash name 98 99 (omega arith) is same)
  no_breakpoint_at _ is none (watch id offset lt small same writes) = absurd (clash name 98 119 (omega arith) is same)
  no_breakpoint_at _ is none (words id offset n lt small least most within same writes) = absurd (clash name 98 97 (omega arith) is same)

  no_watch_at : (command : Command) → name ≡ codes "w" → ((place : WordPlace) → IsPlace numbers place → ⊥) → Named name numbers command → ⊥
  no_watch_at _ is none (watch id offset lt small same writes) =
      none (record { id = id; offset = offset }) (record { writes = writes ∙ sym (append_assoc (decimal id) (codes " ") (decimal offset)); id = lt; offset = small })
  no_watch_at _ is none (step n cycles same writes) = absurd (clash name 119 115 (omega arith) is same)
  no_watch_at _ is none (go n cycles same writes) = absurd (clash name 119 99 (omega arith) is same)
  no_watch_at _ is none (breakpoint offset lt same writes) = absurd (clash name 119 98 (omega arith) is same)
  no_watch_at _ is none (words id offset n lt small least most within same writes) = absurd (clash name 119 97 (omega arith) is same)

  no_name_at : (command : Command) → name ≢ codes "s" → name ≢ codes "c" → name ≢ codes "b" → name ≢ codes "w" → name ≢ codes "a" →
      Named name numbers command → ⊥
  no_name_at _ s c b w a (step n cycles same writes) = s same
  no_name_at _ s c b w a (go n cycles same writes) = c same
  no_name_at _ s c b w a (breakpoint offset lt same writes) = b same
  no_name_at _ s c b w a (watch id offset lt small same writes) = w same
  no_name_at _ s c b w a (words id offset n lt small least most within same writes) = a same

-- what a line is that has this name and writes this
pub step_line : (name numbers : List ℕ) (n : ℕ) → name ≡ codes "s" → 1 ≤ n → IsDecimal most_cycles numbers n →
    IsCommandLine (name ++ 32 ∷ numbers) (Step n)
step_line name numbers n is least writes =
    subst (λ (line : List ℕ). IsCommandLine line (Step n))
    (sym (ap (λ (text : List ℕ). text ++ 32 ∷ numbers) is ∙ ap (λ (text : List ℕ). 115 ∷ 32 ∷ text) writes.writes))
    (plain.step n (least, writes.small))

pub go_line : (name numbers : List ℕ) (n : ℕ) → name ≡ codes "c" → 1 ≤ n → IsDecimal most_cycles numbers n →
    IsCommandLine (name ++ 32 ∷ numbers) (Go n)
go_line name numbers n is least writes =
    subst (λ (line : List ℕ). IsCommandLine line (Go n))
    (sym (ap (λ (text : List ℕ). text ++ 32 ∷ numbers) is ∙ ap (λ (text : List ℕ). 99 ∷ 32 ∷ text) writes.writes))
    (plain.go n (least, writes.small))

pub breakpoint_line : (name numbers : List ℕ) (n : ℕ) → name ≡ codes "b" → IsDecimal (2 ^ 32 - 1) numbers n →
    IsCommandLine (name ++ 32 ∷ numbers) (Breakpoint n)
breakpoint_line name numbers n is writes =
    subst (λ (line : List ℕ). IsCommandLine line (Breakpoint n))
    (sym (ap (λ (text : List ℕ). text ++ 32 ∷ numbers) is ∙ ap (λ (text : List ℕ). 98 ∷ 32 ∷ text) writes.writes))
    (plain.breakpoint n (omega (arith, writes.small)))

pub watch_line : (name numbers : List ℕ) (place : WordPlace) → name ≡ codes "w" → IsPlace numbers place →
    IsCommandLine (name ++ 32 ∷ numbers) (Watch place)
watch_line name numbers place is writes =
    subst (λ (line : List ℕ). IsCommandLine line (Watch place))
    (sym (ap (λ (text : List ℕ). text ++ 32 ∷ numbers) is ∙ ap (λ (text : List ℕ). 119 ∷ 32 ∷ text) writes.writes))
    (plain.watch place.id place.offset writes.id writes.offset)

pub words_line : (numbers : List ℕ) (id offset n : ℕ) → id < 2 ^ 32 → offset < 2 ^ 32 → 1 ≤ n → n ≤ most_words → offset + n ≤ 2 ^ 32 →
    numbers ≡ decimal id ++ 32 ∷ (decimal offset ++ 32 ∷ decimal n) →
    IsCommandLine (codes "a " ++ numbers) (Words (record { id = id; offset = offset }) n)
words_line numbers id offset n lt small least most within writes =
    subst (λ (line : List ℕ). IsCommandLine line (Words (record { id = id; offset = offset }) n))
    (words_text id offset n ∙ ap (λ (text : List ℕ). 97 ∷ 32 ∷ text) (sym writes))
    (plain.words id offset n lt small least most within)

-- what a line isn't that has this name
pub no_step : (name numbers : List ℕ) (command : Command) → HasNoSpace name → name ≡ codes "s" →
    ((n : ℕ) → 1 ≤ n → IsDecimal most_cycles numbers n → ⊥) → IsCommandLine (name ++ 32 ∷ numbers) command → ⊥
no_step name numbers command none is lacks h = no_step_at name numbers command is lacks (named name numbers command none h)

pub no_go : (name numbers : List ℕ) (command : Command) → HasNoSpace name → name ≡ codes "c" →
    ((n : ℕ) → 1 ≤ n → IsDecimal most_cycles numbers n → ⊥) → IsCommandLine (name ++ 32 ∷ numbers) command → ⊥
no_go name numbers command none is lacks h = no_go_at name numbers command is lacks (named name numbers command none h)

pub no_breakpoint : (name numbers : List ℕ) (command : Command) → HasNoSpace name → name ≡ codes "b" →
    ((n : ℕ) → IsDecimal (2 ^ 32 - 1) numbers n → ⊥) → IsCommandLine (name ++ 32 ∷ numbers) command → ⊥
no_breakpoint name numbers command none is lacks h = no_breakpoint_at name numbers command is lacks (named name numbers command none h)

pub no_watch : (name numbers : List ℕ) (command : Command) → HasNoSpace name → name ≡ codes "w" →
    ((place : WordPlace) → IsPlace numbers place → ⊥) → IsCommandLine (name ++ 32 ∷ numbers) command → ⊥
no_watch name numbers command none is lacks h = no_watch_at name numbers command is lacks (named name numbers command none h)

pub no_name : (name numbers : List ℕ) (command : Command) → HasNoSpace name → name ≢ codes "s" → name ≢ codes "c" → name ≢ codes "b" →
    name ≢ codes "w" → name ≢ codes "a" → IsCommandLine (name ++ 32 ∷ numbers) command → ⊥
no_name name numbers command none s c b w a h = no_name_at name numbers command s c b w a (named name numbers command none h)

-- what a line of words shows
pub record Shows (numbers : List ℕ) : Type 0 where
  pub id : ℕ
  pub offset : ℕ
  pub count : ℕ
  pub small_id : id < 2 ^ 32
  pub small_offset : offset < 2 ^ 32
  pub least : 1 ≤ count
  pub most : count ≤ most_words
  pub within : offset + count ≤ 2 ^ 32
  pub writes : numbers ≡ decimal id ++ 32 ∷ (decimal offset ++ 32 ∷ decimal count)

shows_at : (name numbers : List ℕ) (command : Command) → name ≡ codes "a" → Named name numbers command → Shows numbers
shows_at name numbers _ is (words id offset n lt small least most within same writes) =
    record { id = id; offset = offset; count = n; small_id = lt; small_offset = small; least = least; most = most; within = within; writes = writes }
shows_at name numbers _ is (step n cycles same writes) = absurd (clash name 97 115 (omega arith) is same)
shows_at name numbers _ is (go n cycles same writes) = absurd (clash name 97 99 (omega arith) is same)
shows_at name numbers _ is (breakpoint offset lt same writes) = absurd (clash name 97 98 (omega arith) is same)
shows_at name numbers _ is (watch id offset lt small same writes) = absurd (clash name 97 119 (omega arith) is same)

pub shows : (numbers : List ℕ) (command : Command) → IsCommandLine (codes "a " ++ numbers) command → Shows numbers
shows numbers command is =
    shows_at (codes "a") numbers command refl (named (codes "a") numbers command (one_letter 97 (omega arith)) is)

-- the two parts of a place
pub place_cut : (numbers id offset : List ℕ) (place : WordPlace) → IsCut numbers id offset → IsPlace numbers place →
    AreCut id offset (decimal place.id) (decimal place.offset)
place_cut numbers id offset place cut is =
    one_cut id offset (decimal place.id) (decimal place.offset) cut.none (decimal_no_space place.id (omega (arith, is.id)))
    (sym cut.is ∙ is.writes ∙ append_assoc (decimal place.id) (codes " ") (decimal place.offset))

pub no_place : (numbers : List ℕ) (place : WordPlace) → HasNoSpace numbers → IsPlace numbers place → ⊥
no_place numbers place none is = no_cut numbers (decimal place.id) (decimal place.offset) none (is.writes ∙ append_assoc (decimal place.id) (codes " ") (decimal place.offset))

module _ (numbers id others : List ℕ) (cut : IsCut numbers id others) (s : Shows numbers) where
  -- the parts of what a line of words shows
  pub first_part : AreCut id others (decimal s.id) (decimal s.offset ++ 32 ∷ decimal s.count)
  first_part =
      one_cut id others (decimal s.id) (decimal s.offset ++ 32 ∷ decimal s.count) cut.none
      (decimal_no_space s.id (omega (arith, s.small_id))) (sym cut.is ∙ s.writes)

  pub no_second : HasNoSpace others → ⊥
  no_second none = no_cut others (decimal s.offset) (decimal s.count) none first_part.others

  module _ (offset count : List ℕ) (second : IsCut others offset count) where
    pub second_part : AreCut offset count (decimal s.offset) (decimal s.count)
    second_part =
        one_cut offset count (decimal s.offset) (decimal s.count) second.none
        (decimal_no_space s.offset (omega (arith, s.small_offset))) (sym second.is ∙ first_part.others)

    -- the numbers that are read are those that the line writes
    pub same_count : (n : ℕ) → n ≤ most_words → count ≡ decimal n → n ≡ s.count
    same_count n small writes =
        decimal_injective n s.count (omega (arith, small)) (omega (arith, s.most)) (sym writes ∙ second_part.others)

    pub same_offset : (n : ℕ) → n < 2 ^ 32 → offset ≡ decimal n → n ≡ s.offset
    same_offset n small writes =
        decimal_injective n s.offset (omega (arith, small)) (omega (arith, s.small_offset)) (sym writes ∙ second_part.first)

pub no_shows : (numbers : List ℕ) → HasNoSpace numbers → Shows numbers → ⊥
no_shows numbers none s = no_cut numbers (decimal s.id) (decimal s.offset ++ 32 ∷ decimal s.count) none s.writes

-- what these parts write
pub shows_parts : (numbers id others offset count : List ℕ) (i o n : ℕ) → IsCut numbers id others → IsCut others offset count →
    id ≡ decimal i → offset ≡ decimal o → count ≡ decimal n → numbers ≡ decimal i ++ 32 ∷ (decimal o ++ 32 ∷ decimal n)
shows_parts numbers id others offset count i o n first second a b c =
    first.is ∙ ap (λ (xs : List ℕ). xs ++ 32 ∷ others) a
    ∙ ap (λ (xs : List ℕ). decimal i ++ 32 ∷ xs) (second.is ∙ ap (λ (xs : List ℕ). xs ++ 32 ∷ count) b ∙ ap (λ (xs : List ℕ). decimal o ++ 32 ∷ xs) c)

letter_ascii : (letter : ℕ) (others : List ℕ) → letter < 128 → IsAscii others → IsAscii (letter ∷ others)
letter_ascii letter others small ascii = IsAscii-cons letter others small ascii

after_space : (front others : List ℕ) → IsAscii front → IsAscii others → IsAscii (front ++ 32 ∷ others)
after_space front others one two = IsAscii-append front (32 ∷ others) one (IsAscii-cons 32 others (omega arith) two)

decimal_ascii : (n : ℕ) → n < 2 ^ 64 → IsAscii (decimal n)
decimal_ascii n lt = IsAscii-decimal n lt

-- the bytes of a command are ASCII
pub command_ascii : (line : List ℕ) (command : Command) → IsCommandLine line command → IsAscii line
command_ascii _ _ (plain.step n cycles) =
    after_space (codes "s") (decimal n) (letter_ascii 115 [] (omega arith) IsAscii-nil) (decimal_ascii n (omega (arith, cycles.1)))
command_ascii _ _ (plain.go n cycles) =
    after_space (codes "c") (decimal n) (letter_ascii 99 [] (omega arith) IsAscii-nil) (decimal_ascii n (omega (arith, cycles.1)))
command_ascii _ _ (plain.breakpoint offset lt) =
    after_space (codes "b") (decimal offset) (letter_ascii 98 [] (omega arith) IsAscii-nil) (decimal_ascii offset (omega (arith, lt)))
command_ascii _ _ (plain.watch id offset lt small) = subst IsAscii (sym (watch_text id offset)) (
    after_space (codes "w") (decimal id ++ 32 ∷ decimal offset) (letter_ascii 119 [] (omega arith) IsAscii-nil)
    (after_space (decimal id) (decimal offset) (decimal_ascii id (omega (arith, lt))) (decimal_ascii offset (omega (arith, small)))))
command_ascii _ _ plain.registers = letter_ascii 114 [] (omega arith) IsAscii-nil
command_ascii _ _ (plain.words id offset n lt small least most within) = subst IsAscii (sym (words_text id offset n)) (
    after_space (codes "a") (decimal id ++ 32 ∷ (decimal offset ++ 32 ∷ decimal n)) (letter_ascii 97 [] (omega arith) IsAscii-nil)
    (after_space (decimal id) (decimal offset ++ 32 ∷ decimal n) (decimal_ascii id (omega (arith, lt)))
    (after_space (decimal offset) (decimal n) (decimal_ascii offset (omega (arith, small))) (decimal_ascii n (omega (arith, most))))))
command_ascii _ _ plain.finger = letter_ascii 102 [] (omega arith) IsAscii-nil
command_ascii _ _ plain.quit = letter_ascii 113 [] (omega arith) IsAscii-nil
