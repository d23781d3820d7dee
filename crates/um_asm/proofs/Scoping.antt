-- What is known of the labels behind a line, and what is still to come.
use Rattle.std.proofs.Common.{◌≡◌, ℕ, ◌+◌, ◌-◌, ◌<◌, ◌≤◌, nat_eq, Bool, true, false, cond, ◌||◌, List, [], ◌∷◌, ◌++◌, Option, Some, None, refl, arith, add-zero}
use Rattle.std.specs.List.{find}
use Rattle.std.specs.Option.{option_map, option_eq, option_or}
use Rattle.um_asm.specs.declared.line.Line.TheVariants.{Code, Array, End}
use Rattle.um_asm.specs.declared.position.Block.{Block}
use Rattle.um_asm.specs.Lines.{size_of}
use Rattle.um_asm.specs.Scopes.{Said, Named, standing, definitions, defined_by, defines, lookup, is_end, is_ended, words_until_end, in_block, block_after}
use Rattle.um_asm.specs.inner.Parts.{IsBehind, unended_from, said_in}
use Rattle.um_asm.specs.inner.Definitions.{known_by}

-- the block's own definition, which is known where it ends
abbrev pub closing : Option (Block (List ℕ)) → (place : ℕ) → List Said → List Named
closing None place lines = []
closing (Some b) place lines =
    cond (is_ended lines) (record { scope = None; name = b.name; definition = record { line = b.begun; place = b.first; length = Some ((place - b.first) + words_until_end lines) } } ∷ []) []

-- what the lines from here on define
abbrev pub coming : (number : ℕ) → Option (Block (List ℕ)) → (place : ℕ) → List Said → List Named
coming number block place lines = closing block place lines ++ definitions (standing number block place lines)

lookup-cons : (d : Named) (ds : List Named) (scope : Option ℕ) (name : List ℕ) → lookup (d ∷ ds) scope name ≡ option_or (lookup (d ∷ []) scope name) (lookup ds scope name)
lookup-cons d ds scope name = by_test (defines scope name d)
  where
    by_test : (b : Bool) → option_map (λ d. d.definition) (cond b (Some d) (find (defines scope name) ds)) ≡ option_or (option_map (λ d. d.definition) (cond b (Some d) None)) (lookup ds scope name)
    by_test true = refl
    by_test false = refl

-- the name of a block and a label in a block are no name of one scope
apart : (outer inner : Named) (begun : ℕ) (ds : List Named) → outer.scope ≡ None → inner.scope ≡ Some begun → (scope : Option ℕ) (name : List ℕ)
    → lookup (outer ∷ inner ∷ ds) scope name ≡ option_or (lookup (inner ∷ []) scope name) (lookup (outer ∷ ds) scope name)
apart outer inner begun ds out in_ None name =
    let absent : defines None name inner ≡ false = rw in_ refl in
    by_test absent (defines None name outer)
  where
    by_test : defines None name inner ≡ false → (b : Bool) → option_map (λ d. d.definition) (cond b (Some outer) (cond (defines None name inner) (Some inner) (find (defines None name) ds)))
        ≡ option_or (option_map (λ d. d.definition) (cond (defines None name inner) (Some inner) None)) (option_map (λ d. d.definition) (cond b (Some outer) (find (defines None name) ds)))
    by_test absent true = rw absent refl
    by_test absent false = rw absent refl
apart outer inner begun ds out in_ (Some k) name =
    let absent : defines (Some k) name outer ≡ false = rw out refl in
    by_test absent (defines (Some k) name inner)
  where
    by_test : defines (Some k) name outer ≡ false → (b : Bool) → option_map (λ d. d.definition) (cond (defines (Some k) name outer) (Some outer) (cond b (Some inner) (find (defines (Some k) name) ds)))
        ≡ option_or (option_map (λ d. d.definition) (cond b (Some inner) None)) (option_map (λ d. d.definition) (cond (defines (Some k) name outer) (Some outer) (find (defines (Some k) name) ds)))
    by_test absent true = rw absent refl
    by_test absent false = rw absent refl

closing_more : (b : Block (List ℕ)) (place : ℕ) (line : Said) (lines : List Said) → is_end line ≡ false → b.first ≤ place
    → closing (Some b) place (line ∷ lines) ≡ closing (Some b) (place + size_of line) lines
closing_more b place line lines more behind =
    let n : (place - b.first) + (size_of line + words_until_end lines) ≡ ((place + size_of line) - b.first) + words_until_end lines = omega arith in
    rw (more, n) refl

-- one line: what is known behind it, and what comes then
pub coming_step : (number place : ℕ) (block : Option (Block (List ℕ))) (line : Said) (lines : List Said) → IsBehind place block → (scope : Option ℕ) (name : List ℕ)
    → lookup (coming number block place (line ∷ lines)) scope name
    ≡ option_or (lookup (known_by number block place line) scope name) (lookup (coming (number + 1) (block_after number place block line) (place + size_of line) lines) scope name)
coming_step number place None None lines behind scope name = refl
coming_step number place None (Some (Code None statement)) lines behind scope name = refl
coming_step number place None (Some (Code (Some label) statement)) lines behind scope name =
    lookup-cons (record { scope = None; name = label; definition = record { line = number; place = place; length = None } })
    (definitions (standing (number + 1) None (place + size_of (Some (Code (Some label) statement))) lines)) scope name
coming_step number place None (Some (Array array)) lines behind scope name = by_ended (is_ended lines)
  where
    n : ((place + 0) - place) + words_until_end lines ≡ words_until_end lines
    n = omega arith

    ds : List Named
    ds = definitions (standing (number + 1) (Some (record { name = array; begun = number; first = place })) (place + 0) lines)

    by_ended : (b : Bool)
        → lookup (defined_by (record { number = number; block = None; place = place; line = cond b (Some (Array array)) None; until_end = words_until_end lines }) (cond b (Some (Array array)) None) ++ ds) scope name
        ≡ lookup (cond b (record { scope = None; name = array; definition = record { line = number; place = place; length = Some (((place + 0) - place) + words_until_end lines) } } ∷ []) [] ++ ds) scope name
    by_ended true = rw n refl
    by_ended false = refl
coming_step number place None (Some End) lines behind scope name = refl
coming_step number place (Some b) None lines behind scope name = rw (closing_more b place None lines refl behind) refl
coming_step number place (Some b) (Some (Code None statement)) lines behind scope name = rw (closing_more b place (Some (Code None statement)) lines refl behind) refl
coming_step number place (Some b) (Some (Code (Some label) statement)) lines behind scope name =
    rw (closing_more b place (Some (Code (Some label) statement)) lines refl behind) (by_ended (is_ended lines))
  where
    line : Said
    line = Some (Code (Some label) statement)

    inner : Named
    inner = record { scope = Some b.begun; name = label; definition = record { line = number; place = place - b.first; length = None } }

    outer : Named
    outer = record { scope = None; name = b.name; definition = record { line = b.begun; place = b.first; length = Some (((place + size_of line) - b.first) + words_until_end lines) } }

    ds : List Named
    ds = definitions (standing (number + 1) (Some b) (place + size_of line) lines)

    by_ended : (t : Bool) → lookup (cond t (outer ∷ []) [] ++ (inner ∷ ds)) scope name ≡ option_or (lookup (inner ∷ []) scope name) (lookup (cond t (outer ∷ []) [] ++ ds) scope name)
    by_ended true = apart outer inner b.begun ds refl refl scope name
    by_ended false = lookup-cons inner ds scope name
coming_step number place (Some b) (Some (Array array)) lines behind scope name = rw (closing_more b place (Some (Array array)) lines refl behind) refl
coming_step number place (Some b) (Some End) lines behind scope name =
    let n : (place - b.first) + 0 ≡ place - b.first = add-zero (place - b.first) in
    rw n (lookup-cons (record { scope = None; name = b.name; definition = record { line = b.begun; place = b.first; length = Some (place - b.first) } })
    (definitions (standing (number + 1) None (place + 0) lines)) scope name)

pub behind_after : (number place : ℕ) (block : Option (Block (List ℕ))) (line : Said) → IsBehind place block → IsBehind (place + size_of line) (block_after number place block line)
behind_after number place None None behind = tt
behind_after number place None (Some (Code label statement)) behind = tt
behind_after number place None (Some (Array array)) behind = omega arith
behind_after number place None (Some End) behind = tt
behind_after number place (Some b) None behind = omega arith
behind_after number place (Some b) (Some (Code label statement)) behind = omega arith
behind_after number place (Some b) (Some (Array array)) behind = omega arith
behind_after number place (Some b) (Some End) behind = tt

-- the block begins behind line n
abbrev Later : ℕ → Option (Block (List ℕ)) → Type 0
Later n None = Unit {0}
Later n (Some b) = n < b.begun

later_after : (n number place : ℕ) (block : Option (Block (List ℕ))) (line : Said) → Later n block → n < number → Later n (block_after number place block line)
later_after n number place None None later h = tt
later_after n number place None (Some (Code label statement)) later h = tt
later_after n number place None (Some (Array array)) later h = h
later_after n number place None (Some End) later h = tt
later_after n number place (Some b) None later h = later
later_after n number place (Some b) (Some (Code label statement)) later h = later
later_after n number place (Some b) (Some (Array array)) later h = later
later_after n number place (Some b) (Some End) later h = tt

other_number : (a n : ℕ) → n < a → nat_eq a n ≡ false
other_number a n h = grind arith

never_again : (n number place : ℕ) (block : Option (Block (List ℕ))) (lines : List Said) → Later n block → n < number → option_eq nat_eq (unended_from number block place lines) (Some n) ≡ false
never_again n number place None [] later h = refl
never_again n number place (Some b) [] later h = other_number b.begun n later
never_again n number place block (line ∷ lines) later h =
    never_again n (number + 1) (place + size_of line) (block_after number place block line) lines (later_after n number place block line later h) (omega arith)

stays : (number place : ℕ) (b : Block (List ℕ)) (line : Said) → is_end line ≡ false → block_after number place (Some b) line ≡ Some b
stays number place b None more = refl
stays number place b (Some (Code label statement)) more = refl
stays number place b (Some (Array array)) more = refl
stays number place b (Some End) more = cc

either_false : (x y : Bool) → (x || y) ≡ false → (x ≡ false) × (y ≡ false)
either_false true y h = cc
either_false false y h = (refl, h)

not_ended : (number place : ℕ) (b : Block (List ℕ)) (lines : List Said) → is_ended lines ≡ false → unended_from number (Some b) place lines ≡ Some b.begun
not_ended number place b [] e = refl
not_ended number place b (line ∷ lines) e =
    let parts = either_false (is_end line) (is_ended lines) e in
    rw (stays number place b line parts.0) (not_ended (number + 1) (place + size_of line) b lines parts.1)

ended : (number place : ℕ) (b : Block (List ℕ)) (lines : List Said) → is_ended lines ≡ true → b.begun < number → option_eq nat_eq (unended_from number (Some b) place lines) (Some b.begun) ≡ false
ended number place b [] e h = cc
ended number place b (None ∷ lines) e h = ended (number + 1) (place + 0) b lines e (omega arith)
ended number place b (Some (Code label statement) ∷ lines) e h = ended (number + 1) (place + size_of (Some (Code label statement))) b lines e (omega arith)
ended number place b (Some (Array array) ∷ lines) e h = ended (number + 1) (place + 0) b lines e (omega arith)
ended number place b (Some End ∷ lines) e h = never_again b.begun (number + 1) (place + 0) None lines tt (omega arith)

same_number : (n : ℕ) → nat_eq n n ≡ true
same_number n = grind arith

-- where it is known which block isn't ended, it is known what a line says in its block
pub said_same : (number place : ℕ) (block : Option (Block (List ℕ))) (line : Said) (lines : List Said)
    → said_in (unended_from number block place (line ∷ lines)) number block line ≡ in_block block line lines
said_same number place None None lines = refl
said_same number place None (Some (Code label statement)) lines = refl
said_same number place None (Some (Array array)) lines = by_ended (is_ended lines) refl
  where
    b : Block (List ℕ)
    b = record { name = array; begun = number; first = place }

    by_ended : (t : Bool) → is_ended lines ≡ t → cond (option_eq nat_eq (unended_from (number + 1) (Some b) (place + 0) lines) (Some number)) None (Some (Array array)) ≡ cond t (Some (Array array)) None
    by_ended true e = rw (ended (number + 1) (place + 0) b lines e (omega arith)) refl
    by_ended false e =
        let same : option_eq nat_eq (unended_from (number + 1) (Some b) (place + 0) lines) (Some number) ≡ true = rw (not_ended (number + 1) (place + 0) b lines e) (same_number number) in
        rw same refl
said_same number place None (Some End) lines = refl
said_same number place (Some b) None lines = refl
said_same number place (Some b) (Some (Code label statement)) lines = refl
said_same number place (Some b) (Some (Array array)) lines = refl
said_same number place (Some b) (Some End) lines = refl
