-- One line of a walk that finds the lines of a text.
use Rattle.std.proofs.Common.{◌≡◌, ℕ, ◌+◌, ◌++◌, Bool, true, false, cond, List, [], ◌∷◌, map, Option, Some, None, refl, ap, ◌∙◌, sym, append_assoc}
use Rattle.std.proofs.lemmas.List.{map-append}
use Rattle.std.specs.Str.Lines.{lines}
use Rattle.um_asm.specs.declared.line.Line.TheVariants.{Code, Array, End}
use Rattle.um_asm.specs.declared.position.Block.{Block}
use Rattle.um_asm.specs.declared.text_line.TextLine.{TextLine}
use Rattle.um_asm.specs.Lines.{parsed_line, size_of}
use Rattle.um_asm.specs.Scopes.{Said, standing, in_block, block_after, is_ended}
use Rattle.um_asm.specs.Assembly.{said_by}
use Rattle.um_asm.specs.TextLines.{base_of, head_of, with_bytes}
use Rattle.um_asm.specs.inner.Parts.{Part}
use Rattle.um_asm.specs.inner.TextParts.{text_line_read}

-- what a line says in its block has its words
same_size : (block : Option (Block (List ℕ))) (line : Said) (more : List Said) → size_of (in_block block line more) ≡ size_of line
same_size None None more = refl
same_size None (Some (Code label statement)) more = refl
same_size None (Some (Array name)) more = by_ended (is_ended more)
  where
    by_ended : (t : Bool) → size_of (cond t (Some (Array name)) None) ≡ 0
    by_ended true = refl
    by_ended false = refl
same_size None (Some End) more = refl
same_size (Some b) None more = refl
same_size (Some b) (Some (Code label statement)) more = refl
same_size (Some b) (Some (Array name)) more = refl
same_size (Some b) (Some End) more = refl

-- the first line where it stands, and then those behind it
abbrev pub first_line : (number place : ℕ) (block : Option (Block (List ℕ))) (size : ℕ) (line : List ℕ) → TextLine (List ℕ)
first_line number place block size line = record { number = number; base = base_of block; place = place; count = size; bytes = line; head = head_of line }

-- the lines found and those that are left stay the same together
pub walk_lines : (old new : List (TextLine Part)) (found : TextLine Part) (number place number' place' : ℕ) (block block' : Option (Block (List ℕ)))
    (rest line behind : List ℕ) (said : Said) (all : List (TextLine (List ℕ)))
    → lines rest ≡ line ∷ lines behind → said ≡ parsed_line line
    → number' ≡ number + 1 → block' ≡ block_after number place block said → place' ≡ place + size_of said
    → new ≡ old ++ (found ∷ []) → text_line_read found ≡ first_line number place block (size_of said) line
    → map text_line_read old ++ with_bytes (standing number block place (said_by rest)) (lines rest) ≡ all
    → map text_line_read new ++ with_bytes (standing number' block' place' (said_by behind)) (lines behind) ≡ all
walk_lines old new found number place number' place' block block' rest line behind said all first is n b p added read known =
    let later = with_bytes (standing (number + 1) (block_after number place block said) (place + size_of said) (said_by behind)) (lines behind) in
    let now : with_bytes (standing number block place (said_by rest)) (lines rest) ≡ first_line number place block (size_of said) line ∷ later = rw (first, ← is, same_size block said (said_by behind)) refl in
    rw (added, n, b, p, map-append text_line_read old (found ∷ []), append_assoc (map text_line_read old) (map text_line_read (found ∷ [])) later, read)
    (ap (λ lines. map text_line_read old ++ lines) (sym now) ∙ known)
