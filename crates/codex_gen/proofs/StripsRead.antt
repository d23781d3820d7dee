-- Strips under each other are read back as the program of their modules.
use Rattle.std.specs.Prelude.{◌≡◌, ◌+◌, ◌-◌, ◌<◌, ◌≤◌, ℕ, zero, suc, Bool, true, false, List, [], ◌∷◌, ◌++◌, length, map, replicate, All, codes, Ok}
use Rattle.std.specs.List.{flat_map, Contains}
use Rattle.std.proofs.Common.{arith, refl, sym, ap, subst, inl, inr, get_or}
use Rattle.std.proofs.lemmas.List.{length-replicate, get_or-replicate, get_or_default}
use Rattle.std.proofs.lemmas.List.Elements.{Contains-append_cases}
use Rattle.two_d.specs.Good.{IsGood}
use Rattle.two_d.specs.Names.{IsName, IsNameByte}
use Rattle.two_d.specs.Program.{program_of}
use Rattle.two_d.specs.Programs.{ModuleForm}
use Rattle.two_d.specs.Trees.{Form}
use Rattle.grid_picture.specs.Lined.{lined}
use Rattle.grid_picture.specs.inner.Printable.{IsLine}
use Rattle.grid_picture.proofs.Pairs.{all_there, there_all}
use Rattle.grid_picture.proofs.Stacked.{Block, all_rows, shapes, program_read}
use Rattle.codex_gen.specs.Generated.{joined_by, strip_columns, edge, middle, strip}
use Rattle.codex_gen.specs.inner.Strips.{strip_module}
use Rattle.codex_gen.proofs.BoxRow.{IsPlain}
use Rattle.codex_gen.proofs.StripBoxes.{Spell}
use Rattle.codex_gen.proofs.StripModule.{stands}
use Rattle.codex_gen.proofs.StripLines.{IsFit, west_part, is_strip, long_line}

-- a strip whose texts are of these commands
pub record Strip : Type 0 where
  pub name : List ℕ
  pub west : Bool
  pub texts : List (List ℕ)
  pub commands : List Form
  pub fit : IsFit name texts
  pub narrow : strip_columns texts ≤ 4094
  pub spell : Spell texts commands

abbrev pub lines_of : Strip → List (List ℕ)
lines_of s = strip s.name s.west s.texts

abbrev pub module_of : Strip → ModuleForm
module_of s = strip_module s.name s.west s.commands

abbrev pub block : Strip → Block
block s = record {
  shape = module_of s;
  rows = lines_of s;
  stands = λ above below. stands (above ++ (lines_of s ++ below)) (length above + 1) (strip_columns s.texts + 2) s.name s.west s.texts (is_strip above below s.name s.west s.texts s.fit) s.commands s.spell (length above) refl;
}

abbrev IsPrintable : ℕ → Type 0
IsPrintable b = (32 ≤ b) × (b ≤ 126)

both : (P : ℕ → Type 0) (xs ys : List ℕ) → All P xs → All P ys → All P (xs ++ ys)
both P xs ys one other = all_there P (xs ++ ys) (λ x there. elim (Contains-append_cases xs ys x there) [ inl here ↦ there_all P xs one x here | inr later ↦ there_all P ys other x later ])

one_byte : (b : ℕ) → IsPrintable b → All IsPrintable (b ∷ [])
one_byte b is zero d lt = is
one_byte b is (suc k) d lt = absurd (omega arith)

cons_byte : (b : ℕ) (bs : List ℕ) → IsPrintable b → All IsPrintable bs → All IsPrintable (b ∷ bs)
cons_byte b bs is all zero d lt = is
cons_byte b bs is all (suc k) d lt = all k d (omega arith)

many : (n b : ℕ) → IsPrintable b → All IsPrintable (replicate n b)
many n b is k d lt = let e = get_or-replicate n k b d (subst (λ z. k < z) (length-replicate n b) lt) in (omega arith, omega arith)

name_bytes : (name : List ℕ) → IsName name → All IsPrintable name
name_bytes name valid k d lt = by (get_or name k d) (valid.letters k d lt)
  where
    by : (b : ℕ) → IsNameByte b → IsPrintable b
    by b (inl lower) = (omega arith, omega arith)
    by b (inr (inl digit)) = (omega arith, omega arith)
    by b (inr (inr line)) = (omega arith, omega arith)

plain_bytes : (text : List ℕ) → All IsPlain text → All IsPrintable text
plain_bytes text all k d lt = let p = all k d lt in (p.low, p.high)

joined_bytes : (part : List ℕ → List ℕ) (between : List ℕ) → All IsPrintable between → (texts : List (List ℕ)) → ((text : List ℕ) → Contains texts text → All IsPrintable (part text)) → All IsPrintable (joined_by between (map part texts))
joined_bytes part between gap [] each = λ k d lt. absurd (omega arith)
joined_bytes part between gap (text ∷ []) each = each text (0, omega arith, refl)
joined_bytes part between gap (text ∷ other ∷ texts) each =
    both IsPrintable (part text ++ between) (joined_by between (map part (other ∷ texts)))
    (both IsPrintable (part text) between (each text (0, omega arith, refl)) gap)
    (joined_bytes part between gap (other ∷ texts) (λ one (k, lt, is). each one (suc k, omega arith, is)))

module _ (s : Strip) where
  edge_bytes : (text : List ℕ) → All IsPrintable (edge text)
  edge_bytes text = both IsPrintable (42 ∷ replicate (length text) 61) (42 ∷ []) (cons_byte 42 (replicate (length text) 61) (omega arith, omega arith) (many (length text) 61 (omega arith, omega arith))) (one_byte 42 (omega arith, omega arith))

  middle_bytes : (text : List ℕ) → Contains s.texts text → All IsPrintable (middle text)
  middle_bytes text there = both IsPrintable (33 ∷ text) (33 ∷ []) (cons_byte 33 text (omega arith, omega arith) (plain_bytes text (there_all (All IsPlain) s.texts s.fit.plain text there))) (one_byte 33 (omega arith, omega arith))

  blank : (b c : ℕ) → IsPrintable b → IsPrintable c → All IsPrintable (b ∷ c ∷ [])
  blank b c x y = cons_byte b (c ∷ []) x (one_byte c y)

  border : (b : ℕ) → IsPrintable b → All IsPrintable ((b ∷ replicate (strip_columns s.texts) 46) ++ b ∷ [])
  border b is = both IsPrintable (b ∷ replicate (strip_columns s.texts) 46) (b ∷ []) (cons_byte b (replicate (strip_columns s.texts) 46) is (many (strip_columns s.texts) 46 (omega arith, omega arith))) (one_byte b is)

  edge_line : All IsPrintable ((codes ": " ++ joined_by (codes "  ") (map edge s.texts)) ++ codes ":")
  edge_line = both IsPrintable (codes ": " ++ joined_by (codes "  ") (map edge s.texts)) (codes ":")
      (both IsPrintable (codes ": ") (joined_by (codes "  ") (map edge s.texts)) (blank 58 32 (omega arith, omega arith) (omega arith, omega arith))
      (joined_bytes edge (codes "  ") (blank 32 32 (omega arith, omega arith) (omega arith, omega arith)) s.texts (λ text there. edge_bytes text)))
      (one_byte 58 (omega arith, omega arith))

  west_bytes : (w : Bool) → All IsPrintable (west_part w)
  west_bytes true = blank 45 62 (omega arith, omega arith) (omega arith, omega arith)
  west_bytes false = blank 58 32 (omega arith, omega arith) (omega arith, omega arith)

  bytes : (i : ℕ) → i < 6 → All IsPrintable (get_or (lines_of s) i [])
  bytes zero lt = border 44 (omega arith, omega arith)
  bytes (suc zero) lt = both IsPrintable ((58 ∷ s.name) ++ replicate (strip_columns s.texts - length s.name) 32) (58 ∷ [])
      (both IsPrintable (58 ∷ s.name) (replicate (strip_columns s.texts - length s.name) 32) (cons_byte 58 s.name (omega arith, omega arith) (name_bytes s.name s.fit.valid)) (many (strip_columns s.texts - length s.name) 32 (omega arith, omega arith)))
      (one_byte 58 (omega arith, omega arith))
  bytes (suc (suc zero)) lt = edge_line
  bytes (suc (suc (suc zero))) lt = both IsPrintable (west_part s.west ++ joined_by (codes "->") (map middle s.texts)) (codes "-")
      (both IsPrintable (west_part s.west) (joined_by (codes "->") (map middle s.texts)) (west_bytes s.west)
      (joined_bytes middle (codes "->") (blank 45 62 (omega arith, omega arith) (omega arith, omega arith)) s.texts middle_bytes))
      (one_byte 45 (omega arith, omega arith))
  bytes (suc (suc (suc (suc zero)))) lt = edge_line
  bytes (suc (suc (suc (suc (suc zero))))) lt = border 39 (omega arith, omega arith)
  bytes (suc (suc (suc (suc (suc (suc i)))))) lt = absurd (omega arith)

  are_lines : All IsLine (lines_of s)
  are_lines i d lt = record {
    printable = subst (All IsPrintable) (get_or_default (lines_of s) i [] d lt) (bytes i lt);
    short = (let n = long_line [] [] s.name s.west s.texts s.fit i lt in let e = ap length (get_or_default (lines_of s) i [] d lt) in let w = s.narrow in omega arith);
  }

all_lines : (ss : List Strip) → All IsLine (all_rows (map block ss))
all_lines [] = λ k d lt. absurd (omega arith)
all_lines (s ∷ ss) = all_there IsLine (all_rows (map block (s ∷ ss))) (λ line there. elim (Contains-append_cases (lines_of s) (all_rows (map block ss)) line there) [
  | inl here ↦ there_all IsLine (lines_of s) (are_lines s) line here
  | inr later ↦ there_all IsLine (all_rows (map block ss)) (all_lines ss) line later
])

rows_are : (ss : List Strip) → all_rows (map block ss) ≡ flat_map lines_of ss
rows_are [] = refl
rows_are (s ∷ ss) = ap (λ l. lines_of s ++ l) (rows_are ss)

shapes_are : (ss : List Strip) → shapes (map block ss) ≡ map module_of ss
shapes_are [] = refl
shapes_are (s ∷ ss) = ap (λ l. module_of s ∷ l) (shapes_are ss)

-- Strips under each other whose modules are a good program are a text of this program.
pub strips_read : (ss : List Strip) → length (lined (flat_map lines_of ss)) ≤ 262144 → IsGood (map module_of ss) → program_of (lined (flat_map lines_of ss)) (Ok (map module_of ss))
strips_read ss short good =
    subst (λ rows. program_of (lined rows) (Ok (map module_of ss))) (rows_are ss)
    (subst (λ P. program_of (lined (all_rows (map block ss))) (Ok P)) (shapes_are ss)
    (program_read (map block ss) (all_lines ss) (subst (λ rows. length (lined rows) ≤ 262144) (sym (rows_are ss)) short) (subst IsGood (sym (shapes_are ss)) good)))
