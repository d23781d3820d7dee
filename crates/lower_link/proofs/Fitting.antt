-- What is asked of the words of a good program fits: its texts are bytes, and boot, blocks and printer are short.
use Rattle.std.specs.Prelude.{◌≡◌, ℕ, zero, suc, ◌+◌, ◌*◌, ◌^◌, ◌<◌, ◌≤◌, List, [], ◌∷◌, ◌++◌, length, codes, decimal, slice_index_or, All}
use Rattle.std.proofs.Common.{refl, sym, ap, subst, arith, length-append, inl, inr}
use Rattle.std.specs.Str.{IsAscii}
use Rattle.std.proofs.lemmas.Fmt.{length-decimal-le, IsAscii-decimal}
use Rattle.two_d.specs.declared.trail.Site.TheVariants.{NoResult, TwoResults}
use Rattle.two_d.specs.Names.{IsNameByte}
use Rattle.two_d.specs.Trees as tree
use Rattle.two_d.specs.Trees.{Tree, Form, send, case, split, call}
use Rattle.two_d.specs.Programs.{BoxForm, Program, module_at, no_module}
use Rattle.two_d.specs.Sound.{IsSound}
use Rattle.two_d.specs.Good.{IsGood, trees_of}
use Rattle.two_d.specs.Texts.{box_text, site_line}
use Rattle.two_d.specs.Weights.{nodes, all_nodes, boxes_part, part, weight}
use Rattle.lower_link.specs.inner.Lines.{box_line, box_lines, end_lines, module_lines, lines_below, all_lines, line_at}
use Rattle.lower_link.specs.inner.Boot.{Places, copies, boot_code}
use Rattle.lower_link.specs.inner.Printer.{AreBytes}
use Rattle.lower_link.proofs.Weights.{parts_from}
use Rattle.lower_link.proofs.Made.{parts_are}

-- the words of texts, each with its place and its end
unfoldable pub texts_words : List (List ℕ) → ℕ
texts_words [] = 0
texts_words (line ∷ lines) = 2 * length line + 7 + texts_words lines

texts_append : (xs ys : List (List ℕ)) → texts_words (xs ++ ys) ≡ texts_words xs + texts_words ys
unfolding texts_words
texts_append [] ys = omega arith
texts_append (x ∷ xs) ys = let h = texts_append xs ys in omega (arith, h)

some_node : (x : Tree) → 1 ≤ nodes x
some_node tree.unit = omega arith
some_node tree.n = omega arith
some_node tree.w = omega arith
some_node (tree.pair a b) = omega arith
some_node (tree.inl a) = omega arith
some_node (tree.inr a) = omega arith

bytes_append : (xs ys : List ℕ) → AreBytes xs → AreBytes ys → AreBytes (xs ++ ys)
bytes_append [] ys h g = g
bytes_append (x ∷ xs) ys h g = (h.0, bytes_append xs ys h.1 g)

bytes_ascii : (xs : List ℕ) → IsAscii xs → AreBytes xs
bytes_ascii [] h = tt
bytes_ascii (x ∷ xs) h = (let a = h 0 in omega (arith, a), bytes_ascii xs (λ i. h (suc i)))

name_byte : (b : ℕ) → IsNameByte b → b < 256
name_byte b (inl h) = omega (arith, h.1)
name_byte b (inr (inl h)) = omega (arith, h.1)
name_byte b (inr (inr h)) = omega (arith, h)

name_bytes : (name : List ℕ) → All IsNameByte name → AreBytes name
name_bytes [] h = tt
name_bytes (b ∷ name) h = (name_byte b (h 0 b (omega arith)), name_bytes name (λ k d lt. h (suc k) d (omega (arith, lt))))

-- each text of a list is bytes
EachBytes : List (List ℕ) → Type 0
EachBytes [] = Unit {0}
EachBytes (line ∷ lines) = AreBytes line × EachBytes lines

each_append : (xs ys : List (List ℕ)) → EachBytes xs → EachBytes ys → EachBytes (xs ++ ys)
unfolding EachBytes
each_append [] ys h g = g
each_append (x ∷ xs) ys h g = (h.0, each_append xs ys h.1 g)

each_at : (xs : List (List ℕ)) → EachBytes xs → (j : ℕ) → AreBytes (slice_index_or xs j [])
unfolding EachBytes
each_at [] h j = tt
each_at (x ∷ xs) h zero = h.0
each_at (x ∷ xs) h (suc j) = each_at xs h.1 j

module _ (P : Program) (m : ℕ) (sound : IsSound (module_at P m)) where
  abbrev name : List ℕ
  name = (module_at P m).name

  named : AreBytes name
  named = name_bytes name sound.named.letters

  box_text_few : (b : ℕ) → b < 2 ^ 32 → length (box_text P m b) ≤ 47
  box_text_few b small =
      let n = sound.named.short in
      let d = length-decimal-le 10 (b + 1) (omega arith) (omega (arith, small)) (omega (arith, small)) in
      let all = length-append (name ++ codes " box ") (decimal (b + 1)) in
      let front = length-append name (codes " box ") in
      omega (arith, n, d, all, front)

  box_text_bytes : (b : ℕ) → b < 2 ^ 32 → AreBytes (box_text P m b)
  box_text_bytes b small =
      bytes_append (name ++ codes " box ") (decimal (b + 1)) (bytes_append name (codes " box ") named (omega arith, (omega arith, (omega arith, (omega arith, (omega arith, tt))))))
      (bytes_ascii (decimal (b + 1)) (IsAscii-decimal (b + 1) (omega (arith, small))))

  -- the text of a box is within its part
  box_fits : (b : ℕ) → b < 2 ^ 32 → (form : Form) → 2 * length (box_line P m b form) + 7 ≤ 16 * (8 + all_nodes (trees_of form))
  box_fits b small (send outs) = omega arith
  box_fits b small (case x left right) =
      let text = box_text_few b small in
      let all = length-append (box_text P m b) (codes ": no sum\n") in
      let some = some_node x in
      omega (arith, text, all, some)
  box_fits b small (split x) =
      let text = box_text_few b small in
      let all = length-append (box_text P m b) (codes ": no pair\n") in
      let some = some_node x in
      omega (arith, text, all, some)
  box_fits b small (call name) =
      let text = box_text_few b small in
      let all = length-append (box_text P m b) (codes "\n") in
      omega (arith, text, all)

  lines_fit : (b : ℕ) (rows : List BoxForm) → b + length rows ≤ 2 ^ 32 → texts_words (box_lines P m b rows) ≤ 16 * boxes_part rows
  unfolding texts_words
  lines_fit b [] few = omega arith
  lines_fit b (row ∷ rows) few =
      let rest = lines_fit (suc b) rows (omega (arith, few)) in
      let one = box_fits b (omega (arith, few)) row.command in
      omega (arith, rest, one)

  ends_fit : texts_words (end_lines P m) ≤ 94 + 4 * length name
  unfolding texts_words
  ends_fit =
      let one = length-append name (codes ": no result\n") in
      let two = length-append name (codes ": two results\n") in
      omega (arith, one, two)

  module_fits : texts_words (module_lines P m) ≤ 16 * part (module_at P m)
  module_fits =
      let few = sound.few_boxes in
      let boxes = lines_fit 0 (module_at P m).boxes (omega (arith, few)) in
      let ends = ends_fit in
      let all = texts_append (box_lines P m 0 (module_at P m).boxes) (end_lines P m) in
      omega (arith, boxes, ends, all)

  stuck_bytes : AreBytes (codes "stuck: ")
  stuck_bytes = (omega arith, (omega arith, (omega arith, (omega arith, (omega arith, (omega arith, (omega arith, tt)))))))

  box_bytes : (b : ℕ) → b < 2 ^ 32 → (form : Form) → AreBytes (box_line P m b form)
  box_bytes b small (send outs) = tt
  box_bytes b small (case x left right) =
      bytes_append (codes "stuck: ") (box_text P m b ++ codes ": no sum\n") stuck_bytes (bytes_append (box_text P m b) (codes ": no sum\n") (box_text_bytes b small)
      (omega arith, (omega arith, (omega arith, (omega arith, (omega arith, (omega arith, (omega arith, (omega arith, (omega arith, tt))))))))))
  box_bytes b small (split x) =
      bytes_append (codes "stuck: ") (box_text P m b ++ codes ": no pair\n") stuck_bytes (bytes_append (box_text P m b) (codes ": no pair\n") (box_text_bytes b small)
      (omega arith, (omega arith, (omega arith, (omega arith, (omega arith, (omega arith, (omega arith, (omega arith, (omega arith, (omega arith, tt)))))))))))
  box_bytes b small (call name) =
      bytes_append (codes "  in ") (box_text P m b ++ codes "\n") (omega arith, (omega arith, (omega arith, (omega arith, (omega arith, tt)))))
      (bytes_append (box_text P m b) (codes "\n") (box_text_bytes b small) (omega arith, tt))

  lines_bytes : (b : ℕ) (rows : List BoxForm) → b + length rows ≤ 2 ^ 32 → EachBytes (box_lines P m b rows)
  unfolding EachBytes
  lines_bytes b [] few = tt
  lines_bytes b (row ∷ rows) few = (box_bytes b (omega (arith, few)) row.command, lines_bytes (suc b) rows (omega (arith, few)))

  no_result_bytes : AreBytes (site_line P (NoResult m))
  no_result_bytes =
      bytes_append (codes "stuck: ") (name ++ codes ": no result\n") stuck_bytes (bytes_append name (codes ": no result\n") named
      (omega arith, (omega arith, (omega arith, (omega arith, (omega arith, (omega arith, (omega arith, (omega arith, (omega arith, (omega arith, (omega arith, (omega arith, tt)))))))))))))

  two_results_bytes : AreBytes (site_line P (TwoResults m))
  two_results_bytes =
      bytes_append (codes "stuck: ") (name ++ codes ": two results\n") stuck_bytes (bytes_append name (codes ": two results\n") named
      (omega arith, (omega arith, (omega arith, (omega arith, (omega arith, (omega arith, (omega arith, (omega arith, (omega arith, (omega arith, (omega arith, (omega arith, (omega arith, (omega arith, tt)))))))))))))))

  module_bytes : EachBytes (module_lines P m)
  unfolding EachBytes
  module_bytes =
      let few = sound.few_boxes in
      each_append (box_lines P m 0 (module_at P m).boxes) (end_lines P m) (lines_bytes 0 (module_at P m).boxes (omega (arith, few)))
      (no_result_bytes, (two_results_bytes, tt))

parts_last : (f : ℕ → ℕ) (i n : ℕ) → parts_from f i (suc n) ≡ parts_from f i n + f (i + n)
parts_last f i zero = let e : i + 0 ≡ i = omega arith in subst (λ k. f i + 0 ≡ 0 + f k) (sym e) (omega arith)
parts_last f i (suc n) =
    let h = parts_last f (suc i) n in
    let e : suc i + n ≡ i + suc n = omega arith in
    let g : parts_from f (suc i) (suc n) ≡ parts_from f (suc i) n + f (i + suc n) = subst (λ k. parts_from f (suc i) (suc n) ≡ parts_from f (suc i) n + f k) e h in
    omega (arith, g)

module _ (P : Program) (good : IsGood P) where
  abbrev f : ℕ → ℕ
  f m = part (module_at P m)

  sound_at : (m : ℕ) → m < length P → IsSound (module_at P m)
  sound_at m lt = good.sound m no_module lt

  below_fit : (n : ℕ) → n ≤ length P → texts_words (lines_below P n) ≤ 16 * parts_from f 0 n
  unfolding texts_words
  below_fit zero le = omega arith
  below_fit (suc n) le =
      let rest = below_fit n (omega (arith, le)) in
      let one = module_fits P n (sound_at n (omega (arith, le))) in
      let all = texts_append (lines_below P n) (module_lines P n) in
      let last = parts_last f 0 n in
      let same : f (0 + n) ≡ f n = ap f (omega arith) in
      omega (arith, rest, one, all, last, same)

  -- The printer's texts, each with its place and its end, have at most 16 words for each unit of the weight.
  pub texts_fit : texts_words (all_lines P) ≤ 16 * weight P
  texts_fit = let h = below_fit (length P) (omega arith) in let g = parts_are P in omega (arith, h, g)

  below_bytes : (n : ℕ) → n ≤ length P → EachBytes (lines_below P n)
  unfolding EachBytes
  below_bytes zero le = tt
  below_bytes (suc n) le = each_append (lines_below P n) (module_lines P n) (below_bytes n (omega (arith, le))) (module_bytes P n (sound_at n (omega (arith, le))))

  -- And they are bytes.
  pub texts_bytes : (j : ℕ) → AreBytes (line_at P j)
  texts_bytes j = each_at (all_lines P) (below_bytes (length P) (omega arith)) j

copies_words : (p : Places) (i n at : ℕ) → length (copies p i n at) ≡ 14 * n
copies_words p i zero at = refl
copies_words p i (suc n) at = let rest = copies_words p (suc i) n (at + 14) in omega (arith, rest)

-- the words of the boot
pub boot_words : (p : Places) (modules main size : ℕ) → length (boot_code p modules main size) ≡ 37 + 14 * modules
boot_words p modules main size =
    let all = length-append (copies p 0 (suc modules) 2) (Rattle.code_templates.specs.Templates.call_block 0 0 main size modules 0) in
    let each = copies_words p 0 (suc modules) 2 in
    omega (arith, all, each)
