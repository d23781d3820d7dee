-- What boot, blocks and printer have of the weight.
use Rattle.std.specs.Prelude.{◌≡◌, ℕ, zero, suc, ◌+◌, ◌-◌, ◌*◌, ◌<◌, ◌≤◌, ◌^◌, min, List, [], ◌∷◌, ◌++◌, length, All, slice_index_or, Vec, Result, Ok, Err, IfOk}
use Rattle.std.specs.Global.{Global}
use Rattle.std.proofs.Common.{sym, ap, subst, arith, length-append}
use Rattle.two_d.specs.declared.module.Module.{Module}
use Rattle.two_d.specs.Programs.{Program, module_of, modules_of, module_at, main_of}
use Rattle.two_d.specs.Good.{IsGood}
use Rattle.two_d.specs.Weights.{part, weight}
use Rattle.lower_plan.proofs.Planned.{module_is, part-le}
use Rattle.lower_emit.proofs.Lengths.{modules_few}
use Rattle.lower_link.specs.declared.linking.Linked.{Linked}
use Rattle.lower_link.specs.inner.Boot.{IsLinked}
use Rattle.lower_link.specs.inner.Lines.{line_at, all_lines}
use Rattle.lower_link.specs.inner.Linking.{Blocks, words_of_blocks, words_of_block}
use Rattle.lower_link.specs.Follows.{AreBlocks}
use Rattle.lower_link.specs.inner.Made.{places_of}
use Rattle.lower_link.specs.inner.Printer.{IsPrinter}
use Rattle.lower_link.specs.inner.Scrolls.{IsScrollOf}

-- eighteen words a unit
pub blocks_few : (P : Program) (blocks : Blocks) → length blocks ≡ length P → ((m : ℕ) → m < length P → length (words_of_block blocks m) ≤ 18 * part (module_at P m)) → length (words_of_blocks blocks) ≤ 18 * weight P
blocks_few P [] count h = omega arith
blocks_few [] (block ∷ blocks) count h = absurd (omega (arith, count))
blocks_few (m ∷ P) (block ∷ blocks) count h =
    omega (
      arith,
      blocks_few P blocks (omega (arith, count)) (λ k lt. h (suc k) (omega (arith, lt))),
      h 0 (omega arith),
      length-append block.items (words_of_blocks blocks),
    )

pub words_push : (blocks : Blocks) (last : Vec ℕ Global) → length (words_of_blocks (blocks ++ last ∷ [])) ≡ length (words_of_blocks blocks) + length last.items
words_push [] last = omega (arith, length-append last.items [])
words_push (block ∷ blocks) last =
    omega (arith, words_push blocks last, length-append block.items (words_of_blocks (blocks ++ last ∷ [])), length-append block.items (words_of_blocks blocks))

-- no block is empty
abbrev pub HaveWords : Blocks → Type 0
HaveWords blocks = All (λ (block : Vec ℕ Global). 1 ≤ length block.items) blocks

one_more : (blocks : Blocks) (last : Vec ℕ Global) → HaveWords blocks → 1 ≤ length last.items → HaveWords (blocks ++ last ∷ [])
one_more [] last h l zero d lt = l
one_more [] last h l (suc k) d lt = absurd (omega (arith, lt))
one_more (block ∷ blocks) last h l zero d lt = h 0 block (omega arith)
one_more (block ∷ blocks) last h l (suc k) d lt = one_more blocks last (λ j e less. h (suc j) e (omega (arith, less))) l k d (omega (arith, lt))

pub have_words_push : (blocks new : Blocks) (last : Vec ℕ Global) → new ≡ blocks ++ last ∷ [] → HaveWords blocks → 1 ≤ length last.items → HaveWords new
have_words_push blocks new last is h l = subst HaveWords (sym is) (one_more blocks last h l)

-- the part of `main`, as it is measured
pub main_part : (P : Program) → IsGood P → weight P ≤ 262144 → (modules : List Module) → modules_of modules ≡ P → (number : ℕ) → number ≡ main_of P → (owner : Module) → owner ≡ slice_index_or modules number owner →
    (r : ℕ) → r ≡ min (part (module_of owner)) (2 ^ 64 - 1) → (r ≡ part (module_at P (main_of P))) × (r ≤ weight P)
main_part P good few modules are number is owner read r measured =
    let there : number < length P = omega (arith, is, good.main_there) in
    let same = ap part (module_is modules P are number owner there read) in
    let main = ap (λ m. part (module_at P m)) is in
    let within = part-le P number there in
    (omega (arith, measured, same, main, within, few), omega (arith, measured, same, within))

-- The printer is the last block: there are few words in all.
pub all_few : (P : Program) → IsGood P → (blocks new : Blocks) (printer : Vec ℕ Global) → new ≡ blocks ++ printer ∷ [] → length blocks ≡ length P →
    ((m : ℕ) → m < length P → length (words_of_block blocks m) ≤ 18 * part (module_at P m)) → length printer.items ≤ 147 + 16 * weight P →
    23 + 14 * length new + length (words_of_blocks new) ≤ 37 * weight P + 184
all_few P good blocks new printer is count short size =
    omega (
      arith,
      count,
      size,
      modules_few P,
      blocks_few P blocks count short,
      words_push blocks printer,
      length-append blocks (printer ∷ []),
      ap length is,
      ap (λ bs. length (words_of_blocks bs)) is,
    )

module _ (P : Program) (blocks new : Blocks) (printer : Vec ℕ Global) (is : new ≡ blocks ++ printer ∷ []) (count : length blocks ≡ length P)
    (prints : IsPrinter printer.items (line_at P) (length (all_lines P))) (size : length printer.items ≤ 147 + 16 * weight P) (few : 23 + 14 * length new + length (words_of_blocks new) ≤ 37 * weight P + 184)
    (main frame : ℕ) (main_is : main ≡ main_of P) (frame_is : frame ≡ 12 + part (module_at P (main_of P))) where
  one_each : length P + 1 ≡ length new
  one_each = omega (arith, ap length is, length-append blocks (printer ∷ []), count)

  scroll : (linked : Linked) → ((modules : ℕ) → modules + 1 ≡ length new → IsLinked (words_of_block new) (places_of linked.blocks.items) modules main frame linked.words.items) →
      ((Q : Program) → length Q + 1 ≡ length new → AreBlocks Q linked.words.items linked.blocks.items) → length linked.words.items ≡ 23 + 14 * length new + length (words_of_blocks new) → IsScrollOf P blocks linked
  scroll linked l a s =
      let p = places_of linked.blocks.items in
      let words = linked.words.items in
      record {
        printer = printer;
        prints = prints;
        printer_size = size;
        is = subst (λ f. IsLinked (words_of_block (blocks ++ printer ∷ [])) p (length P) (main_of P) f words) frame_is
            (subst (λ m. IsLinked (words_of_block (blocks ++ printer ∷ [])) p (length P) m frame words) main_is
            (subst (λ bs. IsLinked (words_of_block bs) p (length P) main frame words) is (l (length P) one_each)));
        apart = a P one_each;
        short = omega (arith, s, few);
      }

  -- What is linked so is the scroll of the program.
  pub scroll_is : {E : Type 0} (r : Result Linked E) → IfOk r (λ linked. (modules : ℕ) → modules + 1 ≡ length new → IsLinked (words_of_block new) (places_of linked.blocks.items) modules main frame linked.words.items) →
      IfOk r (λ linked. (Q : Program) → length Q + 1 ≡ length new → AreBlocks Q linked.words.items linked.blocks.items) → IfOk r (λ linked. length linked.words.items ≡ 23 + 14 * length new + length (words_of_blocks new)) → IfOk r (λ linked. IsScrollOf P blocks linked)
  scroll_is (Ok linked) l a s = scroll linked l a s
  scroll_is (Err e) l a s = tt
