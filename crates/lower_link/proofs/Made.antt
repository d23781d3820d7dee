-- What is made of the plans of a good program is compiled, and weighs what it should.
use Rattle.std.specs.Prelude.{Option, ◌≡◌, ℕ, zero, suc, ◌+◌, ◌*◌, ◌<◌, ◌≤◌, List, [], ◌∷◌, length}
use Rattle.std.proofs.Common.{refl, sym, subst, arith}
use Rattle.two_d.specs.Names.{BeginsWithLetter}
use Rattle.two_d.specs.Programs.{ModuleForm, Program, module_at, main_of}
use Rattle.two_d.specs.Good.{IsGood}
use Rattle.two_d.specs.Weights.{part, weight}
use Rattle.lower_plan.specs.declared.plan.Plan.{Plan}
use Rattle.lower_plan.specs.Plans.{ArePlans}
use Rattle.lower_emit.specs.Blocks.{block_length}
use Rattle.lower_emit.specs.KnownOutcomes.{texts_of}
use Rattle.lower_emit.specs.Plans.{block_of}
use Rattle.lower_emit.specs.inner.Plans.{block_if, plans_of, orders_of, prices_of}
use Rattle.lower_emit.proofs.Lengths.{block_words}
use Rattle.lower_emit.proofs.Priced.{plan_here, is_block, size_is}
use Rattle.lower_link.specs.inner.Boot.{Places, IsLinked}
use Rattle.lower_link.proofs.Compiled.{IsCompiled}
use Rattle.lower_link.proofs.Weights.{parts_from, IsWeighed}
use Rattle.lower_link.specs.Follows.{block_at}
use Rattle.lower_link.specs.inner.Made.{places_of, IsMade}
use Rattle.lower_link.proofs.Planned.{pushes, orders_are, main_closed}
use Rattle.lower_link.specs.inner.Lines.{line_at, all_lines}
use Rattle.lower_link.proofs.Numbered.{lines_are}

parts_shift : (M : ModuleForm) (P : Program) (i n : ℕ) → parts_from (λ m. part (module_at (M ∷ P) m)) (suc i) n ≡ parts_from (λ m. part (module_at P m)) i n
parts_shift M P i zero = refl
parts_shift M P i (suc n) = omega (arith, parts_shift M P (suc i) n)

pub parts_are : (P : Program) → weight P ≡ parts_from (λ m. part (module_at P m)) 0 (length P)
parts_are [] = refl
parts_are (M ∷ P) = omega (arith, parts_are P, parts_shift M P 0 (length P))

begins : (name : List ℕ) → BeginsWithLetter name → 1 ≤ length name
begins [] h = absurd h
begins (b ∷ bs) h = omega arith

module _ (P : Program) (good : IsGood P) (plans : List Plan) (are : ArePlans P plans) where
  -- a block with its return is short
  pub block_few : (m : ℕ) → m < length P → block_length (plans_of P plans m) + 11 ≤ 18 * part (module_at P m)
  block_few m lt =
      let h = plan_here P plans are m lt in
      subst (λ (r : Option Plan). block_length (block_if P r) + 11 ≤ 18 * part (module_at P m)) (sym h.at)
      (subst (λ (k : ℕ). block_length (block_of P h.plan) + 11 ≤ 18 * part (module_at P k)) h.number (block_words P h.plan h.is (good.sound h.plan.«module» _ h.is.there)))

module _ (P : Program) (good : IsGood P) (plans : List Plan) (are : ArePlans P plans) (blocks : List (ℕ × ℕ)) (words : List ℕ)
    (made : IsMade P plans blocks words) where
  abbrev pub codes : ℕ → List ℕ
  codes = block_at words blocks

  abbrev pub p : Places
  p = places_of blocks

  linked : IsLinked codes p (length P) (main_of P) (12 + part (module_at P (main_of P))) words
  linked = record {
    boot = made.boot;
    small = made.small;
    some = λ i lt. made.blocks_are.not_empty i (0, 0) (omega (arith, lt, made.blocks_are.one_each));
    within = λ i lt. made.blocks_are.within i (0, 0) (omega (arith, lt, made.blocks_are.one_each));
    are = λ i lt. refl;
  }

  pub is_compiled : IsCompiled P (orders_of plans) (plans_of P plans) (texts_of P) codes (prices_of P) p (line_at P) (length (all_lines P)) words
  is_compiled = record {
    good = good;
    orders = orders_are P good plans are;
    main_closed = main_closed P good plans are;
    blocks = λ m lt. is_block P good plans are codes m lt (made.codes m lt);
    push = pushes P good plans are;
    printer = made.printer;
    text_numbers = lines_are P;
    linked = subst (λ (size : ℕ). IsLinked codes p (length P) (main_of P) size words) (size_is P good plans are (main_of P) good.main_there) linked;
  }

  pub is_weighed : IsWeighed P (plans_of P plans) (prices_of P) p (λ m. part (module_at P m)) (weight P)
  is_weighed = record {
    whole = parts_are P;
    some = λ m lt. omega (arith, begins (module_at P m).name (good.sound m _ lt).named.first);
    blocks = λ m lt. omega (arith, made.sizes m lt, block_few P good plans are m lt);
    printer = made.printer_size;
    frame = omega (arith, size_is P good plans are (main_of P) good.main_there, main_part);
    price = omega arith;
  }
    where
      main_part : part (module_at P (main_of P)) ≤ weight P
      main_part = Rattle.lower_plan.proofs.Planned.part-le P (main_of P) good.main_there
