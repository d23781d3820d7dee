-- What a run spends is within the bounds.
use Rattle.std.proofs.Common.{◌≡◌, ℕ, zero, suc, ◌+◌, ◌*◌, ◌≤◌, Bool, true, false, [], ◌∷◌, length, sym, subst, arith}
use Rattle.std.specs.Prelude.{◌==◌, if◌then◌else◌}
use Rattle.um_word.specs.State.{State}
use Rattle.um_word.specs.Loads.{Loads, seen, entries}
use Rattle.code_templates.specs.inner.Spent.{spent}
use Rattle.two_d.specs.Programs.{Program}
use Rattle.two_d.specs.Meaning.{Meaning}
use Rattle.two_d.specs.Texts.{text_of}
use Rattle.lower_emit.specs.inner.Trips.{Plans, Prices}
use Rattle.lower_link.specs.inner.Boot.{Places, copy_cycles, copies_hold}
use Rattle.lower_link.proofs.Compiled.{owed, all_cycles, may_spend_all}
use Rattle.lower_link.proofs.Weights.{parts_from, IsWeighed}

pub times_le : (a b n : ℕ) → a ≤ b → a * n ≤ b * n
times_le a b zero le = omega arith
times_le a b (suc n) le =
    let h = times_le a b n le in
    let x : a * suc n ≡ a * n + a = Rattle.std.proofs.Math.Nat.mul-suc a n in
    let y : b * suc n ≡ b * n + b = Rattle.std.proofs.Math.Nat.mul-suc b n in
    omega (arith, h, x, y, le)

owed_entries : (price : ℕ) (k : Loads) → owed price (seen k) ≡ price * entries k
owed_entries price [] = omega arith
owed_entries price (load ∷ k) = one (load.offset == 0) (owed_entries price k)
  where
    one : (b : Bool) → owed price (seen k) ≡ price * entries k → (if b then price else 0) + owed price (seen k) ≡ price * ((if b then 1 else 0) + entries k)
    one true e = omega (arith, e)
    one false e = omega (arith, e)

module _ (P : Program) (plans : Plans) (c : Prices) (p : Places) (part : ℕ → ℕ) (g : ℕ) (is : IsWeighed P plans c p part g) where
  -- all blocks and the printer, from number i on
  copies_within : (n i : ℕ) → i + n ≡ length P → copy_cycles p i (suc n) + copies_hold p i (suc n) ≤ 69 * (n + 1) + 13 * (18 * parts_from part i n + 147 + 16 * g)
  copies_within zero i e =
      let i_is : i ≡ length P = omega (arith, e) in
      let s : p.size i ≤ 147 + 16 * g = subst (λ m. p.size m ≤ 147 + 16 * g) (sym i_is) is.printer in
      omega (arith, s)
  copies_within (suc n) i e =
      let rest = copies_within n (suc i) (omega (arith, e)) in
      let s = is.blocks i (omega (arith, e)) in
      omega (arith, rest, s)

  few_modules : (n i : ℕ) → i + n ≡ length P → 7 * n ≤ parts_from part i n
  few_modules zero i e = omega arith
  few_modules (suc n) i e =
      let rest = few_modules n (suc i) (omega (arith, e)) in
      let s = is.some i (omega (arith, e)) in
      omega (arith, rest, s)

  pub cycles_within : (r : Meaning) → all_cycles P plans c p r ≤ 65536 * (g * (r.instances + 1) + length (text_of P r.outcome) + 64)
  cycles_within r =
      let M = length P in
      let i = r.instances in
      let copies = copies_within M 0 (omega arith) in
      let modules = few_modules M 0 (omega arith) in
      let whole = is.whole in
      let frame = is.frame in
      let price = times_le c.price (160 * g) (i + 2) is.price in
      let x : 160 * g * (i + 2) ≡ 160 * (g * i) + 320 * g = omega arith in
      let y : g * (i + 1) ≡ g * i + g = omega arith in
      omega (arith, copies, modules, whole, frame, price, x, y)

  pub spent_within : 1 ≤ g → (t : State) (k : Loads) (bytes : ℕ) → spent t ≤ may_spend_all P plans c p k bytes → spent t ≤ 512 * (g * (entries k + 1) + bytes + 64)
  spent_within some t k bytes h =
      let M = length P in
      let e = entries k in
      let copies = copies_within M 0 (omega arith) in
      let modules = few_modules M 0 (omega arith) in
      let whole = is.whole in
      let frame = is.frame in
      let price = times_le c.price (160 * g) e is.price in
      let each = times_le 1 g e some in
      let owes = owed_entries c.price k in
      let x : 160 * g * e ≡ 160 * (g * e) = omega arith in
      let y : g * (e + 1) ≡ g * e + g = omega arith in
      omega (arith, h, copies, modules, whole, frame, price, each, owes, x, y)
