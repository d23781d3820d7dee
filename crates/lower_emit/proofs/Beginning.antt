-- How a block begins.
use Rattle.std.proofs.Common.{◌≡◌, ℕ, ◌+◌, ◌<◌, ◌≤◌, List, length, Option, Some, None, sym, subst, arith}
use Rattle.std.specs.Prelude.{slice_index}
use Rattle.std.specs.FinMap as map
use Rattle.lower_emit.specs.inner.Stretches.{KeepsArrays, Range, Stretch}
use Rattle.um_word.specs.State.{State, Arrays}
use Rattle.codex_values.specs.Value.{Value}
use Rattle.code_templates.specs.Lines.{StandsAt}
use Rattle.code_templates.specs.Templates.{choose_slot}
use Rattle.code_templates.specs.Laws.{chosen_word}
use Rattle.code_templates.proofs.Straight.{stands_front, stands_back}
use Rattle.lower_emit.specs.Entered.{EntryCarries}
use Rattle.lower_emit.specs.Layouts.{Layout, side_slot}
use Rattle.lower_emit.specs.inner.Frames.{carrying, AtPlace}
use Rattle.lower_emit.specs.Blocks.{BlockPlan, entries_code}
use Rattle.lower_emit.specs.inner.Firing.{entry_wires, IsGoodBlock}
use Rattle.lower_emit.proofs.Stretching.{chain, becomes}
use Rattle.lower_emit.proofs.Boxes.{entry_holds, carries_grow, chosen_same, side_high}
use Rattle.lower_emit.proofs.Sorting.{choose_in, there_is}

same_carries : (m : Arrays) (k : ℕ) (side : Option ℕ) (v : Option Value) → EntryCarries m k side v → EntryCarries m (chosen_word k k k) side v
same_carries m k side v h = subst (λ z. EntryCarries m z side v) (sym (chosen_same k k)) h

entry_grows : (frame : ℕ) (slots : List ℕ) (m n : Arrays) (keeps : KeepsArrays frame m n) (there : map.get m frame ≡ Some slots) (long : 4 < length slots) (k : ℕ) (side : Option ℕ) (v : Option Value) → EntryCarries m k side v → EntryCarries n k side v
entry_grows frame slots m n keeps there long k None v h = tt
entry_grows frame slots m n keeps there long k (Some q) v h = carries_grow frame slots m n keeps there long k v h

-- The entries go to their wires: from the first word of a block, with the entry values in slots 3 and 4.
pub entries_law : (r : Range) (table frame : ℕ) (code : List ℕ) (p : BlockPlan) (north west : Option Value) (place : ℕ) (s t : State) (a : AtPlace r table frame code p.layout place (λ k. None) (λ b. None) s t) →
    EntryCarries t.arrays (slice_index a.slots 3) p.north north → EntryCarries t.arrays (slice_index a.slots 4) p.west west → StandsAt code place (entries_code p) → r.place ≤ place → place + 18 ≤ r.place + r.size → IsGoodBlock p →
    Stretch r 18 (AtPlace r table frame code p.layout (place + 18) (entry_wires p north west) (λ b. None) s) t
entries_law r table frame code p north west place s t a hn hw stand low high good =
    let y = p.layout in
    let size = good.size in
    let N = side_slot y p.north 0 in
    let W = side_slot y p.west 0 in
    let w1 = carrying p.north north (λ k. None) in
    let w2 = carrying p.west west w1 in
    let c1 = choose_slot 3 3 3 N in
    let c2 = choose_slot 4 4 4 W in
    let e : place + 9 + 9 ≡ place + 18 = omega arith in
    let long = a.holds.long in
    subst (λ q. Stretch r 18 (AtPlace r table frame code y q w2 (λ b. None) s) t) e
    (chain r 9 9 _ _ t
    (choose_in r table frame code y s place (λ k. None) (λ b. None) t a size 3 3 3 N w1 (λ b. None) (stands_front code place c1 c2 stand) low (omega (arith, high)) (omega (arith, size)) (omega (arith, size)) (omega (arith, size)) good.north_inside (side_high y p.north 0)
    (λ m k. entry_holds y frame t.arrays m a.slots (λ k. None) (λ b. None) p.north 0 _ north k a.here.frame_is.there (omega (arith, long, size)) good.north_wire (let h = good.north_inside in omega (arith, long, h)) (same_carries t.arrays (slice_index a.slots 3) p.north north hn) a.holds)) (λ u h.
    let b = h.at in
    let long2 = b.holds.long in
    let four : slice_index b.slots 4 ≡ slice_index a.slots 4 = there_is r table frame code y s (place + 9) w1 (λ b. None) a.slots N _ t.arrays u h 4 (low_apart y p.north) in
    let hw2 : EntryCarries u.arrays (slice_index b.slots 4) p.west west = subst (λ z. EntryCarries u.arrays z p.west west) (sym four) (entry_grows frame a.slots t.arrays u.arrays h.keeps a.here.frame_is.there (omega (arith, long, size)) (slice_index a.slots 4) p.west west hw) in
    becomes r 9 _ _ u (λ v g. g.at)
    (choose_in r table frame code y s (place + 9) w1 (λ b. None) u b size 4 4 4 W w2 (λ b. None) (stands_back code place c1 c2 stand) (omega (arith, low)) (omega (arith, high)) (omega (arith, size)) (omega (arith, size)) (omega (arith, size)) good.west_inside (side_high y p.west 0)
    (λ m k. entry_holds y frame u.arrays m b.slots w1 (λ b. None) p.west 0 _ west k b.here.frame_is.there (omega (arith, long2, size)) good.west_wire (let i = good.west_inside in omega (arith, long2, i)) (same_carries u.arrays (slice_index b.slots 4) p.west west hw2) b.holds))))
  where
    low_apart : (y : Layout) (o : Option ℕ) → 4 ≡ side_slot y o 0 → ⊥
    low_apart y None e = omega (arith, e)
    low_apart y (Some k) e = omega (arith, e)
