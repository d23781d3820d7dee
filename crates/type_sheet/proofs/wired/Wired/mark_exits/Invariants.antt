use Rattle.std.specs.Prelude.{◌≡◌, ℕ, ◌<◌, ◌||◌, length, take}
use Rattle.std.specs.List.{list_any}
use Rattle.two_d.specs.declared.command.Side.{Side}
use Rattle.type_sheet.specs.Wires.{is_from, origin_of}
use Rattle.type_sheet.specs.inner.Carried.{mark_of}
use Rattle.type_sheet.proofs.wired.Wired.mark_exits.Given as goal

-- the marks of the exits so far
abbrev pub invariant-loop-exit : goal.invariant-loop-exit
invariant-loop-exit l = record {
  souths : length l.self.souths.items ≡ length l.initial.self.souths.items;
  easts : length l.self.easts.items ≡ length l.initial.self.easts.items;
  marks : (b : ℕ) (side : Side) → b < length l.initial.self.souths.items → b < length l.initial.self.easts.items
      → mark_of l.self b side ≡ (mark_of l.initial.self b side || list_any (is_from (origin_of b side)) (take l.exit-index l.exits));
}
