use Rattle.std.specs.Prelude.{◌≡◌, ℕ, ◌<◌, ◌||◌, length, take}
use Rattle.std.specs.List.{list_any}
use Rattle.two_d.specs.declared.command.Side.{Side}
use Rattle.type_sheet.specs.Wires.{origin_of}
use Rattle.type_sheet.specs.inner.Carried.{leads, mark_of}
use Rattle.type_sheet.proofs.wired.Wired.mark_rows.Given as goal

-- the marks of the rows so far
abbrev pub invariant-loop-row : goal.invariant-loop-row
invariant-loop-row l = record {
  souths : length l.self.souths.items ≡ length l.initial.self.souths.items;
  easts : length l.self.easts.items ≡ length l.initial.self.easts.items;
  marks : (b : ℕ) (side : Side) → b < length l.initial.self.souths.items → b < length l.initial.self.easts.items
      → mark_of l.self b side ≡ (mark_of l.initial.self b side || list_any (leads (origin_of b side)) (take l.row-index l.rows));
}
