-- The parts of a machine, from which it can be made anew.
use Rattle.std.specs.Prelude.{ℕ, ◌^◌, ◌≤◌, Bool, List}
use Rattle.umix_base.specs.declared.limits.Limits.{Limits}
use Rattle.array_store.specs.Parts.{Parts, AreParts, parts_by, arrays_of_parts}
use Rattle.um_machine.specs.declared.saved.Saved.{Saved}
use Rattle.um_machine.specs.MachineView.{MachineView}

-- a machine without its limits, whose store is told by its parts
pub record MachineParts : Type 0 where
  pub registers : List ℕ
  pub finger : ℕ
  pub cycles : ℕ
  pub halted : Bool
  pub store : Parts

-- the plain tree of what was saved
abbrev pub parts_of : Saved → MachineParts
parts_of saved = record {
  registers = saved.registers;
  finger = saved.finger;
  cycles = saved.cycles;
  halted = saved.halted;
  store = parts_by saved.made saved.abandoned.items saved.zero.items saved.arrays.items;
}

-- the most cycles that a machine may have made that is saved
abbrev pub most_saved_cycles : ℕ
most_saved_cycles = 2 ^ 62

-- the rules of a machine's parts: at most so many cycles, and the rules of a store's parts
pub record AreMachineParts (p : MachineParts) : Type 0 where
  pub cycles : p.cycles ≤ most_saved_cycles
  pub store : AreParts p.store

-- the machine of these parts
abbrev pub machine_of_parts : MachineParts → Limits → MachineView
machine_of_parts p limits = record {
  registers = p.registers;
  finger = p.finger;
  arrays = arrays_of_parts p.store;
  identifiers = record { made = p.store.made; abandoned = p.store.abandoned };
  limits = limits;
  cycles = p.cycles;
  halted = p.halted;
}
