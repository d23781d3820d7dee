-- What `wires` is asked and what it answers, in the words of the definitions.
use Rattle.std.specs.Prelude.{◌≡◌, ℕ, List, length, map, Ok, Option, Some, None, Vec}
use Rattle.std.specs.Global.{Global}
use Rattle.two_d.specs.Places.{Rect}
use Rattle.two_d.specs.Cells.{Grid}
use Rattle.two_d.specs.Faults as fault
use Rattle.two_d.specs.Faults.{TextFault}
use Rattle.two_d.specs.Frames.{name_of}
use Rattle.two_d.specs.Ports.{Drawing}
use Rattle.two_d.specs.Clean.{WireForm}
use Rattle.grid_reader.specs.Frames.{rect_of}
use Rattle.grid_reader.specs.Boxes.{box_rects}
use Rattle.grid_reader.specs.declared.frame.Frame.{Frame}
use Rattle.grid_reader.specs.declared.box_frame.BoxFrame.{BoxFrame}
use Rattle.wire_trace.specs.declared.wire.Wire.{Wire}
use Rattle.wire_trace.specs.declared.fault.WireFault.{WireFault}
use Rattle.wire_trace.specs.declared.fault.WireFault.TheVariants.{TwoPorts, BrokenWire, BadTurn}
use Rattle.wire_trace.specs.declared.fault.WireFault.TheVariants.{Merge, Stray, Memory}

-- the name of the module in a frame has this length
abbrev pub HasName : Grid → Rect → ℕ → Type 0
HasName grid f n = (name : List ℕ) × name_of grid f (Ok name) × (length name ≡ n)

-- the drawing of a module
abbrev pub drawing_of : Grid → Frame → ℕ → Vec BoxFrame Global → Drawing
drawing_of grid frame n boxes =
    record { grid = grid; frame = rect_of frame; name_length = n; boxes = box_rects boxes }

-- wires without where they lie in memory
abbrev pub forms_of : Vec Wire Global → List WireForm
forms_of wires = map (λ (w : Wire). record { from = w.from; to = w.to }) wires.items

-- the fault that a refusal tells; want of memory is none
abbrev pub wire_fault_of : WireFault → Option TextFault
wire_fault_of (TwoPorts p) = Some (fault.two_ports p)
wire_fault_of (BrokenWire p) = Some (fault.broken_wire p)
wire_fault_of (BadTurn p) = Some (fault.bad_turn p)
wire_fault_of (Merge p) = Some (fault.merge p)
wire_fault_of (Stray p) = Some (fault.stray p)
wire_fault_of Memory = None
