-- The refusals of this crate as faults of a grid.
use Rattle.std.specs.Prelude.{Option, Some, None}
use Rattle.two_d.specs.Faults as fault
use Rattle.two_d.specs.Faults.{TextFault}
use Rattle.grid_reader.specs.declared.fault.GridFault.{GridFault}
use Rattle.grid_reader.specs.declared.fault.GridFault.TheVariants.{TooLong, BadByte, LineTooLong}
use Rattle.grid_reader.specs.declared.fault.GridFault.TheVariants.{OpenFrame, FramesMeet}
use Rattle.grid_reader.specs.declared.fault.GridFault.TheVariants.{TwoEntries, NoName, OpenBox}
use Rattle.grid_reader.specs.declared.fault.GridFault.TheVariants.{BoxesMeet, Memory}

-- the fault of a grid that a refusal tells; want of memory is none
abbrev pub fault_of : GridFault → Option TextFault
fault_of TooLong = Some fault.too_long
fault_of (BadByte p) = Some (fault.bad_byte p)
fault_of (LineTooLong p) = Some (fault.line_too_long p)
fault_of (OpenFrame p) = Some (fault.open_frame p)
fault_of (FramesMeet p) = Some (fault.frames_meet p)
fault_of (TwoEntries p) = Some (fault.two_entries p)
fault_of (NoName p) = Some (fault.no_name p)
fault_of (OpenBox p) = Some (fault.open_box p)
fault_of (BoxesMeet p) = Some (fault.boxes_meet p)
fault_of Memory = None
