-- The faults of a grid, with their numbers, names and places.
use Rattle.std.specs.Prelude.{ℕ, List, Option, Some, None, codes}
use Rattle.umix_base.specs.declared.place.Place.{Place}

-- a fault and where it is
pub data TextFault : Type 0 where
  too_long : TextFault
  bad_byte line_too_long : Place → TextFault
  open_frame frames_meet two_entries : Place → TextFault
  no_name : Place → TextFault
  open_box boxes_meet : Place → TextFault
  bad_command too_deep : Place → TextFault
  two_ports broken_wire bad_turn merge stray : Place → TextFault
  same_name : Place → TextFault
  no_main : TextFault
  main_has_input : Place → TextFault
  no_module bad_inputs unwired cycle : Place → TextFault

-- a fault as it is told: its number, its name and its place; 23 is no number, and two faults are nowhere
abbrev pub told_as : TextFault → ℕ × List ℕ × Option Place
told_as too_long = (1, codes "TooLong", None)
told_as (bad_byte p) = (2, codes "BadByte", Some p)
told_as (line_too_long p) = (3, codes "LineTooLong", Some p)
told_as (open_frame p) = (4, codes "OpenFrame", Some p)
told_as (frames_meet p) = (5, codes "FramesMeet", Some p)
told_as (two_entries p) = (6, codes "TwoEntries", Some p)
told_as (no_name p) = (7, codes "NoName", Some p)
told_as (open_box p) = (8, codes "OpenBox", Some p)
told_as (boxes_meet p) = (9, codes "BoxesMeet", Some p)
told_as (bad_command p) = (10, codes "BadCommand", Some p)
told_as (too_deep p) = (24, codes "TooDeep", Some p)
told_as (two_ports p) = (11, codes "TwoPorts", Some p)
told_as (broken_wire p) = (12, codes "BrokenWire", Some p)
told_as (bad_turn p) = (13, codes "BadTurn", Some p)
told_as (merge p) = (14, codes "Merge", Some p)
told_as (stray p) = (15, codes "Stray", Some p)
told_as (same_name p) = (16, codes "SameName", Some p)
told_as no_main = (17, codes "NoMain", None)
told_as (main_has_input p) = (18, codes "MainHasInput", Some p)
told_as (no_module p) = (19, codes "NoModule", Some p)
told_as (bad_inputs p) = (20, codes "BadInputs", Some p)
told_as (unwired p) = (21, codes "Unwired", Some p)
told_as (cycle p) = (22, codes "Cycle", Some p)

-- its number and its place
abbrev pub number_and_place : TextFault → ℕ × Option Place
number_and_place fault = ((told_as fault).0, (told_as fault).2)
