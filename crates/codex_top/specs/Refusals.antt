-- The refusals: the number and the name of each fault of a file, and what is told after the name.
use Rattle.std.specs.Prelude.{ℕ, ◌+◌, Option, Some, None, List, codes}
use Rattle.umix_base.specs.declared.place.Place.{Place}
use Rattle.um_asm.specs.declared.fault.AsmFault.{AsmFault}
use Rattle.um_asm.specs.declared.fault.AsmFault.TheVariants as asm
use Rattle.um_word.specs.declared.scroll.ScrollFault.{ScrollFault}
use Rattle.um_word.specs.declared.scroll.ScrollFault.TheVariants as scrolls
use Rattle.um_image.specs.declared.fault.ImageFault.{ImageFault}
use Rattle.um_image.specs.declared.fault.ImageFault.TheVariants as images
use Rattle.two_d.specs.Faults.{TextFault, told_as}
use Rattle.grid_draw.specs.declared.drawing.DrawFault.{DrawFault}
use Rattle.grid_draw.specs.declared.drawing.DrawFault.TheVariants as drawings
use Rattle.two_d.specs.Programs.{Program, module_at}
use Rattle.type_sheet.specs.declared.fault.At.{At as TypeAt}
use Rattle.type_sheet.specs.declared.fault.At.TheVariants.{Module, Bx, Exit}
use Rattle.type_sheet.specs.declared.fault.SheetFault.{SheetFault}
use Rattle.type_sheet.specs.declared.fault.SheetFault.TheVariants as sheets
use Rattle.codex_top.specs.declared.refusal.After.{After}
use Rattle.codex_top.specs.declared.refusal.After.TheVariants.{Nothing, Number, At, InModule, InBox}
use Rattle.codex_top.specs.declared.refusal.After.TheVariants.{InExit}
use Rattle.codex_top.specs.declared.line.Line.{Line}
use Rattle.codex_top.specs.declared.line.Line.TheVariants.{Refused, NoMemory}

-- the line of a refusal with this number, this name, and this after the name
abbrev pub refused : ℕ → List ℕ → After → Line
refused number name after = Refused (record { number = number; name = name; after = after })

-- 1 to 24, a grid: its fault's number and name, and its place where it has one
abbrev pub after_name : Option Place → After
after_name None = Nothing
after_name (Some place) = At place

abbrev pub grid_line : TextFault → Line
grid_line fault = refused (told_as fault).0 (told_as fault).1 (after_name (told_as fault).2)

-- 31 and 32, a scroll: so many bytes are no words, or there are too many
abbrev pub scroll_ragged : ℕ → Line
scroll_ragged count = refused 31 (codes "Ragged") (Number count)

abbrev pub scroll_too_long : Line
scroll_too_long = refused 32 (codes "ScrollTooLong") Nothing

abbrev pub scroll_line : ScrollFault → Line
scroll_line (scrolls.Ragged count) = scroll_ragged count
scroll_line (scrolls.TooLong count) = scroll_too_long
scroll_line scrolls.Memory = NoMemory

-- 41 to 46, an assembly text: the number of the line, where there is one
abbrev pub text_line : AsmFault → Line
text_line (asm.BadLine line) = refused 41 (codes "BadLine") (Number line)
text_line (asm.SameLabel line) = refused 42 (codes "SameLabel") (Number line)
text_line (asm.NoLabel line) = refused 43 (codes "NoLabel") (Number line)
text_line (asm.ValueTooLarge line) = refused 44 (codes "ValueTooLarge") (Number line)
text_line asm.TooLong = refused 45 (codes "TooManyWords") Nothing
text_line asm.Memory = NoMemory

abbrev pub text_too_long : Line
text_too_long = refused 46 (codes "TextTooLong") Nothing

-- 51, the input of a scroll that is debugged
abbrev pub input_too_long : Line
input_too_long = refused 51 (codes "InputTooLong") Nothing

-- 61 and 62, the drawing of a program: the number of the first module whose drawing is too wide, from
-- 1; or how many bytes it would have
abbrev pub drawing_line : DrawFault → Line
drawing_line (drawings.TooWide number) = refused 61 (codes "DrawTooWide") (Number number)
drawing_line (drawings.TooLong size) = refused 62 (codes "DrawTooLong") (Number size)
drawing_line drawings.Memory = NoMemory

-- 71 to 77, a sheet of types and a program against it: the number of a line; or the name of a module
-- of the program, with a box or an exit of it by its number from 1
abbrev pub after_at : Program → TypeAt → After
after_at P (Module i) = InModule (module_at P i).name
after_at P (Bx i b) = InBox (module_at P i).name (b + 1)
after_at P (Exit i j) = InExit (module_at P i).name (j + 1)

abbrev pub sheet_line : Program → SheetFault → Line
sheet_line P sheets.TooLong = refused 71 (codes "SheetTooLong") Nothing
sheet_line P (sheets.BadSheet line) = refused 72 (codes "BadSheet") (Number line)
sheet_line P (sheets.SameLine line) = refused 73 (codes "SameLine") (Number line)
sheet_line P (sheets.NoType line) = refused 74 (codes "NoType") (Number line)
sheet_line P (sheets.NoPlace line) = refused 75 (codes "NoPlace") (Number line)
sheet_line P (sheets.NoLine at) = refused 76 (codes "NoLine") (after_at P at)
sheet_line P (sheets.Mismatch at) = refused 77 (codes "Mismatch") (after_at P at)
sheet_line P sheets.Memory = NoMemory

-- 81 and 82, an image: there are too many bytes; or they are none, and so many of them begin one
abbrev pub image_too_long : Line
image_too_long = refused 81 (codes "ImageTooLong") Nothing

abbrev pub image_bad : ℕ → Line
image_bad begun = refused 82 (codes "BadImage") (Number begun)

abbrev pub image_line : ImageFault → Line
image_line (images.TooLong count) = image_too_long
image_line (images.Bad begun) = image_bad begun
image_line images.Memory = NoMemory
