-- The page of a text: what is said of it for a reader.
use Rattle.std.specs.Prelude.{◌≡◌, ℕ, ◌≤◌, List, [], ◌++◌, length, take, codes, decimal, Option}
use Rattle.std.specs.Prelude.{Some, None, option_map, Result, Ok, Err}
use Rattle.umix_base.specs.declared.place.Place.{Place}
use Rattle.text_picture.specs.Pictures.{lined, picture_lines}
use Rattle.two_d.specs.Faults.{TextFault, told_as}
use Rattle.two_d.specs.Program.{program_of}
use Rattle.two_d.specs.Programs.{Program}
use Rattle.fault_view.specs.Boxes.{boxes_in}
use Rattle.fault_view.specs.Breaks.{IsBorderTold, border_of}
use Rattle.fault_view.specs.Hints.{hint_of}
use Rattle.fault_view.specs.Subjects.{IsSubjectTold, subject_of}
use Rattle.fault_view.specs.declared.page.Answer.{Answer}
use Rattle.fault_view.specs.declared.page.Answer.TheVariants as answer
use Rattle.fault_view.specs.declared.page.PageFault.{PageFault}
use Rattle.fault_view.specs.declared.page.PageFault.TheVariants.{Failed, Memory}

-- the line of a program: how many modules and boxes it has
abbrev pub ok_line : Program → List ℕ
ok_line P = codes "ok " ++ decimal (length P) ++ codes " " ++ decimal (boxes_in P) ++ codes "\n"

-- what follows the name in the line of a fault: its place, where it has one
abbrev pub after_name : Option Place → List ℕ
after_name None = codes "\n"
after_name (Some p) = codes " at " ++ decimal p.row ++ codes ":" ++ decimal p.col ++ codes "\n"

-- the line of a fault by its number, its name and its place
abbrev pub refusal_line : ℕ → List ℕ → Option Place → List ℕ
refusal_line number name place =
    codes "refused " ++ decimal number ++ codes " " ++ name ++ after_name place

-- the picture of the place, where there is one
abbrev pub picture_part : List ℕ → Option Place → List ℕ
picture_part text None = []
picture_part text (Some p) = lined (picture_lines text p)

-- the line, the picture, and the sentence on what usually is wrong
abbrev pub page_with : List ℕ → ℕ → List ℕ → Option Place → List ℕ → List ℕ
page_with text number name place hint =
    refusal_line number name place ++ picture_part text place ++ hint ++ codes "\n"

-- the page of a text with this first fault
abbrev pub fault_page : List ℕ → TextFault → List ℕ
fault_page text f =
    page_with text (told_as f).0 (told_as f).1 (told_as f).2 (hint_of f)

-- the page of a text, which is a program or has a first fault; with where a border breaks, and with
-- what is told of the module or box that the fault is about
pub data IsPage (text : List ℕ) : Answer → List ℕ → Type 0 where
  of_program : (P : Program) → program_of text (Ok P) → IsPage text answer.Program (ok_line P)
  of_fault : (f : TextFault) (border subject : List ℕ) → program_of text (Err f) →
      IsBorderTold text (border_of f) border → IsSubjectTold text (subject_of f) subject →
      IsPage text answer.Refused (fault_page text f ++ border ++ subject)

-- The page was written whole, and its answer is told; or a beginning of it was written; or there
-- was no memory, and nothing was.
pub data PageWritten (text : List ℕ) (old new : Option (List ℕ)) :
    Result Answer PageFault → Type 0 where
  written : (a : Answer) (page : List ℕ) → IsPage text a page →
      new ≡ option_map (λ held. held ++ page) old → PageWritten text old new (Ok a)
  cut : (a : Answer) (page : List ℕ) (k : ℕ) → IsPage text a page → k ≤ length page →
      new ≡ option_map (λ held. held ++ take k page) old → PageWritten text old new (Err Failed)
  no_memory : new ≡ old → PageWritten text old new (Err Memory)
