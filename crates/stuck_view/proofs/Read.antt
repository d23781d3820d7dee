-- What is read of a text, and the program that its modules make.
use Rattle.std.proofs.Common.{◌≡◌, List, ℕ, map, refl, subst}
use Rattle.std.specs.Prelude.{IfOk, Result, Ok, Err}
use Rattle.umix_base.specs.declared.memory.Memory.{Memory as Want}
use Rattle.two_d.specs.Program.{Drawn, placed_fault, program_of}
use Rattle.two_d.specs.Programs.{Program}
use Rattle.two_d.specs.Reading.{Reading, Refuses, failed, goes_on, went}
use Rattle.two_d.specs.Table.{Wrong, table_of}
use Rattle.two_d.specs.inner.TableFaults.{wrong_of}
use Rattle.two_d.specs.declared.table.TableFault.{TableFault}
use Rattle.two_d.specs.declared.table.TableFault.TheVariants.{SameName, NoMain, MainHasInput}
use Rattle.two_d.specs.declared.table.TableFault.TheVariants.{NoModule, BadInputs, Unwired, Cycle, Memory}
use Rattle.module_table.specs.Drawn.{drawn_of}
use Rattle.stuck_view.specs.Pages.{IsPage, IsPageOf, of_program}
use Rattle.stuck_view.specs.declared.page.Page.{Page}

abbrev pub shapes : List Drawn → Program
shapes ds = map (λ (d : Drawn). d.shape) ds

-- a list of modules that is refused, by what is wrong with it
pub wrong_told : (m : Reading Wrong Program) (e : TableFault) → (e ≡ Memory → ⊥) → Refuses m (wrong_of e) → (w : Wrong) × m (Err w)
wrong_told m (SameName i) other refused = (_, refused)
wrong_told m NoMain other refused = (_, refused)
wrong_told m (MainHasInput i) other refused = (_, refused)
wrong_told m (NoModule i b) other refused = (_, refused)
wrong_told m (BadInputs i b) other refused = (_, refused)
wrong_told m (Unwired i b) other refused = (_, refused)
wrong_told m (Cycle i b) other refused = (_, refused)
wrong_told m Memory other refused = absurd (other refl)

-- what a text's modules make is what the text has
pub made : (text : List ℕ) (ds : List Drawn) (modules P : Program) → drawn_of text (Ok ds) → modules ≡ shapes ds → table_of modules (Ok P) → program_of text (Ok P)
made text ds modules P (goes_on grid g (goes_on fs h e)) same table =
    goes_on grid g (goes_on fs h (goes_on ds e (went P (subst (λ (ms : Program). table_of ms (Ok P)) same table))))

pub refused_list : (text : List ℕ) (ds : List Drawn) (modules : Program) (w : Wrong) → drawn_of text (Ok ds) → modules ≡ shapes ds → table_of modules (Err w) → program_of text (Err (placed_fault ds w))
refused_list text ds modules w (goes_on grid g (goes_on fs h e)) same table =
    goes_on grid g (goes_on fs h (goes_on ds e (failed w (subst (λ (ms : Program). table_of ms (Err w)) same table))))

-- the page of a program is the text's
pub page_whole : (text : List ℕ) (ds : List Drawn) (P : Program) (r : Result Page Want) → drawn_of text (Ok ds) → program_of text (Ok P)
    → IfOk r (λ page. IsPageOf text ds P page.answer page.bytes.items) → IfOk r (λ page. IsPage text page.answer page.bytes.items)
page_whole text ds P (Ok page) drawn program shown = of_program ds P page.answer page.bytes.items drawn program shown
page_whole text ds P (Err e) drawn program shown = tt
