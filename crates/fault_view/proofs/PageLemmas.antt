-- The page of a text that `check` has answered.
use Rattle.std.proofs.Common.{◌≡◌, ◌++◌, ◌≤◌, ℕ, List, length, Option, refl, sym, ap, ◌∙◌, subst, inl, inr, arith}
use Rattle.std.specs.Prelude.{Ok, Err}
use Rattle.std.proofs.lemmas.Bool.{cases_lt}
use Rattle.umix_base.specs.declared.Failed.{Failed as SinkFailed}
use Rattle.umix_base.specs.declared.place.Place.{Place}
use Rattle.umix_base.specs.Streams.{Appends}
use Rattle.two_d.specs.Cells.{Grid, grid_of}
use Rattle.two_d.specs.Faults.{TextFault, told_as, number_and_place}
use Rattle.two_d.specs.Program.{program_of}
use Rattle.two_d.specs.Programs.{Program}
use Rattle.two_d.specs.Reading.{Reading, goes_on, passed, Told, went, failed, faults_mapped, Refuses}
use Rattle.two_d.specs.Weights.{weight}
use Rattle.module_table.specs.Answers.{HasNumberOf, answer_of}
use Rattle.module_table.specs.declared.fault.CheckFault.{CheckFault}
use Rattle.module_table.specs.declared.fault.CheckFault.TheVariants.{Bad}
use Rattle.fault_view.specs.Breaks.{AddsBreak, IsBorderTold, border_of}
use Rattle.fault_view.specs.Hints.{hint_of}
use Rattle.fault_view.specs.Subjects.{AddsSubject, IsSubjectTold, subject_of}
use Rattle.fault_view.specs.declared.breaks.Border.{Border}
use Rattle.fault_view.specs.declared.subject.Subject.{Subject}
use Rattle.fault_view.specs.Pages.{IsPage, PageWritten, cut, fault_page, of_fault, of_program, ok_line, page_with, written}
use Rattle.fault_view.specs.declared.page.Answer.{Answer}
use Rattle.fault_view.specs.declared.page.Answer.TheVariants as answer
use Rattle.fault_view.specs.declared.page.PageFault.TheVariants.{Failed}

-- what was told of a reading is of the reading
told_ok : {F G A : Type 0} (tell : F → G) (m : Reading F A) (x : A) → Told tell m (Ok x) → m (Ok x)
told_ok tell m x (went _ is) = is

told_err : {F G A : Type 0} (tell : F → G) (m : Reading F A) (t : G) → Told tell m (Err t) → (f : F) × m (Err f) × (t ≡ tell f)
told_err tell m _ (failed f is) = (f, is, refl)

-- a text with a program isn't too long
grid_fits : (text : List ℕ) (grid : Grid) → grid_of text (Ok grid) → length text ≤ 262144
grid_fits text grid (goes_on u (passed short) rest) = elim (cases_lt 262144 (length text)) [ inl over ↦ absurd (short over) | inr fits ↦ fits ]

program_fits : (text : List ℕ) (P : Program) → program_of text (Ok P) → length text ≤ 262144
program_fits text P (goes_on grid is rest) = grid_fits text grid is

pub program_light : (text : List ℕ) (P : Program) → Told number_and_place (program_of text) (Ok P) → weight P ≤ length text → weight P ≤ 262144
program_light text P told weighs =
    let fits = program_fits text P (told_ok number_and_place (program_of text) P told) in
    omega (arith, weighs, fits)

pub program_told : (text : List ℕ) (P : Program) (bytes : List ℕ) → Told number_and_place (program_of text) (Ok P) → bytes ≡ ok_line P → IsPage text answer.Program bytes
program_told text P bytes told is = rw is (of_program P (told_ok number_and_place (program_of text) P told))

-- the fault that is told, by its number
fault_read : (text : List ℕ) (e : CheckFault) (number : ℕ) (place : Option Place) → e ≡ Bad number place → Refuses (faults_mapped number_and_place (program_of text)) (answer_of e)
    → (f : TextFault) × program_of text (Err f) × ((number, place) ≡ number_and_place f)
fault_read text e number place same refused =
    told_err number_and_place (program_of text) (number, place) (subst (λ x. Refuses (faults_mapped number_and_place (program_of text)) (answer_of x)) same refused)

has_number : (e : CheckFault) (number : ℕ) (place : Option Place) (f : TextFault) → e ≡ Bad number place → (number, place) ≡ number_and_place f → HasNumberOf e f
has_number e number place f same told = subst (λ x. HasNumberOf x f) (sym same) (sym (ap (λ (p : ℕ × Option Place). p.0) told))

pub fault_named : (text : List ℕ) (e : CheckFault) (number : ℕ) (place : Option Place) → e ≡ Bad number place → Refuses (faults_mapped number_and_place (program_of text)) (answer_of e)
    → (f : TextFault) × HasNumberOf e f
fault_named text e number place same refused =
    let (f, is, told) = fault_read text e number place same refused in (f, has_number e number place f same told)

-- a page is told by the fault, where its parts are
pages_same : (text : List ℕ) (f : TextFault) (number : ℕ) (place : Option Place) (name hint : List ℕ) →
    number ≡ (told_as f).0 → name ≡ (told_as f).1 → place ≡ (told_as f).2 → hint ≡ hint_of f →
    page_with text number name place hint ≡ fault_page text f
pages_same text f number place name hint numbered named placed hinted =
    rw (numbered, named, placed, hinted) refl

pub fault_told : (text : List ℕ) (e : CheckFault) (number : ℕ) (place : Option Place) (name hint first second bytes : List ℕ) (border : Option Border) (subject : Option Subject)
    → e ≡ Bad number place
    → Refuses (faults_mapped number_and_place (program_of text)) (answer_of e) → ((f : TextFault) → HasNumberOf e f → name ≡ (told_as f).1)
    → ((f : TextFault) → (told_as f).0 ≡ number → hint ≡ hint_of f)
    → ((f : TextFault) → (told_as f).0 ≡ number → (told_as f).2 ≡ place → border ≡ border_of f)
    → ((f : TextFault) → (told_as f).0 ≡ number → (told_as f).2 ≡ place → subject ≡ subject_of f)
    → first ≡ page_with text number name place hint → AddsBreak text border first second → AddsSubject text subject second bytes → IsPage text answer.Refused bytes
fault_told text e number place name hint first second bytes border subject same refused named hinted bordered is_about is (more, tells, added) (last, tells_last, added_last) =
    let (f, reads, told) = fault_read text e number place same refused in
    let numbered : number ≡ (told_as f).0 = ap (λ (p : ℕ × Option Place). p.0) told in
    let placed : place ≡ (told_as f).2 = ap (λ (p : ℕ × Option Place). p.1) told in
    let as_named : name ≡ (told_as f).1 = named f (has_number e number place f same told) in
    let as_hinted : hint ≡ hint_of f = hinted f (sym numbered) in
    let border_told : IsBorderTold text (border_of f) more =
    subst (λ (b : Option Border). IsBorderTold text b more) (bordered f (sym numbered) (sym placed)) tells in
    let subject_told : IsSubjectTold text (subject_of f) last =
    subst (λ (s : Option Subject). IsSubjectTold text s last) (is_about f (sym numbered) (sym placed)) tells_last in
    let between = added ∙ ap (λ (page : List ℕ). page ++ more) (is ∙ pages_same text f number place name hint numbered as_named placed as_hinted) in
    rw (added_last ∙ ap (λ (page : List ℕ). page ++ last) between)
    (of_fault f more last reads border_told subject_told)

-- a page that was put, whole and in part
pub put_whole : (text : List ℕ) (a : Answer) (page piece : List ℕ) (old new : Option (List ℕ)) → piece ≡ page → IsPage text a page
    → Appends piece old new (Ok tt) → PageWritten text old new (Ok a)
put_whole text a page piece old new same is put = written a page is (subst (λ (p : List ℕ). Appends p old new (Ok tt)) same put)

pub put_part : (text : List ℕ) (a : Answer) (page piece : List ℕ) (old new : Option (List ℕ)) (failed_ : SinkFailed) → piece ≡ page → IsPage text a page
    → Appends piece old new (Err failed_) → PageWritten text old new (Err Failed)
put_part text a page piece old new failed_ same is put =
    let (k, few, shown) = subst (λ (p : List ℕ). Appends p old new (Err failed_)) same put in cut a page k is few shown
