-- From the readings of the parts to that of the whole text.
use Rattle.std.specs.Prelude.{◌≡◌, ◌≤◌, ◌<◌, ◌^◌, ℕ, zero, suc, List, [], ◌∷◌, length, map, Option, Result, Ok, Err, IfOk, All}
use Rattle.std.proofs.Common.{arith, refl, sym, ap, subst, ◌∙◌, get_or}
use Rattle.std.proofs.lemmas.List.{length-map}
use Rattle.umix_base.specs.declared.place.Place.{Place}
use Rattle.two_d.specs.Cells.{Grid, grid_of}
use Rattle.two_d.specs.Faults.{TextFault, number_and_place}
use Rattle.two_d.specs.Frames.{frames_of}
use Rattle.two_d.specs.Places.{Rect, at, corner_of}
use Rattle.two_d.specs.Program.{Drawn, module_in, no_figure, module_place, box_place, placed_fault, program_of}
use Rattle.two_d.specs.Programs.{Program, no_module, module_of, modules_of}
use Rattle.two_d.specs.Reading.{went, goes_on, Gives, Refuses, faults_mapped, each}
use Rattle.two_d.specs.Sound.{IsSound, LeadsOn}
use Rattle.two_d.specs.Table.{table_of}
use Rattle.two_d.specs.Weights.{weight}
use Rattle.two_d.specs.declared.module.Module.{Module}
use Rattle.module_table.specs.Answers.{answer_of, HasNumberOf}
use Rattle.module_table.specs.declared.fault.CheckFault.TheVariants.{Bad}
use Rattle.module_table.specs.declared.corners.Corners.{Corners}
use Rattle.module_table.specs.declared.fault.CheckFault.{CheckFault}
use Rattle.module_table.specs.Drawn.{AreCorners}
use Rattle.module_table.specs.inner.Drawings.{placed_reading}
use Rattle.module_table.proofs.ProgramsRead.{shapes, modules_sound, modules_few, told_ok, program_read}
use Rattle.module_table.proofs.Telling.{refuses_whole, told_err}

-- what a function gives of an element, or of what stands for none
mapped_at : {A B : Type 0} (f : A → B) (xs : List A) (i : ℕ) (d : A) → get_or (map f xs) i (f d) ≡ f (get_or xs i d)
mapped_at f [] zero d = refl
mapped_at f [] (suc i) d = refl
mapped_at f (x ∷ xs) zero d = refl
mapped_at f (x ∷ xs) (suc i) d = mapped_at f xs i d

-- the corners that were kept are those of the modules and their boxes
pub frame_kept : (corners : List Corners) (ds : List Drawn) → AreCorners corners ds → (i : ℕ) → get_or (map (λ (c : Corners). c.frame) corners) i (at 0 0) ≡ module_place ds i
frame_kept corners ds are i =
    ap (λ l. get_or l i (at 0 0)) are.frames ∙ (mapped_at (λ (d : Drawn). corner_of d.frame) ds i (record { shape = no_module; frame = no_figure; boxes = [] })
    ∙ ap corner_of (sym (mapped_at (λ (d : Drawn). d.frame) ds i (record { shape = no_module; frame = no_figure; boxes = [] }))))

pub box_kept : (corners : List Corners) (ds : List Drawn) → AreCorners corners ds → (i b : ℕ) → get_or (get_or (map (λ (c : Corners). c.boxes.items) corners) i []) b (at 0 0) ≡ box_place ds i b
box_kept corners ds are i b =
    ap (λ l. get_or (get_or l i []) b (at 0 0)) are.boxes
    ∙ (ap (λ l. get_or l b (at 0 0)) (mapped_at (λ (d : Drawn). map corner_of d.boxes) ds i (record { shape = no_module; frame = no_figure; boxes = [] })
    ∙ ap (map corner_of) (sym (mapped_at (λ (d : Drawn). d.boxes) ds i (record { shape = no_module; frame = no_figure; boxes = [] }))))
    ∙ mapped_at corner_of (get_or (map (λ (d : Drawn). d.boxes) ds) i []) b no_figure)

module _ (text : List ℕ) (grid : Grid) (fs : List Rect) (ds : List Drawn) (gridded : grid_of text (Ok grid)) (framed : frames_of grid (Ok fs)) (read : each (module_in grid) fs (Ok ds)) where
  -- what the table of modules gives is what the text gives
  pub gives_whole : (r : Result Program CheckFault) → Gives (λ program. program) answer_of r (placed_reading ds) → Gives (λ program. program) answer_of r (faults_mapped number_and_place (program_of text))
  gives_whole (Ok P) gave = went P (goes_on grid gridded (goes_on fs framed (goes_on ds read (told_ok number_and_place (faults_mapped (placed_fault ds) (table_of (shapes ds))) P gave))))
  gives_whole (Err e) refused =
      refuses_whole number_and_place (answer_of e) (faults_mapped (placed_fault ds) (table_of (shapes ds))) (program_of text) (λ f h. goes_on grid gridded (goes_on fs framed (goes_on ds read h))) refused

  pub sound_list : (modules : List Module) → modules_of modules ≡ shapes ds → All IsSound (modules_of modules)
  sound_list modules same = subst (All IsSound) (sym same) (modules_sound text grid fs ds gridded framed read)

  pub few_listed : (modules : List Module) → modules_of modules ≡ shapes ds → length modules < 2 ^ 32
  few_listed modules same = let few = modules_few text grid fs ds gridded framed read in let long = length-map modules module_of in let e = ap length same in omega arith

-- the program of a text is light, and the entries of its modules lead on
pub light_program : (text : List ℕ) (r : Result Program CheckFault) → Gives (λ program. program) answer_of r (faults_mapped number_and_place (program_of text)) → IfOk r (λ program. weight program ≤ length text)
light_program text (Ok P) gave = (program_read text P (told_ok number_and_place (program_of text) P gave)).0
light_program text (Err e) refused = tt

pub leading_program : (text : List ℕ) (r : Result Program CheckFault) → Gives (λ program. program) answer_of r (faults_mapped number_and_place (program_of text)) → IfOk r (λ program. All LeadsOn program)
leading_program text (Ok P) gave = (program_read text P (told_ok number_and_place (program_of text) P gave)).1
leading_program text (Err e) refused = tt

-- a refusal that isn't want of memory has the number of a fault
pub number_named : (text : List ℕ) (e : CheckFault) (number : ℕ) (place : Option Place) → e ≡ Bad number place → Refuses (faults_mapped number_and_place (program_of text)) (answer_of e) → (fault : TextFault) × HasNumberOf e fault
number_named text e number place same refused =
    let (f, is, told) = told_err number_and_place (program_of text) (number, place) (subst (λ x. Refuses (faults_mapped number_and_place (program_of text)) (answer_of x)) same refused) in
    (f, subst (λ x. HasNumberOf x f) (sym same) (ap (λ (p : ℕ × Option Place). p.0) told))
