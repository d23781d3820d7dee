-- One more module was read.
use Rattle.std.specs.Prelude.{◌≡◌, ◌++◌, List, [], ◌∷◌, map}
use Rattle.std.proofs.Common.{sym, ap, ◌∙◌}
use Rattle.std.proofs.lemmas.List.{map-append}
use Rattle.two_d.specs.Places.{corner_of}
use Rattle.two_d.specs.Program.{Drawn}
use Rattle.two_d.specs.Programs.{module_of, modules_of}
use Rattle.two_d.specs.declared.module.Module.{Module}
use Rattle.module_table.specs.declared.corners.Corners.{Corners}
use Rattle.module_table.specs.Drawn.{AreCorners}
use Rattle.module_table.specs.inner.Drawings.{IsModuleRead}

more : {A B C : Type 0} (f : A → C) (g : B → C) (xs : List A) (x : A) (ys : List B) (y : B) → map f xs ≡ map g ys → f x ≡ g y → map f (xs ++ x ∷ []) ≡ map g (ys ++ y ∷ [])
more f g xs x ys y same one = map-append f xs (x ∷ []) ∙ (ap (λ l. l ++ f x ∷ []) same ∙ (ap (λ z. map g ys ++ z ∷ []) one ∙ sym (map-append g ys (y ∷ []))))

pub shapes_more : (modules : List Module) (m : Module) (corners : Corners) (ds : List Drawn) (d : Drawn) → modules_of modules ≡ map (λ (d : Drawn). d.shape) ds → IsModuleRead (m, corners) d → modules_of (modules ++ m ∷ []) ≡ map (λ (d : Drawn). d.shape) (ds ++ d ∷ [])
shapes_more modules m corners ds d same is = more module_of (λ (d : Drawn). d.shape) modules m ds d same is.shape

pub corners_more : (corners : List Corners) (m : Module) (c : Corners) (ds : List Drawn) (d : Drawn) → AreCorners corners ds → IsModuleRead (m, c) d → AreCorners (corners ++ c ∷ []) (ds ++ d ∷ [])
corners_more corners m c ds d are is = record {
  frames = more (λ (c : Corners). c.frame) (λ (d : Drawn). corner_of d.frame) corners c ds d are.frames is.frame;
  boxes = more (λ (c : Corners). c.boxes.items) (λ (d : Drawn). map corner_of d.boxes) corners c ds d are.boxes is.boxes;
}
