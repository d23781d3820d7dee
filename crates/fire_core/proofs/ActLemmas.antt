-- What a call's answer is, said in other words.
use Rattle.std.specs.Prelude.{◌≡◌, Option, Some, Result, Ok, Err, IfOk, OnOk, OnErr}
use Rattle.std.proofs.Common.{◌∙◌, ap, sym, subst}

pub IfOk-same : {T E X : Type 0} (f : T → X) (r : Result T E) (x y : X) → IfOk r (λ t. f t ≡ x) → x ≡ y → IfOk r (λ t. f t ≡ y)
IfOk-same f (Ok t) x y e same = e ∙ same
IfOk-same f (Err fault) x y e same = e

pub IfOk-some : {T E X : Type 0} (f : T → X) (r : Result T E) (x : X) (y : Option X) → IfOk r (λ t. f t ≡ x) → Some x ≡ y → IfOk r (λ t. Some (f t) ≡ y)
IfOk-some f (Ok t) x y e same = ap Some e ∙ same
IfOk-some f (Err fault) x y e same = e

pub OnErr-from : {T E : Type 0} {P : Type 0} (r : Result T E) → P → OnErr r P
OnErr-from (Ok t) p = tt
OnErr-from (Err fault) p = p

pub OnOk-same : {T E X : Type 0} (r : Result T E) (x y z : X) → OnOk r (x ≡ y) → y ≡ z → OnOk r (x ≡ z)
OnOk-same (Ok t) x y z e same = e ∙ same
OnOk-same (Err fault) x y z e same = e

-- what holds where a call went through, and where it didn't
pub by_answer : {T E X : Type 0} (P : X → Type 0) (r : Result T E) (new ok err : X) → OnOk r (new ≡ ok) → OnErr r (new ≡ err) → P ok → P err → P new
by_answer P (Ok t) new ok err e f p q = subst P (sym e) p
by_answer P (Err fault) new ok err e f p q = subst P (sym f) q
