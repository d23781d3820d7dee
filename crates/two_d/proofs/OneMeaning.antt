-- A program has one meaning and one text.
use Rattle.std.specs.Prelude.{◌≡◌, ℕ, List}
use Rattle.std.proofs.Common.{sym, ap, ◌∙◌}
use Rattle.two_d.specs.Meaning.{Meaning, no_inputs}
use Rattle.two_d.specs.Programs.{Program, main_of}
use Rattle.two_d.specs.Steps.{HasMeaning}
use Rattle.two_d.specs.Texts.{IsProgramText, text_of}
use Rattle.two_d.proofs.Depth.{mean-one}

pub one_meaning : (P : Program) (r s : Meaning) → HasMeaning P r → HasMeaning P s → r ≡ s
one_meaning P r s has too = mean-one P has.depth too.depth (main_of P) no_inputs r s has.means too.means

pub one_text : (P : Program) (xs ys : List ℕ) → IsProgramText P xs → IsProgramText P ys → xs ≡ ys
one_text P xs ys one other = one.is ∙ (ap (λ (r : Meaning). text_of P r.outcome) (one_meaning P one.meaning other.meaning one.has other.has) ∙ sym other.is)
