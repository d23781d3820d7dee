-- Why a text is refused.
use Rattle.std.specs.Prelude.{⊤, ℕ, List}
use Rattle.two_d.specs.Grammar.{IsBad, IsTooDeep}
use Rattle.box_parse.specs.declared.fault.BoxFault.{BoxFault}
use Rattle.box_parse.specs.declared.fault.BoxFault.TheVariants.{Bad, TooDeep, Memory}

-- the text is bad or too deep at the fault's byte, or there was no memory
abbrev pub IsFaultOf : BoxFault → List ℕ → Type 0
IsFaultOf (Bad k) text = IsBad text k
IsFaultOf (TooDeep k) text = IsTooDeep text k
IsFaultOf Memory text = ⊤
