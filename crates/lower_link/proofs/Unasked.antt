-- A run of words that follow a program asks for no input.
use Rattle.std.specs.Prelude.{◌≡◌, ℕ, List, Bool, false, Some}
use Rattle.std.proofs.Common.{subst}
use Rattle.um_word.specs.declared.op.Op.TheVariants.{Input}
use Rattle.um_word.specs.Table.{op_under}
use Rattle.um_word.specs.Run.{Standing}
use Rattle.um_word.specs.Loads.{Loads, state_in}
use Rattle.two_d.specs.Programs.{Program}
use Rattle.code_templates.specs.Lines.{IsOwn}
use Rattle.lower_link.specs.Follows.{Followed}

pub asks_nothing : {I : Type 0} (P : Program) (words : List ℕ) (blocks : List (ℕ × ℕ)) (route_to : ℕ → List (List ℕ × Bool)) (run : Standing I) (loads : Loads) →
    Followed P words blocks route_to run loads → (state_in run).halted ≡ false → (c : ℕ) → op_under (state_in run) ≡ Some (Input c) → ⊥
asks_nothing P words blocks route_to run loads follows running c is = subst IsOwn is (follows.keeps running)
