-- Where a call leads a machine.
use Rattle.std.proofs.Common.{◌≡◌, ℕ, List, ◌++◌, Option, refl}
use Rattle.std.specs.Prelude.{option_map}
use Rattle.um_word.specs.State.{State}
use Rattle.um_machine.specs.MachineView.{MachineView, state_of}
use Rattle.um_machine.specs.Runs.{Seen, Took, GoesFromTo}
use Rattle.um_machine.proofs.Bytes.{held_more}

-- a state stands where a machine stands
abbrev pub IsAt : MachineView → State → Type 0
IsAt m s = s ≡ state_of m s.rest s.out

pub placed : (before now : Seen) (Call : State → State → Type 0) → GoesFromTo before now Call →
    GoesFromTo before now (λ s t. Call s t × IsAt before.machine s × IsAt now.machine t)
placed before now Call call left may =
    let took : Took before now left Call = call left may in
    record {
      rest = took.rest;
      may = took.may;
      sends = λ held holds.
          let x = took.sends held holds in
          record { out = x.out; may = x.may; call = (x.call, refl, refl) };
    }

-- a call that does nothing
pub no_call : (x : Seen) (Call : State → State → Type 0) → ((rest out : List ℕ) → Call (state_of x.machine rest out) (state_of x.machine rest out)) → GoesFromTo x x Call
no_call x Call call left may = record {
  rest = left;
  may = may;
  sends = λ held holds. record { out = held; may = holds; call = call left held };
}

-- a state, and bytes behind what was written
abbrev pub IsBehind : List ℕ → State → State → Type 0
IsBehind bytes s t = t ≡ record s { out = s.out ++ bytes }

-- bytes went out
pub went_out : (m : MachineView) (input before now : Option (List ℕ)) (bytes : List ℕ) →
    now ≡ option_map (λ held. held ++ bytes) before →
    GoesFromTo (record { machine = m; input = input; output = before }) (record { machine = m; input = input; output = now }) (IsBehind bytes)
went_out m input before now bytes e left may = record {
  rest = left;
  may = may;
  sends = λ held holds. record { out = held ++ bytes; may = held_more now before held bytes holds e; call = refl };
}
