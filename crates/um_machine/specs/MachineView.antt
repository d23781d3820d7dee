-- The machine as its contracts see it.
use Rattle.std.specs.Prelude.{ℕ, ◌^◌, ◌<◌, ◌≤◌, Bool, false, List, replicate, refl}
use Rattle.std.specs.Coded.{Coded, code_by, coded×, coded_ℕ, coded_list, coded_bool}
use Rattle.std.specs.FinMap as map
use Rattle.umix_base.specs.declared.limits.Limits.{Limits}
use Rattle.array_store.specs.StoreView.{most_live_arrays, most_live_words}
use Rattle.um_word.specs.State.{Arrays, State, IsWellFormed}
use Rattle.um_word.specs.Rule.{Identifiers, IsOrderly, none_made}

-- a state without the bytes of its input and its output, with the identifiers and the limits of its run
pub record MachineView : Type 0 where
  pub registers : List ℕ
  pub finger : ℕ
  pub arrays : Arrays
  pub identifiers : Identifiers
  pub limits : Limits
  pub cycles : ℕ
  pub halted : Bool

-- the state of a machine with this rest of the input and this output
abbrev pub state_of : MachineView → List ℕ → List ℕ → State
state_of m rest out = record {
  registers = m.registers;
  finger = m.finger;
  arrays = m.arrays;
  rest = rest;
  out = out;
  cycles = m.cycles;
  halted = m.halted;
}

-- the arrays at the start: array 0 alone
abbrev pub zero_array : List ℕ → Arrays
zero_array words = map.insert map.empty 0 words

-- the machine with which the run of these words begins
abbrev pub machine_of : List ℕ → Limits → MachineView
machine_of words limits = record {
  registers = replicate 8 0;
  finger = 0;
  arrays = zero_array words;
  identifiers = none_made;
  limits = limits;
  cycles = 0;
  halted = false;
}

abbrev pub machine_code : Coded MachineView
machine_code =
    code_by (List ℕ × (ℕ × (Arrays × ((ℕ × List ℕ) × ((ℕ × ℕ) × (ℕ × Bool))))))
    (coded× (coded_list coded_ℕ) (coded×
    coded_ℕ (coded× (map.code coded_ℕ (coded_list coded_ℕ))
    (coded× (coded× coded_ℕ (coded_list coded_ℕ))
    (coded× (coded× coded_ℕ coded_ℕ) (coded× coded_ℕ coded_bool))))))
    (λ m. (
      m.registers,
      (
        m.finger,
        (
          m.arrays,
          (
            (m.identifiers.made, m.identifiers.abandoned),
            ((m.limits.arrays, m.limits.words), (m.cycles, m.halted)),
          ),
        ),
      ),
    ))
    (λ p. record {
      registers = p.0;
      finger = p.1.0;
      arrays = p.1.1.0;
      identifiers = record { made = p.1.1.1.0.0; abandoned = p.1.1.1.0.1 };
      limits = record { arrays = p.1.1.1.1.0.0; words = p.1.1.1.1.0.1 };
      cycles = p.1.1.1.1.1.0;
      halted = p.1.1.1.1.1.1;
    })
    (λ _. refl)

-- What is true of every machine: its state is well formed, its finger has 32 bits, and its identifiers and
-- arrays are those of the rule, within limits that are at most the greatest.
pub record IsWhole (m : MachineView) : Type 0 where
  pub well_formed : (rest out : List ℕ) → IsWellFormed (state_of m rest out)
  pub finger : m.finger < 2 ^ 32
  pub orderly : IsOrderly m.limits m.identifiers m.arrays
  pub arrays_limit : m.limits.arrays ≤ most_live_arrays
  pub words_limit : m.limits.words ≤ most_live_words
