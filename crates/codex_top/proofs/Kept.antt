-- A run that counted the bytes that it took, over a sink that has received something, is such a run from the start.
use Rattle.std.proofs.Common.{◌≡◌, ◌≢◌, ◌⊎◌, ◌+◌, ◌≤◌, ℕ, List, [], Some, refl, sym, ap, ◌∙◌, subst, inl, inr, arith}
use Rattle.umix_base.specs.Causes.{Rose, KeepsTelling}
use Rattle.um_word.specs.State.{State}
use Rattle.um_machine.specs.declared.stop.Stop.{Stop}
use Rattle.um_machine.specs.declared.stop.Stop.TheVariants.{Halted, Budget, ReadFault, WriteFault}
use Rattle.um_machine.specs.MachineView.{MachineView, IsWhole, state_of, machine_of}
use Rattle.um_machine.specs.Outside.{MayRest}
use Rattle.um_machine.specs.Runs.{Seen, GoesFromTo, RunEnds}
use Rattle.um_machine.specs.WholeRuns.{RunsTo, RunsAlone}
use Rattle.um_machine.proofs.Alone.{runs_are_alone}
use Rattle.um_machine.proofs.Rests.{some_rest, some_held}
use Rattle.um_image.specs.Counting.{TakesBytes}
use Rattle.um_image.specs.Image.{CanBeSaved, HasImage}
use Rattle.um_image.specs.Laws.{IsSavedEnd}
use Rattle.codex_top.specs.Limits.{limits, most_made}
use Rattle.codex_top.specs.Outside.{Streams}
use Rattle.codex_top.specs.RunCommand.{ScrollRuns}
use Rattle.codex_top.specs.SaveCommand.{ScrollSaved}
use Rattle.codex_top.proofs.FromTheStart.{wrote_behind}

pub is_saved : (stop : Stop) → (stop ≡ Halted) ⊎ (stop ≡ Budget) → IsSavedEnd stop
is_saved stop (inl e) = subst IsSavedEnd (sym e) tt
is_saved stop (inr e) = subst IsSavedEnd (sym e) tt

pub not_saved : (stop : Stop) → stop ≢ Halted → stop ≢ Budget → IsSavedEnd stop → ⊥
not_saved Halted halted budget saved = halted refl
not_saved Budget halted budget saved = budget refl
not_saved stop halted budget saved = saved

-- such a run, as it is from a state in which nothing was written
record CountedAlone (n : ℕ) (before now : Seen) (left : List ℕ) (stop : Stop) (taken : ℕ) : Type 0 where
  alone : RunsAlone n before now left stop
  takes : TakesBytes (state_of before.machine alone.rest []) (state_of now.machine left alone.out) taken

counted_alone : (n : ℕ) (before now : Seen) (left : List ℕ) (stop : Stop) (taken : ℕ) → KeepsTelling before.output now.output → MayRest now.input left →
    GoesFromTo before now (λ s t. RunEnds n before.machine now.machine s t stop × TakesBytes s t taken) → CountedAlone n before now left stop taken
counted_alone n before now left stop taken tells may leads =
    let took = leads left may in
    let held = some_held before.output in
    let counts = (took.sends held.0 held.1).call.1 in
    let was : Seen = record { machine = before.machine; input = Some took.rest; output = before.output } in
    let is_now : Seen = record { machine = now.machine; input = Some left; output = now.output } in
    let runs : RunsTo n was is_now stop = λ rest same. record {
      rest = took.rest;
      may = refl;
      sends = λ h m. let sent = took.sends h m in record {
        out = sent.out;
        may = sent.may;
        call = subst (λ r. RunEnds n before.machine now.machine (state_of before.machine took.rest h) (state_of now.machine r sent.out) stop) same sent.call.0;
      };
    } in
    let a = runs_are_alone n was is_now left stop tells refl runs in
    record {
      alone = record { rest = a.rest; may = subst (λ r. MayRest before.input r) a.may took.may; out = a.out; ends = a.ends; wrote = a.wrote };
      takes = record { gone = counts.gone; split = sym a.may ∙ counts.split; given = counts.given };
    }

module _ (words : List ℕ) (cycles taken : ℕ) (m new : MachineView) (before now : Streams) (stop : Stop) (is : m ≡ machine_of words limits)
    (leads : GoesFromTo (record { machine = m; input = before.input.bytes; output = before.output.bytes })
    (record { machine = new; input = now.input.bytes; output = now.output.bytes }) (λ s t. RunEnds cycles m new s t stop × TakesBytes s t taken))
    (tells : KeepsTelling before.output.bytes now.output.bytes) where
  left : (rest : List ℕ) × MayRest now.input.bytes rest
  left = some_rest now.input.bytes

  counted : CountedAlone cycles (record { machine = m; input = before.input.bytes; output = before.output.bytes })
      (record { machine = new; input = now.input.bytes; output = now.output.bytes }) left.0 stop taken
  counted = counted_alone cycles _ _ left.0 stop taken tells left.1 leads

  -- the machine of a run that halted or made all its cycles
  pub kept : IsSavedEnd stop → new.limits ≡ m.limits → new.cycles ≤ m.cycles + cycles → m.cycles + taken ≤ new.cycles → cycles ≤ most_made →
      IsWhole new → ScrollSaved words cycles before now new taken
  kept own same most fewer few whole =
      let start : m.cycles ≡ 0 = ap (λ (v : MachineView). v.cycles) is in
      let of_words : new.limits ≡ limits = same ∙ ap (λ (v : MachineView). v.limits) is in
      let saved : CanBeSaved new taken = record {
        limits = of_words;
        cycles = omega (arith, start, most, few);
        counted = omega (arith, start, fewer);
      } in
      let x = counted.alone in
      record {
        input = x.rest;
        had = x.may;
        rest = left.0;
        out = x.out;
        run = record {
          stop = stop;
          own = own;
          run = subst (λ c. RunEnds cycles c new (state_of c x.rest []) (state_of new left.0 x.out) stop) is x.ends;
          takes = subst (λ c. TakesBytes (state_of c x.rest []) (state_of new left.0 x.out) taken) is counted.takes;
          limits = of_words;
          image = record { saved = saved; whole = whole };
        };
        left = left.1;
        wrote = wrote_behind before.output.bytes now.output.bytes x.out tells x.wrote;
      }

  -- and that of any run
  pub stopped_so : (stop ≡ ReadFault → Rose before.input.faults now.input.faults) → (stop ≡ WriteFault → Rose before.output.faults now.output.faults) →
      (t : State) × (new.cycles ≡ t.cycles) × ScrollRuns words cycles before now t stop
  stopped_so reads writes =
      let x = counted.alone in
      let t : State = state_of new left.0 x.out in (
        t,
        refl,
        record {
          input = x.rest;
          had = x.may;
          machine = new;
          stops = subst (λ c. RunEnds cycles c new (state_of c x.rest []) t stop) is x.ends;
          left = left.1;
          wrote = wrote_behind before.output.bytes now.output.bytes x.out tells x.wrote;
          reads = reads;
          writes = writes;
        },
      )
