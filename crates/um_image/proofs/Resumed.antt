-- Saved runs that are resumed go on.
use Rattle.std.proofs.Common.{◌≡◌, ℕ, ◌+◌, ◌<◌, List, [], ◌∷◌, ◌++◌, length, drop, All, refl, sym, ap, subst, ◌∙◌, arith}
use Rattle.std.specs.Prelude.{nat_lt, if◌then◌else◌}
use Rattle.std.specs.List.{AllByRecursion}
use Rattle.std.proofs.lemmas.List.{append_assoc, append-nil, drop_at}
use Rattle.std.proofs.lemmas.List.Elements.{recursion_from_All}
use Rattle.um_word.specs.State.{State}
use Rattle.um_word.specs.Table.{Fault}
use Rattle.um_word.specs.Run.{Standing, Stands, Failed}
use Rattle.um_word.specs.Rule.{Identifiers, next_identifier, identifiers_left, ruled}
use Rattle.um_word.specs.EveryRun.{written_first, standing_behind}
use Rattle.um_word.proofs.Outputs.{outputs_are_behind, rule_is_blind}
use Rattle.um_machine.specs.declared.stop.Stop.{Stop}
use Rattle.um_machine.specs.declared.stop.Stop.TheVariants.{Halted, Budget, ReadFault, WriteFault, Memory}
use Rattle.um_machine.specs.MachineView.{MachineView, state_of}
use Rattle.um_machine.specs.Stops.{stop_of}
use Rattle.um_machine.specs.Runs.{EndsAs, RunEnds}
use Rattle.um_machine.proofs.Joined.{later}
use Rattle.um_image.specs.Counting.{bytes_in}
use Rattle.um_image.specs.Laws.{IsSavedEnd, IsOwnEnd, SavedRun, ResumedRunsGoOn, ResumedRunsJoin}
use Rattle.um_image.proofs.Both.{images_tell_apart}
use Rattle.um_image.proofs.Paced.{bytes_took_cycles, run_paced}
use Rattle.um_image.proofs.Taking.{bytes_in-append, not_budget, not_halted}

-- a run that ended without a fault stands there
stands_sound : (x : Standing Identifiers) (new : MachineView) (t : State) (stop : Stop) → ((fault : Fault) → stop ≡ stop_of fault → ⊥) → EndsAs x new t stop → x ≡ Stands t new.identifiers
stands_sound (Stands u i) new t stop sound e = ap (λ s. Stands s i) e.0 ∙ ap (Stands t) e.1
stands_sound (Failed u i fault) new t stop sound e = absurd (sound fault e.2)

pub saved_stands : (n : ℕ) (first saved : MachineView) (s t : State) (end : Stop) → IsSavedEnd end → RunEnds n first saved s t end →
    ruled first.limits n first.identifiers s ≡ Stands t saved.identifiers
saved_stands n first saved s t Halted is e = stands_sound (ruled first.limits n first.identifiers s) saved t Halted not_halted e
saved_stands n first saved s t Budget is e = stands_sound (ruled first.limits n first.identifiers s) saved t Budget not_budget e
saved_stands n first saved s t end is e = absurd is

as_behind : (h : List ℕ) (x : Standing Identifiers) (new : MachineView) (t : State) (stop : Stop) → EndsAs x new t stop → EndsAs (standing_behind h x) new (written_first h t) stop
as_behind h (Stands u i) new t stop e = (ap (written_first h) e.0, e.1, e.2)
as_behind h (Failed u i fault) new t stop e = (ap (written_first h) e.0, e.1, e.2)

-- a run behind what was written before
run_behind : (h : List ℕ) (m : ℕ) (old new : MachineView) (s t : State) (stop : Stop) → IsOwnEnd stop → RunEnds m old new s t stop →
    RunEnds m old new (written_first h s) (written_first h t) stop
run_behind h m old new s t ReadFault own e = absurd own
run_behind h m old new s t WriteFault own e = absurd own
run_behind h m old new s t Memory own e = absurd own
run_behind h m old new s t stop own e =
    subst (λ x. EndsAs x new (written_first h t) stop) (sym (outputs_are_behind next_identifier identifiers_left rule_is_blind h old.limits m old.identifiers s))
    (as_behind h (ruled old.limits m old.identifiers s) new t stop e)

-- bytes are all counted
byte_counts : (x : ℕ) → x < 256 → ◌≡◌ {A = ℕ} (if nat_lt x 256 then 1 else 0) 1
byte_counts x h = grind arith

all_counted : (gone left : List ℕ) → AllByRecursion (λ byte. byte < 256) (gone ++ left) → bytes_in gone ≡ length gone
all_counted [] left h = refl
all_counted (x ∷ gone) left h = let a = byte_counts x h.0 in let b = all_counted gone left h.1 in omega (arith, a, b)

-- what a saved run left is its input without as many bytes as it took
left_by_saved : (n taken : ℕ) (first saved : MachineView) (input left out : List ℕ) → All (λ byte. byte < 256) input →
    SavedRun n first saved input left out taken → drop taken input ≡ left
left_by_saved n taken first saved input left out bytes run =
    let takes = run.takes in
    let split : input ≡ takes.gone ++ left = takes.split in
    let all = subst (AllByRecursion (λ byte. byte < 256)) split (recursion_from_All (λ byte. byte < 256) input bytes) in
    let given = takes.given in
    let many : length takes.gone ≡ taken = (let a = all_counted takes.gone left all in omega (arith, a, given)) in
    ap (drop taken) split ∙ drop_at takes.gone left taken many

pub resumed_runs_go_on : ResumedRunsGoOn
resumed_runs_go_on n m taken count first saved read now input left out rest more stop bytes run told image onward own =
    let one = images_tell_apart read saved count taken told run.image image in
    let where_left : drop count input ≡ left = ap (λ k. drop k input) one.1 ∙ left_by_saved n taken first saved input left out bytes run in
    let resumed : RunEnds m saved now (state_of saved left []) (state_of now rest more) stop =
    subst (λ r. RunEnds m saved now (state_of saved r []) (state_of now rest more) stop) where_left
    (subst (λ v. RunEnds m v now (state_of v (drop count input) []) (state_of now rest more) stop) one.0 onward) in
    let behind : RunEnds m saved now (state_of saved left (out ++ [])) (state_of now rest (out ++ more)) stop =
    run_behind out m saved now (state_of saved left []) (state_of now rest more) stop own resumed in
    let there : RunEnds m saved now (state_of saved left out) (state_of now rest (out ++ more)) stop =
    subst (λ o. RunEnds m saved now (state_of saved left o) (state_of now rest (out ++ more)) stop) (append-nil out) behind in
    later n m first saved now run.limits (state_of first input []) (state_of saved left out) (state_of now rest (out ++ more))
    (saved_stands n first saved (state_of first input []) (state_of saved left out) run.stop run.own run.run) stop there

saved_is_own : (stop : Stop) → IsSavedEnd stop → IsOwnEnd stop
saved_is_own Halted is = tt
saved_is_own Budget is = tt
saved_is_own stop is = absurd is

pub resumed_runs_join : ResumedRunsJoin
resumed_runs_join n m taken count given first saved read now input left out rest more bytes run told image onward =
    let one = images_tell_apart read saved count taken told run.image image in
    let where_left : drop count input ≡ left = ap (λ k. drop k input) one.1 ∙ left_by_saved n taken first saved input left out bytes run in
    let before = run.takes in
    let after = onward.takes in
    let s : State = state_of read (drop count input) [] in
    let t : State = state_of now rest more in
    let more_cycles = bytes_took_cycles s t given
    (run_paced read.limits m read.identifiers s t now.identifiers (saved_stands m read now s t onward.stop onward.own onward.run)) after in
    let had = told.saved.counted in
    let a = before.given in
    let b = after.given in
    let same = one.1 in
    record {
      stop = onward.stop;
      own = onward.own;
      run = resumed_runs_go_on n m taken count first saved read now input left out rest more onward.stop bytes run told image onward.run
          (saved_is_own onward.stop onward.own);
      takes = record {
        gone = before.gone ++ after.gone;
        split = before.split ∙ ap (λ xs. before.gone ++ xs) (sym where_left ∙ after.split) ∙ sym (append_assoc before.gone after.gone rest);
        given = (let c = bytes_in-append before.gone after.gone in omega (arith, a, b, c, same));
      };
      limits = onward.limits ∙ ap (λ (v : MachineView). v.limits) one.0 ∙ run.limits;
      image = record {
        saved = record {
          limits = onward.image.saved.limits;
          cycles = onward.image.saved.cycles;
          counted = omega (arith, more_cycles, had);
        };
        whole = onward.image.whole;
      };
    }
