-- A run over a sink that has received something is the run of a state in which nothing was written, and its
-- bytes went out behind.
use Rattle.std.proofs.Common.{◌≡◌, ℕ, List, [], ◌++◌, Option, Some, None, refl, sym, ap, ◌∙◌, subst, inl, inr}
use Rattle.std.proofs.lemmas.List.{append-nil}
use Rattle.umix_base.specs.Causes.{KeepsTelling}
use Rattle.um_word.specs.State.{State}
use Rattle.um_word.specs.Table.{Next, Goes, Stops, cycle, op_under}
use Rattle.um_word.specs.Run.{Standing, Stands, Failed}
use Rattle.um_word.specs.Rule.{Identifiers, next_identifier, identifiers_left, ruled}
use Rattle.um_word.specs.EveryRun.{written_first, standing_behind}
use Rattle.um_word.proofs.Outputs.{next_behind, cycle_behind, outputs_are_behind, rule_is_blind}
use Rattle.um_machine.specs.declared.stop.Stop.{Stop}
use Rattle.um_machine.specs.declared.stop.Stop.TheVariants.{ReadFault, WriteFault, Memory}
use Rattle.um_machine.specs.MachineView.{MachineView, state_of}
use Rattle.um_machine.specs.Outside.{MayHold}
use Rattle.um_machine.specs.Stops.{unfailed_end, MayFail}
use Rattle.um_machine.specs.Runs.{EndsAs, Remains, EndsEarly, RunEnds}
use Rattle.um_machine.specs.WholeRuns.{RunsAreAlone}
use Rattle.um_machine.proofs.Rests.{some_held}

standing_back : (h : List ℕ) (x : Standing Identifiers) (t : State) (i : Identifiers) → standing_behind h x ≡ Stands t i →
    (u : State) × (x ≡ Stands u i) × (t ≡ written_first h u)
standing_back h (Stands u j) t i e =
    let same : j ≡ i = cc in
    let at : t ≡ written_first h u = cc in
    (u, ap (Stands u) same, at)
standing_back h (Failed u j fault) t i e = absurd (let f : standing_behind h (Failed u j fault) ≡ Stands t i = e in cc)

next_back : (h : List ℕ) (r : Next) (t : State) → next_behind h r ≡ Goes t → (v : State) × (r ≡ Goes v) × (t ≡ written_first h v)
next_back h (Goes v) t e = let at : t ≡ written_first h v = cc in (v, refl, at)
next_back h (Stops fault) t e = absurd (let f : next_behind h (Stops fault) ≡ Goes t = e in cc)

as_back : (h : List ℕ) (x : Standing Identifiers) (new : MachineView) (t : State) (stop : Stop) → EndsAs (standing_behind h x) new t stop →
    (u : State) × (t ≡ written_first h u) × EndsAs x new u stop
as_back h (Stands u i) new t stop e = (u, sym e.0, (refl, e.1, e.2 ∙ ap (λ (s : State). unfailed_end s.halted) (sym e.0)))
as_back h (Failed u i fault) new t stop e = (u, sym e.0, (refl, e.1, e.2))

module _ (h : List ℕ) (n : ℕ) (old new : MachineView) (s : State) where
  alike : (k : ℕ) → ruled old.limits k old.identifiers (written_first h s) ≡ standing_behind h (ruled old.limits k old.identifiers s)
  alike k = outputs_are_behind next_identifier identifiers_left rule_is_blind h old.limits k old.identifiers s

  remains_back : (stop : Stop) (u v t : State) → Remains stop (written_first h u) (written_first h v) t → (w : State) × (t ≡ written_first h w) × Remains stop u v w
  remains_back WriteFault u v t r = elim r [ inl e ↦ (u, e, inl refl) | inr e ↦ (record u { out = v.out }, e, inr refl) ]
  remains_back _ u v t r = (u, r, refl)

  early_back : (stop : Stop) (t : State) → EndsEarly n old new (written_first h s) t stop → (w : State) × (t ≡ written_first h w) × EndsEarly n old new s w stop
  early_back stop t e =
      let x = standing_back h (ruled old.limits e.made old.identifiers s) e.at new.identifiers (sym (alike e.made) ∙ e.stands) in
      let y = next_back h (cycle x.0 old.limits (next_identifier new.identifiers)) e.next
      (sym (cycle_behind h x.0 old.limits (next_identifier new.identifiers)) ∙ ap (λ a. cycle a old.limits (next_identifier new.identifiers)) (sym x.2) ∙ e.goes) in
      let r = remains_back stop x.0 y.0 t (subst (λ a. Remains stop a (written_first h y.0) t) x.2 (subst (λ b. Remains stop e.at b t) y.2 e.remains)) in (
        r.0,
        r.1,
        record {
          made = e.made;
          fewer = e.fewer;
          at = x.0;
          stands = x.1;
          running = ap (λ (a : State). a.halted) (sym x.2) ∙ e.running;
          fails = subst (λ a. MayFail (op_under a) stop) x.2 e.fails;
          next = y.0;
          goes = y.1;
          remains = r.2;
        },
      )

  back : (stop : Stop) (t : State) → RunEnds n old new (written_first h s) t stop → (w : State) × (t ≡ written_first h w) × RunEnds n old new s w stop
  back ReadFault t e = early_back ReadFault t e
  back WriteFault t e = early_back WriteFault t e
  back Memory t e = early_back Memory t e
  back stop t e = as_back h (ruled old.limits n old.identifiers s) new t stop (subst (λ x. EndsAs x new t stop) (alike n) e)

-- what went out stands behind whatever was written before
wrote_behind : (before now : Option (List ℕ)) (h all bytes : List ℕ) → KeepsTelling before now → MayHold before h → MayHold now all → all ≡ h ++ bytes →
    (held : List ℕ) → MayHold before held → MayHold now (held ++ bytes)
wrote_behind None None h all bytes k a b e held c = tt
wrote_behind None (Some x) h all bytes k a b e held c = cc
wrote_behind (Some y) None h all bytes k a b e held c = tt
wrote_behind (Some y) (Some x) h all bytes k a b e held c = b ∙ e ∙ ap (λ z. z ++ bytes) (sym a ∙ c)

pub runs_are_alone : RunsAreAlone
runs_are_alone n before now left stop tells may run =
    let took = run left may in
    let held = some_held before.output in
    let sent = took.sends held.0 held.1 in
    let s : State = state_of before.machine took.rest [] in
    let t : State = state_of now.machine left sent.out in
    let begins : state_of before.machine took.rest held.0 ≡ written_first held.0 s =
    ap (λ bytes. state_of before.machine took.rest bytes) (sym (append-nil held.0)) in
    let w = back held.0 n before.machine now.machine s stop t
    (subst (λ a. RunEnds n before.machine now.machine a t stop) begins sent.call) in
    let at : w.0 ≡ state_of now.machine left w.0.out = λ i. record (sym w.1 i) { out = w.0.out } in
    record {
      rest = took.rest;
      may = took.may;
      out = w.0.out;
      ends = subst (λ a. RunEnds n before.machine now.machine s a stop) at w.2;
      wrote = wrote_behind before.output now.output held.0 sent.out w.0.out tells held.1 sent.may (ap (λ (a : State). a.out) w.1);
    }
