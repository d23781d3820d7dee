-- Whole runs of events.
use Rattle.std.specs.Prelude.{Some, None, ◌≡◌, ℕ, zero, suc, ◌+◌, ◌<◌, ◌≤◌, List, [], ◌∷◌, true, false, is_some, length}
use Rattle.std.proofs.Common.{refl, sym, ◌∙◌, ap, arith, zero-add}
use Rattle.std.proofs.lemmas.List.{length-replicate}
use Rattle.two_d.specs.Programs.{Program, main_of, box_count}
use Rattle.two_d.specs.Meaning.{Meaning, Outcome, Answers, mean, no_inputs, summary_of, look_of, firings_of, instances_of, sum_below}
use Rattle.two_d.specs.Steps.{Event, Fire, End, Table, is_ready, step, start, after, EachReady, fires_in, ends_in, fired, is_live, instance_at}
use Rattle.two_d.proofs.Depth.{mean-more}
use Rattle.two_d.proofs.State.{one_if, live_within, Sound, IsStarted, Means}
use Rattle.two_d.proofs.Changes.{sound-more}
use Rattle.two_d.proofs.Firing.{sound-fire, none_of}
use Rattle.std.proofs.lemmas.Option.{same_Some}
use Rattle.std.proofs.lemmas.Bool.{false_from_ne_true}
use Rattle.two_d.proofs.Options.{some_from}
use Rattle.two_d.proofs.Ending.{sound-end}
use Rattle.two_d.proofs.Counts.{IsCounted, counted-fire, counted-end, total_of, left_of, left_of-begun, meaning_of-known, means_more, total_of-none, total_of-at, left_of-dead}

pub sound-step : (P : Program) (n : ℕ) (T : Table) → Sound P (mean P n) T → (e : Event) → is_ready P T e ≡ true → Sound P (mean P (suc n)) (step P T e)
unfolding mean
sound-step P n T sound (Fire i b) ready = sound-more P (mean P n) (mean P (suc n)) (mean-more P n) _ (sound-fire P (mean P n) T sound i b ready)
sound-step P n T sound (End i) ready = sound-end P (mean P n) (mean P (suc n)) T sound i ready (mean-more P n) (λ r e. e)

pub sound-start : (P : Program) (answer : Answers) → Sound P answer (start P)
sound-start P answer = record {
  root = record { there = omega arith; kind = refl; inputs = refl; others = λ i up lt. absurd (omega arith) };
  sized = sized;
  fires = λ i b c e. absurd (let q : None ≡ Some c = sym (blank i b) ∙ e in cc);
  starts = starts;
  ends = ends;
}
  where
    sized : (i : ℕ) → i < length (start P) → length (instance_at (start P) i).cells ≡ box_count P (instance_at (start P) i).kind
    sized zero lt = length-replicate (box_count P (main_of P)) None
    sized (suc i) lt = absurd (omega arith)

    blank : (i b : ℕ) → fired (instance_at (start P) i) b ≡ None
    blank zero b = none_of (box_count P (main_of P)) b
    blank (suc i) b = refl

    starts : (h i b : ℕ) → is_live (instance_at (start P) h) ≡ true → (instance_at (start P) h).parent ≡ Some (i, b) → IsStarted P answer (start P) h i b
    starts zero i b live e = absurd (cc)
    starts (suc h) i b live e = absurd (cc)

    ends : (i : ℕ) (o : Outcome) → i < length (start P) → (instance_at (start P) i).outcome ≡ Some o → Means answer (instance_at (start P) i) o
    ends zero o lt e = absurd (cc)
    ends (suc i) o lt e = absurd (omega arith)

-- after k events, uses nested less than k deep tell all
pub sound-run : (P : Program) (n : ℕ) (T : Table) (events : List Event) → Sound P (mean P n) T → EachReady P T events →
    Sound P (mean P (length events + n)) (after P T events)
sound-run P n T [] sound ready = rw zero-add sound
sound-run P n T (e ∷ events) sound ready =
    let s = sound-run P (suc n) (step P T e) events (sound-step P n T sound e ready.0) ready.1 in
    let same : length events + suc n ≡ suc (length events) + n = omega arith in
    rw same at s

-- a run that ends instance 0 ends it with the outcome that the program has
pub run_means : (P : Program) (events : List Event) → EachReady P (start P) events → (o : Outcome) →
    (instance_at (after P (start P) events) 0).outcome ≡ Some o →
    (n : ℕ) × (r : Meaning) × (mean P n (main_of P) no_inputs ≡ Some r) × (r.outcome ≡ o)
run_means P events ready o e =
    let s = sound-run P 0 (start P) events (sound-start P (mean P 0)) ready in
    let m = s.ends 0 o s.root.there e in
    (length events + 0, m.meaning, (rw (s.root.kind, s.root.inputs) at m.answered), m.same)

pub counted-run : (P : Program) (n : ℕ) (r : Meaning) (T : Table) (f d : ℕ) → IsCounted P n r T f d → (events : List Event) → EachReady P T events →
    IsCounted P n r (after P T events) (fires_in events + f) (ends_in events + d)
counted-run P n r T f d counted [] ready = rw (zero-add f, zero-add d) counted
counted-run P n r T f d counted (Fire i b ∷ events) ready =
    let s = counted-run P n r (step P T (Fire i b)) (suc f) d (counted-fire P n r T f d counted i b ready.0) events ready.1 in
    let same : fires_in events + suc f ≡ suc (fires_in events) + f = omega arith in
    rw same at s
counted-run P n r T f d counted (End i ∷ events) ready =
    let s = counted-run P n r (step P T (End i)) f (suc d) (counted-end P n r T f d counted i ready.0) events ready.1 in
    let same : ends_in events + suc d ≡ suc (ends_in events) + d = omega arith in
    rw same at s

pub counted-start : (P : Program) (n : ℕ) (r : Meaning) → mean P n (main_of P) no_inputs ≡ Some r → IsCounted P n r (start P) 0 0
unfolding total_of sum_below
counted-start P n r e =
    let (s, is, more) = means_more P n (main_of P) no_inputs (rw e refl) in
    let sums = (meaning_of-known P (mean P n) (main_of P) no_inputs s more).1 in
    let same : r ≡ summary_of P (mean P n) (main_of P) (look_of P (mean P n) (main_of P) no_inputs) = same_Some r s (sym e ∙ is) ∙ sums in
    let newF = left_of-begun P (mean P n) (firings_of (mean P n)) (main_of P) None no_inputs in
    let newI = left_of-begun P (mean P n) (instances_of (mean P n)) (main_of P) None no_inputs in
    let sameF = ap (λ (t : Meaning). t.firings) same in
    let sameI = ap (λ (t : Meaning). t.instances) same in
    record {
      sound = sound-start P (mean P n);
      meant = record { at = meant };
      firings = omega (arith, newF, sameF);
      instances = omega (arith, newI, sameI);
      endings = omega arith;
    }
  where
    meant : (i : ℕ) → i < length (start P) → is_some (mean P n (instance_at (start P) i).kind (instance_at (start P) i).inputs) ≡ true
    meant zero lt = rw e refl
    meant (suc i) lt = absurd (omega arith)

-- where instance 0 has ended, all have
pub live_root : (P : Program) (answer : Answers) (T : Table) → Sound P answer T → (bound i : ℕ) → i ≤ bound → is_live (instance_at T i) ≡ true →
    is_live (instance_at T 0) ≡ true
live_root P answer T sound bound zero le live = live
live_root P answer T sound zero (suc i) le live = absurd (omega arith)
live_root P answer T sound (suc bound) (suc i) le live =
    let (p, is) = some_from (instance_at T (suc i)).parent (sound.root.others (suc i) (omega arith) (live_within T (suc i) live)) in
    let s = sound.starts (suc i) p.0 p.1 live is in
    live_root P answer T sound bound p.0 (omega (arith, s.later, le)) s.live

pub length-events : (events : List Event) → length events ≡ fires_in events + ends_in events
length-events [] = refl
length-events (Fire i b ∷ events) = omega (arith, length-events events)
length-events (End i ∷ events) = omega (arith, length-events events)

-- a run that ends instance 0 has the firings and the instances that the program means
pub run_counts : (P : Program) (n : ℕ) (r : Meaning) → mean P n (main_of P) no_inputs ≡ Some r → (events : List Event) → EachReady P (start P) events →
    is_live (instance_at (after P (start P) events) 0) ≡ false →
    (fires_in events ≡ r.firings) × (length (after P (start P) events) ≡ r.instances) × (length events ≡ r.firings + r.instances)
run_counts P n r e events ready down =
    let c = counted-run P n r (start P) 0 0 (counted-start P n r e) events ready in
    let T = after P (start P) events in
    let dead : (i : ℕ) → is_live (instance_at T i) ≡ false = λ i. false_from_ne_true _ (λ up.
    let q : true ≡ false = sym (live_root P (mean P n) T c.sound i i (omega arith) up) ∙ down in cc) in
    let noneF = total_of-none (left_of P (mean P n) (firings_of (mean P n))) T (λ i lt. left_of-dead P (mean P n) _ _ (dead i)) in
    let noneI = total_of-none (left_of P (mean P n) (instances_of (mean P n))) T (λ i lt. left_of-dead P (mean P n) _ _ (dead i)) in
    let noneL = total_of-none (λ x. one_if (is_live x)) T (λ i lt. rw (dead i) refl) in
    let firings : fires_in events ≡ r.firings = omega (arith, c.firings, noneF) in
    let instances : length T ≡ r.instances = omega (arith, c.instances, noneI) in
    (firings, instances, omega (arith, firings, instances, c.endings, noneL, length-events events))

-- a run that goes on is shorter
pub run_shorter : (P : Program) (n : ℕ) (r : Meaning) → mean P n (main_of P) no_inputs ≡ Some r → (events : List Event) → EachReady P (start P) events →
    is_live (instance_at (after P (start P) events) 0) ≡ true → length events < r.firings + r.instances
run_shorter P n r e events ready up =
    let c = counted-run P n r (start P) 0 0 (counted-start P n r e) events ready in
    let T = after P (start P) events in
    let one = total_of-at (λ x. one_if (is_live x)) T 0 c.sound.root.there in
    let here : one_if (is_live (instance_at T 0)) ≡ 1 = rw up refl in
    omega (arith, c.firings, c.instances, c.endings, one, here, length-events events)
