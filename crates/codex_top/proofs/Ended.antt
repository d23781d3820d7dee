-- How a call ends that asks for a job, and what its status tells of that.
use Rattle.std.proofs.Common.{◌≡◌, ◌⊎◌, ℕ, Bool, true, false, ap, List, Option, Some, None, refl, sym, ◌∙◌, subst, inl, inr}
use Rattle.std.specs.Prelude.{Ok, Err}
use Rattle.std.specs.FinMap as map
use Rattle.umix_base.specs.Causes.{Rose}
use Rattle.umix_base.specs.Files.{Lacks}
use Rattle.codex_top.specs.declared.line.Line.{Line}
use Rattle.codex_top.specs.declared.line.Line.TheVariants as line
use Rattle.codex_top.specs.declared.end.Finish.{Finish}
use Rattle.codex_top.specs.declared.end.Finish.TheVariants as finish
use Rattle.codex_top.specs.declared.status.Status.{Status}
use Rattle.codex_top.specs.declared.status.Status.TheVariants as status
use Rattle.codex_top.specs.Calls.{Call, IsOfCodex, Has, status_of_end}
use Rattle.codex_top.specs.Commands.{JobEnds, Ends}
use Rattle.codex_top.specs.Commands as commands
use Rattle.codex_top.specs.Endings.{End, IsTold, status_of_finish}
use Rattle.codex_top.specs.Endings as endings
use Rattle.codex_top.specs.Headline.{IsCutShort, Target}
use Rattle.codex_top.specs.Headline as headline
use Rattle.codex_top.specs.Lines.{status_of}
use Rattle.codex_top.specs.Outside.{Stream, Outside, MayHave}
use Rattle.codex_top.specs.Reading.{ReadAs}
use Rattle.codex_top.specs.Reading as reading
use Rattle.codex_top.specs.Words.{Job, Asks}
use Rattle.codex_top.proofs.OneJob.{one_job}

-- the status is that of the end, or the line couldn't be written
pub told_so : (before now : Stream) (end : End) (s : Status) → IsTold before now end s →
    (s ≡ status_of_end end) ⊎ ((s ≡ status.WriteFault) × Rose before.faults now.faults)
told_so before now _ _ (endings.silent finish same) = inl refl
told_so before now _ _ (endings.whole line received later) = inl refl
told_so before now _ _ (endings.cut line k le received rose) = inr (refl, rose)

pub told_finish : (before now : Stream) (f : Finish) (s : Status) → IsTold before now (Ok f) s →
    s ≡ status_of_finish f
told_finish before now f _ (endings.silent _ same) = refl

done_end : (end : End) → status_of_end end ≡ status.Done → end ≡ Ok finish.Done
done_end (Ok finish.Done) e = refl
done_end (Ok finish.Stuck) e = absurd (cc)
done_end (Err line.Usage) e = absurd (cc)
done_end (Err (line.Refused refusal)) e = absurd (cc)
done_end (Err (line.Fault stop cycle)) e = absurd (cc)
done_end (Err (line.Limited limit cycle)) e = absurd (cc)
done_end (Err (line.Budget count counted)) e = absurd (cc)
done_end (Err line.ReadFault) e = absurd (cc)
done_end (Err line.WriteFault) e = absurd (cc)
done_end (Err line.NoMemory) e = absurd (cc)

-- status Done tells that the end is
pub told_done : (before now : Stream) (end : End) (s : Status) → s ≡ status.Done →
    IsTold before now end s → end ≡ Ok finish.Done
told_done before now end s done told = elim (told_so before now end s told) [
  | inl e ↦ done_end end (sym e ∙ done)
  | inr e ↦ let clash : status.WriteFault ≡ status.Done = sym e.0 ∙ done in absurd (cc)
]

-- the statuses of ends without a line
abbrev is_finish : Status → Bool
is_finish status.Done = true
is_finish status.Stuck = true
is_finish _ = false

finish_status : (s : Status) → (s ≡ status.Done) ⊎ (s ≡ status.Stuck) → is_finish s ≡ true
finish_status s (inl e) = ap is_finish e
finish_status s (inr e) = ap is_finish e

no_finish : (l : Line) → is_finish (status_of l) ≡ false
no_finish line.Usage = refl
no_finish (line.Refused refusal) = refl
no_finish (line.Fault stop cycle) = refl
no_finish (line.Limited limit cycle) = refl
no_finish (line.Budget count counted) = refl
no_finish line.ReadFault = refl
no_finish line.WriteFault = refl
no_finish line.NoMemory = refl

-- status Done or Stuck tells that the end is without a line
pub told_end : (before now : Stream) (end : End) (s : Status) →
    (s ≡ status.Done) ⊎ (s ≡ status.Stuck) → IsTold before now end s → (f : Finish) × (end ≡ Ok f)
told_end before now _ _ so (endings.silent f same) = (f, refl)
told_end before now _ _ so (endings.whole l received later) =
    let clash : true ≡ false = sym (finish_status (status_of l) so) ∙ no_finish l in absurd (cc)
told_end before now _ _ so (endings.cut l k le received rose) =
    let clash : false ≡ true = finish_status status.WriteFault so in absurd (cc)

-- how a call ends that asks for the job: so, or there was no memory to read its words and nothing was touched
pub record Ended (job : Job) (c : Call) : Type 0 where
  pub end : End
  pub ends : JobEnds job c.before c.now end ⊎ ((end ≡ Err line.NoMemory) × (c.now ≡ c.before))
  pub told : IsTold c.err_before c.err_now end c.status

ended_so : (words : List (List ℕ)) (job : Job) (before now : Outside) (end : End) → Asks words job →
    Ends words before now end →
    JobEnds job before now end ⊎ ((end ≡ Err line.NoMemory) × (now ≡ before))
ended_so words job before now end asks (commands.worked other _ too ends) =
    inl (subst (λ j. JobEnds j before now end) (one_job words other job too asks) ends)
ended_so words job before now _ asks (commands.misused none same) = absurd (none job asks)
ended_so words job before now _ asks (commands.no_memory same) = inr (refl, same)

pub ended : (job : Job) (c : Call) → IsOfCodex c → Asks c.words job → Ended job c
ended job c call asks = record {
  end = call.does.end;
  ends = ended_so c.words job c.before c.now call.does.end asks call.does.ends;
  told = call.does.told;
}

-- the job of a call whose end is done
done_job : (words : List (List ℕ)) (before now : Outside) (end : End) → end ≡ Ok finish.Done →
    Ends words before now end →
    (job : Job) × Asks words job × JobEnds job before now (Ok finish.Done)
done_job words before now end done (commands.worked job _ asks ends) =
    (job, asks, subst (JobEnds job before now) done ends)
done_job words before now _ done (commands.misused none same) = absurd (cc)
done_job words before now _ done (commands.no_memory same) = absurd (cc)

-- a call with status Done did the job that its words ask for
pub done_call : (c : Call) → IsOfCodex c → c.status ≡ status.Done →
    (job : Job) × Asks c.words job × JobEnds job c.before c.now (Ok finish.Done)
done_call c call done = done_job c.words c.before c.now call.does.end
    (told_done c.err_before c.err_now call.does.end c.status done call.does.told) call.does.ends

-- an end by which a call was cut short
pub data IsCutEnd (target : Target) (c : Call) : End → Type 0 where
  no_memory : IsCutEnd target c (Err line.NoMemory)
  read_failed : Rose c.before.shelf.read_faults c.now.shelf.read_faults →
      IsCutEnd target c (Err line.ReadFault)
  write_failed : target ≡ headline.File →
      Rose c.before.shelf.write_faults c.now.shelf.write_faults →
      IsCutEnd target c (Err line.WriteFault)
  output_failed : target ≡ headline.Output →
      Rose c.before.streams.output.faults c.now.streams.output.faults →
      IsCutEnd target c (Err line.WriteFault)

pub cut_status : (target : Target) (c : Call) (end : End) (s : Status) → IsCutEnd target c end →
    IsTold c.err_before c.err_now end s → IsCutShort target c s
cut_status target c _ _ no_memory (endings.whole _ received later) = headline.no_memory
cut_status target c _ _ (read_failed rose) (endings.whole _ received later) =
    headline.read_failed rose
cut_status target c _ _ (write_failed is rose) (endings.whole _ received later) =
    headline.write_failed is rose
cut_status target c _ _ (output_failed is rose) (endings.whole _ received later) =
    headline.output_failed is rose
cut_status target c _ _ cut (endings.silent _ _) = elim cut [ ]
cut_status target c _ _ cut (endings.cut line k le received rose) = headline.err_failed rose

-- a shelf that tells its files has one content for each name
pub one_content : (o : Outside) (name xs ys : List ℕ) → Has name xs o →
    MayHave o.shelf.files name ys → ys ≡ xs
one_content o name xs ys has may =
    let e : map.get has.files name ≡ Some ys = subst (λ files. MayHave files name ys)
    has.shelf_tells may in
    let f : Some ys ≡ Some xs = sym e ∙ has.has in
    cc

module _ {A : Type 0} (Is : List ℕ → A → Type 0) (IsWrong : List ℕ → Line → Type 0)
    (file bytes : List ℕ) (o n : Outside) (has : Has file bytes o) where
  -- a file that is there is what its bytes are
  pub read_as : (it : A) → ReadAs Is IsWrong file o.shelf n.shelf (Ok it) → Is bytes it
  read_as it (reading.holds other _ may is) = subst (λ bs. Is bs it)
      (one_content o file bytes other has may) is

  -- and where nothing is wrong with them, it is read, but for a failed read or want of memory
  pub not_read : ((l : Line) → IsWrong bytes l → ⊥) → (l : Line) →
      ReadAs Is IsWrong file o.shelf n.shelf (Err l) →
      ((l ≡ line.ReadFault) × Rose o.shelf.read_faults n.shelf.read_faults) ⊎ (l ≡ line.NoMemory)
  not_read right l (reading.refused other _ may wrong) = absurd
      (right l (subst (λ bs. IsWrong bs l) (one_content o file bytes other has may) wrong))
  not_read right _ (reading.unread (inl rose)) = inl (refl, rose)
  not_read right _ (reading.unread (inr lacks)) =
      let gone : map.get has.files file ≡ None = subst (λ (files : Option _). Lacks files file)
      has.shelf_tells lacks in
      let clash : None ≡ Some bytes = sym gone ∙ has.has in
      absurd (cc)
  not_read right _ reading.no_memory = inr refl

pub cut_of : (target : Target) (c : Call) (l : Line) → ((l ≡ line.ReadFault)
    × Rose c.before.shelf.read_faults c.now.shelf.read_faults) ⊎ (l ≡ line.NoMemory) →
    IsCutEnd target c (Err l)
cut_of target c l (inl e) = rw e.0 (read_failed e.1)
cut_of target c l (inr e) = rw e no_memory
