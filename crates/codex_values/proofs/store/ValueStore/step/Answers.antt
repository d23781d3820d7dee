-- Each sign takes the reader where it takes the machine.
use Rattle.std.specs.Prelude.{◌≡◌, ◌∷◌}
use Rattle.std.proofs.Common.{refl}
use Rattle.codex_values.specs.declared.read.Level.TheVariants.{Inl, Inr, Parens}
use Rattle.codex_values.specs.inner.ReaderStates.{in_parens, frames_of, AreLevelsIn}
use Rattle.codex_values.proofs.StoreLemmas.{keeps_itself}
use Rattle.codex_values.proofs.ReaderLemmas.{IsAfter-same, frames_of-push, frames_of-kept, AreLevelsIn-push, AreLevelsIn-kept, fed-opened, fed-word}
use Rattle.codex_values.proofs.store.ValueStore.step.Goals as goal

pub returns-in-Need-clause-next : goal.returns-in-Need-clause-next
returns-in-Need-clause-next c = rw c.in-Need.is (c.begin.ensures _ _ c.requires.levels)

pub returns-in_ok-add-in-Close-clause-next : goal.returns-in_ok-add-in-Close-clause-next
returns-in_ok-add-in-Close-clause-next c =
    let added = c.in_ok-add-in-Close.ensures in (
      rw (c.in-Opened.is, c.in-Close.is, added.value, frames_of-kept _ _ c.args.levels.now.items added.keeps c.requires.levels) refl,
      added.inside,
      AreLevelsIn-kept _ _ _ added.keeps c.requires.levels,
    )

pub returns-in_ok-push-in_default : goal.returns-in_ok-push-in_default
returns-in_ok-push-in_default c =
    let pushed = c.in_ok-push-in_default.ensures.items in
    let inside : AreLevelsIn c.args.self.now c.push.new.self.items = rw pushed (AreLevelsIn-push c.args.self.now c.args.levels.now.items Parens c.requires.levels tt) in
    let same : frames_of c.args.self.now c.push.new.self.items ≡ in_parens ∷ frames_of c.args.self.now c.args.levels.now.items =
    rw pushed (frames_of-push c.args.self.now c.args.levels.now.items Parens) in
    record {
      next = IsAfter-same _ _ c.args.self.now c.push.new.self.items _
          (rw (c.in-Opened.is, same) (fed-opened (frames_of c.args.self.now c.args.levels.now.items) c.args.sign c.in_default.not-Space c.in_default.not-Close))
          (c.begin-in_default.ensures _ _ inside);
      keeps = keeps_itself c.args.self.now;
    }

pub returns-in_ok-push-in-LetterL-clause-next : goal.returns-in_ok-push-in-LetterL-clause-next
returns-in_ok-push-in-LetterL-clause-next c =
    let pushed = c.in_ok-push-in-LetterL.ensures.items in (
      rw (c.in-WordIn.is, c.in-LetterL.is, pushed, frames_of-push c.args.self.now c.args.levels.now.items Inl) refl,
      tt,
      rw pushed (AreLevelsIn-push _ _ Inl c.requires.levels tt),
    )

pub returns-in_ok-push-in-LetterR-clause-next : goal.returns-in_ok-push-in-LetterR-clause-next
returns-in_ok-push-in-LetterR-clause-next c =
    let pushed = c.in_ok-push-in-LetterR.ensures.items in (
      rw (c.in-WordIn.is, c.in-LetterR.is, pushed, frames_of-push c.args.self.now c.args.levels.now.items Inr) refl,
      tt,
      rw pushed (AreLevelsIn-push _ _ Inr c.requires.levels tt),
    )

pub returns-in_default-sign-3 : goal.returns-in_default-sign-3
returns-in_default-sign-3 c = record {
  next = IsAfter-same _ _ c.args.self.now c.args.levels.now.items _
      (rw c.in-Word.is (fed-word (frames_of c.args.self.now c.args.levels.now.items) c.args.sign c.in_default-sign-3.not-LetterI))
      (c.begin-in_default-sign-3.ensures _ _ c.requires.levels);
  keeps = keeps_itself c.args.self.now;
}
