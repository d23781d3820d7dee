use Rattle.std.proofs.Common.{◌≡◌, ◌+◌, ◌<◌, ℕ, ◌++◌, ◌∷◌, [], length, Some, sym, ap, subst, ◌∙◌, arith}
use Rattle.std.proofs.lemmas.List.Elements.{All-pop}
use Rattle.std.specs.Prelude.{vec_len}
use Rattle.um_word.specs.State.{words_in}
use Rattle.array_store.specs.Parts.{listed}
use Rattle.array_store.specs.inner.Slots.{slot_arrays, arrays_put}
use Rattle.array_store.proofs.HeldLemmas.{Fit, AllFit, fit-insert}
use Rattle.array_store.proofs.PartLemmas.{arrays_put-push, listed-push, words_in-append}
use Rattle.array_store.proofs.store.fill_slots.Goals as goal

pub loop-id-preserved : goal.loop-id-preserved
loop-id-preserved c =
    let rest = c.pop.new.self.items in
    let popped : c.loop-id.arrays.items ≡ rest ++ (c.in-Some.id, c.in-Some.words) ∷ [] = c.in-Some.ensures.items in
    let named : listed c.loop-id.arrays.items ≡ listed rest ++ (c.in-Some.id, c.in-Some.words.items) ∷ [] =
    ap listed popped ∙ listed-push rest (c.in-Some.id, c.in-Some.words) in
    let last = All-pop (λ a. a.0 < vec_len c.args.slots.now) c.loop-id.arrays.items rest (Some (c.in-Some.id, c.in-Some.words)) popped c.loop-id.invariant.within in
    let sum : words_in (listed c.loop-id.arrays.items) ≡ words_in (listed rest) + words_in ((c.in-Some.id, c.in-Some.words.items) ∷ []) =
    ap words_in named ∙ words_in-append (listed rest) ((c.in-Some.id, c.in-Some.words.items) ∷ []) in
    record {
      put = ap (arrays_put (listed rest)) c.put_array.ensures.arrays ∙ sym (arrays_put-push (listed rest) (c.in-Some.id, c.in-Some.words.items) (slot_arrays c.loop-id.slots.items))
          ∙ ap (λ xs. arrays_put xs (slot_arrays c.loop-id.slots.items)) (sym named) ∙ c.loop-id.invariant.put;
      sum = (let a = c.loop-id.invariant.sum in let b = c.len.ensures in omega (arith, a, b, sum));
      within = last.0;
      len = c.put_array.ensures.len ∙ c.loop-id.invariant.len;
      fit = λ old. subst AllFit (sym c.put_array.ensures.arrays)
          (fit-insert (slot_arrays c.loop-id.slots.items) c.in-Some.id c.in-Some.words.items (c.loop-id.invariant.fit old) (subst Fit c.deref.ensures.value c.words_fit.ensures));
    }
