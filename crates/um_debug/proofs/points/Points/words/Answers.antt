use Rattle.std.proofs.Common.{◌≡◌, length, get_or, sym, ap, ◌∙◌, arith, refl}
use Rattle.std.proofs.lemmas.List.{length-set}
use Rattle.um_debug.specs.Course.{Points}
use Rattle.um_debug.proofs.Watching.{one_word_more, all_words}
use Rattle.um_debug.proofs.points.Points.words.Goals as goal

pub loop-k-init : goal.loop-k-init
loop-k-init c = record { same = λ j place below here. absurd (omega (arith, below)); many = refl }

pub loop-k-preserved : goal.loop-k-preserved
loop-k-preserved c = record {
  same = one_word_more c.args.machine.now.arrays c.args.self.now.watches c.loop-k.words c.loop-k.k c.index-place.result.now c.word.result
      (let e : length c.args.self.now.watches ≡ length c.self.inside.watches.items = ap (λ (p : Points). length p.watches) (sym c.self.view_is) in omega (arith, e, c.loop-k-test.true, c.len-k-end.ensures))
      (c.index-place.ensures ∙ ap (λ (p : Points). get_or p.watches c.loop-k.k c.index-place.result.now) c.self.view_is)
      c.word.ensures.value
      (let few = c.self.invariant in omega (arith, c.loop-k.invariant.many, few, c.loop-k-test.true, c.len-k-end.ensures))
      c.loop-k.invariant.same;
  many = length-set c.loop-k.words c.loop-k.k c.word.result ∙ c.loop-k.invariant.many;
}

pub returns : goal.returns
returns c = all_words c.args.machine.now.arrays c.args.self.now.watches c.loop-k.words c.loop-k.k
    (let e : length c.args.self.now.watches ≡ length c.self.inside.watches.items = ap (λ (p : Points). length p.watches) (sym c.self.view_is) in omega (arith, e, c.loop-k-test.false, c.len-k-end.ensures))
    c.loop-k.invariant.same
