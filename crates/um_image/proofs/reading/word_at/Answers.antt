use Rattle.std.proofs.Common.{◌++◌, take, sym, ap, ◌∙◌, arith}
use Rattle.std.proofs.lemmas.List.{length-drop, take_rest}
use Rattle.um_image.proofs.Points.{take_plus}
use Rattle.um_image.proofs.reading.word_at.Goals as goal

pub returns : goal.returns
returns c = (
  (let l = length-drop c.args.at c.args.bytes.now in let h = c.if-rest-lt4.false in let r = c.requires in omega (arith, l, h, r)),
  take_plus c.args.at 4 c.args.bytes.now ∙ ap (λ xs. take c.args.at c.args.bytes.now ++ xs)
      (sym (c.word_from.ensures ∙ c.split_at.ensures.front ∙ ap (take 4) (take_rest c.args.bytes.now c.args.at))),
  omega arith,
)
