use Rattle.std.proofs.Common.{◌<◌, ◌≤◌, get_or, ℕ, List, [], ◌∷◌, ◌++◌, length, take, map, sym, ap, ◌∙◌, arith}
use Rattle.std.proofs.lemmas.List.{length-map, length-take, take_all}
use Rattle.um_debug.specs.Replies.{spaced, hex_digits}
use Rattle.um_debug.proofs.Spacing.{spaced_one, reply_more, map_taken_more}
use Rattle.um_debug.proofs.replies.push_registers.Goals as goal

pub loop-k-init : goal.loop-k-init
loop-k-init c = record {
  text = c.in_ok-push_hex.ensures ∙ ap (λ (word : ℕ). c.args.reply.now.items ++ hex_digits word) c.register.ensures
      ∙ ap (λ (text : List ℕ). c.args.reply.now.items ++ text) (sym (spaced_one hex_digits c.args.machine.now.registers (omega (arith, c.requires))));
  some = omega arith;
}

pub loop-k-preserved : goal.loop-k-preserved
loop-k-preserved c =
    let texts : List (List ℕ) = map hex_digits (take c.loop-k.k c.args.machine.now.registers) in
    let lt : c.loop-k.k < length c.args.machine.now.registers = omega (arith, c.requires, c.loop-k-test.true) in
    let some : 1 ≤ length texts = omega (arith, length-map (take c.loop-k.k c.args.machine.now.registers) hex_digits, length-take c.loop-k.k c.args.machine.now.registers, c.loop-k.invariant.some, lt) in
    record {
      text = c.in_ok-push_hex-2.ensures
          ∙ ap (λ (bytes : List ℕ). bytes ++ hex_digits c.register-in-loop-k.result)
          (c.in_ok-push.ensures.items ∙ ap (λ (bytes : List ℕ). bytes ++ 32 ∷ []) c.loop-k.invariant.text)
          ∙ ap (λ (word : ℕ). c.args.reply.now.items ++ spaced texts ++ 32 ∷ [] ++ hex_digits word) c.register-in-loop-k.ensures
          ∙ reply_more c.args.reply.now.items texts (hex_digits (get_or c.args.machine.now.registers c.loop-k.k 0)) some
          ∙ ap (λ (all : List (List ℕ)). c.args.reply.now.items ++ spaced all) (sym (map_taken_more hex_digits c.args.machine.now.registers c.loop-k.k lt));
      some = omega arith;
    }

pub returns : goal.returns
returns c =
    c.loop-k.invariant.text
    ∙ ap (λ (words : List ℕ). c.args.reply.now.items ++ spaced (map hex_digits words)) (take_all c.loop-k.k c.args.machine.now.registers (omega (arith, c.requires, c.loop-k-test.false)))
