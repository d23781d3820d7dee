use Rattle.um_asm.proofs.Numbers.{hex_next, hex_behind}
use Rattle.um_asm.proofs.assembler.push_hex.Goals as goal

pub loop-rest-preserved : goal.loop-rest-preserved
loop-rest-preserved c =
    let rest = c.loop-rest.rest.now in
    let eight = c.split_at.result.0.now in
    let behind = c.split_at.result.1.now in
    record {
      words = hex_next c.loop-rest.words.items c.push.new.self.items c.hex_word.result rest eight behind _ c.loop-rest-test.true
          c.split_at.ensures.front c.split_at.ensures.back c.hex_word.ensures c.in_ok-push.ensures.items c.loop-rest.invariant.words;
      digits = hex_behind rest behind c.split_at.ensures.back c.loop-rest.invariant.digits;
    }
