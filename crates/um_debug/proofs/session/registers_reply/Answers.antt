use Rattle.std.proofs.Common.{[]}
use Rattle.um_debug.proofs.session.registers_reply.Goals as goal

pub push_registers-requires : goal.push_registers-requires
push_registers-requires c = (c.live.ensures.whole.well_formed [] []).eight
