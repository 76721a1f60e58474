use Rattle.std.proofs.Common.{length}
use Rattle.nets.specs.Shape.{inner}
use Rattle.nets.proofs.Looks.{look_answer, look_buffer}
use Rattle.nets.proofs.methods.NetSpace.look.Goals as goal

pub returns : goal.returns
returns g c = record {
  answer = look_answer (inner c.args.self.now.table) (g.B.Space.means c.args.self.now.below).shape c.entry.result c.args.address (length c.args.slots.now) c.entry.ensures c.resolve.result c.resolve.ensures.answer;
  buffer = look_buffer (inner c.args.self.now.table) (g.B.Space.means c.args.self.now.below).shape c.entry.result c.args.address c.entry.ensures c.args.slots.now c.resolve.new.slots c.resolve.ensures.buffer;
}
