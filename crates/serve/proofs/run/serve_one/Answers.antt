use Rattle.serve.proofs.Serving.{right_look, right_flatten}
use Rattle.serve.proofs.run.serve_one.Goals as goal

pub returns-in-Look : goal.returns-in-Look
returns-in-Look g c =
    let p = right_look g.P.Layer.meaning (g.P.Space.means c.args.stack.now).shape (g.P.Space.means c.args.stack.now).sound c.args.call c.in-Look.address c.in-Look.slots c.look-result.result
    c.as_mut_slice.result.now c.look-result.new.slots
    c.in-Look.is c.as_mut_slice.ensures.value c.as_mut_slice.ensures.len c.look-result.auto.slots
    c.look-result.ensures.answer c.look-result.ensures.buffer in
    record { right = p.0; left = p.1 }

pub returns-in-Flatten : goal.returns-in-Flatten
returns-in-Flatten g c =
    let p = right_flatten g.P.Layer.meaning (g.P.Space.means c.args.stack.now).shape c.args.call c.in-Flatten.scratch c.in-Flatten.table c.flatten-result.result
    c.as_mut_slice-in-Flatten.result.now c.flatten-result.new.scratch c.as_mut_slice-in-Flatten-2.result.now c.flatten-result.new.table
    c.in-Flatten.is
    c.as_mut_slice-in-Flatten.ensures.value c.as_mut_slice-in-Flatten.ensures.len c.flatten-result.auto.scratch
    c.as_mut_slice-in-Flatten-2.ensures.value c.as_mut_slice-in-Flatten-2.ensures.len c.flatten-result.auto.table
    c.flatten-result.ensures.answer c.flatten-result.ensures.wiped in
    record { right = p.0; left = p.1 }
