use Rattle.flatten.specs.Steps.{closed}
use Rattle.flatten.proofs.Leaves.{map_next, map_done}
use Rattle.flatten.proofs.write.close_rows.Goals as goal

pub loop-row-preserved : goal.loop-row-preserved
loop-row-preserved c = map_next (closed c.args.hi) c.args.part.now c.loop-row.part c.loop-row.row-index (record { lo = 0; hi = 0; component = 0; base = 0 }) c.loop-row-test.true c.loop-row.invariant

pub returns : goal.returns
returns c = map_done (closed c.args.hi) c.args.part.now c.loop-row.part c.loop-row.row-index c.loop-row-test.false c.loop-row.invariant
