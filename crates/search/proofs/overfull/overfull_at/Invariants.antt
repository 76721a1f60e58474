use Rattle.std.proofs.Common.{◌-◌, ◌<◌}
use Rattle.model.specs.Names.{top}
use Rattle.model.proofs.Firsts.{Clear}
use Rattle.blocks.specs.Shape.{kept}
use Rattle.search.proofs.overfull.overfull_at.Given as goal

abbrev pub invariant-loop-notes : goal.invariant-loop-notes
invariant-loop-notes l = (l.address < top) × Clear (kept l.blocks) l.node l.address

abbrev pub decreases-loop-notes : goal.decreases-loop-notes
decreases-loop-notes l = top - l.address
