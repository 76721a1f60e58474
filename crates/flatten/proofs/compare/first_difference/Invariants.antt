use Rattle.std.proofs.Common.{◌-◌, ◌^◌, ◌<◌, length}
use Rattle.model.specs.Model.{lists}
use Rattle.model.specs.Names.{top}
use Rattle.flatten.specs.Comparing.{PassBelow}
use Rattle.flatten.proofs.compare.first_difference.Given as goal

abbrev pub invariant-stretches : goal.invariant-stretches
invariant-stretches g l = PassBelow (lists (g.L.Space.means l.first).shape) (lists (g.R.Space.means l.second).shape) (length l.initial.scratch) (length l.initial.other) l.at × (l.at < top)

abbrev pub decreases-stretches : goal.decreases-stretches
decreases-stretches g l = 2 ^ 64 - l.at
