use Rattle.std.proofs.Common.{◌≡◌, ◌-◌, ◌^◌, length}
use Rattle.model.specs.Model.{lists}
use Rattle.flatten.proofs.Filling.{Filled}
use Rattle.flatten.proofs.write.fill.Given as goal

abbrev pub invariant-runs : goal.invariant-runs
invariant-runs g l =
    (l.run.space.now ≡ l.space)
    × Filled (lists (g.S.Space.means l.space).shape) (length l.fn.scratch) l.initial.table l.run.scratch.now l.run.held l.n l.table

abbrev pub decreases-runs : goal.decreases-runs
decreases-runs g l = 2 ^ 64 - l.run.held.address
