use Rattle.std.proofs.Common.{◌≡◌, ◌-◌, ◌^◌, length}
use Rattle.model.specs.Model.{lists}
use Rattle.flatten.proofs.Stretches.{Going}
use Rattle.flatten.proofs.stretch.Cursor.next_run.Given as goal

abbrev pub invariant-stretches : goal.invariant-stretches
invariant-stretches g l =
    (l.last.space.now ≡ l.initial.last.space.now)
    × Going (lists (g.S.Space.means l.initial.last.space.now).shape) l.initial.last.held.address (length l.initial.last.scratch.now) l.last.scratch.now l.last.held

abbrev pub decreases-stretches : goal.decreases-stretches
decreases-stretches g l = 2 ^ 64 - l.last.held.reach
