use Rattle.std.proofs.Common.{◌≡◌, ◌-◌, ◌≤◌, ◌++◌, length, take}
use Rattle.model.specs.Nets.{steps}
use Rattle.blocks.specs.Shape.{kept}
use Rattle.walks.specs.Steps.{rest}
use Rattle.quicksearch.specs.Agendas.{spots, waiting}
use Rattle.quicksearch.proofs.agenda.add_steps.Given as goal

abbrev pub invariant-loop-step : goal.invariant-loop-step
invariant-loop-step l = (l.tail ≤ l.end) × (l.end ≤ length l.queue) × (take l.tail l.queue ≡ take l.tail l.initial.queue)
    × (spots l.start (waiting l.tail l.end l.queue) ++ rest (kept l.blocks) l.node l.address l.from ≡ steps (kept l.blocks) l.node l.address)

abbrev pub decreases-loop-step : goal.decreases-loop-step
decreases-loop-step l = 130 - l.from
