use Rattle.std.proofs.Common.{◌+◌, ◌-◌, ◌*◌}
use Rattle.walks.proofs.notes.Walk.+meet_steps.Given as goal

abbrev pub decreases-meet : goal.decreases-meet
decreases-meet l = l.self.now.left * 131

abbrev pub decreases-steps : goal.decreases-steps
decreases-steps l = l.self.now.left * 131 + (130 - l.from)
