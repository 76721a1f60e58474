use Rattle.std.proofs.Common.{length}
use Rattle.plain.proofs.stack.+gather.Given as goal

-- each arrival goes one layer down
abbrev pub decreases-gather : goal.decreases-gather
decreases-gather l = length l.layers.now
