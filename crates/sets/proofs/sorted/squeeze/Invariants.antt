use Rattle.sets.proofs.Loops.{Squeezing}
use Rattle.sets.proofs.sorted.squeeze.Given as goal

abbrev pub invariant-loop-i : goal.invariant-loop-i
invariant-loop-i g l = Squeezing g.T.Ordered.same l.initial.items l.items l.i l.used
