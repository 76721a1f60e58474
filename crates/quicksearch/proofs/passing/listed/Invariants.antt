use Rattle.std.proofs.Common.{◌≡◌, take}
use Rattle.lists.specs.Held.{held}
use Rattle.quicksearch.proofs.passing.listed.Given as goal

abbrev pub invariant-loop-t : goal.invariant-loop-t
invariant-loop-t l = held l.all ≡ take l.t-index l.targets
