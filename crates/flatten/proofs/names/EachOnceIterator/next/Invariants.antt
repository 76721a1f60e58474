use Rattle.std.proofs.Common.{◌≡◌, length}
use Rattle.flatten.specs.Runs.{once}
use Rattle.flatten.proofs.names.EachOnceIterator.next.Given as goal

abbrev pub invariant-names : goal.invariant-names
invariant-names l = once l.self.left.now ≡ once l.initial.self.left.now

abbrev pub decreases-names : goal.decreases-names
decreases-names l = length l.self.left.now
