use Rattle.std.proofs.Common.{◌≤◌, length}
use Rattle.quicksearch.proofs.search.Search.farthest.Given as goal

abbrev pub invariant-loop-i : goal.invariant-loop-i
invariant-loop-i l = l.best ≤ length l.agenda.targets.now
