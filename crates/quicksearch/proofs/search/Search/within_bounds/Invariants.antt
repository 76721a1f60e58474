use Rattle.std.proofs.Common.{◌≡◌, ◌≤◌, drop}
use Rattle.blocks.specs.Shape.{kept}
use Rattle.quicksearch.specs.Agendas.{spots}
use Rattle.quicksearch.proofs.Sums.{Counts}
use Rattle.quicksearch.proofs.search.Search.within_bounds.Given as goal

abbrev pub invariant-loop-t : goal.invariant-loop-t
invariant-loop-t l = record {
  few : l.sum ≤ l.budget;
  net : l.self.net.now ≡ l.initial.self.net.now;
  counts : Counts (kept l.initial.self.net.now) (spots l.agenda.starts.low l.agenda.targets.now) l.agenda.starts.extent (spots l.agenda.starts.low (drop l.t-index l.agenda.targets.now)) l.sum;
}
