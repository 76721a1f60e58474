use Rattle.std.proofs.Common.{◌≡◌, ℕ, ◌+◌, ◌-◌, ◌*◌, ◌<◌, ◌≤◌, false, [], ◌∷◌, map}
use Rattle.model.specs.Nets.{node}
use Rattle.blocks.specs.Shape.{kept}
use Rattle.walks.specs.Spans.{lifted}
use Rattle.walks.specs.Steps.{rest}
use Rattle.quicksearch.specs.Exceeding.{exceeds}
use Rattle.quicksearch.specs.Agendas.{Room}
use Rattle.quicksearch.proofs.Sums.{Counts}
use Rattle.quicksearch.proofs.search.Search.+bound_greatest_stretch.Given as goal

abbrev pub decreases-bound : goal.decreases-bound
decreases-bound l = l.depth * 3

abbrev pub decreases-greatest : goal.decreases-greatest
decreases-greatest l = l.depth * 3 + 2

abbrev pub decreases-stretch : goal.decreases-stretch
decreases-stretch l = l.depth * 3 + 1

abbrev pub invariant-greatest-along : goal.invariant-greatest-along
invariant-greatest-along l = record {
  inside : l.x ≤ l.range.extent;
  net : l.self.net.now ≡ l.net;
  low : (d : ℕ) → d < l.x → exceeds (kept l.net) l.most (map (lifted d) (node l.node l.range.low ∷ [])) ≡ false;
}

abbrev pub decreases-greatest-along : goal.decreases-greatest-along
decreases-greatest-along l = l.range.extent - l.x

abbrev pub invariant-stretch-loop-step : goal.invariant-stretch-loop-step
invariant-stretch-loop-step l = record {
  few : l.sum ≤ 63;
  room : Room l.range.extent (rest (kept l.net) l.node l.range.low l.from);
  net : l.self.net.now ≡ l.net;
  counts : Counts (kept l.net) (rest (kept l.net) l.node l.range.low 0) l.range.extent (rest (kept l.net) l.node l.range.low l.from) l.sum;
}

abbrev pub decreases-stretch-loop-step : goal.decreases-stretch-loop-step
decreases-stretch-loop-step l = 130 - l.from
