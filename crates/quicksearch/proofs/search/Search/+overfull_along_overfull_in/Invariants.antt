use Rattle.std.proofs.Common.{◌≡◌, ℕ, ◌+◌, ◌-◌, ◌*◌, ◌<◌, ◌≤◌, false, map, take}
use Rattle.blocks.specs.Shape.{kept}
use Rattle.walks.specs.Spans.{lifted}
use Rattle.quicksearch.specs.Exceeding.{exceeds}
use Rattle.quicksearch.specs.Agendas.{spots, waiting}
use Rattle.quicksearch.proofs.search.Search.+overfull_along_overfull_in.Given as goal

abbrev pub decreases-overfull_in : goal.decreases-overfull_in
decreases-overfull_in l = (64 - l.head) * 3 + 2

abbrev pub decreases-overfull_along : goal.decreases-overfull_along
decreases-overfull_along l = (64 - l.head) * 3 + 1

abbrev pub invariant-overfull_along-along : goal.invariant-overfull_along-along
invariant-overfull_along-along l = record {
  inside : l.x ≤ l.starts.extent;
  same : take l.tail l.queue ≡ take l.tail l.initial.queue;
  net : l.self.net.now ≡ l.net;
  low : (d : ℕ) → d < l.x → exceeds (kept l.net) (64 - l.head) (map (lifted d) (spots l.starts.low (waiting l.head l.tail l.initial.queue))) ≡ false;
}

abbrev pub decreases-overfull_along-along : goal.decreases-overfull_along-along
decreases-overfull_along-along l = l.starts.extent - l.x

abbrev pub decreases-overfull_ahead : goal.decreases-overfull_ahead
decreases-overfull_ahead l = (64 - l.head) * 3
