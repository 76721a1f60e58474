use Rattle.std.proofs.Common.{◌≡◌}
use mathlib.Core.Option.{none}
use Rattle.model.specs.Walks.{first_overfull_lem}
use Rattle.blocks.specs.Shape.{kept}
use Rattle.quicksearch.proofs.search.Search.first.Given as goal

abbrev pub invariant-loop-node : goal.invariant-loop-node
invariant-loop-node l = (first_overfull_lem (kept l.self.net.now) l.node ≡ none) × (l.self.net.now ≡ l.initial.self.net.now)
