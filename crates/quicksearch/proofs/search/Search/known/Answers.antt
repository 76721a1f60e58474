use Rattle.std.proofs.Common.{get_or, sym, ◌∙◌, rules}
use Rattle.std.proofs.ByRecursion.{All-get_or}
use Rattle.blocks.specs.Shape.{kept}
use Rattle.quicksearch.specs.declared.memo.RangeBound.{RangeBound}
use Rattle.quicksearch.specs.Remembered.{Bounds}
use Rattle.quicksearch.proofs.Memories.{bounds_of}
use Rattle.quicksearch.proofs.search.Search.known.Goals as goal

pub returns-then-eq : goal.returns-then-eq
returns-then-eq c =
    let k = kept c.args.self.now.net.now in
    let e : RangeBound = get_or c.args.self.now.memo.bounds c.bound_place.result c.index-self-bound_place.result in
    bounds_of k e c.args.node c.args.range c.if-e-node.true (sym c.eq.ensures ∙ c.if-eq.true)
    (All-get_or (Bounds k) c.args.self.now.memo.bounds c.bound_place.result c.index-self-bound_place.result (search rules) c.args.self.now.reliable.0)
