use Rattle.sets.proofs.Loops.{order, search_misses}
use Rattle.sets.proofs.sorted.find.Goals as goal

pub returns-clause-missing : goal.returns-clause-missing
returns-clause-missing g c =
    search_misses (order g.T.Ordered) g.T.Ord.cmp g.met.T.Ordered.says c.args.items.now c.args.wanted c.binary_search.result c.ok.result c.ok.ensures.value c.binary_search.ensures.position
