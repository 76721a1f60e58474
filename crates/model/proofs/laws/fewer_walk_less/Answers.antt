use Rattle.model.proofs.Fewer.{fewer_walk_less_lem}
use Rattle.model.proofs.laws.fewer_walk_less.Goals as goal

pub returns : goal.returns
returns c = fewer_walk_less_lem
