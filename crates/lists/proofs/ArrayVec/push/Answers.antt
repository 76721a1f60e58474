use Rattle.std.proofs.Common.{rules}
use Rattle.std.proofs.lemmas.List.{take_more_set}
use Rattle.lists.proofs.ArrayVec.push.Goals as goal

pub returns : goal.returns
returns g c = record { room = search rules; kept = take_more_set c.args.self.now.items c.args.self.now.len c.args.x (search rules) }
