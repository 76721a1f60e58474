use Rattle.sets.proofs.Loops.{order, set_count, set-held, front_rises, front_has, sorted_by_rank}
use Rattle.sets.proofs.Sorting.{sorted_is, up_from_ascends}
use Rattle.sets.proofs.sorted.make_set.Goals as goal
use Rattle.std.proofs.Common.{refl}

pub returns : goal.returns
returns g c =
    let up = up_from_ascends (order g.T.Ordered) c.sort_unstable.new.self _ refl (sorted_by_rank (order g.T.Ordered) g.T.Ord.cmp g.met.T.Ordered.says c.sort_unstable.new.self c.sort_unstable.ensures.sorted) in
    let e = sorted_is (order g.T.Ordered) c.args.items.now c.sort_unstable.new.self c.sort_unstable.ensures.permutation up in
    let held = set-held (order g.T.Ordered) c.args.items.now c.sort_unstable.new.self c.squeeze.new.items c.squeeze.result e c.squeeze.ensures.held in
    let count = set_count (order g.T.Ordered) c.args.items.now c.sort_unstable.new.self c.squeeze.result e c.squeeze.ensures.count in
    record {
      count = count;
      held = held;
      rises = front_rises (order g.T.Ordered) c.args.items.now c.squeeze.new.items c.squeeze.result count held;
      members = front_has (order g.T.Ordered) c.args.items.now c.squeeze.new.items c.squeeze.result count held;
    }
