use Rattle.std.proofs.Common.{◌≡◌, true, false, rules}
use Rattle.lists.specs.Held.{held}
use Rattle.sets.specs.Members.{some_of}
use Rattle.blocks.proofs.Scans.{known_by}
use Rattle.blocks.proofs.distinct.add.Goals as goal

pub returns-then-is_some : goal.returns-then-is_some
returns-then-is_some g c =
    let there : some_of (g.T.Alike.alike c.args.x) (held c.args.list.now) ≡ true =
    known_by (g.T.Alike.alike c.args.x) (held c.args.list.now) c.as_slice.result.now c.position.result c.as_slice.ensures c.position.ensures true c.if-is_some.ensures in
    search (rules, there)

pub returns : goal.returns
returns g c =
    let absent : some_of (g.T.Alike.alike c.args.x) (held c.args.list.now) ≡ false =
    known_by (g.T.Alike.alike c.args.x) (held c.args.list.now) c.as_slice.result.now c.position.result c.as_slice.ensures c.position.ensures false c.if-is_some.ensures in
    simp absent (search rules)
