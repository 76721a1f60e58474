use Rattle.std.proofs.Common.{arith}
use Rattle.sets.proofs.Loops.{order, same_by_eq, squeeze_start, squeeze_skip, squeeze_take, squeeze_count, squeeze_held}
use Rattle.sets.proofs.sorted.squeeze.Goals as goal
use Rattle.sets.proofs.sorted.squeeze.Goals.{then-ne, else-ne}

pub loop-i-init : goal.loop-i-init
loop-i-init g c = squeeze_start g.T.Ordered.same c.args.items.now c.if-count-eq0.false

pub loop-i-preserved : goal.loop-i-preserved
loop-i-preserved g c =
    let last = c.index-items-used.result in
    let next = c.index-items-i.result in
    let t = same_by_eq (order g.T.Ordered) g.T.Ord.cmp g.T.PartialEq.eq g.met.T.Ordered.says g.met.T.Ord.matches_eq last next in
    elim c.if-ne.branch [
      | then-ne w ↦ rw (w.items-is, w.used-is) (squeeze_take g.T.Ordered.same c.args.items.now c.loop-i.items c.loop-i.i c.loop-i.used next last c.loop-i.invariant c.loop-i-test.true c.index-items-i.is c.index-items-used.is
          (grind (arith, t, c.ne.ensures, w.if-ne.true)))
      | else-ne w ↦ rw (w.items-is, w.used-is) (squeeze_skip g.T.Ordered.same c.args.items.now c.loop-i.items c.loop-i.i c.loop-i.used next last c.loop-i.invariant c.loop-i-test.true c.index-items-i.is c.index-items-used.is
          (grind (arith, t, c.ne.ensures, w.if-ne.false)))
    ]

pub returns : goal.returns
returns g c = record {
  count = squeeze_count g.T.Ordered.same c.args.items.now c.loop-i.items c.loop-i.i c.loop-i.used c.loop-i.invariant (omega arith) c.loop-i-test.false;
  held = squeeze_held g.T.Ordered.same c.args.items.now c.loop-i.items c.loop-i.i c.loop-i.used c.loop-i.invariant (omega arith) c.loop-i-test.false;
}
