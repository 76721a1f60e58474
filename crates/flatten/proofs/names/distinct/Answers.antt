use Rattle.std.proofs.Common.{length, inl, ap, arith}
use Rattle.flatten.proofs.Leaves.{length-once}
use Rattle.flatten.proofs.names.distinct.Goals as goal

pub count-requires-clause-fits : goal.count-requires-clause-fits
count-requires-clause-fits c = inl (let h = length-once c.of.result.left.now in let e = ap length c.of.ensures in omega (arith, h, e))
