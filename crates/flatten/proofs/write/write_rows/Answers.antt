use Rattle.std.proofs.Common.{length, ap, arith}
use Rattle.flatten.specs.Steps.{row}
use Rattle.flatten.proofs.Leaves.{rows_new, rows_done, kept_new}
use Rattle.flatten.proofs.write.write_rows.Goals as goal

pub bounds-part-found : goal.bounds-part-found
bounds-part-found c = let q = ap length c.in-Some.ensures.steps in omega (arith, q)

pub loop-name-preserved : goal.loop-name-preserved
loop-name-preserved c =
    let e = c.in-Some.ensures.steps in
    let q = ap length e in (
      tt,
      tt,
      omega (arith, q),
      rows_new c.args.lo c.loop-name.found c.loop-name.part _ _ c.loop-name.invariant.3 c.in-Some.name _ e (omega (arith, q)),
      kept_new c.loop-name.part c.args.part.now c.loop-name.found (row c.args.lo c.args.lo c.in-Some.name) c.loop-name.invariant.4,
    )

pub returns : goal.returns
returns c =
    let e = c.in-None.ensures.steps.0 in
    let q = ap length e in
    (omega (arith, q), rows_done c.args.lo c.loop-name.found c.loop-name.part _ _ c.loop-name.invariant.3 c.args.part.now e c.loop-name.invariant.4)
