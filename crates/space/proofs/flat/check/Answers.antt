use Rattle.std.proofs.Common.{sym}
use Rattle.space.proofs.Tables.{misfit_done, no_misfit}
use Rattle.space.proofs.flat.check.Goals as goal

pub returns-clause-passed : goal.returns-clause-passed
returns-clause-passed c = no_misfit 0 c.args.records.now (sym (misfit_done c.args.records.now c.loop-place.place c.loop-place.invariant c.loop-place-test.false))
