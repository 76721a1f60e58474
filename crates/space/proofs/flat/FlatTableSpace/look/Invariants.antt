use Rattle.space.proofs.Tables.{Gathering}
use Rattle.space.proofs.flat.FlatTableSpace.look.Given as goal

abbrev pub invariant-loop-row : goal.invariant-loop-row
invariant-loop-row l = Gathering l.address l.self.records.now l.initial.slots l.slots l.count l.reach l.row-index
