use Rattle.std.proofs.Common.{◌≡◌, ◌++◌, map, take, drop}
use Rattle.flatten.specs.Steps.{closed}
use Rattle.flatten.proofs.write.close_rows.Given as goal

abbrev pub invariant-loop-row : goal.invariant-loop-row
invariant-loop-row l = l.part ≡ map (closed l.hi) (take l.row-index l.initial.part) ++ drop l.row-index l.initial.part
