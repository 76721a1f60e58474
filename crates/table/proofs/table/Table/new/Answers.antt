use Rattle.blocks.specs.Shape.{kept}
use Rattle.table.proofs.Deciding.{fresh_bound}
use Rattle.table.proofs.table.Table.new.Goals as goal

pub invariant_of-result : goal.invariant_of-result
invariant_of-result c = record { bounded = fresh_bound (kept c.new.result) c.args.group c.new.ensures }
