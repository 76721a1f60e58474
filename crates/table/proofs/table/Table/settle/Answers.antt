use Rattle.blocks.specs.Shape.{kept}
use Rattle.table.proofs.Deciding.{none_found}
use Rattle.table.proofs.table.Table.settle.Goals as goal

pub invariant_of-self : goal.invariant_of-self
invariant_of-self c = record { bounded = none_found (kept c.args.new) c.in_default.ensures }
