use Rattle.std.proofs.Common.{refl}
use Rattle.model.specs.Edits.{enter}
use Rattle.blocks.specs.Shape.{kept}
use Rattle.table.proofs.Deciding.{settles_at_once, enter_keeps}
use Rattle.table.proofs.table.Table.enter.Goals as goal

pub invariant_of-self : goal.invariant_of-self
invariant_of-self c = record { bounded = enter_keeps (kept c.args.self.now.blocks) (kept c.set_entry.new.self) c.args.node c.set_entry.result c.set_entry.ensures c.args.self.now.bounded }

pub returns : goal.returns
returns c = settles_at_once (kept c.args.self.now.blocks) (enter c.args.node) (kept c.set_entry.new.self) c.set_entry.result refl c.set_entry.ensures
