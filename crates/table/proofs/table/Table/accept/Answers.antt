use Rattle.std.proofs.Common.{refl}
use Rattle.model.specs.Edits.{accept}
use Rattle.blocks.specs.Shape.{kept}
use Rattle.table.proofs.Deciding.{settles_at_once, accept_keeps}
use Rattle.table.proofs.table.Table.accept.Goals as goal

pub invariant_of-self : goal.invariant_of-self
invariant_of-self c = record { bounded = accept_keeps (kept c.args.self.now.blocks) (kept c.add_accept.new.self) c.args.block c.add_accept.result c.add_accept.ensures c.args.self.now.bounded }

pub returns : goal.returns
returns c = settles_at_once (kept c.args.self.now.blocks) (accept c.args.block) (kept c.add_accept.new.self) c.add_accept.result refl c.add_accept.ensures
