use Rattle.std.proofs.Common.{refl}
use Rattle.model.specs.Edits.{drop_accept}
use Rattle.blocks.specs.Shape.{kept}
use Rattle.table.proofs.Deciding.{settles_last}
use Rattle.table.proofs.table.Table.drop_accept.Goals as goal

pub returns : goal.returns
returns c =
    settles_last (kept c.args.self.now.blocks) (drop_accept c.args.block) (kept c.drop_accept.new.self) (kept c.settle.new.self.blocks) tt c.settle.result refl c.in_ok-drop_accept.ensures c.settle.ensures
