use Rattle.std.proofs.Common.{refl}
use Rattle.model.specs.Edits.{map_to}
use Rattle.blocks.specs.Shape.{kept}
use Rattle.table.proofs.Deciding.{settles_last}
use Rattle.table.proofs.table.Table.map.Goals as goal

pub returns : goal.returns
returns c =
    settles_last (kept c.args.self.now.blocks) (map_to c.args.block) (kept c.add_map.new.self) (kept c.settle.new.self.blocks) tt c.settle.result refl c.in_ok-add_map.ensures c.settle.ensures
