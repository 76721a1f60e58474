use Rattle.std.proofs.Common.{refl, ap}
use Rattle.model.specs.Edits.{drop_map}
use Rattle.blocks.specs.Shape.{kept}
use Rattle.table.proofs.Deciding.{settles_last, settles_bounded, dropped_bound}
use Rattle.table.proofs.table.Table.drop_map.Goals as goal

pub returns : goal.returns
returns c =
    settles_last (kept c.args.self.now.blocks) (drop_map c.args.block) (kept c.drop_map.new.self) (kept c.settle.new.self.blocks) tt c.settle.result refl c.in_ok-drop_map.ensures c.settle.ensures

pub keep-requires : goal.keep-requires
keep-requires c =
    dropped_bound c.args.self.now.blocks (kept c.drop_map.new.self) c.args.block tt c.in_ok-drop_map.ensures c.if-is_bare.ensures c.args.self.now.bounded

pub returns-then-is_bare : goal.returns-then-is_bare
returns-then-is_bare c =
    let k = kept c.args.self.now.blocks in
    let new = kept c.drop_map.new.self in
    settles_bounded k (drop_map c.args.block) new (kept c.keep.new.self.blocks) tt refl c.in_ok-drop_map.ensures
    (dropped_bound c.args.self.now.blocks new c.args.block tt c.in_ok-drop_map.ensures c.if-is_bare.ensures c.args.self.now.bounded) (ap kept c.keep.ensures)
