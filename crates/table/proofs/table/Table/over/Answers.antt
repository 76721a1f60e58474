use Rattle.std.proofs.Common.{refl, ap}
use Rattle.model.specs.Edits.{over}
use Rattle.blocks.specs.Shape.{kept}
use Rattle.table.proofs.Deciding.{settles_last, settles_bounded, cleared_bound}
use Rattle.table.proofs.table.Table.over.Goals as goal

pub returns : goal.returns
returns c =
    settles_last (kept c.args.self.now.blocks) (over c.args.node c.args.destination) (kept c.set_overlay.new.self) (kept c.settle.new.self.blocks) tt c.settle.result refl c.in_ok-set_overlay.ensures c.settle.ensures

pub keep-requires : goal.keep-requires
keep-requires c =
    cleared_bound (kept c.args.self.now.blocks) (kept c.set_overlay.new.self) c.args.node c.args.destination tt c.if-destination-eq33.true c.in_ok-set_overlay.ensures c.args.self.now.bounded

pub returns-then-destination-eq33 : goal.returns-then-destination-eq33
returns-then-destination-eq33 c =
    let k = kept c.args.self.now.blocks in
    let new = kept c.set_overlay.new.self in
    settles_bounded k (over c.args.node c.args.destination) new (kept c.keep.new.self.blocks) tt refl c.in_ok-set_overlay.ensures
    (cleared_bound k new c.args.node c.args.destination tt c.if-destination-eq33.true c.in_ok-set_overlay.ensures c.args.self.now.bounded) (ap kept c.keep.ensures)
