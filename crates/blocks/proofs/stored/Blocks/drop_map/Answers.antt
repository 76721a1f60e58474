use Rattle.lists.specs.Held.{held}
use Rattle.model.specs.Edits.{same_map, with_maps}
use Rattle.blocks.specs.Shape.{kept, map_block}
use Rattle.blocks.specs.Outcomes.{of_map}
use Rattle.blocks.proofs.Changes.{dropped, apart_dropped}
use Rattle.blocks.proofs.stored.Blocks.drop_map.Goals as goal

pub invariant_of-self : goal.invariant_of-self
invariant_of-self c =
    let v = c.args.self.now.valid in
    record { valid = (v.0, v.1, v.2, apart_dropped map_block same_map c.in_ok-x.x (held c.args.self.now.maps) (held c.take_out.new.list) c.take_out.result c.take_out.ensures v.3, v.4) }

pub returns : goal.returns
returns c =
    dropped map_block same_map c.in_ok-x.x (held c.args.self.now.maps) (held c.take_out.new.list) c.take_out.result
    (with_maps (kept c.args.self.now)) c.args.block (of_map c.args.block) c.in_ok-x.ensures.0 c.in_ok-x.ensures.1 c.take_out.ensures
