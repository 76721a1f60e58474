use Rattle.lists.specs.Held.{held}
use Rattle.model.specs.Edits.{same_accept, with_accepts}
use Rattle.blocks.specs.Shape.{kept, accept_block}
use Rattle.blocks.specs.Outcomes.{of_accept}
use Rattle.blocks.proofs.Changes.{added, apart_added, swap_accept}
use Rattle.blocks.proofs.stored.Blocks.add_accept.Goals as goal

pub invariant_of-self : goal.invariant_of-self
invariant_of-self c =
    let v = c.args.self.now.valid in
    record { valid = (v.0, v.1, apart_added accept_block same_accept c.in_ok-x.x (held c.args.self.now.accepts) (held c.add.new.list) c.add.result swap_accept 64 c.add.ensures v.2, v.3, v.4) }

pub returns : goal.returns
returns c =
    added accept_block same_accept c.in_ok-x.x (held c.args.self.now.accepts) (held c.add.new.list) c.add.result
    (with_accepts (kept c.args.self.now)) c.args.block (of_accept c.args.block) 64 c.in_ok-x.ensures.0 c.in_ok-x.ensures.1 c.add.ensures
