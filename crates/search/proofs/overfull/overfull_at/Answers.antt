use Rattle.std.proofs.Common.{arith}
use Rattle.lists.specs.Held.{held}
use Rattle.blocks.specs.Shape.{kept}
use Rattle.search.proofs.Jumping.{jump, none_here, first_here}
use Rattle.search.proofs.overfull.overfull_at.Goals as goal

pub returns-in_default : goal.returns-in_default
returns-in_default c =
    first_here (kept c.args.blocks.now) c.args.node c.loop-notes.address c.loop-notes.invariant.0 c.loop-notes.invariant.1 (c.in_default.ensures.too_long c.requires)

pub returns-then-notes-address : goal.returns-then-notes-address
returns-then-notes-address c =
    none_here (kept c.args.blocks.now) c.args.node c.loop-notes.address c.in-Ok.notes.span (held c.in-Ok.notes.items) c.in-Ok.ensures c.loop-notes.invariant.1 c.if-notes-address.true

pub loop-notes-preserved : goal.loop-notes-preserved
loop-notes-preserved c = (
  omega arith,
  jump (kept c.args.blocks.now) c.args.node c.loop-notes.address c.in-Ok.notes.span (held c.in-Ok.notes.items) c.in-Ok.ensures c.loop-notes.invariant.1,
)
