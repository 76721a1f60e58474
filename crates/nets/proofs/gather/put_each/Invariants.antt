use Rattle.model.specs.Model.{lists}
use Rattle.nets.proofs.Gathers.{Going}
use Rattle.nets.proofs.gather.put_each.Given as goal

abbrev pub invariant-loop-item : goal.invariant-loop-item
invariant-loop-item g l = Going (lists (g.B.Space.means l.below).shape) l.items l.span l.item-index l.count l.room l.initial.slots l.slots
