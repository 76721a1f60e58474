use Rattle.std.proofs.Common.{ℕ, List, refl, ◌∙◌}
use Rattle.std.proofs.lemmas.Result.{err_from_is_err_and}
use Rattle.model.specs.declared.names.Name.{Name}
use Rattle.model.specs.Model.{lists}
use Rattle.walks.specs.declared.notes.Note.{Note}
use Rattle.walks.specs.declared.notes.Note.TheVariants.{Own}
use Rattle.nets.proofs.Gathers.{nothing, going_done, going_filled, own_short, own_more, arrival_short, arrival_more, going_as}
use Rattle.nets.proofs.gather.put_each.Goals as goal
use Rattle.nets.proofs.gather.put_each.Goals.{in-Own+else-count-slots, in-Arrival+in_ok-more-in-Arrival}

pub returns-then-count-slots : goal.returns-then-count-slots
returns-then-count-slots g c = (
  refl,
  own_short (lists (g.B.Space.means c.args.below.now).shape) c.args.items.now c.args.span c.args.slots.now c.loop-item.item-index c.loop-item.count c.loop-item.room c.loop-item.slots c.loop-item.invariant
      c.in-Own.name (Own nothing) c.loop-item-test.true c.in-Own.is c.if-count-slots.true,
)

pub returns-in_err-more-in-Arrival : goal.returns-in_err-more-in-Arrival
returns-in_err-more-in-Arrival g c =
    let f : ℕ → List Name = lists (g.B.Space.means c.args.below.now).shape in
    let p = err_from_is_err_and c.from_residual.result c.from_residual.ensures.1 in
    let r = c.in_err-more-in-Arrival.ensures.answer in
    rw (p.1, p.2) (
      r.0,
      arrival_short f c.args.items.now c.args.span c.args.slots.now c.loop-item.item-index c.loop-item.count c.loop-item.room c.loop-item.slots c.loop-item.invariant
          c.in-Arrival.address (Own nothing) c.loop-item-test.true c.in-Arrival.is r.1,
    )

pub loop-item-preserved : goal.loop-item-preserved
loop-item-preserved g c =
    let f : ℕ → List Name = lists (g.B.Space.means c.args.below.now).shape in
    let xs : List Note = c.args.items.now in
    let old : List Name = c.args.slots.now in
    elim c.match-item.branch [
      | in-Own+else-count-slots w ↦
          going_as f xs c.args.span _ old _ _ _ _ _ _
          (own_more f xs c.args.span old c.loop-item.item-index c.loop-item.count c.loop-item.room c.loop-item.slots c.loop-item.invariant
          w.in-Own.name (Own nothing) c.loop-item-test.true w.in-Own.is w.if-count-slots.false)
          w.count-is w.room-is w.slots-is
      | in-Arrival+in_ok-more-in-Arrival w ↦
          (let r = w.in_ok-more-in-Arrival.ensures.answer in
          going_as f xs c.args.span _ old _ _ _ _ _ _
          (arrival_more f xs c.args.span old c.loop-item.item-index c.loop-item.count c.loop-item.room c.loop-item.slots c.loop-item.invariant
          w.in-Arrival.address (Own nothing) c.loop-item-test.true w.in-Arrival.is
          w.in_ok-more-in-Arrival.more w.in_ok-more-in-Arrival.reach w.look.new.slots r.0 r.1 r.2 w.in_ok-more-in-Arrival.ensures.buffer)
          w.count-is (w.room-is ∙ w.min-room.ensures) w.slots-is)
    ]

pub returns : goal.returns
returns g c =
    let f : ℕ → List Name = lists (g.B.Space.means c.args.below.now).shape in (
      going_done f c.args.items.now c.args.span c.args.slots.now c.loop-item.item-index c.loop-item.count c.loop-item.room c.loop-item.slots c.loop-item.invariant c.loop-item-test.false,
      going_filled f c.args.items.now c.args.span c.args.slots.now c.loop-item.item-index c.loop-item.count c.loop-item.room c.loop-item.slots c.loop-item.invariant c.loop-item-test.false,
    )
