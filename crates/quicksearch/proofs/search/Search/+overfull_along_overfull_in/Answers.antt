use Rattle.std.proofs.Common.{◌+◌, ◌-◌, ◌%◌, ◌≤◌, not, sym, refl, ap, ◌∙◌, subst, arith, rules}
use Rattle.model.specs.Names.{top}
use Rattle.blocks.specs.Shape.{kept}
use Rattle.walks.specs.Spans.{reach}
use Rattle.quicksearch.proofs.Queues.{take-kept}
use Rattle.quicksearch.proofs.Turning.{room_cut, within_cut, turned_waits, first_back, turned_back, none_back}
use Rattle.quicksearch.proofs.Ahead.{first, room_first, waits_behind, arrival, waits_part, found, missed, full, waits_ahead, ahead}
use Rattle.quicksearch.proofs.search.Search.+overfull_along_overfull_in.Goals as goal

pub overfull_in-within_bounds-requires-clause-room : goal.overfull_in-within_bounds-requires-clause-room
overfull_in-within_bounds-requires-clause-room t c = room_cut c.requires

pub overfull_in-returns-then-within_bounds-clause-first : goal.overfull_in-returns-then-within_bounds-clause-first
overfull_in-returns-then-within_bounds-clause-first t c = within_cut c.requires {c = c.args.self.now.net.now} refl (64 - c.args.head) (c.if-within_bounds.ensures.within refl)

pub overfull_in-returns-then-passed-clause-first : goal.overfull_in-returns-then-passed-clause-first
overfull_in-returns-then-passed-clause-first t c = within_cut c.requires c.within_bounds.ensures.net (64 - c.args.head) (c.if-passed.ensures refl)

pub overfull_in-overfull_along-found-requires : goal.overfull_in-overfull_along-found-requires
overfull_in-overfull_along-found-requires t c = (search rules, (omega arith, turned_waits c.requires c.farthest-turn.ensures c.rotate_left.ensures.len c.rotate_left.ensures.after))

pub overfull_in-remember-requires : goal.overfull_in-remember-requires
overfull_in-remember-requires t c =
    none_back c.requires c.farthest-turn.ensures c.rotate_left.ensures.len c.rotate_left.ensures.after c.overfull_along-found.new.queue c.rotate_right.new.self c.overfull_along-found.auto.queue c.overfull_along-found.ensures.kept c.rotate_right.ensures.after
    c.overfull_along-found.ensures.net (64 - c.args.head) c.overfull_along-found.result (c.is_none.ensures ∙ ap not c.if-is_none.true) c.overfull_along-found.ensures.first

pub overfull_in-returns-then-is_none-clause-first : goal.overfull_in-returns-then-is_none-clause-first
overfull_in-returns-then-is_none-clause-first t c =
    first_back c.requires c.farthest-turn.ensures c.rotate_left.ensures.len c.rotate_left.ensures.after c.within_bounds.ensures.net (64 - c.args.head) c.overfull_along-found.result c.overfull_along-found.ensures.first

pub overfull_in-returns-then-is_none-clause-kept : goal.overfull_in-returns-then-is_none-clause-kept
overfull_in-returns-then-is_none-clause-kept t c =
    turned_back c.requires c.farthest-turn.ensures c.rotate_left.ensures.len c.rotate_left.ensures.after c.overfull_along-found.new.queue c.rotate_right.new.self c.overfull_along-found.auto.queue c.overfull_along-found.ensures.kept c.rotate_right.ensures.after

pub overfull_in-returns-else-is_none-clause-first : goal.overfull_in-returns-else-is_none-clause-first
overfull_in-returns-else-is_none-clause-first t c =
    first_back c.requires c.farthest-turn.ensures c.rotate_left.ensures.len c.rotate_left.ensures.after c.within_bounds.ensures.net (64 - c.args.head) c.overfull_along-found.result c.overfull_along-found.ensures.first

pub overfull_in-returns-else-is_none-clause-kept : goal.overfull_in-returns-else-is_none-clause-kept
overfull_in-returns-else-is_none-clause-kept t c =
    turned_back c.requires c.farthest-turn.ensures c.rotate_left.ensures.len c.rotate_left.ensures.after c.overfull_along-found.new.queue c.rotate_right.new.self c.overfull_along-found.auto.queue c.overfull_along-found.ensures.kept c.rotate_right.ensures.after

pub overfull_along-overfull_in-requires : goal.overfull_along-overfull_in-requires
overfull_along-overfull_in-requires t c = (search rules, waits_behind c.args.self.now.net.now c.requires.some c.requires.waits)

pub overfull_along-returns-in_default-clause-first : goal.overfull_along-returns-in_default-clause-first
overfull_along-returns-in_default-clause-first t c = arrival c.args.self.now.net.now c.requires.some c.requires.waits c.in_default.not-Node c.overfull_in.result c.overfull_in.ensures.first

pub overfull_along-overfull_ahead-requires : goal.overfull_along-overfull_ahead-requires
overfull_along-overfull_ahead-requires t c =
    let fits = room_first c.args.self.now.net.now c.requires.some c.requires.waits in (
      search rules,
      (
        waits_part c.args.self.now.net.now c.requires.some c.requires.waits c.along.x c.min-extent.result (omega (arith, c.min-extent.ensures)) c.along.queue c.along.invariant.same (omega arith) _ refl refl,
        (
          omega (arith, c.min-extent.ensures),
          subst (λ b. c.min-extent.result ≤ reach (kept b) c.in-Node.node (((first c.args.queue.now c.args.head).offset + c.args.starts.low) % top + c.along.x)) (sym c.along.invariant.net) (omega (arith, c.min-extent.ensures, c.reach_above.ensures)),
        ),
      ),
    )

pub overfull_along-returns-in-Some-clause-first : goal.overfull_along-returns-in-Some-clause-first
overfull_along-returns-in-Some-clause-first t c =
    found c.args.self.now.net.now c.requires.some c.requires.waits c.along.x c.min-extent.result (omega (arith, c.min-extent.ensures)) c.along.queue c.along.invariant.same
    c.in-Node.node c.in-Node.is c.along.invariant.low c.along.invariant.net c.in-Some.y c.in-Some.ensures.first

pub overfull_along-returns-then-extent-starts-clause-first : goal.overfull_along-returns-then-extent-starts-clause-first
overfull_along-returns-then-extent-starts-clause-first t c = λ d i.
    missed c.args.self.now.net.now c.requires.some c.requires.waits c.along.x c.min-extent.result (omega (arith, c.min-extent.ensures)) c.along.queue c.along.invariant.same
    c.in-Node.node c.in-Node.is c.along.invariant.low c.along.invariant.net c.in_default-overfull_ahead.ensures.first d (omega (arith, c.if-extent-starts.true))

pub overfull_along-along-preserved : goal.overfull_along-along-preserved
overfull_along-along-preserved t c = record {
  inside = omega arith;
  same = c.overfull_ahead.ensures.kept ∙ c.along.invariant.same;
  net = c.overfull_ahead.ensures.net ∙ c.along.invariant.net;
  low = missed c.args.self.now.net.now c.requires.some c.requires.waits c.along.x c.min-extent.result (omega (arith, c.min-extent.ensures)) c.along.queue c.along.invariant.same
      c.in-Node.node c.in-Node.is c.along.invariant.low c.along.invariant.net c.in_default-overfull_ahead.ensures.first;
}

pub overfull_ahead-returns-in_default-clause-first : goal.overfull_ahead-returns-in_default-clause-first
overfull_ahead-returns-in_default-clause-first t c = full c.args.self.now.net.now c.args.head c.requires.waits c.args.node c.args.address c.requires.fits c.requires.near (omega (arith, c.in_default.ensures.laid))

pub overfull_ahead-overfull_in-requires : goal.overfull_ahead-overfull_in-requires
overfull_ahead-overfull_in-requires t c = (
  search rules,
  waits_ahead c.args.self.now.net.now c.args.head c.requires.waits c.args.node c.args.address c.requires.fits c.requires.near c.add_steps.new.queue c.in-Some.end c.add_steps.ensures.kept c.in-Some.ensures.laid (omega arith),
)

pub overfull_ahead-returns-clause-first : goal.overfull_ahead-returns-clause-first
overfull_ahead-returns-clause-first t c =
    ahead c.args.self.now.net.now c.args.head c.requires.waits c.args.node c.args.address c.requires.fits c.requires.near c.add_steps.new.queue c.in-Some.end c.add_steps.ensures.kept c.in-Some.ensures.laid
    c.overfull_in.result c.overfull_in.ensures.first

pub overfull_ahead-returns-clause-kept : goal.overfull_ahead-returns-clause-kept
overfull_ahead-returns-clause-kept t c = take-kept c.overfull_in.new.queue c.add_steps.new.queue c.args.tail c.in-Some.end c.in-Some.ensures.laid.0 c.overfull_in.ensures.kept ∙ c.add_steps.ensures.kept
