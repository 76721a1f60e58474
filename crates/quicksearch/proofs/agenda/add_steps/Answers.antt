use Rattle.std.proofs.Common.{◌<◌, ◌++◌, length, refl, ap, ◌∙◌, arith}
use Rattle.std.proofs.lemmas.List.{length-set, take-set-le}
use Rattle.model.specs.Names.{top}
use Rattle.model.specs.Nets.{steps}
use Rattle.blocks.specs.Shape.{kept}
use Rattle.blocks.specs.Destinations.{spot_of}
use Rattle.blocks.specs.Formed.{formed}
use Rattle.walks.specs.Steps.{rest}
use Rattle.walks.proofs.Stepping.{rest_0}
use Rattle.quicksearch.specs.Agendas.{spots}
use Rattle.quicksearch.proofs.Queues.{back_mod, waiting_none, lay_more, lay_long, lay_all}
use Rattle.quicksearch.proofs.Rooms.{room-steps, room-rest}
use Rattle.quicksearch.proofs.agenda.add_steps.Goals as goal

pub loop-step-init : goal.loop-step-init
loop-step-init c =
    let k = kept c.args.blocks.now in (
      omega arith,
      omega arith,
      refl,
      ap (λ ts. spots c.args.start ts ++ rest k c.args.node c.args.address 0) (waiting_none c.args.tail c.args.queue.now (omega arith)) ∙ rest_0 k c.args.node c.args.address,
    )

pub loop-step-preserved : goal.loop-step-preserved
loop-step-preserved c =
    let k = kept c.args.blocks.now in
    let s = c.in-Some.step in
    let low : s.address < top =
    room-rest (spots c.args.start _) s.destination s.address _ (steps k c.args.node c.args.address) c.loop-step.invariant.3 c.in-Some.ensures.is
    (room-steps c.args.node c.args.address 0 k (formed c.args.blocks.now).targets_fit (omega arith) (omega arith)) in (
      omega arith,
      simp length-set (omega arith),
      take-set-le c.args.tail c.loop-step.queue c.loop-step.end _ c.loop-step.invariant.0 ∙ c.loop-step.invariant.2,
      lay_more (steps k c.args.node c.args.address) (rest k c.args.node c.args.address c.loop-step.from) c.loop-step.queue c.args.start c.args.tail c.loop-step.end
          c.loop-step.invariant.0 c.loop-step.invariant.3 (spot_of s.destination s.address) _ _ (omega arith) (ap (spot_of s.destination) (back_mod s.address c.args.start low (omega arith))) c.in-Some.ensures.is,
    )

pub returns-then-end-queue : goal.returns-then-end-queue
returns-then-end-queue c =
    let k = kept c.args.blocks.now in
    record {
      kept = c.loop-step.invariant.2;
      laid = lay_long (steps k c.args.node c.args.address) (rest k c.args.node c.args.address c.loop-step.from) c.loop-step.queue c.args.start c.args.tail c.loop-step.end
          c.loop-step.invariant.0 c.loop-step.invariant.3 _ _ (length c.loop-step.queue) (omega arith) c.if-end-queue.true c.in-Some.ensures.is;
    }

pub returns : goal.returns
returns c =
    let k = kept c.args.blocks.now in
    record {
      kept = c.loop-step.invariant.2;
      laid = (
        c.loop-step.invariant.0,
        c.loop-step.invariant.1,
        lay_all (steps k c.args.node c.args.address) (rest k c.args.node c.args.address c.loop-step.from) c.loop-step.queue c.args.start c.args.tail c.loop-step.end
            c.loop-step.invariant.0 c.loop-step.invariant.3 c.in_default.ensures,
      );
    }
