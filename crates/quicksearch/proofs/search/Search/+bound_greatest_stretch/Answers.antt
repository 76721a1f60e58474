use Rattle.std.proofs.Common.{◌≡◌, ℕ, Option, ◌+◌, [], ◌∷◌, None, sym, refl, ◌∙◌, subst, arith}
use Rattle.std.proofs.ByRecursion.{All-set}
use Rattle.model.specs.Nets.{Spot, node}
use Rattle.blocks.specs.declared.stored.Blocks.{Blocks}
use Rattle.blocks.specs.Shape.{kept}
use Rattle.blocks.specs.Destinations.{spot_of}
use Rattle.blocks.specs.Formed.{formed}
use Rattle.walks.specs.Steps.{rest}
use Rattle.walks.proofs.Stepping.{rest_0}
use Rattle.quicksearch.specs.Agendas.{Room}
use Rattle.quicksearch.specs.Remembered.{Holds, Bounds}
use Rattle.quicksearch.proofs.Exceeds.{of_net}
use Rattle.quicksearch.proofs.Rooms.{room-steps}
use Rattle.quicksearch.proofs.Sums.{sum-none, sum_more, sum-all, bound_name, bound_more}
use Rattle.quicksearch.proofs.search.Search.+bound_greatest_stretch.Goals as goal

holds_of : {b c : Blocks} → b ≡ c → (s : Spot) (extent : ℕ) (most : Option ℕ) → Holds (kept b) s extent most → Holds (kept c) s extent most
holds_of e s extent most = subst (λ b. Holds (kept b) s extent most) e

pub bound-invariant_of-self : goal.bound-invariant_of-self
bound-invariant_of-self t c =
    let m = c.greatest-most.result in
    record {
      reliable = (
        All-set (Bounds (kept c.greatest-most.new.self.net.now)) c.greatest-most.new.self.memo.bounds c.bound_place.result (record { range = c.args.range; node = c.in-Node.node; most = m })
            (holds_of (sym c.greatest-most.ensures.net) (node c.in-Node.node c.args.range.low) c.args.range.extent m c.greatest-most.ensures.holds) c.greatest-most.new.self.reliable.0,
        c.greatest-most.new.self.reliable.1,
      );
    }

pub greatest-returns-then-extent-range-clause-holds : goal.greatest-returns-then-extent-range-clause-holds
greatest-returns-then-extent-range-clause-holds t c = λ d h.
    bound_more (kept c.args.self.now.net.now) c.args.node c.args.range.low c.along.x c.min-extent.result c.along.most c.in_ok-b.b _ (omega arith) (omega arith) c.along.invariant.low
    (of_net c.along.invariant.net c.in_ok-b.b (node c.args.node (c.args.range.low + c.along.x) ∷ []) c.min-extent.result None c.in_ok-b.ensures.holds) d (omega (arith, c.if-extent-range.true))

pub greatest-along-preserved : goal.greatest-along-preserved
greatest-along-preserved t c = record {
  inside = omega arith;
  net = c.stretch.ensures.net ∙ c.along.invariant.net;
  low = bound_more (kept c.args.self.now.net.now) c.args.node c.args.range.low c.along.x c.min-extent.result c.along.most c.in_ok-b.b _ (omega arith) (omega arith) c.along.invariant.low
      (of_net c.along.invariant.net c.in_ok-b.b (node c.args.node (c.args.range.low + c.along.x) ∷ []) c.min-extent.result None c.in_ok-b.ensures.holds);
}

pub stretch-loop-step-init : goal.stretch-loop-step-init
stretch-loop-step-init t c =
    let k = kept c.args.self.now.net.now in
    record {
      few = omega arith;
      room = subst (Room c.args.range.extent) (sym (rest_0 k c.args.node c.args.range.low))
          (room-steps c.args.node c.args.range.low c.args.range.extent k (formed c.args.self.now.net.now).targets_fit c.requires.near c.args.range.under);
      net = refl;
      counts = sum-none k (rest k c.args.node c.args.range.low 0) c.args.range.extent;
    }

pub stretch-loop-step-preserved : goal.stretch-loop-step-preserved
stretch-loop-step-preserved t c =
    let k = kept c.args.self.now.net.now in
    let s = c.in-Some.step in
    let e = c.in-Some.ensures.is in
    let u = subst (Room c.args.range.extent) e c.loop-step.invariant.room in
    record {
      few = omega arith;
      room = u.1;
      net = c.bound.ensures.net ∙ c.loop-step.invariant.net;
      counts = sum_more k (rest k c.args.node c.args.range.low 0) c.args.range.extent (rest k c.args.node c.args.range.low c.loop-step.from) (rest k c.args.node c.args.range.low s.next) (spot_of s.destination s.address)
          c.loop-step.sum c.in_ok-b.b c.loop-step.invariant.counts e
          (of_net c.loop-step.invariant.net c.in_ok-b.b (spot_of s.destination s.address ∷ []) c.args.range.extent None c.in_ok-b.ensures.holds);
    }

pub stretch-returns-clause-holds : goal.stretch-returns-clause-holds
stretch-returns-clause-holds t c =
    let k = kept c.args.self.now.net.now in
    bound_name k c.args.node c.args.range.low c.loop-step.sum c.args.range.extent c.requires.near
    (sum-all k (rest k c.args.node c.args.range.low 0) c.args.range.extent (rest k c.args.node c.args.range.low c.loop-step.from) c.loop-step.sum c.loop-step.invariant.counts c.in_default.ensures)
