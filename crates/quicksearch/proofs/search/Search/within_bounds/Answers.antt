use Rattle.std.proofs.Common.{◌+◌, [], ◌∷◌, get_or, drop, None, refl, ap, ◌∙◌, arith}
use Rattle.std.proofs.lemmas.List.{drop_more, drop_all}
use Rattle.blocks.specs.Shape.{kept}
use Rattle.blocks.specs.declared.destination.Destination.TheVariants.{Node}
use Rattle.quicksearch.specs.declared.memo.Target.{Target}
use Rattle.quicksearch.specs.Agendas.{placed, spots}
use Rattle.quicksearch.proofs.Exceeds.{of_net}
use Rattle.quicksearch.proofs.Rooms.{room_at}
use Rattle.quicksearch.proofs.Sums.{sum-none, sum_more, sum-within}
use Rattle.quicksearch.proofs.search.Search.within_bounds.Goals as goal

abbrev blank : Target
blank = record { offset = 0; destination = Node 0 }

pub loop-t-init : goal.loop-t-init
loop-t-init c = record {
  few = omega arith;
  net = refl;
  counts = sum-none (kept c.args.self.now.net.now) (spots c.args.agenda.starts.low c.args.agenda.targets.now) c.args.agenda.starts.extent;
}

pub invariant_of-range : goal.invariant_of-range
invariant_of-range c = record { under = room_at c.args.agenda.starts.low c.args.agenda.starts.extent c.args.agenda.targets.now c.loop-t.t-index blank c.requires.room c.loop-t-test.true }

pub loop-t-preserved : goal.loop-t-preserved
loop-t-preserved c =
    let ts = c.args.agenda.targets.now in
    let low = c.args.agenda.starts.low in
    let s = placed low (get_or ts c.loop-t.t-index blank) in
    record {
      few = omega arith;
      net = c.bound.ensures.net ∙ c.loop-t.invariant.net;
      counts = sum_more (kept c.args.self.now.net.now) (spots low ts) c.args.agenda.starts.extent (spots low (drop c.loop-t.t-index ts)) (spots low (drop (c.loop-t.t-index + 1) ts)) s
          c.loop-t.sum c.in-Some.b c.loop-t.invariant.counts (ap (spots low) (drop_more ts c.loop-t.t-index blank c.loop-t-test.true))
          (of_net c.loop-t.invariant.net c.in-Some.b (s ∷ []) c.args.agenda.starts.extent None c.in-Some.ensures.holds);
    }

pub returns-clause-within : goal.returns-clause-within
returns-clause-within c =
    let ts = c.args.agenda.targets.now in
    let low = c.args.agenda.starts.low in
    λ _. sum-within (kept c.args.self.now.net.now) (spots low ts) c.args.agenda.starts.extent (spots low (drop c.loop-t.t-index ts))
    c.loop-t.sum c.args.budget c.loop-t.invariant.counts (ap (spots low) (drop_all c.loop-t.t-index ts c.loop-t-test.false)) c.loop-t.invariant.few
