use Rattle.std.proofs.Common.{◌≡◌, ◌+◌, sym, refl, ap, ◌∙◌, subst, arith}
use mathlib.Core.Option.{none}
use Rattle.std.proofs.lemmas.List.{length-set}
use Rattle.model.specs.Walks.{first_overfull_lem}
use Rattle.model.proofs.Firsts.{none_yet, none_more, first_at}
use Rattle.blocks.specs.declared.destination.Destination.TheVariants.{Node}
use Rattle.blocks.specs.Shape.{kept}
use Rattle.quicksearch.proofs.Searching.{alone, alone_room, none_here, first_here}
use Rattle.quicksearch.proofs.search.Search.first.Goals as goal

pub loop-node-init : goal.loop-node-init
loop-node-init c = (none_yet (kept c.args.self.now.net.now), refl)

pub overfull_in-requires : goal.overfull_in-requires
overfull_in-requires c =
    let n = length-set c.loop-node.queue 0 (record { offset = 0; destination = Node c.loop-node.node }) in
    record {
      ordered = omega arith;
      inside = omega arith;
      long = omega arith;
      room = alone_room _ c.loop-node.node (alone c.loop-node.queue c.loop-node.node (omega arith));
    }

pub returns-in-Some : goal.returns-in-Some
returns-in-Some c =
    let k = kept c.loop-node.self.net.now in
    first_at k c.loop-node.node c.in-Some.address c.loop-node-test.true c.loop-node.invariant.0
    (first_here k c.loop-node.node _ (alone c.loop-node.queue c.loop-node.node (omega arith)) c.in-Some.address c.in-Some.ensures.first)
    ∙ ap (λ b. first_overfull_lem (kept b) 32) c.loop-node.invariant.1

pub loop-node-preserved : goal.loop-node-preserved
loop-node-preserved c =
    let k = kept c.loop-node.self.net.now in (
      subst (λ b. first_overfull_lem (kept b) (c.loop-node.node + 1) ≡ none) (sym c.overfull_in.ensures.net)
          (none_more k c.loop-node.node c.loop-node.invariant.0 (none_here k c.loop-node.node _ (alone c.loop-node.queue c.loop-node.node (omega arith)) c.in_default.ensures.first)),
      c.overfull_in.ensures.net ∙ c.loop-node.invariant.1,
    )

pub returns : goal.returns
returns c =
    let all : c.loop-node.node ≡ 32 = omega arith in
    let none_of = subst (λ b. first_overfull_lem (kept b) c.loop-node.node ≡ none) c.loop-node.invariant.1 c.loop-node.invariant.0 in
    sym (subst (λ n. first_overfull_lem (kept c.args.self.now.net.now) n ≡ none) all none_of)
