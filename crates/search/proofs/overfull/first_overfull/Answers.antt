use Rattle.std.proofs.Common.{◌≡◌, sym, subst, arith}
use mathlib.Core.Option.{none}
use Rattle.model.specs.Walks.{first_overfull_lem}
use Rattle.model.proofs.Firsts.{none_yet, none_more, first_at}
use Rattle.blocks.specs.Shape.{kept}
use Rattle.search.proofs.overfull.first_overfull.Goals as goal

pub loop-node-init : goal.loop-node-init
loop-node-init c = none_yet (kept c.args.blocks.now)

pub loop-node-preserved : goal.loop-node-preserved
loop-node-preserved c = none_more (kept c.args.blocks.now) c.loop-node.node c.loop-node.invariant c.in_default.ensures

pub returns-in-Some : goal.returns-in-Some
returns-in-Some c = first_at (kept c.args.blocks.now) c.loop-node.node c.in-Some.address c.loop-node-test.true c.loop-node.invariant c.in-Some.ensures

pub returns : goal.returns
returns c =
    let all : c.loop-node.node ≡ 32 = omega arith in
    sym (subst (λ n. first_overfull_lem (kept c.args.blocks.now) n ≡ none) all c.loop-node.invariant)
