use Rattle.std.proofs.Common.{rules, ◌≡◌, ◌+◌, length, subst, arith}
use Rattle.model.specs.Model.{lists}
use Rattle.model.specs.Names.{top}
use Rattle.flatten.specs.Comparing.{PassBelow}
use Rattle.flatten.proofs.Comparing.{looked, named, differs_first, differs_second, passes_on}
use Rattle.flatten.proofs.compare.first_difference.Goals as goal
use Rattle.flatten.proofs.compare.first_difference.Goals.{then-not-all_there-via-then-not-all_there, then-not-all_there-via-else-not-all_there+then-not-all_there-2}

pub returns-then-not-all_there : goal.returns-then-not-all_there
returns-then-not-all_there g c =
    let L = λ (s : _). lists (g.L.Space.means s).shape in
    let R = λ (s : _). lists (g.R.Space.means s).shape in
    let one = c.in_ok-mine.mine in
    let two = c.in_ok-theirs.theirs in
    let a = c.in_ok-mine.ensures in
    let b : (two.held.address ≡ c.stretches.at) × (two.space.now ≡ c.args.second.now) × (length two.scratch.now ≡ length c.stretches.other) = search rules in
    let p = looked L one.space.now c.args.first.now one.scratch.now one.held _ _ a _ one.holds c.stretches.auto.scratch in
    let q = looked R two.space.now c.args.second.now two.scratch.now two.held _ _ b _ two.holds c.stretches.auto.other in
    elim c.then-not-all_there.branch [
      | then-not-all_there-via-then-not-all_there w ↦
          differs_first _ _ _ _ _ _ _ p q c.stretches.invariant.0 c.names.result.now (named L one.space.now c.args.first.now one.scratch.now one.held _ _ a c.names.result.now c.names.ensures)
          c.stretches.invariant.1 w.if-not-all_there.ensures
      | then-not-all_there-via-else-not-all_there+then-not-all_there-2 w ↦
          differs_second _ _ _ _ _ _ _ p q c.stretches.invariant.0 w.names-else-not-all_there.result.now (named R two.space.now c.args.second.now two.scratch.now two.held _ _ b w.names-else-not-all_there.result.now w.names-else-not-all_there.ensures)
          c.stretches.invariant.1 w.if-not-all_there-2.ensures
    ]

pub stretches-preserved : goal.stretches-preserved
stretches-preserved g c =
    let L = λ (s : _). lists (g.L.Space.means s).shape in
    let R = λ (s : _). lists (g.R.Space.means s).shape in
    let one = c.in_ok-mine.mine in
    let two = c.in_ok-theirs.theirs in
    let a = c.in_ok-mine.ensures in
    let b : (two.held.address ≡ c.stretches.at) × (two.space.now ≡ c.args.second.now) × (length two.scratch.now ≡ length c.stretches.other) = search rules in
    let p = looked L one.space.now c.args.first.now one.scratch.now one.held _ _ a _ one.holds c.stretches.auto.scratch in
    let q = looked R two.space.now c.args.second.now two.scratch.now two.held _ _ b _ two.holds c.stretches.auto.other in
    let m = c.min-last.ensures in
    let e = c.reach.ensures in
    let f = c.reach-in-stretches.ensures in
    let n = passes_on _ _ _ _ _ _ _ p q c.stretches.invariant.0 c.names.result.now c.names-else-not-all_there.result.now
    (named L one.space.now c.args.first.now one.scratch.now one.held _ _ a c.names.result.now c.names.ensures)
    (named R two.space.now c.args.second.now two.scratch.now two.held _ _ b c.names-else-not-all_there.result.now c.names-else-not-all_there.ensures)
    c.min-last.result c.if-not-all_there.ensures c.if-not-all_there-2.ensures (omega (arith, m, e, f)) (omega (arith, m, e, f)) in
    let most = p.reaches.most in
    (n, omega (arith, m, e, f, most, c.if-last.false))

pub returns-then-last : goal.returns-then-last
returns-then-last g c =
    let L = λ (s : _). lists (g.L.Space.means s).shape in
    let R = λ (s : _). lists (g.R.Space.means s).shape in
    let one = c.in_ok-mine.mine in
    let two = c.in_ok-theirs.theirs in
    let a = c.in_ok-mine.ensures in
    let b : (two.held.address ≡ c.stretches.at) × (two.space.now ≡ c.args.second.now) × (length two.scratch.now ≡ length c.stretches.other) = search rules in
    let p = looked L one.space.now c.args.first.now one.scratch.now one.held _ _ a _ one.holds c.stretches.auto.scratch in
    let q = looked R two.space.now c.args.second.now two.scratch.now two.held _ _ b _ two.holds c.stretches.auto.other in
    let m = c.min-last.ensures in
    let e = c.reach.ensures in
    let f = c.reach-in-stretches.ensures in
    let n = passes_on _ _ _ _ _ _ _ p q c.stretches.invariant.0 c.names.result.now c.names-else-not-all_there.result.now
    (named L one.space.now c.args.first.now one.scratch.now one.held _ _ a c.names.result.now c.names.ensures)
    (named R two.space.now c.args.second.now two.scratch.now two.held _ _ b c.names-else-not-all_there.result.now c.names-else-not-all_there.ensures)
    c.min-last.result c.if-not-all_there.ensures c.if-not-all_there-2.ensures (omega (arith, m, e, f)) (omega (arith, m, e, f)) in
    let z : c.min-last.result + 1 ≡ top = omega (arith, c.if-last.true) in
    subst (λ k. PassBelow (L c.args.first.now) (R c.args.second.now) (length c.args.scratch.now) (length c.args.other.now) k) z n
