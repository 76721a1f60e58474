use Rattle.std.proofs.Common.{length, sym, refl, ap, ◌∙◌, arith}
use Rattle.std.proofs.lemmas.Result.{err_from_is_err_and}
use Rattle.std.proofs.lemmas.Bool.{cond-true, cond-false, both_ways}
use Rattle.model.specs.Model.{lists}
use Rattle.model.specs.Names.{top}
use Rattle.model.specs.Faults.{plain, told}
use Rattle.flatten.specs.Runs.{fits}
use Rattle.flatten.proofs.flat.count_and_fill.Goals as goal

pub returns-in_err-needed : goal.returns-in_err-needed
returns-in_err-needed g c =
    let held = fits (lists (g.S.Space.means c.args.space.now).shape) (length c.args.scratch.now) top in
    let p = err_from_is_err_and c.from_residual.result c.from_residual.ensures.1 in
    let q = c.in_err-needed.ensures in
    rw (p.1, p.2) (ap told q.0 ∙ ap plain (sym (cond-false held 9 10 q.1)), refl, λ h. absurd (both_ways held q.1 h))

pub returns-then-needed-table : goal.returns-then-needed-table
returns-then-needed-table g c =
    let held = fits (lists (g.S.Space.means c.args.space.now).shape) (length c.args.scratch.now) top in
    let q = c.in_ok-needed.ensures in
    let n = q.0 in
    (ap plain (sym (cond-true held 9 10 q.1)), refl, λ h. omega (arith, n, c.if-needed-table.true))

pub returns : goal.returns
returns g c =
    let q = c.in_ok-needed.ensures in
    let n = q.0 in
    let e = c.fill.ensures.count in
    (q.1, e, omega (arith, n, e, c.if-needed-table.false), c.fill.ensures.flat, c.fill.ensures.kept)
