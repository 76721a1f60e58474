use Rattle.std.proofs.Common.{◌<◌, length, ap, ◌∙◌, subst, arith}
use Rattle.std.proofs.lemmas.Result.{err_from_is_err_and}
use Rattle.model.specs.Model.{lists}
use Rattle.model.specs.Names.{top}
use Rattle.flatten.specs.Steps.{Held}
use Rattle.flatten.proofs.Seams.{fits_not}
use Rattle.flatten.proofs.Filling.{Measured, measured_start, measured_more, measured_all}
use Rattle.flatten.proofs.count.measure.Goals as goal

pub returns-in_err-run : goal.returns-in_err-run
returns-in_err-run g c =
    let list = lists (g.S.Space.means c.args.space.now).shape in
    let p = err_from_is_err_and c.from_residual.result c.from_residual.ensures.1 in
    let q = c.in_err-run.ensures in
    rw (p.1, p.2) (q.0, fits_not list (length c.args.scratch.now) top 0 (omega arith) q.1)

pub runs-init : goal.runs-init
runs-init g c =
    let r = c.in_ok-run.run' in
    let k = c.in_ok-run.ensures in
    let list = lists (g.S.Space.means c.args.space.now).shape in
    let h = subst (λ s. Held (lists (g.S.Space.means s).shape) r.scratch.now r.held) k.1 r.holds in
    (k.1, subst (λ n. Measured list n r.scratch.now r.held 0) k.2 (measured_start list r.scratch.now r.held k.0 h))

pub returns-in_err-next_run : goal.returns-in_err-next_run
returns-in_err-next_run g c =
    let list = lists (g.S.Space.means c.args.space.now).shape in
    let p = err_from_is_err_and c.from_residual-in_err-next_run.result c.from_residual-in_err-next_run.ensures.1 in
    let q = c.in_err-next_run.ensures in
    let s = c.runs.invariant.1.size in
    let l = subst (λ s. length c.runs.run.scratch.now < length (lists (g.S.Space.means s).shape q.1.0)) c.runs.invariant.0 q.1.2 in
    rw (p.1, p.2) (q.0, fits_not list (length c.args.scratch.now) top q.1.0 q.1.1 (omega (arith, s, l)))

pub returns-in-None : goal.returns-in-None
returns-in-None g c =
    let list = lists (g.S.Space.means c.args.space.now).shape in
    let run = c.runs.run in
    let e = c.runs.invariant.0 in
    let m = c.runs.invariant.1 in
    let x = c.names.ensures ∙ ap (λ s. lists (g.S.Space.means s).shape run.held.address) e in
    let k = rw (c.in-None.is, e, m.size) at c.in_ok-next_run.ensures in
    measured_all list _ run.scratch.now run.held c.runs.total m c.names.result.now x c.distinct.result c.distinct.ensures k

pub runs-preserved : goal.runs-preserved
runs-preserved g c =
    let list = lists (g.S.Space.means c.args.space.now).shape in
    let run = c.runs.run in
    let next = c.in-Some.next in
    let e = c.runs.invariant.0 in
    let m = c.runs.invariant.1 in
    let x = c.names.ensures ∙ ap (λ s. lists (g.S.Space.means s).shape run.held.address) e in
    let k = rw (c.in-Some.is, e, m.size) at c.in_ok-next_run.ensures in
    let h = subst (λ s. Held (lists (g.S.Space.means s).shape) next.scratch.now next.held) k.2 next.holds in (
      k.2,
      measured_more list _ run.scratch.now run.held c.runs.total m c.names.result.now x c.distinct.result c.distinct.ensures
          next.scratch.now next.held (omega arith) k.3 (k.0, k.1) h,
    )
