use Rattle.std.proofs.Common.{◌+◌, ◌-◌, ◌<◌, length, refl, ap, ◌∙◌, subst}
use Rattle.model.specs.Model.{lists}
use Rattle.flatten.specs.Steps.{ups, downs, Held, Ended}
use Rattle.flatten.proofs.Stretches.{going_start, ended_up, ended_down, going_on}
use Rattle.flatten.proofs.stretch.Cursor.next_run.Goals as goal
use Rattle.flatten.proofs.stretch.Cursor.next_run.Goals.{then-not-met-via-then-not-met, then-not-met-via-else-not-met+then-not-all_came}

pub stretches-init : goal.stretches-init
stretches-init g c = (refl, going_start (lists (g.S.Space.means c.args.self.space.now).shape) c.args.self.scratch.now c.args.self.held c.args.self.holds)

pub returns-then-not-met : goal.returns-then-not-met
returns-then-not-met g c =
    let list = lists (g.S.Space.means c.args.self.space.now).shape in
    let last = c.stretches.last in
    let next = c.in_ok-next.next in
    let here = c.in_ok-next.ensures in
    let e = c.stretches.invariant.0 in
    let e' = here.1 ∙ e in
    let h = subst (λ s. Held (lists (g.S.Space.means s).shape) next.scratch.now next.held) e' next.holds in
    let by = last.held.reach + 1 - last.held.address in
    let p : (c.args.self.held.address < next.held.address) × Ended list c.args.self.held.address (next.held.address - 1) (length c.args.self.scratch.now) =
    elim c.then-not-met.branch [
      | then-not-met-via-then-not-met w ↦
          ended_up list _ _ last.scratch.now last.held c.stretches.invariant.1 next.scratch.now next.held here.0 h c.names.result.now
          (c.names.ensures ∙ ap (λ s. lists (g.S.Space.means s).shape last.held.address) e)
          (w.if-not-met.ensures ∙ ap (λ s. ups by (lists (g.S.Space.means s).shape (last.held.reach + 1)) c.names.result.now) e)
      | then-not-met-via-else-not-met+then-not-all_came w ↦
          ended_down list _ _ last.scratch.now last.held c.stretches.invariant.1 next.scratch.now next.held here.0 h c.names-names.result.now
          (c.names-names.ensures ∙ ap (λ s. lists (g.S.Space.means s).shape next.held.address) e')
          (w.if-not-all_came.ensures ∙ ap (λ s. downs by (lists (g.S.Space.means s).shape last.held.address) c.names-names.result.now) e)
    ] in
    (p.0, p.1, e', here.2 ∙ c.stretches.invariant.1.size)

pub stretches-preserved : goal.stretches-preserved
stretches-preserved g c =
    let list = lists (g.S.Space.means c.args.self.space.now).shape in
    let last = c.stretches.last in
    let next = c.in_ok-next.next in
    let here = c.in_ok-next.ensures in
    let e = c.stretches.invariant.0 in
    let e' = here.1 ∙ e in
    let h = subst (λ s. Held (lists (g.S.Space.means s).shape) next.scratch.now next.held) e' next.holds in
    let by = last.held.reach + 1 - last.held.address in (
      e',
      going_on list _ _ last.scratch.now last.held c.stretches.invariant.1 next.scratch.now next.held here.0 h (here.2 ∙ c.stretches.invariant.1.size)
          c.names.result.now c.names-names.result.now
          (c.names.ensures ∙ ap (λ s. lists (g.S.Space.means s).shape last.held.address) e)
          (c.names-names.ensures ∙ ap (λ s. lists (g.S.Space.means s).shape next.held.address) e')
          (c.if-not-met.ensures ∙ ap (λ s. ups by (lists (g.S.Space.means s).shape (last.held.reach + 1)) c.names.result.now) e)
          (c.if-not-all_came.ensures ∙ ap (λ s. downs by (lists (g.S.Space.means s).shape last.held.address) c.names-names.result.now) e),
    )
