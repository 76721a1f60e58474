use Rattle.std.proofs.Common.{◌≡◌, ℕ, ◌-◌, ◌<◌, true, List, length, refl, ap, ◌∙◌, subst, arith, length-drop}
use Rattle.std.proofs.lemmas.List.{take_rest}
use Rattle.model.specs.declared.names.Name.{Name}
use Rattle.model.specs.Model.{lists}
use Rattle.model.specs.Names.{top}
use Rattle.flatten.specs.Runs.{fits}
use Rattle.flatten.specs.Steps.{Held}
use Rattle.flatten.proofs.Seams.{fits_at}
use Rattle.flatten.proofs.Filling.{Filled, filled_start, filled-room, filled_last, filled_more}
use Rattle.flatten.proofs.write.fill.Goals as goal

-- no list is longer than a scratch that holds them all
never_longer : (list : ℕ → List Name) (s a : ℕ) → fits list s top ≡ true → a < top → s < length (list a) → ⊥
never_longer list s a f l m = let h = fits_at list s top a f l in omega (arith, h, m)

pub unreachable-requires : goal.unreachable-requires
unreachable-requires g c =
    let q = c.in_default.ensures in
    never_longer (lists (g.S.Space.means c.args.space.now).shape) (length c.args.scratch.now) 0 c.requires.held (omega arith) q.1

pub runs-init : goal.runs-init
runs-init g c =
    let list = lists (g.S.Space.means c.args.space.now).shape in
    let r = c.in-Ok.run' in
    let k = c.in-Ok.ensures in
    let h = subst (λ s. Held (lists (g.S.Space.means s).shape) r.scratch.now r.held) k.1 r.holds in
    (k.1, subst (λ n. Filled list n c.args.table.now r.scratch.now r.held 0 c.args.table.now) k.2 (filled_start list c.args.table.now r.scratch.now r.held k.0 h))

pub write_rows-requires : goal.write_rows-requires
write_rows-requires g c =
    let list = lists (g.S.Space.means c.args.space.now).shape in
    let run = c.runs.run in
    let x = c.names.ensures ∙ ap (λ s. lists (g.S.Space.means s).shape run.held.address) c.runs.invariant.0 in
    let q = filled-room list _ c.args.table.now run.scratch.now run.held c.runs.n c.runs.table c.runs.invariant.1 c.requires.room c.names.result.now x in
    let e = ap length (take_rest c.runs.table c.runs.n) in
    let d = length-drop c.runs.n c.runs.table in
    omega (arith, q, e, d)

pub unreachable-requires-in_default-next_run : goal.unreachable-requires-in_default-next_run
unreachable-requires-in_default-next_run g c =
    let q = c.in_default-next_run.ensures in
    let s = c.runs.invariant.1.size in
    let l = subst (λ s. length c.runs.run.scratch.now < length (lists (g.S.Space.means s).shape q.1.0)) c.runs.invariant.0 q.1.2 in
    never_longer (lists (g.S.Space.means c.args.space.now).shape) (length c.args.scratch.now) q.1.0 c.requires.held q.1.1 (omega (arith, s, l))

pub returns-in-None : goal.returns-in-None
returns-in-None g c =
    let list = lists (g.S.Space.means c.args.space.now).shape in
    let run = c.runs.run in
    let e = c.runs.invariant.0 in
    let x = c.names.ensures ∙ ap (λ s. lists (g.S.Space.means s).shape run.held.address) e in
    let k = rw (c.in-None.is, e) at c.in-Ok-next_run.ensures in
    let w = rw c.start.ensures at c.write_rows.ensures in
    let p = filled_last list _ c.args.table.now run.scratch.now run.held c.runs.n c.runs.table c.runs.invariant.1 c.requires.room c.names.result.now x
    c.write_rows.result c.write_rows.new.part w.0 w.1 18446744073709551615 c.close_rows.new.part c.close_rows.ensures k.run refl in
    record { count = p.0; flat = p.1; kept = p.2 }

pub runs-preserved : goal.runs-preserved
runs-preserved g c =
    let list = lists (g.S.Space.means c.args.space.now).shape in
    let run = c.runs.run in
    let next = c.in-Some.next in
    let e = c.runs.invariant.0 in
    let f = c.runs.invariant.1 in
    let x = c.names.ensures ∙ ap (λ s. lists (g.S.Space.means s).shape run.held.address) e in
    let k = rw (c.in-Some.is, e, f.size) at c.in-Ok-next_run.ensures in
    let w = rw c.start.ensures at c.write_rows.ensures in
    let h = subst (λ s. Held (lists (g.S.Space.means s).shape) next.scratch.now next.held) k.2 next.holds in (
      k.2,
      filled_more list _ c.args.table.now run.scratch.now run.held c.runs.n c.runs.table f c.requires.room c.names.result.now x
          c.write_rows.result c.write_rows.new.part w.0 w.1 (next.held.address - 1) c.close_rows-in-Some.new.part (rw c.start-in-Some.ensures at c.close_rows-in-Some.ensures) k.1.run
          next.scratch.now next.held refl k.0 k.3 h,
    )
