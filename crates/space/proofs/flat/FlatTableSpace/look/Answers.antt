use Rattle.std.proofs.Common.{sym, subst}
use Rattle.model.specs.Bottoms.{tabled}
use Rattle.model.specs.Looks.{Reach}
use Rattle.space.proofs.Tables.{gathering_start, gathering_done, table_reach}
use Rattle.space.proofs.flat.FlatTableSpace.look.Goals as goal

pub loop-row-init : goal.loop-row-init
loop-row-init c = gathering_start c.args.address c.args.self.now.records.now c.args.slots.now c.args.self.now.valid

pub returns-clause-answer : goal.returns-clause-answer
returns-clause-answer c =
    let rs = c.args.self.now.records.now in
    let a = c.args.address in
    let d = gathering_done a rs c.args.slots.now c.loop-row.slots c.loop-row.count c.loop-row.reach c.loop-row.row-index c.loop-row.invariant c.loop-row-test.false in
    (d.0, d.1, subst (λ n. Reach (tabled rs) a n) (sym d.2) (table_reach rs a c.args.self.now.valid c.ranges.address.fits))
