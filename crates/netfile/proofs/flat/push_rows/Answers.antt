use Rattle.std.proofs.Common.{string_bytes}
use Rattle.netfile.proofs.Rowing.{rows_more, rows_done}
use Rattle.netfile.proofs.flat.push_rows.Goals as goal

pub loop-row-preserved : goal.loop-row-preserved
loop-row-preserved c =
    rows_more c.args.rows.now c.loop-row.row-index _ (string_bytes c.loop-row.out) c.loop-row.invariant _
    (string_bytes c.push_row.new.out) (string_bytes c.push_str.new.self) c.loop-row-test.true c.in_ok-push_row.ensures c.in_ok-push_str.ensures.bytes

pub returns : goal.returns
returns c = rows_done c.args.rows.now c.loop-row.row-index _ (string_bytes c.loop-row.out) c.loop-row.invariant c.loop-row-test.false
