use Rattle.std.proofs.Common.{◌≡◌, ◌++◌, drop, string_bytes}
use Rattle.netfile.specs.Rows.{rows_text}
use Rattle.netfile.proofs.flat.push_rows.Given as goal

abbrev pub invariant-loop-row : goal.invariant-loop-row
invariant-loop-row l = string_bytes l.out ++ rows_text (drop l.row-index l.rows) ≡ string_bytes l.initial.out ++ rows_text l.rows
