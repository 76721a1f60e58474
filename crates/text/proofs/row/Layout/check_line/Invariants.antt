use Rattle.std.proofs.Common.{◌≡◌, drop}
use Rattle.text.specs.Rows.{faults_from}
use Rattle.text.proofs.row.Layout.check_line.Given as goal

abbrev pub invariant-loop-index : goal.invariant-loop-index
invariant-loop-index l = faults_from l.self l.index (drop l.index l.line) ≡ faults_from l.self 0 l.line
