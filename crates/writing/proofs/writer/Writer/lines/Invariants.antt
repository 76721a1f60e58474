use Rattle.std.proofs.Common.{drop}
use Rattle.writing.specs.Texts.{lines}
use Rattle.writing.proofs.Writers.{Left}
use Rattle.writing.proofs.writer.Writer.lines.Given as goal

abbrev pub invariant-loop-one : goal.invariant-loop-one
invariant-loop-one g l = Left (lines g.L.Line.text (drop l.one-index l.all)) l.self (lines g.L.Line.text l.all) l.initial.self
