use Rattle.std.proofs.Common.{drop}
use Rattle.writing.specs.Fields.{line_of}
use Rattle.writing.proofs.Writers.{Left}
use Rattle.writing.proofs.writer.Writer.line.Given as goal

abbrev pub invariant-loop-field : goal.invariant-loop-field
invariant-loop-field l = Left (line_of (drop l.field-index l.fields)) l.self (line_of l.fields) l.initial.self
