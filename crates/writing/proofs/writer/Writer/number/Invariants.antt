use Rattle.text.specs.Numbers.{spelled}
use Rattle.writing.proofs.Writers.{Left}
use Rattle.writing.proofs.writer.Writer.number.Given as goal

abbrev pub invariant-loop-place : goal.invariant-loop-place
invariant-loop-place l = Left (spelled l.place l.value) l.self (spelled l.digits l.value) l.initial.self
