use Rattle.std.proofs.Common.{◌≡◌, drop, fold}
use Rattle.frames.specs.Machine.{seen, after}
use Rattle.frames.proofs.line.LineReader.take_all.Given as goal

abbrev pub invariant-loop-byte : goal.invariant-loop-byte
invariant-loop-byte l = fold after (seen l.self) (drop l.byte-index l.line) ≡ fold after (seen l.initial.self) l.line
