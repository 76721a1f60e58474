use Rattle.std.proofs.Common.{map, drop}
use Rattle.blocks.specs.Destinations.{overlay_number}
use Rattle.writing.specs.Texts.{overlay_lines}
use Rattle.writing.proofs.Writers.{Left}
use Rattle.writing.proofs.writer.Writer.overlays.Given as goal

abbrev pub invariant-loop-node : goal.invariant-loop-node
invariant-loop-node l = let ds = map overlay_number l.blocks.overlays in Left (overlay_lines l.node (drop l.node ds)) l.self (overlay_lines 0 ds) l.initial.self
