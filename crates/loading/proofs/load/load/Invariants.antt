use Rattle.std.proofs.Common.{◌≡◌, ◌+◌}
use Rattle.model.specs.Nets.{fresh}
use Rattle.blocks.specs.Shape.{kept}
use Rattle.loading.specs.Texts.{lines_of}
use Rattle.loading.specs.Loads.{loaded}
use Rattle.loading.proofs.load.load.Given as goal

abbrev pub invariant-loop-index : goal.invariant-loop-index
invariant-loop-index l = loaded (l.index-iterator.count + 1) (kept l.table.blocks) (lines_of l.index-iterator.iter.rest.now) ≡ loaded 1 (fresh l.group) (lines_of l.text)
