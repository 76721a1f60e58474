use Rattle.std.proofs.Common.{◌≡◌, ◌++◌, map, take, drop}
use Rattle.model.specs.Names.{renamed}
use Rattle.layers.specs.Pairs.{two}
use Rattle.layers.proofs.pairs.rename.Given as goal

abbrev pub invariant-loop-name : goal.invariant-loop-name
invariant-loop-name l = l.name-items ≡ map (renamed (map two l.pairs)) (take l.name-index l.initial.name-items) ++ drop l.name-index l.initial.name-items
