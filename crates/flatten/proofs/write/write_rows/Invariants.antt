use Rattle.std.proofs.Common.{◌≡◌, ◌+◌, ◌++◌, length, take, drop}
use Rattle.flatten.specs.Runs.{once}
use Rattle.flatten.specs.Steps.{rows}
use Rattle.flatten.proofs.write.write_rows.Given as goal

abbrev pub invariant-loop-name : goal.invariant-loop-name
invariant-loop-name l =
    (goal.iterator-loop-name).can_next l.name-iterator × (goal.iterator-loop-name).is_finite l.name-iterator
    × (l.found + length (once l.name-iterator.left.now) ≡ length (once l.names))
    × (take l.found l.part ++ rows l.lo l.lo (once l.name-iterator.left.now) ≡ rows l.lo l.lo (once l.names))
    × (drop l.found l.part ≡ drop l.found l.initial.part)
