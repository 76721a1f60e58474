use Rattle.std.proofs.Common.{◌≡◌, drop}
use Rattle.model.specs.Bottoms.{misfit}
use Rattle.space.proofs.flat.check.Given as goal

abbrev pub invariant-loop-place : goal.invariant-loop-place
invariant-loop-place l = misfit l.place (drop l.place l.records) ≡ misfit 0 l.records
