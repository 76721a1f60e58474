-- What a list of bounded length holds.
use Rattle.std.specs.Prelude.{ℕ, List, take}
use Rattle.lists.specs.declared.ArrayVec.{ArrayVec}

abbrev pub held : {X : Type 0} {N : ℕ} → ArrayVec X N → List X
held v = take v.len v.items
