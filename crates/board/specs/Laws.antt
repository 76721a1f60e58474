-- The laws of the search by jumps.
use Rattle.std.specs.Prelude.{◌≡◌, ℕ, ◌<◌}
use Rattle.std.proofs.Math.Option.{Option, some}
use Rattle.model.specs.Names.{top}
use Rattle.model.specs.Nets.{Kept}
use Rattle.model.specs.Walks.{overfull, least, first_overfull_lem}
use Rattle.board.specs.Jumping.{jumping, jumping_nodes}

-- where the jumps suffice, the search of a node finds its least overfull address
abbrev pub JumpsExact : Type 0
JumpsExact = (k : Kept) (n jumps : ℕ) (found : Option ℕ) → jumping k n jumps 0 ≡ some found → least (overfull k n) top ≡ found

-- and the search of the nodes the first overfull name of the net
abbrev pub JumpsFirst : Type 0
JumpsFirst = (k : Kept) (n jumps : ℕ) (found : Option (ℕ × ℕ)) → jumping_nodes k jumps n ≡ some found → first_overfull_lem k n ≡ found

-- more jumps than there are addresses suffice
abbrev pub JumpsEnd : Type 0
JumpsEnd = (k : Kept) (n jumps : ℕ) → top < jumps → jumping_nodes k jumps n ≡ some (first_overfull_lem k n)
