-- What the search of one node answers.
use Rattle.std.specs.Prelude.{ℕ, Some, None, Option}
use Rattle.std.proofs.Math.Option.{Option as Maybe, none, some}

-- an address, if one is found
abbrev pub found_address : Option ℕ → Maybe ℕ
found_address None = none
found_address (Some a) = some a
