-- What a search answers, to the reference model and to a list.
use Rattle.std.specs.Prelude.{◌≡◌, ℕ, ◌+◌, Bool, true, false, List, ◌++◌, take, drop, Some, None, Option}
use Rattle.std.proofs.Math.Option.{Option as Maybe, none, some}
use Rattle.sets.specs.Members.{some_of}
use Rattle.model.specs.Edits.{without}

-- a name, node and address, as the reference model has it
abbrev pub found : Option (record { 0 : ℕ; 1 : ℕ }) → Maybe (ℕ × ℕ)
found None = none
found (Some x) = some (x.0, x.1)

-- where the first of a list that passes a test stands
abbrev pub FoundAt : {X : Type 0} → (X → Bool) → List X → Option ℕ → Type 0
FoundAt p xs None = some_of p xs ≡ false
FoundAt p xs (Some i) = (some_of p xs ≡ true) × (without p xs ≡ take i xs ++ drop (i + 1) xs)
