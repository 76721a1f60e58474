-- Lists without repetition, by a test of sameness.
use Rattle.std.specs.Prelude.{Bool, true, not, ◌&&◌, List, [], ◌∷◌}
use Rattle.sets.specs.Members.{some_of}

-- whether no element of a list is the same as a later one
abbrev pub apart : {A : Type 0} → (A → A → Bool) → List A → Bool
apart same [] = true
apart same (x ∷ xs) = not (some_of (same x) xs) && apart same xs
