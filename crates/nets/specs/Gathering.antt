-- What noted items stand for over the space below.
use Rattle.std.specs.Prelude.{◌≡◌, ℕ, ◌+◌, ◌≤◌, List, [], ◌∷◌, ◌++◌, length}
use Rattle.std.specs.List.{AllByRecursion}
use Rattle.model.specs.declared.names.Name.{Name}
use Rattle.model.specs.Looks.{Reach}
use Rattle.walks.specs.declared.notes.Note.{Note}
use Rattle.walks.specs.declared.notes.Note.TheVariants.{Own, Arrival}

abbrev pub each : (ℕ → List Name) → List Note → List Name
each under [] = []
each under (Own x ∷ items) = x ∷ each under items
each under (Arrival a ∷ items) = under a ++ each under items

-- what an arrival finds below stays the same-name, but raised, up to a distance
abbrev pub Steady : (ℕ → List Name) → ℕ → Note → Type 0
Steady under room (Own x) = Unit {0}
Steady under room (Arrival a) = Reach under a (a + room)

pub record Gathered (under : ℕ → List Name) (items : List Note) (span count room size : ℕ) : Type 0 where
  pub counts : count ≡ length (each under items)
  pub fits : count ≤ size
  pub less : room ≤ span
  pub steady : AllByRecursion (Steady under room) items
