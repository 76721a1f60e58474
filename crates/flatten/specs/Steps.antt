-- What the steps of a flattening pass on to each other.
use Rattle.std.specs.Prelude.{◌≡◌, ℕ, ◌+◌, ◌-◌, ◌<◌, ◌≤◌, Bool, true, ◌&&◌, List, [], ◌∷◌, map, length, take, nat_le, nat_lt}
use Rattle.model.specs.declared.names.Name.{Name}
use Rattle.model.specs.declared.records.Record.{Record}
use Rattle.model.specs.Names.{top, raised, holds}
use Rattle.model.specs.Looks.{Reach}
use Rattle.flatten.specs.declared.stretch.Stretch.{Stretch}
use Rattle.flatten.specs.Runs.{Run}

-- a name with its address lowered by d
abbrev pub lowered : ℕ → Name → Name
lowered d n = record { component = n.component; address = n.address - d }

-- each name of the second list, raised, is below the top and in the first
abbrev pub ups : ℕ → List Name → List Name → Bool
ups d ys [] = true
ups d ys (x ∷ xs) = nat_lt (x.address + d) top && (holds ys (raised d x) && ups d ys xs)

-- each name of the second list can be lowered, and is then in the first
abbrev pub downs : ℕ → List Name → List Name → Bool
downs d ys [] = true
downs d ys (x ∷ xs) = nat_le d x.address && (holds ys (lowered d x) && downs d ys xs)

-- a stretch whose list stands at the front of the scratch
pub record Held (list : ℕ → List Name) (scratch : List Name) (s : Stretch) : Type 0 where
  pub counts : s.count ≡ length (list s.address)
  pub room : s.count ≤ length scratch
  pub front : take s.count scratch ≡ list s.address
  pub reaches : Reach list s.address s.reach

-- a run with all its lists within so many slots
pub record Ended (list : ℕ → List Name) (lo hi room : ℕ) : Type 0 where
  pub run : Run list lo hi
  pub fit : (a : ℕ) → lo ≤ a → a ≤ hi → length (list a) ≤ room

-- some list is longer
abbrev pub Longer : (ℕ → List Name) → ℕ → Type 0
Longer list room = (a : ℕ) × (a < top) × (room < length (list a))

abbrev pub row : ℕ → ℕ → Name → Record
row lo hi n = record { lo = lo; hi = hi; component = n.component; base = n.address }

abbrev pub rows : ℕ → ℕ → List Name → List Record
rows lo hi xs = map (row lo hi) xs

-- a record with its end set
abbrev pub closed : ℕ → Record → Record
closed hi r = record { lo = r.lo; hi = hi; component = r.component; base = r.base }
