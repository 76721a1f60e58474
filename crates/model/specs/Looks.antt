-- What a look leaves in its slots, and how far its answer reaches.
use Rattle.std.specs.Prelude.{◌≡◌, ℕ, ◌+◌, ◌<◌, ◌≤◌, true, cond, List, ◌++◌, length, drop, replicate, Ok, Err, Result, nat_le}
use Rattle.model.specs.declared.faults.Fault.{Fault}
use Rattle.model.specs.declared.names.Name.{Name}
use Rattle.model.specs.Faults.{plain, told}
use Rattle.model.specs.Names.{top, raise, holds}

abbrev pub zeroed : List Name → List Name
zeroed slots = replicate (length slots) (record { component = 0; address = 0 })

-- the slots after a look that finds a list: the list first, and later slots as they were; all zero where the list is longer
abbrev pub filled : List Name → List Name → List Name
filled list slots = cond (nat_le (length list) (length slots)) (list ++ drop (length list) slots) (zeroed slots)

-- at each address up to the reach the list is the one at the address, raised by the distance, and no name is past the last address
pub record Reach (list : ℕ → List Name) (a reach : ℕ) : Type 0 where
  pub least : a ≤ reach
  pub most : reach < top
  pub raises : (d : ℕ) → a + d ≤ reach → list (a + d) ≡ raise d (list a)
  pub none_past : (d : ℕ) → a + d ≤ reach → (x : Name) → holds (list (a + d)) x ≡ true → x.address < top

-- what a look at an address with so many slots answers: the count and the reach together, or 9 where the list is longer
abbrev pub LookAnswer : (ℕ → List Name) → ℕ → ℕ → Result (record { 0 : ℕ; 1 : ℕ }) Fault → Type 0
LookAnswer list a size (Ok g) = (g.0 ≡ length (list a)) × (g.0 ≤ size) × Reach list a g.1
LookAnswer list a size (Err e) = (told e ≡ plain 9) × (size < length (list a))

-- a granted look reaches just so far
abbrev pub ReachIs : ℕ → Result (record { 0 : ℕ; 1 : ℕ }) Fault → Type 0
ReachIs reach (Ok g) = g.1 ≡ reach
ReachIs reach (Err e) = Unit {0}
