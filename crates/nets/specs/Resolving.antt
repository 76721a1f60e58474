-- What is answered at an address of a stated node.
use Rattle.std.specs.Prelude.{◌≡◌, ℕ, ◌<◌, ◌≤◌, cond, List, length, Ok, Err, Result, nat_le}
use Rattle.model.specs.declared.names.Name.{Name}
use Rattle.model.specs.declared.faults.Fault.{Fault}
use Rattle.model.specs.Nets.{Kept}
use Rattle.model.specs.Model.{Model, found, lists}
use Rattle.model.specs.Faults.{plain, told}
use Rattle.model.specs.Looks.{Reach, filled}

-- with so many slots, the count and the reach; or 1 where there is no such node, and 9 exactly where there are more names than slots
abbrev pub Resolved : Kept → Model → ℕ → ℕ → ℕ → Result (record { 0 : ℕ; 1 : ℕ }) Fault → Type 0
Resolved k m n a size (Ok g) = (n < 32) × (g.0 ≡ length (found k (lists m) n a)) × (g.0 ≤ size) × Reach (found k (lists m) n) a g.1
Resolved k m n a size (Err e) = (told e ≡ cond (nat_le n 31) (plain 9) (plain 1)) × (n < 32 → size < length (found k (lists m) n a))

-- and the slots after it: where there is no such node, as they were
abbrev pub resolved_slots : Kept → Model → ℕ → ℕ → List Name → List Name
resolved_slots k m n a slots = cond (nat_le n 31) (filled (found k (lists m) n a) slots) slots
