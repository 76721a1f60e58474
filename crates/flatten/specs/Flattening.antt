-- What flattening a space answers, and what it leaves in the table.
use Rattle.std.specs.Prelude.{◌≡◌, ℕ, ◌<◌, ◌≤◌, true, cond, List, length, take, drop, Ok, Err, Result}
use Rattle.model.specs.declared.faults.Fault.{Fault}
use Rattle.model.specs.declared.names.Name.{Name}
use Rattle.model.specs.declared.records.Record.{Record}
use Rattle.model.specs.Names.{top}
use Rattle.model.specs.Faults.{plain, told}
use Rattle.flatten.specs.Runs.{Flattened, needed, fits}

-- granted: as many records as are needed, cut into runs, and later records as they were; refused, 10 where some list is longer than the scratch, else 9: the table as it was
abbrev pub FlattenAnswer : (ℕ → List Name) → ℕ → List Record → Result ℕ Fault → List Record → Type 0
FlattenAnswer list scratch table (Ok count) after =
    (fits list scratch top ≡ true) × (count ≡ needed list top) × (count ≤ length table)
    × Flattened list (take count after) × (drop count after ≡ drop count table)
FlattenAnswer list scratch table (Err f) after =
    (told f ≡ plain (cond (fits list scratch top) 9 10)) × (after ≡ table)
    × (fits list scratch top ≡ true → length table < needed list top)
