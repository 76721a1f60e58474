-- The rows of a flat table, a line each.
use Rattle.std.specs.Prelude.{◌≡◌, ℕ, List, [], ◌∷◌, ◌++◌}
use Rattle.model.specs.declared.names.Name.{Name}
use Rattle.model.specs.declared.records.Record.{Record}
use Rattle.text.specs.Rows.{row_text}
use Rattle.flatten.specs.Runs.{Flattened}

abbrev pub rows_text : List Record → List ℕ
rows_text [] = []
rows_text (r ∷ rs) = row_text r ++ (10 ∷ rows_text rs)

-- the rows of a table that is cut into runs and gives at each address the names of the list
abbrev pub FlatText : (ℕ → List Name) → List ℕ → Type 0
FlatText list text = (rows : List Record) × Flattened list rows × (text ≡ rows_text rows)
