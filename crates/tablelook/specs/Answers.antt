-- What the program answers to a row and to an address.
use Rattle.std.specs.Prelude.{◌≡◌, ℕ, cond, List, [], ◌∷◌, ◌++◌, length, Ok, Err, codes, Result, nat_le}
use Rattle.std.proofs.Math.Option.{none, some}
use Rattle.model.specs.declared.names.Name.{Name}
use Rattle.model.specs.declared.records.Record.{Record}
use Rattle.model.specs.Bottoms.{misfit}
use Rattle.model.specs.Faults.{told}
use Rattle.text.specs.Numbers.{spelled}
use Rattle.text.specs.Rows.{row_read, found_text}
use Rattle.tablelook.specs.declared.answer.RowProblem.{RowProblem}
use Rattle.tablelook.specs.declared.answer.RowProblem.TheVariants.{Text, Refused}

-- a row is read, and a table takes its record; else its text is told, or the refusal of its record
abbrev pub RowAnswer : List ℕ → Result Record RowProblem → Type 0
RowAnswer line (Ok row) = (row_read line ≡ Ok row) × (misfit 0 (row ∷ []) ≡ none)
RowAnswer line (Err (Text f)) = row_read line ≡ Err f
RowAnswer line (Err (Refused f)) = (row : Record) × (row_read line ≡ Ok row) × (misfit 0 (row ∷ []) ≡ some (told f))

-- the line of an address: the address, then what is found; 9 where so many slots do not hold the list
abbrev pub look_text : List Name → ℕ → ℕ → List ℕ
look_text list size a = spelled 16 a ++ cond (nat_le (length list) size) (found_text list) (codes " - 09")
