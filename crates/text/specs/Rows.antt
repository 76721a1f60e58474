use Rattle.std.specs.Prelude.{ℕ, ◌+◌, Bool, false, cond, ◌||◌, List, [], ◌∷◌, ◌++◌, length, take, drop, is_some, Ok, Err, codes, Result, ◌==◌}
use Rattle.std.specs.Option.{unwrap_or}
use Rattle.model.specs.declared.names.Name.{Name}
use Rattle.model.specs.declared.records.Record.{Record}
use Rattle.text.specs.declared.row.Layout.{Layout}
use Rattle.text.specs.declared.row.Layout.TheVariants.{Row, Address}
use Rattle.text.specs.declared.row.RowFault.{RowFault}
use Rattle.text.specs.declared.row.RowFault.TheVariants.{Length, NotADigit, NotASpace}
use Rattle.text.specs.Digits.{digit_value}
use Rattle.text.specs.Numbers.{number_of, spelled}

-- how many characters a line has, and the columns, from 0, that hold a space; the others hold digits
abbrev pub width : Layout → ℕ
width Row = 59
width Address = 16

abbrev pub space_at : Layout → ℕ → Bool
space_at Row i = i == 16 || (i == 33 || i == 42)
space_at Address i = false

-- whether a character may stand in a column, from 0
abbrev pub fault_at : Layout → ℕ → ℕ → Result (Unit {0}) RowFault
fault_at l i c = cond (space_at l i) (cond (c == 32) (Ok tt) (Err (NotASpace (i + 1)))) (cond (is_some (digit_value c)) (Ok tt) (Err (NotADigit (i + 1))))

abbrev pub or_else : Result (Unit {0}) RowFault → Result (Unit {0}) RowFault → Result (Unit {0}) RowFault
or_else (Ok _) next = next
or_else (Err f) next = Err f

-- the first fault from the column i on
unfoldable pub faults_from : Layout → ℕ → List ℕ → Result (Unit {0}) RowFault
faults_from l i [] = Ok tt
faults_from l i (c ∷ cs) = or_else (fault_at l i c) (faults_from l (i + 1) cs)

abbrev pub checked : Layout → List ℕ → Result (Unit {0}) RowFault
checked l cs = cond (length cs == width l) (faults_from l 0 cs) (Err (Length (length cs)))

-- the number in so many columns from one on
abbrev pub number_at : List ℕ → ℕ → ℕ → ℕ
number_at cs from count = unwrap_or (number_of (take count (drop from cs))) 0

abbrev pub record_in : List ℕ → Record
record_in cs = record { lo = number_at cs 0 16; hi = number_at cs 17 16; component = number_at cs 34 8; base = number_at cs 43 16 }

abbrev pub given : {X : Type 0} → Result (Unit {0}) RowFault → X → Result X RowFault
given (Ok _) x = Ok x
given (Err f) x = Err f

abbrev pub row_read : List ℕ → Result Record RowFault
row_read cs = given (checked Row cs) (record_in cs)

abbrev pub address_read : List ℕ → Result ℕ RowFault
address_read cs = given (checked Address cs) (number_at cs 0 16)

-- the text of a row and of a name
abbrev pub row_text : Record → List ℕ
row_text r = spelled 16 r.lo ++ (32 ∷ (spelled 16 r.hi ++ (32 ∷ (spelled 8 r.component ++ (32 ∷ spelled 16 r.base)))))

abbrev pub name_text : Name → List ℕ
name_text n = spelled 8 n.component ++ (32 ∷ spelled 16 n.address)

-- names one after another, a space before each
abbrev pub names_text : List Name → List ℕ
names_text [] = []
names_text (n ∷ ns) = (32 ∷ name_text n) ++ names_text ns

-- the names found, or that there are none
abbrev pub found_text : List Name → List ℕ
found_text [] = codes " none"
found_text (n ∷ ns) = codes " =" ++ names_text (n ∷ ns)
