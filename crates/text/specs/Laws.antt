use Rattle.std.specs.Prelude.{◌≡◌, ℕ, ◌^◌, ◌<◌, ◌≤◌, List, length, Some, Ok}
use Rattle.model.specs.declared.records.Record.{Record}
use Rattle.text.specs.Numbers.{number_of, spelled}
use Rattle.text.specs.Rows.{row_read, row_text, address_read}

-- what is written is read back
abbrev pub WrittenRead : Type 0
WrittenRead = (n v : ℕ) → 1 ≤ n → n ≤ 16 → v < 16 ^ n → number_of (spelled n v) ≡ Some v

-- what is read has one spelling of its width
abbrev pub ReadWritten : Type 0
ReadWritten = (cs : List ℕ) (v : ℕ) → number_of cs ≡ Some v → spelled (length cs) v ≡ cs

abbrev pub WidthKept : Type 0
WidthKept = (n v : ℕ) → length (spelled n v) ≡ n

-- the fields of a row fit their columns
abbrev pub Fitting : Record → Type 0
Fitting r = (r.lo < 2 ^ 64) × (r.hi < 2 ^ 64) × (r.component < 2 ^ 32) × (r.base < 2 ^ 64)

-- a row that is written is read back, and a row that is read has one spelling
abbrev pub RowReadBack : Type 0
RowReadBack = (r : Record) → Fitting r → row_read (row_text r) ≡ Ok r

abbrev pub RowSpelledBack : Type 0
RowSpelledBack = (cs : List ℕ) (r : Record) → row_read cs ≡ Ok r → row_text r ≡ cs

abbrev pub RowFits : Type 0
RowFits = (cs : List ℕ) (r : Record) → row_read cs ≡ Ok r → Fitting r

-- and so with an address
abbrev pub AddressReadBack : Type 0
AddressReadBack = (v : ℕ) → v < 2 ^ 64 → address_read (spelled 16 v) ≡ Ok v

abbrev pub AddressSpelledBack : Type 0
AddressSpelledBack = (cs : List ℕ) (v : ℕ) → address_read cs ≡ Ok v → spelled 16 v ≡ cs
