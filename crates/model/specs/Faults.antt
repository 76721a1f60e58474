-- What a refusal tells: its number, and with it the values that it carries.
use Rattle.std.specs.Prelude.{ℕ, Ok, Err, Result}
use Rattle.std.proofs.Math.Option.{Option, none, some}
use Rattle.model.specs.declared.faults.Fault.{Fault}
use Rattle.model.specs.declared.faults.Fault.TheVariants.{NodeOutOfRange, DestinationOutOfRange, RangeReversed, TargetPastTop, AlreadyThere, NotThere, TableFull, WalkTooLong, BufferShort, ScratchShort, SecondScratchShort, NotADigit, OddDigits, KindUnknown, LengthWrong, RecordReversed, RecordPastTop}

-- a number alone, with a name (node, address), or with a place in a table
pub data Refusal : Type 0 where
  plain : ℕ → Refusal
  at_name : ℕ → ℕ → ℕ → Refusal
  at_place : ℕ → ℕ → Refusal

abbrev pub number : Refusal → ℕ
number (plain i) = i
number (at_name i n a) = i
number (at_place i p) = i

abbrev pub told : Fault → Refusal
told NodeOutOfRange = plain 1
told DestinationOutOfRange = plain 2
told RangeReversed = plain 3
told TargetPastTop = plain 4
told AlreadyThere = plain 5
told NotThere = plain 6
told TableFull = plain 7
told (WalkTooLong n a) = at_name 8 n a
told BufferShort = plain 9
told ScratchShort = plain 10
told SecondScratchShort = plain 11
told NotADigit = plain 12
told OddDigits = plain 13
told KindUnknown = plain 14
told LengthWrong = plain 15
told (RecordReversed p) = at_place 3 p
told (RecordPastTop p) = at_place 4 p

-- the refusal in an answer, if any
abbrev pub refusal : {A : Type 0} → Result A Fault → Option Refusal
refusal (Ok x) = none
refusal (Err f) = some (told f)
