-- What a line says: its characters are digits, two to a byte, and the bytes are a frame.
use Rattle.std.specs.Prelude.{ℕ, ◌+◌, ◌*◌, ◌%◌, Bool, true, cond, ◌&&◌, List, [], ◌∷◌, length, is_some, Err, Result, ◌==◌, nat_lt}
use Rattle.std.specs.Option.{unwrap_or}
use Rattle.model.specs.declared.faults.Fault.{Fault}
use Rattle.model.specs.declared.faults.Fault.TheVariants.{NotADigit, OddDigits}
use Rattle.text.specs.Digits.{digit_value}
use Rattle.frames.specs.declared.frame.Frame.{Frame}
use Rattle.frames.specs.declared.frame.Kinds.{Kinds}
use Rattle.frames.specs.Frames.{frame_read}

-- each character is a digit
unfoldable pub all_digits : List ℕ → Bool
all_digits [] = true
all_digits (c ∷ cs) = is_some (digit_value c) && all_digits cs

-- the byte that two digits spell, the high one first
abbrev pub byte_of : ℕ → ℕ → ℕ
byte_of h l = 16 * unwrap_or (digit_value h) 0 + unwrap_or (digit_value l) 0

unfoldable pub bytes_of : List ℕ → List ℕ
bytes_of [] = []
bytes_of (h ∷ []) = []
bytes_of (h ∷ l ∷ cs) = byte_of h l ∷ bytes_of cs

-- first every character has to be a digit, then they have to be even in number and above 0, and then the bytes have to be a frame
abbrev pub line_read : Kinds → List ℕ → Result Frame Fault
line_read ks cs = cond (all_digits cs) (cond (length cs % 2 == 0 && nat_lt 0 (length cs)) (frame_read ks (bytes_of cs)) (Err OddDigits)) (Err NotADigit)
