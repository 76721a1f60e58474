-- The reader of a line as a machine: what it holds, and what one more character makes of that.
use Rattle.std.specs.Prelude.{ℕ, ◌+◌, ◌*◌, Bool, true, false, cond, List, [], ◌∷◌, ◌++◌, length, Some, None, Ok, Err, Option, Result, ◌==◌, nat_lt}
use Rattle.lists.specs.Held.{held}
use Rattle.model.specs.declared.faults.Fault.{Fault}
use Rattle.model.specs.declared.faults.Fault.TheVariants.{NotADigit, OddDigits, LengthWrong}
use Rattle.text.specs.Digits.{digit_value}
use Rattle.frames.specs.declared.frame.Frame.{Frame}
use Rattle.frames.specs.declared.frame.Kinds.{Kinds}
use Rattle.frames.specs.declared.line.LineReader.{LineReader}
use Rattle.frames.specs.declared.state.State.{State}
use Rattle.frames.specs.declared.state.State.TheVariants.{Whole, Half, NoDigit}
use Rattle.frames.specs.Frames.{frame_read}

-- the first bytes, whether there were more, and where in a byte the line stands
pub record Seen : Type 0 where
  pub kept : List ℕ
  pub more : Bool
  pub state : State

abbrev pub seen : LineReader → Seen
seen r = record { kept = held r.kept; more = r.more; state = r.state }

abbrev pub fresh : Seen
fresh = record { kept = []; more = false; state = Whole }

abbrev pub in_state : Seen → State → Seen
in_state s t = record { kept = s.kept; more = s.more; state = t }

abbrev pub with_byte : Seen → ℕ → Seen
with_byte s b = record {
  kept = cond (nat_lt (length s.kept) 27) (s.kept ++ b ∷ []) s.kept;
  more = cond (nat_lt (length s.kept) 27) s.more true;
  state = s.state;
}

abbrev pub moved : Seen → State → Option ℕ → Seen
moved s Whole (Some d) = in_state s (Half d)
moved s Whole None = in_state s NoDigit
moved s (Half high) (Some d) = in_state (with_byte s (16 * high + d)) Whole
moved s (Half high) None = in_state s NoDigit
moved s NoDigit o = in_state s NoDigit

-- one character more
abbrev pub after : Seen → ℕ → Seen
after s c = moved s s.state (digit_value c)

-- with more bytes no kind has the length
abbrev pub cut : Bool → Result Frame Fault → Result Frame Fault
cut true (Ok f) = Err LengthWrong
cut true (Err e) = Err e
cut false r = r

abbrev pub kept_read : Kinds → Seen → Result Frame Fault
kept_read ks s = cond (length s.kept == 0) (Err OddDigits) (cut s.more (frame_read ks s.kept))

abbrev pub ended : Kinds → Seen → State → Result Frame Fault
ended ks s Whole = kept_read ks s
ended ks s (Half high) = Err OddDigits
ended ks s NoDigit = Err NotADigit

-- what the line is told to be when it ends here
abbrev pub finished : Kinds → Seen → Result Frame Fault
finished ks s = ended ks s s.state
