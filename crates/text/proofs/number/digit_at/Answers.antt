use Rattle.std.proofs.Common.{◌∙◌, rules}
use Rattle.text.proofs.Spelling.{code_shifted, code_past}
use Rattle.text.proofs.number.digit_at.Goals as goal

pub returns-then-place-lt-MOST_DIGITS : goal.returns-then-place-lt-MOST_DIGITS
returns-then-place-lt-MOST_DIGITS c = c.digit_char.ensures ∙ code_shifted c.args.value c.args.place

pub returns-else-place-lt-MOST_DIGITS : goal.returns-else-place-lt-MOST_DIGITS
returns-else-place-lt-MOST_DIGITS c = code_past c.args.value c.args.place (search rules) (search rules)
