-- A line by its numbers.
use Rattle.std.specs.Prelude.{ℕ, List, [], ◌∷◌, ◌++◌}
use Rattle.text.specs.Numbers.{spelled}
use Rattle.writing.specs.declared.writer.Field.{Field}

abbrev pub line_of : List Field → List ℕ
line_of [] = 10 ∷ []
line_of (f ∷ fs) = spelled f.digits f.value ++ line_of fs

-- two digits, or sixteen
abbrev pub byte_field : ℕ → Field
byte_field b = record { value = b; digits = 2 }

abbrev pub word_field : ℕ → Field
word_field w = record { value = w; digits = 16 }
