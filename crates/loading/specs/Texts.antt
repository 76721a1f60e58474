-- The lines of a text: each ends in a line feed, which the last may lack.
use Rattle.std.specs.Prelude.{ℕ, ◌-◌, cond, List, [], ◌∷◌, length, take, ◌==◌, slice_index}

-- one more character at the front of the first line
abbrev pub in_front : ℕ → List (List ℕ) → List (List ℕ)
in_front c [] = (c ∷ []) ∷ []
in_front c (l ∷ ls) = (c ∷ l) ∷ ls

unfoldable pub lines_of : List ℕ → List (List ℕ)
lines_of [] = []
lines_of (c ∷ cs) = cond (c == 10) ([] ∷ lines_of cs) (in_front c (lines_of cs))

-- a line without its line feed, which the last one may lack
abbrev pub unended_lem : List ℕ → List ℕ
unended_lem cs = cond (slice_index cs (length cs - 1) == 10) (take (length cs - 1) cs) cs
