-- The order of values by their fields, first to last, each field a number.
use Rattle.std.specs.Prelude.{ℕ, List, [], ◌∷◌}
use Rattle.std.specs.declared.cmp.Ordering.TheVariants.{Less, Equal, Greater}
use Rattle.std.specs.declared.cmp.Ordering.{Ordering}
use Rattle.std.specs.Ordering.{ordering_then, nat_cmp}

-- the first fields that differ decide
abbrev pub lex : List ℕ → List ℕ → Ordering
lex [] [] = Equal
lex [] (y ∷ ys) = Less
lex (x ∷ xs) [] = Greater
lex (x ∷ xs) (y ∷ ys) = ordering_then (nat_cmp x y) (lex xs ys)
