-- Whether gathered items have a name.
use Rattle.std.proofs.Common.{◌≡◌, ℕ, Bool, ◌||◌, List, [], ◌∷◌, ◌++◌, sym, refl, ap, ◌∙◌}
use mathlib.Core.Bool.{or_assoc}
use Rattle.std.specs.List.{list_any}
use Rattle.model.specs.declared.names.Name.{Name}
use Rattle.model.specs.Names.{same_name, holds}
use Rattle.walks.specs.declared.notes.Note.{Note}
use Rattle.walks.specs.declared.notes.Note.TheVariants.{Own, Arrival}
use Rattle.nets.specs.Gathering.{each}

pub holds-append : (n : Name) (xs ys : List Name) → holds (xs ++ ys) n ≡ (holds xs n || holds ys n)
holds-append n [] ys = refl
holds-append n (x ∷ xs) ys = ap (λ b. same_name x n || b) (holds-append n xs ys) ∙ sym (or_assoc (same_name x n) (holds xs n) (holds ys n))

-- whether an item leads to a name
abbrev pub met_by : (ℕ → List Name) → Name → Note → Bool
met_by f n (Own x) = same_name x n
met_by f n (Arrival a) = holds (f a) n

pub each-any : (f : ℕ → List Name) (n : Name) (xs : List Note) → holds (each f xs) n ≡ list_any (met_by f n) xs
each-any f n [] = refl
each-any f n (Own x ∷ xs) = ap (λ b. same_name x n || b) (each-any f n xs)
each-any f n (Arrival a ∷ xs) = holds-append n (f a) (each f xs) ∙ ap (λ b. holds (f a) n || b) (each-any f n xs)
