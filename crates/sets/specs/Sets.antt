-- Sets as lists that rise, over any rank and any test of sameness.
use Rattle.std.specs.Prelude.{◌≡◌, Bool, true, cond, ◌&&◌, List, [], ◌∷◌}
use Rattle.std.specs.declared.cmp.Ordering.{Ordering}
use Rattle.std.specs.Ordering.{is_lt}

-- x before the first element that is not below it
abbrev pub placed : {A : Type 0} → (A → A → Ordering) → A → List A → List A
placed rank x [] = x ∷ []
placed rank x (y ∷ ys) = cond (is_lt (rank y x)) (y ∷ placed rank x ys) (x ∷ (y ∷ ys))

abbrev pub sorted : {A : Type 0} → (A → A → Ordering) → List A → List A
sorted rank [] = []
sorted rank (x ∷ xs) = placed rank x (sorted rank xs)

-- what a list adds after x, where neighbours that are the same count once
abbrev pub past : {A : Type 0} → (A → A → Bool) → A → List A → List A
past same x [] = []
past same x (y ∷ ys) = cond (same x y) (past same x ys) (y ∷ past same y ys)

-- neighbours that are the same reduced to one
abbrev pub squeezed : {A : Type 0} → (A → A → Bool) → List A → List A
squeezed same [] = []
squeezed same (x ∷ xs) = x ∷ past same x xs

abbrev pub set_of : {A : Type 0} → (A → A → Ordering) → (A → A → Bool) → List A → List A
set_of rank same xs = squeezed same (sorted rank xs)

-- x is below the first element, if there is one
abbrev pub leads : {A : Type 0} → (A → A → Ordering) → A → List A → Bool
leads rank x [] = true
leads rank x (y ∷ ys) = is_lt (rank x y)

-- each element is below the next
abbrev pub rising : {A : Type 0} → (A → A → Ordering) → List A → Bool
rising rank [] = true
rising rank (x ∷ xs) = leads rank x xs && rising rank xs

abbrev pub Rising : {A : Type 0} → (A → A → Ordering) → List A → Type 0
Rising rank xs = rising rank xs ≡ true
