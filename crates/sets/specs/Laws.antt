-- What holds of every order, and of the sets that are made by it.
use Rattle.std.specs.Prelude.{◌≡◌, ℕ, ◌<◌, Bool, true, false, not, ◌||◌, List, length, slice_index_or}
use Rattle.std.specs.Ordering.{is_lt, is_gt}
use Rattle.sets.specs.Members.{some_of}
use Rattle.sets.specs.Orders.{Order}
use Rattle.sets.specs.Sets.{set_of, Rising}

abbrev pub below : {A : Type 0} → Order A → A → A → Bool
below o x y = is_lt (o.rank x y)

abbrev pub above : {A : Type 0} → Order A → A → A → Bool
above o x y = is_gt (o.rank x y)

abbrev pub has : {A : Type 0} → Order A → List A → A → Bool
has o xs x = some_of (λ y. o.same y x) xs

-- the set of the elements of a list
abbrev pub made : {A : Type 0} → Order A → List A → List A
made o xs = set_of o.rank o.same xs

-- exactly one of three tests passes
abbrev pub one_alone : Bool → Bool → Bool → Bool
one_alone true b c = not (b || c)
one_alone false true c = not c
one_alone false false c = c

abbrev pub OneHolds : Type 0 → Type 0
OneHolds A = (o : Order A) (x y : A) → one_alone (below o x y) (o.same x y) (above o x y) ≡ true

abbrev pub BelowChains : Type 0 → Type 0
BelowChains A = (o : Order A) (x y z : A) → below o x y ≡ true → below o y z ≡ true → below o x z ≡ true

abbrev pub AboveTurns : Type 0 → Type 0
AboveTurns A = (o : Order A) (x y : A) → above o x y ≡ below o y x

abbrev pub SameIsEqual : Type 0 → Type 0
SameIsEqual A = (o : Order A) (x y : A) → (o.same x y ≡ true → x ≡ y) × (x ≡ y → o.same x y ≡ true)

abbrev pub SetRises : Type 0 → Type 0
SetRises A = (o : Order A) (xs : List A) → Rising o.rank (made o xs)

abbrev pub SetHasTheSame : Type 0 → Type 0
SetHasTheSame A = (o : Order A) (xs : List A) (x : A) → has o (made o xs) x ≡ has o xs x

-- a rising list with the members of xs is the set of xs
abbrev pub SetIsTheOne : Type 0 → Type 0
SetIsTheOne A = (o : Order A) (xs ys : List A) → Rising o.rank ys → ((x : A) → has o ys x ≡ has o xs x) → ys ≡ made o xs

-- an element stands at one place of a rising list only
abbrev pub PlaceIsTheOne : Type 0 → Type 0
PlaceIsTheOne A = (o : Order A) (xs : List A) (i j : ℕ) (d : A) → Rising o.rank xs → i < length xs → j < length xs → o.same (slice_index_or xs i d) (slice_index_or xs j d) ≡ true → i ≡ j
