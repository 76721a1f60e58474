-- What comparing two spaces answers.
use Rattle.std.specs.Prelude.{◌≡◌, ℕ, ◌<◌, ◌≤◌, ◌⊎◌, List, length, Some, None, Ok, Err, Option, Result}
use Rattle.model.specs.declared.faults.Fault.{Fault}
use Rattle.model.specs.declared.names.Name.{Name}
use Rattle.model.specs.Names.{top, SameSet}
use Rattle.model.specs.Faults.{plain, told}

-- nothing decides at an address: both lists fit their scratches of s and t slots, and they have the same names
pub record Passes (first second : ℕ → List Name) (s t a : ℕ) : Type 0 where
  pub fits_first : length (first a) ≤ s
  pub fits_second : length (second a) ≤ t
  pub same : SameSet (first a) (second a)

abbrev pub PassBelow : (ℕ → List Name) → (ℕ → List Name) → ℕ → ℕ → ℕ → Type 0
PassBelow first second s t n = (a : ℕ) → a < n → Passes first second s t a

-- an address is the first at which something decides: there both lists fit, and the names are not the same
pub record Differs (first second : ℕ → List Name) (s t a : ℕ) : Type 0 where
  pub inside : a < top
  pub below : PassBelow first second s t a
  pub fits_first : length (first a) ≤ s
  pub fits_second : length (second a) ≤ t
  pub other : SameSet (first a) (second a) → ⊥

-- at an address the first list is longer than its scratch, 10, or only the second is, 11
abbrev pub Short : (ℕ → List Name) → (ℕ → List Name) → ℕ → ℕ → ℕ → Fault → Type 0
Short first second s t a f =
    ((told f ≡ plain 10) × (s < length (first a)))
    ⊎ ((told f ≡ plain 11) × (length (first a) ≤ s) × (t < length (second a)))

pub record Refused (first second : ℕ → List Name) (s t : ℕ) (f : Fault) : Type 0 where
  pub at : ℕ
  pub inside : at < top
  pub below : PassBelow first second s t at
  pub short : Short first second s t at f

abbrev pub CompareAnswer : (ℕ → List Name) → (ℕ → List Name) → ℕ → ℕ → Result (Option ℕ) Fault → Type 0
CompareAnswer first second s t (Ok None) = PassBelow first second s t top
CompareAnswer first second s t (Ok (Some a)) = Differs first second s t a
CompareAnswer first second s t (Err f) = Refused first second s t f
