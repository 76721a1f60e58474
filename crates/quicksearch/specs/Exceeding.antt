-- Walks from several spots, taken together: whether they meet more names than are allowed.
use Rattle.std.specs.Prelude.{◌≡◌, ℕ, zero, suc, ◌<◌, ◌≤◌, Bool, true, false, List, [], ◌∷◌, ◌++◌, map, Some, None, Option}
use Rattle.model.specs.Nets.{Kept, Spot}
use Rattle.model.specs.Walks.{onward}
use Rattle.walks.specs.Spans.{lifted}

-- whether the walks from the spots together meet more than `allowed` names. It is true where `trace` gives none
abbrev pub exceeds : Kept → ℕ → List Spot → Bool
exceeds k allowed [] = false
exceeds k zero (s ∷ rest) = true
exceeds k (suc allowed) (s ∷ rest) = exceeds k allowed (onward k s ++ rest)

-- they do not, by whatever distance up to `extent` all of them are raised
abbrev pub Within : Kept → ℕ → List Spot → ℕ → Type 0
Within k allowed xs extent = (d : ℕ) → d ≤ extent → exceeds k allowed (map (lifted d) xs) ≡ false

-- the least distance up to `extent` by which raised they do
abbrev pub FirstIn : Kept → ℕ → List Spot → ℕ → Option ℕ → Type 0
FirstIn k allowed xs extent None = Within k allowed xs extent
FirstIn k allowed xs extent (Some y) =
    (y ≤ extent) × (exceeds k allowed (map (lifted y) xs) ≡ true) × ((d : ℕ) → d < y → exceeds k allowed (map (lifted d) xs) ≡ false)
