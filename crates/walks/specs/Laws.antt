-- The laws of the span.
use Rattle.std.specs.Prelude.{◌≡◌, ℕ, ◌+◌, ◌-◌, ◌≤◌, List, [], ◌∷◌, map}
use Rattle.std.proofs.Math.Option.{some}
use Rattle.model.specs.Names.{top}
use Rattle.model.specs.Nets.{Kept, Spot, node}
use Rattle.model.specs.Walks.{trace}
use Rattle.walks.specs.Spans.{spans, lifted}
use Rattle.walks.specs.Noted.{noted, note_up}

-- at every distance up to the span of a walk, the walk from the name that much higher meets the same spots, all that much higher
abbrev pub WalksRise : Type 0
WalksRise = (k : Kept) (n a allowed : ℕ) (met : List Spot) → trace k allowed (node n a ∷ []) ≡ some met
    → (d : ℕ) → d ≤ spans k (top - 1 - a) met → trace k allowed (node n (a + d) ∷ []) ≡ some (map (lifted d) met)

-- and the same is noted of it
abbrev pub NotesRise : Type 0
NotesRise = (k : Kept) (a : ℕ) (met : List Spot) (d : ℕ) → d ≤ spans k (top - 1 - a) met → noted k (map (lifted d) met) ≡ map (note_up d) (noted k met)
