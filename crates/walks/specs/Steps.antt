-- The steps of a node one after another, the overlay's after those of the map blocks.
use Rattle.std.specs.Prelude.{◌≡◌, ℕ, ◌<◌, ◌≤◌, cond, List, [], ◌∷◌, ◌++◌, length, drop, Some, None, Option, nat_le, slice_index_or}
use Rattle.model.specs.declared.blocks.MapBlock.{MapBlock}
use Rattle.model.specs.Nets.{Kept, Spot, accepting, mapped, overlaid}
use Rattle.blocks.specs.declared.destination.Destination.{Destination}
use Rattle.blocks.specs.Destinations.{Known, spot_of}
use Rattle.walks.specs.declared.nodes.Step.{Step}

-- the overlay's step, where no block of the node covers the address
abbrev pub over : Kept → ℕ → ℕ → List Spot
over k n a = elim (mapped k.maps n a) [
  | [] ↦ cond (accepting k.accepts n a) [] (overlaid (slice_index_or k.overlays n 33) a)
  | x ∷ xs ↦ []
]

-- the steps from the map block at place i on
abbrev pub rest : Kept → ℕ → ℕ → ℕ → List Spot
rest k n a i = mapped (drop i k.maps) n a ++ cond (nat_le i (length k.maps)) (over k n a) []

-- the first step by a map block at place i or later
pub record ByMap (bs : List MapBlock) (n a i : ℕ) (s : Step) : Type 0 where
  pub is : mapped (drop i bs) n a ≡ spot_of s.destination s.address ∷ mapped (drop s.next bs) n a
  pub known : Known s.destination
  pub later : i < s.next
  pub within : s.next ≤ length bs

abbrev pub MapStep : List MapBlock → ℕ → ℕ → ℕ → Option Step → Type 0
MapStep bs n a i None = mapped (drop i bs) n a ≡ []
MapStep bs n a i (Some s) = ByMap bs n a i s

abbrev pub Overlay : Kept → ℕ → ℕ → Option Destination → Type 0
Overlay k n a None = over k n a ≡ []
Overlay k n a (Some destination) = (over k n a ≡ spot_of destination a ∷ []) × Known destination

-- the first step from place i on
pub record Next (k : Kept) (n a i : ℕ) (s : Step) : Type 0 where
  pub is : rest k n a i ≡ spot_of s.destination s.address ∷ rest k n a s.next
  pub known : Known s.destination
  pub later : i < s.next
  pub few : s.next ≤ 129

abbrev pub NextStep : Kept → ℕ → ℕ → ℕ → Option Step → Type 0
NextStep k n a i None = rest k n a i ≡ []
NextStep k n a i (Some s) = Next k n a i s
