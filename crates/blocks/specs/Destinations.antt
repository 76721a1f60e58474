-- Destinations, and the numbers that stand for them.
use Rattle.std.specs.Prelude.{◌≡◌, ℕ, ◌<◌, cond, Some, None, Option, ◌==◌, nat_lt}
use Rattle.model.specs.Nets.{Spot, node, below}
use Rattle.blocks.specs.declared.destination.Destination.{Destination}
use Rattle.blocks.specs.declared.destination.Destination.TheVariants.{Node, Below}

-- 32 is the space below
abbrev pub destination_of : ℕ → Destination
destination_of n = cond (n == 32) Below (Node n)

abbrev pub number_of : Destination → ℕ
number_of (Node n) = n
number_of Below = 32

-- an overlay of 33 is none
abbrev pub overlay_of : ℕ → Option Destination
overlay_of n = cond (nat_lt n 33) (Some (destination_of n)) None

abbrev pub overlay_number : Option Destination → ℕ
overlay_number None = 33
overlay_number (Some d) = number_of d

-- one of the 32 nodes, or the space below
abbrev pub Known : Destination → Type 0
Known d = (n : ℕ) → d ≡ Node n → n < 32

abbrev pub OverlayKnown : Option Destination → Type 0
OverlayKnown o = (n : ℕ) → o ≡ Some (Node n) → n < 32

-- the spot of a walk where an address arrives
abbrev pub spot_of : Destination → ℕ → Spot
spot_of (Node n) a = node n a
spot_of Below a = below a
