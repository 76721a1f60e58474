-- What one net keeps, and the steps of its nodes.
use Rattle.std.specs.Prelude.{ℕ, ◌+◌, ◌-◌, ◌<◌, Bool, false, cond, ◌&&◌, ◌||◌, List, [], ◌∷◌, replicate, ◌==◌, nat_le, slice_index_or}
use Rattle.std.specs.List.{AllByRecursion}
use Rattle.model.specs.declared.blocks.AcceptBlock.{AcceptBlock}
use Rattle.model.specs.declared.blocks.MapBlock.{MapBlock}
use Rattle.model.specs.Names.{top}

-- what a net keeps, beside what lies below it. Its blocks stand in the order in which they came; an overlay of 33 is none
pub record Kept : Type 0 where
  pub group : ℕ
  pub accepts : List AcceptBlock
  pub maps : List MapBlock
  pub overlays : List ℕ
  pub entry : ℕ

-- a net as it is made: no blocks, no overlays, entry 0
abbrev pub fresh : ℕ → Kept
fresh g = record { group = g; accepts = []; maps = []; overlays = replicate 32 33; entry = 0 }

-- a spot of a walk: an address at a node, or an arrival in the space below
pub data Spot : Type 0 where
  node : ℕ → ℕ → Spot
  below : ℕ → Spot

abbrev pub spot : ℕ → ℕ → Spot
spot destination a = cond (destination == 32) (below a) (node destination a)

abbrev pub within : ℕ → ℕ → ℕ → Bool
within lo hi a = nat_le lo a && nat_le a hi

-- whether one of the accept blocks of node n covers the address
abbrev pub accepting : List AcceptBlock → ℕ → ℕ → Bool
accepting [] n a = false
accepting (b ∷ bs) n a = (b.node == n && within b.lo b.hi a) || accepting bs n a

-- where the map blocks of node n that cover the address send it, in their order
abbrev pub mapped : List MapBlock → ℕ → ℕ → List Spot
mapped [] n a = []
mapped (b ∷ bs) n a =
    cond (b.node == n && within b.lo b.hi a)
    (spot b.destination (b.base + (a - b.lo)) ∷ mapped bs n a)
    (mapped bs n a)

abbrev pub overlaid : ℕ → ℕ → List Spot
overlaid destination a = cond (nat_le destination 32) (spot destination a ∷ []) []

-- the steps from an address at a node: one for each map block that covers it, or the overlay's, where no block of the node does
abbrev pub steps : Kept → ℕ → ℕ → List Spot
steps k n a = elim (mapped k.maps n a) [
  | [] ↦ cond (accepting k.accepts n a) [] (overlaid (slice_index_or k.overlays n 33) a)
  | x ∷ xs ↦ x ∷ xs
]

-- the addresses lo to hi, sent to base and up, stay below the top
abbrev pub TargetFits : ℕ → ℕ → ℕ → Type 0
TargetFits lo hi base = base + (hi - lo) < top

-- a walk from outside starts at one of the 32 nodes, and an address below the top stays below it: the entry is a node, and every map block's target fits
pub record Formed (k : Kept) : Type 0 where
  pub entry_known : k.entry < 32
  pub targets_fit : AllByRecursion (λ b. TargetFits b.lo b.hi b.base) k.maps
