-- The spots that wait in a queue.
use Rattle.std.specs.Prelude.{◌≡◌, ℕ, ◌+◌, ◌%◌, ◌<◌, ◌≤◌, Bool, true, false, ◌&&◌, ◌==◌, List, map, length, take, drop, Some, None, Option}
use Rattle.std.specs.List.{AllByRecursion}
use Rattle.model.specs.Names.{top}
use Rattle.model.specs.Nets.{Spot, node, below}
use Rattle.blocks.specs.declared.destination.Destination.{Destination}
use Rattle.blocks.specs.declared.destination.Destination.TheVariants.{Node, Below}
use Rattle.blocks.specs.Destinations.{spot_of}
use Rattle.quicksearch.specs.declared.memo.Range.{Range}
use Rattle.quicksearch.specs.declared.memo.Target.{Target}

-- where a target is, with walks that start at `start`
abbrev pub placed : ℕ → Target → Spot
placed start t = spot_of t.destination ((t.offset + start) % top)

abbrev pub spots : ℕ → List Target → List Spot
spots start ts = map (placed start) ts

abbrev pub same_destination : Destination → Destination → Bool
same_destination (Node m) (Node n) = m == n
same_destination (Node m) Below = false
same_destination Below (Node n) = false
same_destination Below Below = true

-- whether two targets, each from its start, are one spot
abbrev pub same_spot : ℕ → ℕ → (record { 0 : Target; 1 : Target }) → Bool
same_spot start origin x = same_destination x.0.destination x.1.destination && (x.0.offset + start) % top == (x.1.offset + origin) % top

-- what waits in a queue, from the place head on, up to tail
abbrev pub waiting : ℕ → ℕ → List Target → List Target
waiting head tail queue = drop head (take tail queue)

abbrev pub address : Spot → ℕ
address (node n a) = a
address (below a) = a

-- each of the spots may be raised by `extent`
abbrev pub Room : ℕ → List Spot → Type 0
Room extent xs = AllByRecursion (λ s. address s + extent < top) xs

-- the queue has a place for each of 64 names, and what waits in it may be raised to each of the starts
pub record Waits (queue : List Target) (head tail : ℕ) (starts : Range) : Type 0 where
  pub ordered : head ≤ tail
  pub inside : tail ≤ 64
  pub long : length queue ≡ 64
  pub room : Room starts.extent (spots starts.low (waiting head tail queue))

-- the spots are laid out in the queue from tail on, or it is too short for that
abbrev pub Laid : List Spot → ℕ → ℕ → List Target → Option ℕ → Type 0
Laid xs start tail queue None = length queue < tail + length xs
Laid xs start tail queue (Some end) = (tail ≤ end) × (end ≤ length queue) × (spots start (waiting tail end queue) ≡ xs)
