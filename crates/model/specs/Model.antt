-- The reference model of a stack of layers, and the list of names that it means at each address.
use Rattle.std.specs.Prelude.{ℕ, ◌+◌, ◌-◌, ◌*◌, cond, List, [], ◌∷◌, ◌++◌, map}
use Rattle.std.proofs.Math.Option.{Option, none, some}
use Rattle.model.specs.declared.names.Name.{Name}
use Rattle.model.specs.Names.{renamed}
use Rattle.model.specs.Nets.{Kept, Spot, node, below, accepting, within, TargetFits, Formed}
use Rattle.model.specs.Walks.{trace, Bounded, WalksEnd}

-- a space at the bottom, kept as its lists, and above it nets, windows and renamings, each with what lies below it
pub data Model : Type 0 where
  bottom : (ℕ → List Name) → Model
  net : Kept → Model → Model
  window : ℕ → ℕ → ℕ → Model → Model
  renaming : List (ℕ × ℕ) → Model → Model

-- the name of an address at a node of a net: node n of group g is component 32 * g + n
abbrev pub own : Kept → ℕ → ℕ → Name
own k n a = record { component = 32 * k.group + n; address = a }

-- what the spots that a walk meets give: an accepted name itself, an arrival the list found below
abbrev pub gathered : Kept → (ℕ → List Name) → List Spot → List Name
gathered k under [] = []
gathered k under (node n a ∷ met) = cond (accepting k.accepts n a) (own k n a ∷ gathered k under met) (gathered k under met)
gathered k under (below a ∷ met) = under a ++ gathered k under met

abbrev pub walked : Kept → (ℕ → List Name) → Option (List Spot) → List Name
walked k under none = []
walked k under (some met) = gathered k under met

-- the list found from a node of a net over a space with the lists `under`
abbrev pub found : Kept → (ℕ → List Name) → ℕ → ℕ → List Name
found k under n a = walked k under (trace k 64 (node n a ∷ []))

abbrev pub lists : Model → ℕ → List Name
lists (bottom list) a = list a
lists (net k m) a = found k (lists m) k.entry a
lists (window lo hi base m) a = cond (within lo hi a) (lists m (base + (a - lo))) []
lists (renaming pairs m) a = map (renamed pairs) (lists m a)

-- a walk from any name of any net in the stack ends, and meets at most 64 names
abbrev pub AllWalksEnd : Model → Type 0
AllWalksEnd (bottom list) = Unit {0}
AllWalksEnd (net k m) = WalksEnd k × AllWalksEnd m
AllWalksEnd (window lo hi base m) = AllWalksEnd m
AllWalksEnd (renaming pairs m) = AllWalksEnd m

-- the same, computed, and that every address that comes to a layer stays below the top
abbrev pub Sound : Model → Type 0
Sound (bottom list) = Unit {0}
Sound (net k m) = Formed k × Bounded k × Sound m
Sound (window lo hi base m) = TargetFits lo hi base × Sound m
Sound (renaming pairs m) = Sound m

-- what a space means: a model, and that it is sound
pub record Meaning : Type 0 where
  pub shape : Model
  pub sound : Sound shape
