-- The laws of the reference model: that what it computes is what its relations say.
use Rattle.std.specs.Prelude.{◌≡◌, ℕ, ◌<◌, ◌≤◌, true, false, ◌↔◌, List, length}
use Rattle.std.proofs.Math.Option.{none, some}
use Rattle.std.specs.List.{AllByRecursion}
use Rattle.model.specs.declared.names.Name.{Name}
use Rattle.model.specs.Names.{top, holds}
use Rattle.model.specs.Nets.{Kept, Spot, TargetFits, fresh}
use Rattle.model.specs.Walks.{Walk, FewerSteps, WalksEnd, FirstTooLong, trace, Bounded}
use Rattle.model.specs.Model.{Model, net, window, lists, AllWalksEnd, Sound}
use Rattle.model.specs.Faults.{at_name}
use Rattle.model.specs.Edits.{Edit, on_net, pair, plug, edited, walks_bounded}
use Rattle.model.specs.Decoding.{Decodes}

-- what is computed with n names allowed is the walk, where there is one of at most n names, and else nothing
abbrev pub TraceIsWalk : Type 0
TraceIsWalk = (k : Kept) (n : ℕ) (spots met : List Spot) → (trace k n spots ≡ some met) ↔ (Walk k spots met × (length met ≤ n))

abbrev pub OneWalk : Type 0
OneWalk = (k : Kept) (spots met other : List Spot) → Walk k spots met → Walk k spots other → met ≡ other

-- the bound that a net keeps, computed, says that every walk of the net ends
abbrev pub BoundIsWalked : Type 0
BoundIsWalked = (k : Kept) → Bounded k ↔ WalksEnd k

-- the list at an address has exactly the names that decode steps reach and that a node or the bottom accepts, as the renamings give them
abbrev pub ListsDecode : Type 0
ListsDecode = (m : Model) → Sound m → (a : ℕ) → a < top → (x : Name) → (holds (lists m a) x ≡ true) ↔ Decodes m a x

-- a net is sound as it is made, and every edit keeps a stack sound, where what it plugs in is
abbrev pub FreshSound : Type 0
FreshSound = (g : ℕ) (m : Model) → Sound m → Sound (net (fresh g) m)

abbrev pub PlugsSound : Edit → Type 0
PlugsSound (on_net e) = Unit {0}
PlugsSound (pair from to) = Unit {0}
PlugsSound (plug new) = Sound new

abbrev pub EditsKeepSound : Type 0
EditsKeepSound = (m : Model) (e : Edit) → Sound m → PlugsSound e → Sound (edited m e).1

-- in a sound stack every walk of every net ends
abbrev pub SoundEnds : Type 0
SoundEnds = (m : Model) → Sound m → AllWalksEnd m

-- a net each of whose names takes some of the steps that it takes in another walks no further
abbrev pub FewerWalkLess : Type 0
FewerWalkLess = (less k : Kept) → FewerSteps less k → (spots met : List Spot) → Walk k spots met → (fewer : List Spot) × Walk less spots fewer × (length fewer ≤ length met)

-- the question about walks is granted exactly where every walk ends, and is refused exactly with the first name whose walk is too long
abbrev pub QuestionGrants : Type 0
QuestionGrants = (k : Kept) → (walks_bounded k ≡ none) ↔ WalksEnd k

abbrev pub QuestionTells : Type 0
QuestionTells = (k : Kept) (n a : ℕ) → (walks_bounded k ≡ some (at_name 8 n a)) ↔ FirstTooLong k n a

-- Bounded walks alone do not do: without any one of the three that keep decoding in bounds there is a stack that decodes a name its list lacks.
-- The entry is no node:
abbrev pub EntryNeeded : Type 0
EntryNeeded = (k : Kept) × (m : Model) × (x : Name) × Sound m × Bounded k × AllByRecursion (λ b. TargetFits b.lo b.hi b.base) k.maps × Decodes (net k m) 0 x × (holds (lists (net k m) 0) x ≡ false)

-- a map block's target does not fit:
abbrev pub TargetNeeded : Type 0
TargetNeeded = (k : Kept) × (m : Model) × (x : Name) × Sound m × Bounded k × (k.entry < 32) × Decodes (net k m) 0 x × (holds (lists (net k m) 0) x ≡ false)

-- a window's target does not fit:
abbrev pub WindowNeeded : Type 0
WindowNeeded = (base : ℕ) × (m : Model) × (x : Name) × Sound m × Decodes (window 0 0 base m) 0 x × (holds (lists (window 0 0 base m) 0) x ≡ false)
