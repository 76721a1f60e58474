-- The walks of one net: as a relation, as they are computed, and the bound of 64 names on each.
use Rattle.std.specs.Prelude.{◌≡◌, ℕ, zero, suc, ◌<◌, ◌≤◌, Bool, true, false, cond, not, ◌&&◌, ◌⊎◌, List, [], ◌∷◌, ◌++◌, length}
use Rattle.std.proofs.Math.Option.{Option, none, some}
use Rattle.model.specs.Names.{top}
use Rattle.model.specs.Nets.{Kept, Spot, node, below, steps}

-- a finished walk through spots, one after another, and all that it meets, in order
pub data Walk (k : Kept) : List Spot → List Spot → Type 0 where
  done : Walk k [] []
  arrives : {a : ℕ} {rest met : List Spot} → Walk k rest met → Walk k (below a ∷ rest) (below a ∷ met)
  goes_on : {n a : ℕ} {rest down met : List Spot} → Walk k (steps k n a) down → Walk k rest met → Walk k (node n a ∷ rest) (node n a ∷ (down ++ met))

-- some elements of a list, in its order
pub data Sublist {X : Type 0} : List X → List X → Type 0 where
  empty : Sublist [] []
  skip : {y : X} {xs ys : List X} → Sublist xs ys → Sublist xs (y ∷ ys)
  keep : {x : X} {xs ys : List X} → Sublist xs ys → Sublist (x ∷ xs) (x ∷ ys)

-- each name takes some of the steps that it takes in another net
abbrev pub FewerSteps : Kept → Kept → Type 0
FewerSteps less k = (n a : ℕ) → Sublist (steps less n a) (steps k n a)

-- the walk from an address at a node ends, and meets at most 64 names
abbrev pub EndsSoon : Kept → ℕ → ℕ → Type 0
EndsSoon k n a = (met : List Spot) × Walk k (node n a ∷ []) met × (length met ≤ 64)

-- it does not: a walk that ends meets more, and it may go round for ever
abbrev pub TooLong : Kept → ℕ → ℕ → Type 0
TooLong k n a = (met : List Spot) → Walk k (node n a ∷ []) met → 64 < length met

-- the walk from every name of the net ends soon
abbrev pub WalksEnd : Kept → Type 0
WalksEnd k = (n a : ℕ) → n < 32 → a < top → EndsSoon k n a

-- by node, then address, the first name whose walk is too long
pub record FirstTooLong (k : Kept) (n a : ℕ) : Type 0 where
  pub known : n < 32
  pub low : a < top
  pub long : TooLong k n a
  pub before : (i b : ℕ) → b < top → (i < n) ⊎ ((i ≡ n) × (b < a)) → EndsSoon k i b

abbrev pub onward : Kept → Spot → List Spot
onward k (node n a) = steps k n a
onward k (below a) = []

abbrev pub joined : Spot → Option (List Spot) → Option (List Spot)
joined s none = none
joined s (some met) = some (s ∷ met)

-- the walk through the spots, computed: all that it meets, or none where that is more than `allowed`
abbrev pub trace : Kept → ℕ → List Spot → Option (List Spot)
trace k allowed [] = some []
trace k zero (s ∷ rest) = none
trace k (suc allowed) (s ∷ rest) = joined s (trace k allowed (onward k s ++ rest))

abbrev pub finite : Option (List Spot) → Bool
finite none = false
finite (some met) = true

-- whether the walk from an address at a node meets at most 64 names
abbrev pub ends_soon : Kept → ℕ → ℕ → Bool
ends_soon k n a = finite (trace k 64 (node n a ∷ []))

-- whether each number below n passes a test. It stays shut, as do the two below that count to 2 ^ 64
unfoldable pub each_below : (ℕ → Bool) → ℕ → Bool
each_below p zero = true
each_below p (suc n) = each_below p n && p n

-- the least number below n that passes a test
unfoldable pub least : (ℕ → Bool) → ℕ → Option ℕ
least p zero = none
least p (suc n) = elim (least p n) [ some i ↦ some i | none ↦ cond (p n) (some n) none ]

-- the same as WalksEnd, computed, so that a ghost field can say it
abbrev pub bounded : Kept → Bool
bounded k = each_below (λ n. each_below (ends_soon k n) top) 32

abbrev pub Bounded : Kept → Type 0
Bounded k = bounded k ≡ true

abbrev pub overfull : Kept → ℕ → ℕ → Bool
overfull k n a = not (ends_soon k n a)

-- of the nodes below n, the first name whose walk meets more than 64 names, by node, then address
unfoldable pub first_overfull_lem : Kept → ℕ → Option (ℕ × ℕ)
first_overfull_lem k zero = none
first_overfull_lem k (suc n) = elim (first_overfull_lem k n) [
  | some x ↦ some x
  | none ↦ elim (least (overfull k n) top) [ some a ↦ some (n, a) | none ↦ none ]
]
