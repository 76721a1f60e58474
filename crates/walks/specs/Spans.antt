-- How far up a walk's start may go before a block of a node that it meets begins or ends to cover.
use Rattle.std.specs.Prelude.{ℕ, ◌+◌, ◌-◌, min, Bool, cond, ◌&&◌, List, [], ◌∷◌, ◌==◌, nat_le, nat_lt}
use Rattle.model.specs.declared.blocks.AcceptBlock.{AcceptBlock}
use Rattle.model.specs.declared.blocks.MapBlock.{MapBlock}
use Rattle.walks.specs.declared.range.NodeRange.{NodeRange}
use Rattle.model.specs.Names.{top}
use Rattle.model.specs.Nets.{Kept, Spot, node, below, within}

-- the addresses lo to hi of the node `its` have the address a at the node n
abbrev pub covers : ℕ → ℕ → ℕ → ℕ → ℕ → Bool
covers its lo hi n a = its == n && within lo hi a

-- how far up from a they go on to have it, or not, as they do there: below lo up to lo - 1, within up to hi, and else without end
abbrev pub room : ℕ → ℕ → ℕ → ℕ → ℕ → ℕ
room its lo hi n a = cond (its == n) (cond (nat_lt a lo) (lo - 1 - a) (cond (nat_le a hi) (hi - a) (top - 1))) (top - 1)

abbrev pub accept_room : ℕ → ℕ → AcceptBlock → ℕ
accept_room n a b = room b.node b.lo b.hi n a

abbrev pub map_room : ℕ → ℕ → MapBlock → ℕ
map_room n a b = room b.node b.lo b.hi n a

-- the same of a range of a node
abbrev pub range_covers : ℕ → ℕ → NodeRange → Bool
range_covers n a r = covers r.node r.lo r.hi n a

abbrev pub range_room : ℕ → ℕ → NodeRange → ℕ
range_room n a r = room r.node r.lo r.hi n a

-- the least of a list's distances
abbrev pub nearest : {X : Type 0} → (X → ℕ) → List X → ℕ
nearest f [] = top - 1
nearest f (x ∷ xs) = min (f x) (nearest f xs)

-- how far up from a every block of the node n covers, or does not cover, as it does there
abbrev pub reach : Kept → ℕ → ℕ → ℕ
reach k n a = min (nearest (accept_room n a) k.accepts) (nearest (map_room n a) k.maps)

-- the same for every node that is met, and no farther than `far`
abbrev pub spans : Kept → ℕ → List Spot → ℕ
spans k far [] = far
spans k far (node n a ∷ met) = spans k (min far (reach k n a)) met
spans k far (below a ∷ met) = spans k far met

-- a spot at an address higher by d
abbrev pub lifted : ℕ → Spot → Spot
lifted d (node n a) = node n (a + d)
lifted d (below a) = below (a + d)
