-- The first overfull name, sought by jumps from one stretch of like walks to the next. It computes where `least` would count to 2 ^ 64.
use Rattle.std.specs.Prelude.{ℕ, zero, suc, ◌+◌, ◌-◌, cond, [], ◌∷◌, nat_lt}
use Rattle.std.proofs.Math.Option.{Option, none, some}
use Rattle.model.specs.Names.{top}
use Rattle.model.specs.Nets.{Kept, node}
use Rattle.model.specs.Walks.{trace}
use Rattle.walks.specs.Spans.{spans}

-- of the addresses from a on, the first whose walk from node n meets more than 64 names, if any; none where the jumps are used up first
unfoldable pub jumping : Kept → ℕ → ℕ → ℕ → Option (Option ℕ)
jumping k n zero a = none
jumping k n (suc jumps) a =
    cond (nat_lt a top)
    (elim (trace k 64 (node n a ∷ [])) [ none ↦ some (some a) | some met ↦ jumping k n jumps (a + (spans k (top - 1 - a) met + 1)) ])
    (some none)

-- the same of the nodes below n, by node, then address
unfoldable pub jumping_nodes : Kept → ℕ → ℕ → Option (Option (ℕ × ℕ))
jumping_nodes k jumps zero = some none
jumping_nodes k jumps (suc n) = elim (jumping_nodes k jumps n) [
  | none ↦ none
  | some first ↦ elim first [
    | some x ↦ some (some x)
    | none ↦ elim (jumping k n jumps 0) [ none ↦ none | some found ↦ some (elim found [ some a ↦ some (n, a) | none ↦ none ]) ]
  ]
]
