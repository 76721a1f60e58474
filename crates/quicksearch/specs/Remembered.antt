-- What a search remembers is so.
use Rattle.std.specs.Prelude.{ℕ, [], ◌∷◌, Option, IfSome}
use Rattle.std.specs.List.{AllByRecursion}
use Rattle.lists.specs.Held.{held}
use Rattle.model.specs.Nets.{Kept, Spot, node}
use Rattle.quicksearch.specs.declared.memo.RangeBound.{RangeBound}
use Rattle.quicksearch.specs.declared.memo.PassedAgenda.{PassedAgenda}
use Rattle.quicksearch.specs.declared.memo.Memo.{Memo}
use Rattle.quicksearch.specs.Exceeding.{Within}
use Rattle.quicksearch.specs.Agendas.{spots}

-- where a bound is known, the walk from the spot, raised by any distance up to extent, meets at most as many names
abbrev pub Holds : Kept → Spot → ℕ → Option ℕ → Type 0
Holds k s extent most = IfSome most (λ b. Within k b (s ∷ []) extent)

abbrev pub Bounds : Kept → RangeBound → Type 0
Bounds k e = Holds k (node e.node e.range.low) e.range.extent e.most

abbrev pub Passes : Kept → PassedAgenda → Type 0
Passes k e = Within k e.budget (spots e.starts.low (held e.targets)) e.starts.extent

-- each bound and each agenda that is remembered
abbrev pub Reliable : Kept → Memo → Type 0
Reliable k m = AllByRecursion (Bounds k) m.bounds × AllByRecursion (Passes k) m.agendas
