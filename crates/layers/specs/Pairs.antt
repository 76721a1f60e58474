-- A renaming's pairs, as the reference model keeps them.
use Rattle.std.specs.Prelude.{ℕ, Bool, ◌&&◌, List, nat_eq}
use Rattle.model.specs.declared.names.Name.{Name}
use Rattle.model.specs.Names.{replaced, holds}
use Rattle.layers.specs.declared.pairs.Pair.{Pair}

abbrev pub two : Pair → ℕ × ℕ
two p = (p.from, p.to)

-- whether a component is renamed to that of a name, and a list has it at the name's address
abbrev pub leads_lem : List (ℕ × ℕ) → List Name → Name → ℕ → Bool
leads_lem ps xs n k = nat_eq (replaced ps k) n.component && holds xs (record { component = k; address = n.address })
