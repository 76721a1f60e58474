-- Stored blocks are formed as the reference model asks, by what each carries with it.
use Rattle.std.specs.Prelude.{List, [], ◌∷◌, map}
use Rattle.std.specs.List.{AllByRecursion}
use Rattle.lists.specs.Held.{held}
use Rattle.model.specs.Nets.{Formed, TargetFits}
use Rattle.blocks.specs.declared.stored.Mapped.{Mapped}
use Rattle.blocks.specs.declared.stored.Blocks.{Blocks}
use Rattle.blocks.specs.Shape.{kept, map_block}

targets : (xs : List Mapped) → AllByRecursion (λ b. TargetFits b.lo b.hi b.base) (map map_block xs)
targets [] = tt
targets (x ∷ xs) = (x.valid.4, targets xs)

pub formed : (t : Blocks) → Formed (kept t)
formed t = record { entry_known = t.valid.0; targets_fit = targets (held t.maps) }
