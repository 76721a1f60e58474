use Rattle.std.proofs.Common.{None, map, refl, ap, arith}
use Rattle.model.specs.Edits.{same_accept, same_map}
use Rattle.blocks.specs.Apart.{apart}
use Rattle.blocks.specs.Destinations.{OverlayKnown}
use Rattle.blocks.specs.Shape.{accept_block, map_block}
use Rattle.blocks.proofs.Changes.{all_same}
use Rattle.blocks.proofs.stored.Blocks.new.Goals as goal

pub invariant_of-result : goal.invariant_of-result
invariant_of-result c =
    record { valid = (omega arith, all_same OverlayKnown None 32 (λ n e. cc), ap (λ zs. apart same_accept (map accept_block zs)) c.new.ensures, ap (λ zs. apart same_map (map map_block zs)) c.new-2.ensures, refl) }
