use Rattle.std.proofs.Common.{length, None, ap, arith}
use Rattle.lists.specs.Held.{held}
use Rattle.blocks.specs.Shape.{kept}
use Rattle.quicksearch.specs.declared.memo.Range.{Range}
use Rattle.quicksearch.specs.Agendas.{spots}
use Rattle.quicksearch.specs.Remembered.{Bounds, Passes}
use Rattle.quicksearch.proofs.Exceeds.{within_none}
use Rattle.quicksearch.proofs.Memories.{all_same}
use Rattle.quicksearch.proofs.search.Search.new.Goals as goal

pub invariant_of-result : goal.invariant_of-result
invariant_of-result c =
    let k = kept c.args.blocks.now in
    let none : Range = record { low = 0; extent = 0; under = omega arith } in
    record {
      reliable = (
        all_same (Bounds k) 128 (record { range = none; node = 0; most = None }) tt,
        all_same (Passes k) 32 (record { targets = c.new.result; starts = none; budget = 0 }) (within_none k 0 0 (spots 0 (held c.new.result)) (ap (λ ts. length (spots 0 ts)) c.new.ensures)),
      );
    }
