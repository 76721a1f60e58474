use Rattle.std.proofs.Common.{sym, subst}
use Rattle.std.proofs.ByRecursion.{All-set}
use Rattle.blocks.specs.Shape.{kept}
use Rattle.quicksearch.specs.Exceeding.{Within}
use Rattle.quicksearch.specs.Agendas.{spots}
use Rattle.quicksearch.specs.Remembered.{Passes}
use Rattle.quicksearch.proofs.search.Search.remember.Goals as goal

pub invariant_of-self : goal.invariant_of-self
invariant_of-self c =
    let k = kept c.args.self.now.net.now in
    record {
      reliable = (
        c.args.self.now.reliable.0,
        All-set (Passes k) c.args.self.now.memo.agendas c.agenda_place.result _
            (subst (λ ts. Within k c.args.budget (spots c.args.agenda.starts.low ts) c.args.agenda.starts.extent) (sym c.in-Ok.ensures) c.requires) c.args.self.now.reliable.1,
      );
    }
