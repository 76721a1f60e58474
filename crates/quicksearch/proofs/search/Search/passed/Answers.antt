use Rattle.std.proofs.Common.{eqb, ◌&&◌, length, get_or, sym, ap, ◌∙◌, rules}
use Rattle.std.proofs.ByRecursion.{All-get_or}
use Rattle.std.specs.List.{list_all, zip}
use Rattle.blocks.specs.Shape.{kept}
use Rattle.quicksearch.specs.declared.memo.PassedAgenda.{PassedAgenda}
use Rattle.quicksearch.specs.Agendas.{same_spot}
use Rattle.quicksearch.specs.Remembered.{Passes}
use Rattle.quicksearch.proofs.Memories.{passes_of}
use Rattle.quicksearch.proofs.search.Search.passed.Goals as goal

pub returns : goal.returns
returns c = λ is.
    let k = kept c.args.self.now.net.now in
    let all = c.args.self.now.memo.agendas in
    let ts = c.args.agenda.targets.now in
    let low = c.args.agenda.starts.low in
    let e : PassedAgenda = get_or all c.agenda_place.result c.index-self-agenda_place.result in
    passes_of k e ts low c.args.agenda.starts.extent c.args.budget c.if-e-budget.false c.if-e-agenda.false
    (sym (ap (λ us. eqb (length us) (length ts) && list_all (same_spot e.starts.low low) (zip us ts)) c.as_slice.ensures) ∙ sym c.same.ensures ∙ is)
    (All-get_or (Passes k) all c.agenda_place.result c.index-self-agenda_place.result (search rules) c.args.self.now.reliable.1)
