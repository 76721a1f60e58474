use Rattle.std.proofs.Common.{◌&&◌, length, sym, ap, ◌∙◌, rules}
use Rattle.std.proofs.lemmas.Bool.{eq-eqb}
use Rattle.std.proofs.lemmas.Iterator.{YieldsList-from_slice, YieldsList-from_zip}
use Rattle.std.proofs.lemmas.Iterator.Search.{all_from_yields_List}
use Rattle.std.specs.List.{list_all, zip}
use Rattle.quicksearch.specs.Agendas.{same_spot}
use Rattle.quicksearch.proofs.passing.same.Goals as goal

pub returns-then-targets-others : goal.returns-then-targets-others
returns-then-targets-others c =
    let ts = c.args.targets.now in
    let us = c.args.others.now in
    let test = same_spot c.args.start c.args.origin in
    all_from_yields_List test c.all.new.self _ _ c.all.ensures.ran (YieldsList-from_zip (YieldsList-from_slice ts cc) (YieldsList-from_slice us cc)) (λ x b q k. search rules)
    ∙ sym (ap (λ z. z && list_all test (zip ts us)) (eq-eqb (length ts) (length us) c.if-targets-others.true))
