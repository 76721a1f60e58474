use Rattle.std.proofs.Common.{rules, sym, ◌∙◌}
use Rattle.std.proofs.lemmas.Iterator.{YieldsList-from_slice}
use Rattle.std.proofs.lemmas.Iterator.Search.{all_from_yields_List}
use Rattle.model.specs.Model.{lists}
use Rattle.model.specs.Names.{holds}
use Rattle.flatten.proofs.Sets.{every-all}
use Rattle.flatten.proofs.names.all_there.Goals as goal

pub returns : goal.returns
returns g c =
    let there = holds (lists (g.S.Space.means c.args.space.now).shape c.args.at) in
    all_from_yields_List there _ _ _ c.all.ensures.ran (YieldsList-from_slice c.args.names.now cc) (λ x b q k. search rules) ∙ sym (every-all there c.args.names.now)
