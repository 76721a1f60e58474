use Rattle.std.proofs.Common.{rules, tests, ◌+◌, ◌&&◌, nat_lt, sym, ◌∙◌}
use Rattle.std.proofs.lemmas.Iterator.{YieldsList-from_slice}
use Rattle.std.proofs.lemmas.Iterator.Search.{all_from_yields_List}
use Rattle.model.specs.declared.names.Name.{Name}
use Rattle.model.specs.Model.{lists}
use Rattle.model.specs.Names.{top, raised, holds}
use Rattle.flatten.proofs.Sets.{ups-all}
use Rattle.flatten.proofs.names.all_met.Goals as goal

pub returns : goal.returns
returns g c =
    let there = lists (g.S.Space.means c.args.space.now).shape c.args.at in
    all_from_yields_List (λ (x : Name). nat_lt (x.address + c.args.by) top && holds there (raised c.args.by x)) _ _ _ c.all.ensures.ran (YieldsList-from_slice c.args.names.now cc) (λ x b q k. (search rules, search (rules, tests))) ∙ sym (ups-all c.args.by there c.args.names.now)
