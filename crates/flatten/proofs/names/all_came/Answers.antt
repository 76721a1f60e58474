use Rattle.std.proofs.Common.{rules, arith, ◌&&◌, nat_le, sym, ◌∙◌}
use Rattle.std.proofs.lemmas.Iterator.{YieldsList-from_slice}
use Rattle.std.proofs.lemmas.Iterator.Search.{all_from_yields_List}
use Rattle.std.proofs.lemmas.Grind.{common_steps}
use Rattle.model.specs.declared.names.Name.{Name}
use Rattle.model.specs.Model.{lists}
use Rattle.model.specs.Names.{holds}
use Rattle.flatten.specs.Steps.{lowered}
use Rattle.flatten.proofs.Sets.{downs-all}
use Rattle.flatten.proofs.names.all_came.Goals as goal

pub returns : goal.returns
returns g c =
    let there = lists (g.S.Space.means c.args.space.now).shape c.args.at in
    all_from_yields_List (λ (x : Name). nat_le c.args.by x.address && holds there (lowered c.args.by x)) _ _ _ c.all.ensures.ran (YieldsList-from_slice c.args.names.now cc) (λ x b q k. (search rules, grind (arith, common_steps))) ∙ sym (downs-all c.args.by there c.args.names.now)
