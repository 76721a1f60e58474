use Rattle.std.proofs.Common.{rules, sym, ◌∙◌}
use Rattle.std.proofs.lemmas.Iterator.{YieldsList-from_slice}
use Rattle.std.proofs.lemmas.Iterator.Search.{any_from_yields_List}
use Rattle.model.specs.Model.{lists}
use Rattle.nets.proofs.Meeting.{met_by, each-any}
use Rattle.nets.proofs.gather.any_meets.Goals as goal

pub returns : goal.returns
returns g c =
    let below = lists (g.B.Space.means c.args.below.now).shape in
    any_from_yields_List (met_by below c.args.name) _ _ _ c.any.ensures.ran (YieldsList-from_slice c.args.items.now cc) (λ x b q k. (search rules, search rules)) ∙ sym (each-any below c.args.name c.args.items.now)
