use Rattle.std.proofs.Common.{sym, ap, ◌||◌, ◌∙◌}
use Rattle.lists.specs.Held.{held}
use Rattle.model.specs.Model.{lists}
use Rattle.layers.proofs.Meeting.{pair_leads, met_is}
use Rattle.layers.proofs.renaming.RenamingSpace.meets.Goals as goal

pub returns-then-leads : goal.returns-then-leads
returns-then-leads g c =
    let ps = held c.args.self.now.pairs in
    let xs = lists (g.B.Space.means c.args.self.now.below).shape c.args.address in
    c.if-leads.true ∙ sym (met_is ps xs c.args.name ∙ ap (λ b. b || pair_leads ps xs c.args.name) (sym c.leads.ensures ∙ c.if-leads.true))

pub returns-else-leads : goal.returns-else-leads
returns-else-leads g c =
    let ps = held c.args.self.now.pairs in
    let xs = lists (g.B.Space.means c.args.self.now.below).shape c.args.address in
    c.pair_leads.ensures ∙ sym (met_is ps xs c.args.name ∙ ap (λ b. b || pair_leads ps xs c.args.name) (sym c.leads.ensures ∙ c.if-leads.false))
