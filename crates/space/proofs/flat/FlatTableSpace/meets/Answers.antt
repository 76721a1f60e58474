use Rattle.std.proofs.Common.{sym, ◌∙◌}
use Rattle.space.proofs.Tables.{holds_tabled}
use Rattle.space.proofs.flat.FlatTableSpace.meets.Goals as goal

pub returns : goal.returns
returns c = c.any_leads.ensures ∙ sym (holds_tabled c.args.address c.args.name c.args.self.now.records.now)
