use Rattle.std.proofs.iter.Serving.{serving}
use Rattle.space.proofs.Tables.{sane_at}
use Rattle.space.proofs.flat.any_leads.Goals as goal

pub any-requires-clause-callable : goal.any-requires-clause-callable
any-requires-clause-callable c = grind (serving, sane_at)
