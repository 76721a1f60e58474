use Rattle.text.proofs.Columns.{field_bound}
use Rattle.text.proofs.row.field.Goals as goal

pub returns-clause-bound : goal.returns-clause-bound
returns-clause-bound c = field_bound c.args.line.now c.args.from c.args.count _ _ c.requires c.unwrap_or.ensures c.read_number.ensures.bound
