use Rattle.std.proofs.Common.{◌≡◌, count_by, is_some, ◌∙◌, rules}
use Rattle.std.proofs.iter.runs.Made.{chains}
use Rattle.writing.proofs.Lined.{counted}
use Rattle.writing.proofs.write.count_overlays.Goals as goal

pub returns-clause-count : goal.returns-clause-count
returns-clause-count c =
    let n : c.count.result ≡ count_by is_some c.args.blocks.now.overlays = search (rules, chains) in
    n ∙ counted c.args.blocks.now.overlays c.args.blocks.now.valid.1
