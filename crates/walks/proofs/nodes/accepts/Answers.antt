use Rattle.std.proofs.Common.{ap, ◌∙◌, map, is_some}
use Rattle.model.specs.Nets.{accepting}
use Rattle.blocks.specs.Shape.{accept_block}
use Rattle.blocks.proofs.Scans.{some_found}
use Rattle.walks.proofs.Scanning.{accepting_is}
use Rattle.walks.proofs.nodes.accepts.Goals as goal

pub returns : goal.returns
returns c =
    c.is_some.ensures ∙ ap is_some c.first_covering.ensures ∙ some_found _ c.as_slice.result.now ∙ accepting_is accept_block c.args.node c.args.address c.as_slice.result.now
    ∙ ap (λ l. accepting (map accept_block l) c.args.node c.args.address) c.as_slice.ensures
