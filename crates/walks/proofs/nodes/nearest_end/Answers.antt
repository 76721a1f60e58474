use Rattle.std.proofs.Common.{◌≡◌, ◌-◌, min, map, ◌∙◌, arith, rules}
use Rattle.std.specs.List.{fold}
use Rattle.std.proofs.iter.runs.Made.{chains}
use Rattle.model.specs.Names.{top}
use Rattle.walks.specs.Spans.{range_room}
use Rattle.walks.proofs.Scanning.{fold_nearest, nearest_top}
use Rattle.walks.proofs.nodes.nearest_end.Goals as goal

pub returns : goal.returns
returns g c =
    let e : c.fold.result ≡ fold min (top - 1) (map (λ x. range_room c.args.node c.args.address (g.T.Ranged.range_of x)) c.args.blocks.now) = search (rules, chains) in
    let m = nearest_top (λ x. range_room c.args.node c.args.address (g.T.Ranged.range_of x)) c.args.blocks.now in
    e ∙ fold_nearest (λ x. range_room c.args.node c.args.address (g.T.Ranged.range_of x)) (top - 1) c.args.blocks.now (omega arith) ∙ omega arith
