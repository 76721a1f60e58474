use Rattle.std.proofs.Common.{◌≡◌, min, map, ap, ◌∙◌}
use Rattle.lists.specs.Held.{held}
use Rattle.blocks.specs.Shape.{accept_block, map_block}
use Rattle.walks.specs.Spans.{nearest, accept_room, map_room}
use Rattle.walks.proofs.Scanning.{nearest_map}
use Rattle.walks.proofs.nodes.reach_above.Goals as goal

pub returns : goal.returns
returns c =
    let fa = accept_room c.args.node c.args.address in
    let fm = map_room c.args.node c.args.address in
    let ea : c.nearest_end-by_accepts.result ≡ nearest fa (map accept_block (held c.args.blocks.now.accepts)) =
    c.nearest_end-by_accepts.ensures ∙ nearest_map accept_block fa c.as_slice.result.now ∙ ap (λ l. nearest fa (map accept_block l)) c.as_slice.ensures in
    let em : c.nearest_end-by_maps.result ≡ nearest fm (map map_block (held c.args.blocks.now.maps)) =
    c.nearest_end-by_maps.ensures ∙ nearest_map map_block fm c.as_slice-2.result.now ∙ ap (λ l. nearest fm (map map_block l)) c.as_slice-2.ensures in
    c.min.ensures ∙ ap (λ x. min x c.nearest_end-by_maps.result) ea ∙ ap (min (nearest fa (map accept_block (held c.args.blocks.now.accepts)))) em
