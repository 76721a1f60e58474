use Rattle.std.proofs.Common.{◌≡◌, None, [], map, get_or, is_some, sym, subst, ap, ◌∙◌}
use Rattle.std.proofs.lemmas.List.{get_or_past}
use Rattle.model.specs.Nets.{mapped}
use Rattle.blocks.specs.Destinations.{overlay_number}
use Rattle.blocks.specs.Shape.{kept, map_block}
use Rattle.blocks.proofs.Sending.{overlay_at}
use Rattle.walks.specs.Steps.{Overlay}
use Rattle.walks.proofs.Stepping.{over_at, over_maps}
use Rattle.walks.proofs.Scanning.{map_missing, map_there}
use Rattle.walks.proofs.nodes.overlay.Goals as goal

pub returns-then-is_some : goal.returns-then-is_some
returns-then-is_some c =
    let h = map_there map_block c.args.node c.args.address c.as_slice.result.now (c.if-is_some.ensures ∙ ap is_some c.first_covering.ensures) in
    over_maps (kept c.args.blocks.now) c.args.node c.args.address h.0 h.1 (ap (λ l. mapped (map map_block l) c.args.node c.args.address) (sym c.as_slice.ensures) ∙ h.2)

pub returns-in_err-get : goal.returns-in_err-get
returns-in_err-get c =
    let k = kept c.args.blocks.now in
    let xs = c.args.blocks.now.overlays in
    let none-maps : mapped k.maps c.args.node c.args.address ≡ [] =
    ap (λ l. mapped (map map_block l) c.args.node c.args.address) (sym c.as_slice.ensures)
    ∙ map_missing map_block c.args.node c.args.address c.as_slice.result.now (c.if-is_some.ensures ∙ ap is_some c.first_covering.ensures) in
    let past : get_or xs c.args.node None ≡ None = get_or_past xs c.args.node None c.in_err-get.ensures.lookup.3 in
    subst (Overlay k c.args.node c.args.address) (sym c.from_residual.ensures)
    (over_at k c.args.node c.args.address c.if-accepts.ensures none-maps None (sym (overlay_at xs c.args.node ∙ ap overlay_number past)) (λ n e. cc))

pub returns : goal.returns
returns c =
    let k = kept c.args.blocks.now in
    let xs = c.args.blocks.now.overlays in
    let none-maps : mapped k.maps c.args.node c.args.address ≡ [] =
    ap (λ l. mapped (map map_block l) c.args.node c.args.address) (sym c.as_slice.ensures)
    ∙ map_missing map_block c.args.node c.args.address c.as_slice.result.now (c.if-is_some.ensures ∙ ap is_some c.first_covering.ensures) in
    let is : c.in_ok-get.field-0.now ≡ get_or xs c.args.node None = c.in_ok-get.ensures.lookup.3.1 None in
    subst (Overlay k c.args.node c.args.address) (sym is)
    (over_at k c.args.node c.args.address c.if-accepts.ensures none-maps (get_or xs c.args.node None) (sym (overlay_at xs c.args.node)) (c.args.blocks.now.valid.1 c.args.node))
