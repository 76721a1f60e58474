use Rattle.std.proofs.Common.{◌+◌, ◌-◌, ◌∷◌, map, drop, get_or, sym, subst, ap, ◌∙◌, arith}
use Rattle.std.proofs.lemmas.List.{length-map}
use Rattle.model.specs.Nets.{mapped}
use Rattle.blocks.specs.Destinations.{Known, spot_of}
use Rattle.blocks.specs.Shape.{map_block}
use Rattle.blocks.proofs.Sending.{known, spot_is}
use Rattle.walks.specs.Steps.{MapStep}
use Rattle.walks.proofs.Scanning.{none_on, covers_on, found_on}
use Rattle.walks.proofs.nodes.map_step.Goals as goal

pub returns-in_err-at : goal.returns-in_err-at
returns-in_err-at c =
    subst (MapStep (map map_block c.args.maps.now) c.args.node c.args.address c.args.from) (sym c.from_residual.ensures)
    (none_on map_block c.args.node c.args.address c.args.maps.now c.args.from (sym c.first_covering.ensures ∙ c.in_err-at.was))

pub returns : goal.returns
returns c =
    let k = c.in_ok-at.field-0 in
    let b = (get_or c.args.maps.now (c.args.from + k) c.index-maps-at.result).block in
    let e = sym c.first_covering.ensures ∙ c.in_ok-at.was in
    let w = covers_on map_block c.args.node c.args.address c.args.maps.now c.args.from k c.index-maps-at.result e in
    let l = length-map c.args.maps.now map_block in
    record {
      is = found_on map_block c.args.node c.args.address c.args.maps.now c.args.from k c.index-maps-at.result e
          ∙ ap (λ s. s ∷ mapped (drop (c.args.from + k + 1) (map map_block c.args.maps.now)) c.args.node c.args.address)
          (sym (spot_is b.destination (b.base + (c.args.address - b.lo))) ∙ ap (λ d. spot_of d (b.base + (c.args.address - b.lo))) (sym c.from.ensures));
      known = subst Known (sym c.from.ensures) (known b.destination (get_or c.args.maps.now (c.args.from + k) c.index-maps-at.result).valid.1);
      later = omega arith;
      within = omega arith;
    }

pub overflow_sub-result : goal.overflow_sub-result
overflow_sub-result c =
    (covers_on map_block c.args.node c.args.address c.args.maps.now c.args.from c.in_ok-at.field-0 c.index-maps-at.result (sym c.first_covering.ensures ∙ c.in_ok-at.was)).1

pub overflow_add-result : goal.overflow_add-result
overflow_add-result c =
    let h = covers_on map_block c.args.node c.args.address c.args.maps.now c.args.from c.in_ok-at.field-0 c.index-maps-at.result (sym c.first_covering.ensures ∙ c.in_ok-at.was) in
    let v = (get_or c.args.maps.now (c.args.from + c.in_ok-at.field-0) c.index-maps-at.result).valid in
    omega arith
