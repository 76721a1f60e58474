use Rattle.std.proofs.Common.{◌<◌, length, sym, refl, arith}
use Rattle.blocks.specs.Shape.{kept}
use Rattle.writing.specs.Texts.{text_of}
use Rattle.writing.proofs.Lined.{length_text}
use Rattle.writing.proofs.Writers.{from_front}
use Rattle.writing.proofs.Whole.{text_long, all_fits, enter_fits, accepts_fit, maps_fit, overlays_fit, all_added}
use Rattle.writing.proofs.write.write.Goals as goal

pub enter-requires : goal.enter-requires
enter-requires c = enter_fits c.args.blocks.now c.as_slice-accepts.ensures c.as_slice-maps.ensures c.count_overlays.result c.count_overlays.ensures.count (all_fits c.args.blocks.now c.as_slice-accepts.ensures c.as_slice-maps.ensures c.count_overlays.result c.count_overlays.ensures.count refl c.if-out-need.false)

pub lines-requires : goal.lines-requires
lines-requires c = accepts_fit c.args.blocks.now c.as_slice-accepts.ensures c.as_slice-maps.ensures c.count_overlays.result c.count_overlays.ensures.count c.enter.ensures (all_fits c.args.blocks.now c.as_slice-accepts.ensures c.as_slice-maps.ensures c.count_overlays.result c.count_overlays.ensures.count refl c.if-out-need.false)

pub lines-requires-2 : goal.lines-requires-2
lines-requires-2 c = maps_fit c.args.blocks.now c.as_slice-accepts.ensures c.as_slice-maps.ensures c.count_overlays.result c.count_overlays.ensures.count c.enter.ensures (all_fits c.args.blocks.now c.as_slice-accepts.ensures c.as_slice-maps.ensures c.count_overlays.result c.count_overlays.ensures.count refl c.if-out-need.false) c.lines.ensures

pub overlays-requires : goal.overlays-requires
overlays-requires c =
    overlays_fit c.args.blocks.now c.as_slice-accepts.ensures c.as_slice-maps.ensures c.count_overlays.result c.count_overlays.ensures.count c.enter.ensures (all_fits c.args.blocks.now c.as_slice-accepts.ensures c.as_slice-maps.ensures c.count_overlays.result c.count_overlays.ensures.count refl c.if-out-need.false) c.lines.ensures c.lines-2.ensures

pub returns-then-out-need : goal.returns-then-out-need
returns-then-out-need c =
    let t = text_long c.args.blocks.now c.as_slice-accepts.ensures c.as_slice-maps.ensures c.count_overlays.result c.count_overlays.ensures.count in
    let k : length c.args.out.now < length (text_of (kept c.args.blocks.now)) = omega (arith, c.if-out-need.true) in
    record { text = (refl, k, refl); count = length_text (kept c.args.blocks.now) }

pub returns : goal.returns
returns c =
    let d = all_added c.args.blocks.now c.as_slice-accepts.ensures c.as_slice-maps.ensures c.count_overlays.result c.count_overlays.ensures.count c.enter.ensures (all_fits c.args.blocks.now c.as_slice-accepts.ensures c.as_slice-maps.ensures c.count_overlays.result c.count_overlays.ensures.count refl c.if-out-need.false) c.lines.ensures c.lines-2.ensures c.overlays.ensures in
    let e = from_front (text_of (kept c.args.blocks.now)) _ _ refl d in
    let s = sym d.same in
    let t = e.1 in
    record { text = (e.0, grind arith); count = length_text (kept c.args.blocks.now) }
