use Rattle.std.proofs.Common.{◌<◌, ◌+◌, ◌++◌, get_or, map, drop, length, None, ap, ◌∙◌, arith}
use Rattle.std.proofs.lemmas.List.{at_drop_more, at_drop_all, length-map}
use Rattle.blocks.specs.Destinations.{overlay_number}
use Rattle.blocks.proofs.Sending.{overlay_at}
use Rattle.writing.specs.Texts.{overlay_line, overlay_lines}
use Rattle.writing.proofs.Writers.{room, step, done}
use Rattle.writing.proofs.writer.Writer.overlays.Goals as goal

pub overlay-requires-clause-room : goal.overlay-requires-clause-room
overlay-requires-clause-room c =
    let xs = c.args.blocks.now.overlays in
    let i = c.loop-node.node in
    let ds = map overlay_number xs in
    let h : i < length ds = omega (arith, length-map xs overlay_number, c.loop-node-test.true) in
    let rest = overlay_lines (i + 1) (drop (i + 1) ds) in
    let e = at_drop_more (overlay_lines i) ds i 33 h ∙ ap (λ z. overlay_line i z ++ rest) (overlay_at xs i) in
    room (overlay_line i (overlay_number (get_or xs i None))) rest e c.requires c.loop-node.invariant

pub loop-node-preserved : goal.loop-node-preserved
loop-node-preserved c =
    let xs = c.args.blocks.now.overlays in
    let i = c.loop-node.node in
    let ds = map overlay_number xs in
    let h : i < length ds = omega (arith, length-map xs overlay_number, c.loop-node-test.true) in
    let rest = overlay_lines (i + 1) (drop (i + 1) ds) in
    let e = at_drop_more (overlay_lines i) ds i 33 h ∙ ap (λ z. overlay_line i z ++ rest) (overlay_at xs i) in
    step (overlay_line i (overlay_number (get_or xs i None))) rest e c.requires c.loop-node.invariant c.overlay.new.self c.overlay.ensures

pub returns : goal.returns
returns c =
    let xs = c.args.blocks.now.overlays in
    let h = length-map xs overlay_number in
    done (at_drop_all (overlay_lines c.loop-node.node) (map overlay_number xs) c.loop-node.node (omega (arith, c.loop-node-test.false))) c.loop-node.invariant
