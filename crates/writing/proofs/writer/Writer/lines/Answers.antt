use Rattle.std.proofs.Common.{◌+◌, ◌++◌, drop, sym, ap, ◌∙◌}
use Rattle.std.proofs.lemmas.List.{at_drop_more, at_drop_all}
use Rattle.writing.specs.Texts.{lines}
use Rattle.writing.proofs.Writers.{room, step, done}
use Rattle.writing.proofs.writer.Writer.lines.Goals as goal

pub write-requires : goal.write-requires
write-requires g c =
    let line = g.L.Line.text in
    let x = c.one-item.result in
    let rest = lines line (drop (c.loop-one.one-index + 1) c.args.all.now) in
    let e = at_drop_more (lines line) c.args.all.now c.loop-one.one-index x c.loop-one-test.true ∙ ap (λ z. line z ++ rest) (sym c.one-item.is) in
    room (line x) rest e c.requires c.loop-one.invariant

pub loop-one-preserved : goal.loop-one-preserved
loop-one-preserved g c =
    let line = g.L.Line.text in
    let x = c.one-item.result in
    let rest = lines line (drop (c.loop-one.one-index + 1) c.args.all.now) in
    let e = at_drop_more (lines line) c.args.all.now c.loop-one.one-index x c.loop-one-test.true ∙ ap (λ z. line z ++ rest) (sym c.one-item.is) in
    step (line x) rest e c.requires c.loop-one.invariant c.write.new.writer c.write.ensures

pub returns : goal.returns
returns g c = done (at_drop_all (lines g.L.Line.text) c.args.all.now c.loop-one.one-index c.loop-one-test.false) c.loop-one.invariant
