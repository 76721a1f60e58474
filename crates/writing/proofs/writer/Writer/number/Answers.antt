use Rattle.std.proofs.Common.{◌-◌, [], ◌∷◌, arith}
use Rattle.text.specs.Numbers.{spelled}
use Rattle.writing.proofs.Writers.{room, step, done, digit_first, none_left}
use Rattle.writing.proofs.writer.Writer.number.Goals as goal

pub byte-requires : goal.byte-requires
byte-requires c =
    let e = digit_first c.loop-place.place c.args.value c.digit_at.result c.loop-place-test.true c.digit_at.ensures in
    room (c.digit_at.result ∷ []) (spelled (c.loop-place.place - 1) c.args.value) e c.requires c.loop-place.invariant

pub loop-place-preserved : goal.loop-place-preserved
loop-place-preserved c =
    let e = digit_first c.loop-place.place c.args.value c.digit_at.result c.loop-place-test.true c.digit_at.ensures in
    step (c.digit_at.result ∷ []) (spelled (c.loop-place.place - 1) c.args.value) e c.requires c.loop-place.invariant c.byte.new.self c.byte.ensures

pub returns : goal.returns
returns c = done (none_left c.loop-place.place c.args.value (omega (arith, c.loop-place-test.false))) c.loop-place.invariant
