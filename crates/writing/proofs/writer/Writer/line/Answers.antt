use Rattle.std.proofs.Common.{[], ◌∷◌, ◌+◌, get_or, drop, refl}
use Rattle.std.proofs.lemmas.List.{at_drop_more, at_drop_all}
use Rattle.text.specs.Numbers.{spelled}
use Rattle.writing.specs.declared.writer.Field.{Field}
use Rattle.writing.specs.Fields.{line_of}
use Rattle.writing.proofs.Writers.{room, step, done}
use Rattle.writing.proofs.writer.Writer.line.Goals as goal

pub number-requires : goal.number-requires
number-requires c =
    let blank : Field = record { value = 0; digits = 0 } in
    let f = get_or c.args.fields.now c.loop-field.field-index blank in
    room (spelled f.digits f.value) (line_of (drop (c.loop-field.field-index + 1) c.args.fields.now))
    (at_drop_more line_of c.args.fields.now c.loop-field.field-index blank c.loop-field-test.true) c.requires c.loop-field.invariant

pub loop-field-preserved : goal.loop-field-preserved
loop-field-preserved c =
    let blank : Field = record { value = 0; digits = 0 } in
    let f = get_or c.args.fields.now c.loop-field.field-index blank in
    step (spelled f.digits f.value) (line_of (drop (c.loop-field.field-index + 1) c.args.fields.now))
    (at_drop_more line_of c.args.fields.now c.loop-field.field-index blank c.loop-field-test.true) c.requires c.loop-field.invariant c.number.new.self c.number.ensures

pub byte-requires : goal.byte-requires
byte-requires c = room (10 ∷ []) [] (at_drop_all line_of c.args.fields.now c.loop-field.field-index c.loop-field-test.false) c.requires c.loop-field.invariant

pub returns : goal.returns
returns c =
    let e = at_drop_all line_of c.args.fields.now c.loop-field.field-index c.loop-field-test.false in
    done refl (step (10 ∷ []) [] e c.requires c.loop-field.invariant c.byte.new.self c.byte.ensures)
