use Rattle.std.proofs.Common.{List, length, arith}
use Rattle.std.proofs.lemmas.Result.{err_from_is_err_and}
use Rattle.lists.specs.Held.{held}
use Rattle.model.specs.Model.{Model}
use Rattle.walks.specs.declared.notes.Note.{Note}
use Rattle.nets.specs.Shape.{Inner, inner}
use Rattle.nets.proofs.Looks.{walked_slice, resolved_ok, resolved_short, resolved_buffer, resolved_unknown, unknown_buffer}
use Rattle.nets.proofs.net.Net.resolve.Goals as goal

pub returns-in_err-notes : goal.returns-in_err-notes
returns-in_err-notes g c =
    let t : Inner = inner c.args.self.now.table in
    let m : Model = (g.B.Space.means c.args.self.now.below).shape in
    let p = err_from_is_err_and c.from_residual.result c.from_residual.ensures.1 in
    rw (p.1, p.2) (record {
      answer = resolved_unknown t m c.args.node c.args.address c.in_err-notes.field-0.0 (omega arith) c.in_err-notes.ensures (length c.args.slots.now);
      buffer = unknown_buffer t m c.args.node c.args.address c.in_err-notes.field-0.0 (omega arith) c.in_err-notes.ensures c.args.slots.now;
    })

pub returns-in_err-count : goal.returns-in_err-count
returns-in_err-count g c =
    let t : Inner = inner c.args.self.now.table in
    let m : Model = (g.B.Space.means c.args.self.now.below).shape in
    let items : List Note = c.as_slice.result.now in
    let w = walked_slice t.keeps c.args.node c.args.address c.in_ok-notes.notes.span items (held c.in_ok-notes.notes.items) c.as_slice.ensures c.in_ok-notes.ensures in
    let p = err_from_is_err_and c.from_residual-in_err-count.result c.from_residual-in_err-count.ensures.1 in
    rw (p.1, p.2) (record {
      answer = resolved_short t m c.args.node c.args.address items c.in_ok-notes.notes.span w c.in_err-count.field-0.0 (length c.args.slots.now) c.in_err-count.ensures.answer;
      buffer = resolved_buffer t m c.args.node c.args.address items c.in_ok-notes.notes.span w c.args.slots.now c.gather.new.slots c.in_err-count.ensures.buffer;
    })

pub returns : goal.returns
returns g c =
    let t : Inner = inner c.args.self.now.table in
    let m : Model = (g.B.Space.means c.args.self.now.below).shape in
    let items : List Note = c.as_slice.result.now in
    let w = walked_slice t.keeps c.args.node c.args.address c.in_ok-notes.notes.span items (held c.in_ok-notes.notes.items) c.as_slice.ensures c.in_ok-notes.ensures in
    record {
      answer = resolved_ok t m c.args.node c.args.address items c.in_ok-notes.notes.span w c.in_ok-count.count c.in_ok-count.room (length c.args.slots.now) c.in_ok-count.ensures.answer;
      buffer = resolved_buffer t m c.args.node c.args.address items c.in_ok-notes.notes.span w c.args.slots.now c.gather.new.slots c.in_ok-count.ensures.buffer;
    }
