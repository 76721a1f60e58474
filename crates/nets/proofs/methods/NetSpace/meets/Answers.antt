use Rattle.std.proofs.Common.{List, arith}
use Rattle.lists.specs.Held.{held}
use Rattle.model.specs.Model.{Model}
use Rattle.walks.specs.declared.notes.Note.{Note}
use Rattle.nets.specs.Shape.{Inner, inner}
use Rattle.nets.proofs.Looks.{walked_slice, met_at, never}
use Rattle.nets.proofs.methods.NetSpace.meets.Goals as goal

pub unreachable-requires : goal.unreachable-requires
unreachable-requires g c =
    never (inner c.args.self.now.table) (g.B.Space.means c.args.self.now.below).shape c.entry.result c.args.address c.in_default.field-0 (omega arith) c.in_default.ensures c.entry.ensures

pub returns : goal.returns
returns g c =
    let t : Inner = inner c.args.self.now.table in
    let m : Model = (g.B.Space.means c.args.self.now.below).shape in
    let items : List Note = c.as_slice.result.now in
    let w = walked_slice t.keeps c.entry.result c.args.address c.in-Ok.notes.span items (held c.in-Ok.notes.items) c.as_slice.ensures c.in-Ok.ensures in
    met_at t m c.entry.result c.args.address items c.in-Ok.notes.span w c.any_meets.result c.args.name c.entry.ensures c.any_meets.ensures
