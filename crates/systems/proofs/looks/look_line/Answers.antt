use Rattle.std.proofs.Common.{string_bytes, ap, ◌∙◌, rules}
use Rattle.systems.specs.Looks.{seen}
use Rattle.systems.proofs.Lines.{begun, look_found, look_refused}
use Rattle.systems.proofs.looks.look_line.Goals.{in-Ok+in_ok-push_found-in-Ok, in-Err+in_ok-push_str-in-Err}
use Rattle.systems.proofs.looks.look_line.Goals as goal

pub returns : goal.returns
returns g c =
    let l = c.args.look in
    let list = seen g.B.Space.means c.args.net.now l in
    let slots = c.args.slots.now in
    let start = string_bytes c.push_number-2.new.out in
    let after = string_bytes c.match-resolve.line in
    let s =
    begun l c.from.result (string_bytes c.new-line.result) (string_bytes c.push_number.new.out) (string_bytes c.push_str.new.self) start
    (search rules) c.new-line.ensures.bytes c.in_ok-push_number.ensures c.in_ok-push_str.ensures.bytes c.in_ok-push_number-2.ensures in
    elim c.match-resolve.branch [
      | in-Ok+in_ok-push_found-in-Ok w ↦ (
          let h = w.in-Ok.ensures in
          look_found list slots l start after s _ c.resolve.new.slots h.answer.0 h.answer.1 h.answer.2 h.buffer (ap string_bytes w.line-is ∙ w.in_ok-push_found-in-Ok.ensures))
      | in-Err+in_ok-push_str-in-Err w ↦ (
          let h = w.in-Err.ensures in
          look_refused list slots l start after s h.answer.1 (ap string_bytes w.line-is ∙ w.in_ok-push_str-in-Err.ensures.bytes))
    ]
