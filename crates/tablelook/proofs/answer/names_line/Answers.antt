use Rattle.std.proofs.Common.{◌++◌, string_bytes, ap, ◌∙◌}
use Rattle.model.specs.Model.{lists}
use Rattle.text.specs.Numbers.{spelled}
use Rattle.tablelook.proofs.Lines.{look_found, look_short}
use Rattle.tablelook.proofs.answer.names_line.Goals.{in-Ok+in_ok-push_found-in-Ok, in-Err+in_ok-push_str-in-Err}
use Rattle.tablelook.proofs.answer.names_line.Goals as goal

pub returns : goal.returns
returns g c =
    let list = lists (g.S.Space.means c.args.space.now).shape c.args.address in
    let slots = c.args.slots.now in
    let a = c.args.address in
    let start = string_bytes c.push_number.new.out in
    let after = string_bytes c.match-look.line in
    let s = c.in_ok-push_number.ensures ∙ ap (λ x. x ++ spelled 16 a) c.new-line.ensures.bytes in
    elim c.match-look.branch [
      | in-Ok+in_ok-push_found-in-Ok w ↦ (
          let h = w.in-Ok.ensures in
          look_found list slots a start after s _ c.look.new.slots h.answer.0 h.answer.1 h.buffer (ap string_bytes w.line-is ∙ w.in_ok-push_found-in-Ok.ensures))
      | in-Err+in_ok-push_str-in-Err w ↦ (
          let h = w.in-Err.ensures in
          look_short list slots a start after s h.answer.1 (ap string_bytes w.line-is ∙ w.in_ok-push_str-in-Err.ensures.bytes))
    ]
