use Rattle.std.proofs.Common.{◌<◌, ◌≤◌, length, sym, ap, ◌∙◌, arith, rules}
use Rattle.std.proofs.lemmas.Bool.{both_ways}
use Rattle.model.specs.Names.{top}
use Rattle.model.specs.Nets.{within}
use Rattle.model.specs.Model.{Model}
use Rattle.model.specs.Looks.{filled}
use Rattle.layers.proofs.Windows.{inside, shown, reach_shown}
use Rattle.layers.proofs.window.methods.WindowSpace.look.Goals as goal

pub returns : goal.returns
returns g c =
    let s = c.args.self.now in
    let m : Model = (g.B.Space.means s.below).shape in
    let at = c.args.address in
    let low : s.lo ≤ at = omega (arith, c.if-address-self.false) in
    let high : at ≤ s.hi = omega (arith, c.if-address-self-2.false) in
    let f : s.hi < top = search rules in
    let a = c.in_ok-count.ensures.answer in
    let e = sym (shown s.lo s.hi s.base m at low high) in
    record {
      answer = (a.0 ∙ ap length e, a.1, reach_shown s.lo s.hi s.base m at c.in_ok-count.reach c.min-room.result low high f c.min-room.ensures a.2);
      buffer = c.in_ok-count.ensures.buffer ∙ ap (λ xs. filled xs c.args.slots.now) e;
      reach = λ out. absurd (both_ways (within s.lo s.hi at) out (inside s.lo s.hi at low high));
    }
