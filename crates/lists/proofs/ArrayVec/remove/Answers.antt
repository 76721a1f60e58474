use Rattle.std.proofs.Common.{◌-◌, ◌∙◌, ap, take, arith}
use Rattle.lists.proofs.Shifting.{shifted}
use Rattle.lists.proofs.ArrayVec.remove.Goals as goal

pub returns-then-at-count : goal.returns-then-at-count
returns-then-at-count g c =
    ap (take (c.args.self.now.len - 1)) c.copy_within.ensures.after
    ∙ shifted c.args.self.now.items c.args.at c.args.self.now.len c.if-at-count.true (omega (arith, c.args.self.now.ok.0, c.args.self.now.ok.1))
