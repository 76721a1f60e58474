use Rattle.std.proofs.Common.{ℕ, List, map, sym, ◌∙◌}
use Rattle.std.proofs.lemmas.List.{length-map}
use Rattle.lists.specs.Held.{held}
use Rattle.model.specs.Names.{renamed}
use Rattle.model.specs.Model.{Model, lists}
use Rattle.layers.specs.Pairs.{two}
use Rattle.layers.proofs.Renames.{reach-renamed}
use Rattle.layers.proofs.renaming.RenamingSpace.look.Goals as goal

pub returns-clause-answer : goal.returns-clause-answer
returns-clause-answer g c =
    let ps : List (ℕ × ℕ) = map two (held c.args.self.now.pairs) in
    let m : Model = (g.B.Space.means c.args.self.now.below).shape in
    let a = c.in_ok-count.ensures.answer in
    (a.0 ∙ sym (length-map (lists m c.args.address) (renamed ps)), a.1, reach-renamed ps m c.args.address c.in_ok-count.reach a.2)
