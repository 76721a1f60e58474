use Rattle.std.proofs.Common.{◌+◌, ◌≤◌, List, ◌++◌, length, vec_items, vec_len, vec_capacity}
use Rattle.std.specs.Vec.Iter.{into_iter_items}
use Rattle.serve.specs.declared.call.Answer.{Answer}
use Rattle.model.specs.Model.{Model}
use Rattle.serve.specs.Served.{Served}
use Rattle.serve.proofs.run.serve.Given as goal

abbrev pub invariant-loop-call : goal.invariant-loop-call
invariant-loop-call g l =
    (goal.iterator-loop-call g).can_next l.call-iterator
    × (goal.iterator-loop-call g).is_finite l.call-iterator
    × (vec_len l.answers + length (into_iter_items l.call-iterator) ≤ vec_capacity l.answers)
    × ((rs : List Answer) (q : Model)
    → Served g.P.Layer.meaning (g.P.Space.means l.stack).shape (into_iter_items l.call-iterator) rs q
    → Served g.P.Layer.meaning (g.P.Space.means l.initial.stack).shape (into_iter_items l.initial.call-iterator) (vec_items l.answers ++ rs) q)
