use Rattle.std.proofs.Common.{◌≡◌, List, [], ◌++◌, length, vec_items, sym, ap, ◌∙◌, subst, arith}
use Rattle.std.proofs.lemmas.List.{nil_from_length, append-nil}
use Rattle.std.specs.Vec.Iter.{into_iter_items}
use Rattle.serve.specs.declared.call.Answer.{Answer}
use Rattle.serve.specs.Served.{Served, finished}
use Rattle.model.proofs.Keeping.{sound_ends}
use Rattle.serve.proofs.Serving.{served_more}
use Rattle.serve.proofs.run.serve.Goals as goal

pub push_reserved-requires : goal.push_reserved-requires
push_reserved-requires g c = omega (arith, c.loop-call.invariant.2, ap length c.in-Some.ensures.steps.0)

pub loop-call-init : goal.loop-call-init
loop-call-init g c = (
  tt,
  tt,
  omega (arith, c.in_ok-answers.ensures.len, c.in_ok-answers.ensures.capacity, c.len.ensures, ap length c.into_iter-call-iterator.ensures.into_iter_gives.0, c.args.calls.ok.0),
  λ rs q s. subst (λ (ys : List Answer). Served g.P.Layer.meaning (g.P.Space.means c.args.stack.now).shape (into_iter_items c.into_iter-call-iterator.result) (ys ++ rs) q)
      (sym c.in_ok-answers.ensures.items) s,
)

pub loop-call-preserved : goal.loop-call-preserved
loop-call-preserved g c = (
  tt,
  tt,
  omega (arith, c.loop-call.invariant.2, ap length c.in-Some.ensures.steps.0, c.push_reserved.ensures.len, c.push_reserved.ensures.capacity),
  served_more g.P.Layer.meaning (g.P.Space.means c.args.stack.now).shape (g.P.Space.means c.loop-call.stack).shape (g.P.Space.means c.serve_one-answer.new.stack).shape
      c.in-Some.call c.serve_one-answer.result (into_iter_items c.into_iter-call-iterator.result) (into_iter_items c.loop-call.call-iterator) (into_iter_items c.next.new.self)
      (vec_items c.loop-call.answers) (vec_items c.push_reserved.new.self)
      c.in-Some.ensures.steps.0 (sound_ends (g.P.Space.means c.loop-call.stack).shape (g.P.Space.means c.loop-call.stack).sound) c.serve_one-answer.ensures.right c.serve_one-answer.ensures.left c.push_reserved.ensures.items
      c.loop-call.invariant.3,
)

pub returns : goal.returns
returns g c =
    let e : into_iter_items c.loop-call.call-iterator ≡ [] =
    nil_from_length (into_iter_items c.loop-call.call-iterator) (sym c.loop-call.call-iterator.rest.ok.0 ∙ c.in-None.ensures.steps.0) in
    let done : Served g.P.Layer.meaning (g.P.Space.means c.args.stack.now).shape (into_iter_items c.into_iter-call-iterator.result) (vec_items c.loop-call.answers ++ []) (g.P.Space.means c.loop-call.stack).shape =
    c.loop-call.invariant.3 [] (g.P.Space.means c.loop-call.stack).shape
    (subst (λ ys. Served g.P.Layer.meaning (g.P.Space.means c.loop-call.stack).shape ys [] (g.P.Space.means c.loop-call.stack).shape) (sym e) (finished (sound_ends (g.P.Space.means c.loop-call.stack).shape (g.P.Space.means c.loop-call.stack).sound))) in
    subst (λ ys. Served g.P.Layer.meaning (g.P.Space.means c.args.stack.now).shape ys (vec_items c.loop-call.answers) (g.P.Space.means c.loop-call.stack).shape)
    c.into_iter-call-iterator.ensures.into_iter_gives.0
    (subst (λ (ys : List Answer). Served g.P.Layer.meaning (g.P.Space.means c.args.stack.now).shape (into_iter_items c.into_iter-call-iterator.result) ys (g.P.Space.means c.loop-call.stack).shape)
    (append-nil (vec_items c.loop-call.answers)) done)
