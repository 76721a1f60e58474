use Rattle.std.proofs.Common.{[], ◌∷◌, ◌++◌, vec_items, sym, ap, ◌∙◌}
use Rattle.std.proofs.lemmas.Result.{IfOk-weaker}
use Rattle.nets.specs.Shape.{net_means}
use Rattle.nets.specs.Meant.{net_meant}
use Rattle.serve.specs.Reference.{heard, reference}
use Rattle.netlines.specs.Replies.{reply_text}
use Rattle.netlines.proofs.Single.{one_served, popped, not_empty}
use Rattle.netlines.proofs.answer.obey.Goals as goal

pub unreachable-requires : goal.unreachable-requires
unreachable-requires g c =
    let m = (net_means g.B.Space.means c.args.net.now).shape in
    let e = c.in_ok-push.ensures.items ∙ ap (λ l. l ++ c.in_ok-call.call ∷ []) c.new-calls.ensures.items in
    let one = one_served (net_meant g.B.Space.means) m c.in_ok-call.call (vec_items c.push.new.self) (vec_items c.in_ok-answers.answers) (net_means g.B.Space.means c.serve.new.stack).shape e c.in_ok-answers.ensures in
    not_empty one.reply (vec_items c.in_ok-answers.answers) _ one.alone c.in_ok-answers.answers.ok.0 c.in-None.ensures.cases.0

pub returns : goal.returns
returns g c =
    let m = (net_means g.B.Space.means c.args.net.now).shape in
    let e = c.in_ok-push.ensures.items ∙ ap (λ l. l ++ c.in_ok-call.call ∷ []) c.new-calls.ensures.items in
    let one = one_served (net_meant g.B.Space.means) m c.in_ok-call.call (vec_items c.push.new.self) (vec_items c.in_ok-answers.answers) (net_means g.B.Space.means c.serve.new.stack).shape e c.in_ok-answers.ensures in
    let same = popped one.reply c.in-Some.answer (vec_items c.pop.new.self) (sym one.alone ∙ c.in-Some.ensures.items) in
    IfOk-weaker c.reply_line.result _ _ (λ line h. (
      h ∙ ap (λ r. reply_text (heard r)) (sym same) ∙ ap reply_text one.right.same ∙ ap (λ q. reply_text (reference m q).0) c.in_ok-call.ensures,
      one.left ∙ ap (λ q. (reference m q).1) c.in_ok-call.ensures,
    )) c.reply_line.ensures
