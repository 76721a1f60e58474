use Rattle.std.proofs.Common.{◌≡◌, false, [], ◌∷◌, Err, sym, ap, ◌∙◌}
use Rattle.std.proofs.lemmas.Result.{err_from_is_err_and}
use Rattle.lists.specs.Held.{held}
use Rattle.sets.specs.Members.{some_of}
use Rattle.model.specs.declared.faults.Fault.{Fault}
use Rattle.model.specs.Edits.{asked, there, without}
use Rattle.blocks.specs.Outcomes.{to_drop}
use Rattle.blocks.proofs.Asking.{granted_all, refused_as, refused_by}
use Rattle.blocks.proofs.Scans.{known_by, found_by}
use Rattle.blocks.proofs.distinct.take_out.Goals as goal

pub returns-in_err-at : goal.returns-in_err-at
returns-in_err-at g c =
    let r = err_from_is_err_and c.from_residual.result c.from_residual.ensures.1 in
    let f : c.in_err-at.field-0.0 ≡ Fault.NotThere = refused_by c.in_err-at.field-0.0 Fault.NotThere c.position.result c.in_err-at.ensures.value c.in_err-at.ensures.ok_part in
    let absent : some_of (g.T.Alike.alike c.args.x) (held c.args.list.now) ≡ false =
    known_by (g.T.Alike.alike c.args.x) (held c.args.list.now) c.as_slice.result.now c.position.result c.as_slice.ensures c.position.ensures false c.in_err-at.ensures.variant in
    refused_as (asked (to_drop (g.T.Alike.alike c.args.x) (held c.args.list.now))) Fault.NotThere (without (g.T.Alike.alike c.args.x) (held c.args.list.now)) (held c.args.list.now)
    c.from_residual.result (r.1 ∙ ap Err (r.2 ∙ f)) (ap (λ s. asked (there s ∷ [])) absent)

pub returns : goal.returns
returns g c =
    let f = found_by (g.T.Alike.alike c.args.x) (held c.args.list.now) c.as_slice.result.now c.position.result c.as_slice.ensures c.position.ensures c.in_ok-at.at c.in_ok-at.ensures.ok_part in
    granted_all (asked (to_drop (g.T.Alike.alike c.args.x) (held c.args.list.now))) (without (g.T.Alike.alike c.args.x) (held c.args.list.now)) (held c.args.list.now) (held c.remove.new.self)
    (ap (λ s. asked (there s ∷ [])) f.0) (c.remove.ensures ∙ sym f.1)
