use Rattle.std.proofs.Common.{◌≡◌, ◌-◌, [], ◌∷◌, Err, sym, refl, subst, ap, ◌∙◌, arith}
use Rattle.std.proofs.lemmas.Result.{err_from_is_err_and}
use Rattle.model.specs.declared.faults.Fault.{Fault}
use Rattle.model.specs.Names.{top}
use Rattle.model.specs.Nets.{node}
use Rattle.blocks.specs.Shape.{kept}
use Rattle.blocks.proofs.Asking.{refused_by}
use Rattle.walks.specs.declared.notes.Notes.{Notes}
use Rattle.walks.specs.Noted.{WalkAnswer}
use Rattle.walks.specs.Going.{Went, allowed}
use Rattle.walks.proofs.Passing.{walked}
use Rattle.walks.proofs.walking.walk_from.Goals as goal

pub returns-in_err-ok_or : goal.returns-in_err-ok_or
returns-in_err-ok_or c =
    let h = c.in_err-ok_or.ensures in
    let r = err_from_is_err_and c.from_residual-in_err-ok_or.result c.from_residual-in_err-ok_or.ensures.1 in
    let f = Fault.WalkTooLong c.args.node c.args.address in
    let e : c.from_residual-in_err-ok_or.result ≡ Err f = r.1 ∙ ap Err (r.2 ∙ refused_by c.in_err-ok_or.field-0.0 f c.meet.result h.value h.ok_part) in
    let w =
    subst (λ o. Went (kept c.args.blocks.now) (node c.args.node c.args.address ∷ []) 64 (record { items = c.new.result; span = top - 1 - c.args.address }) c.meet.new.self.notes (allowed c.meet.new.self o)) h.ok_part c.meet.ensures.went in
    subst (WalkAnswer (kept c.args.blocks.now) c.args.node c.args.address) (sym e)
    (record { unknown = λ h. absurd (omega (arith, c.in_ok-check_node.ensures.passed)); named = λ h. refl; too_long = λ h. w })

pub returns : goal.returns
returns c =
    let before : Notes = record { items = c.new.result; span = top - 1 - c.args.address } in
    let w =
    subst (λ o. Went (kept c.args.blocks.now) (node c.args.node c.args.address ∷ []) 64 before c.meet.new.self.notes (allowed c.meet.new.self o)) c.in_ok-ok_or.ensures.ok_part c.meet.ensures.went in
    walked (kept c.args.blocks.now) c.args.node c.args.address c.meet.new.self.left before c.meet.new.self.notes (omega (arith, c.in_ok-check_node.ensures.passed)) (omega arith) c.new.ensures refl w
