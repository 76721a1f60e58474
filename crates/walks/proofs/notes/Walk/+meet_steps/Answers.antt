use Rattle.std.proofs.Common.{◌≡◌, ℕ, ◌+◌, ◌*◌, min, cond, is_ok, [], ◌∷◌, ◌++◌, sym, refl, subst, ap, ◌∙◌, arith}
use Rattle.std.proofs.lemmas.List.{append-nil}
use Rattle.lists.specs.Held.{held}
use Rattle.model.specs.Nets.{node}
use Rattle.model.specs.Model.{own}
use Rattle.blocks.specs.Shape.{kept}
use Rattle.walks.specs.declared.notes.Note.{Note}
use Rattle.walks.specs.declared.notes.Note.TheVariants.{Own, Arrival}
use Rattle.walks.specs.Spans.{reach}
use Rattle.walks.specs.Steps.{rest}
use Rattle.walks.specs.Going.{allowed, WentOn}
use Rattle.walks.proofs.Passing.{noted_of, went_name, went_below, went_node, went_past, pushed}
use Rattle.walks.proofs.notes.Walk.+meet_steps.Goals as goal
use Rattle.walks.proofs.notes.Walk.+meet_steps.Goals.{meet-then-accepts+in_ok-ok, meet-else-accepts}

pub steps-returns-in_ok-ok-in-Below-clause-went : goal.steps-returns-in_ok-ok-in-Below-clause-went
steps-returns-in_ok-ok-in-Below-clause-went t c =
    let k = kept c.args.blocks.now in
    let x = c.in-Some.step in
    let h = c.in_ok-self-in-Below.ensures in
    went_below k c.args.self.now.notes c.steps.new.self.notes x.destination x.address c.args.self.now.left c.in_ok-self-in-Below.field-0
    (rest k c.args.node c.args.address c.args.from) (rest k c.args.node c.args.address x.next)
    (record { items = c.push.new.self; span = c.args.self.now.notes.span })
    c.in-Below.is c.in-Some.ensures.is (omega arith)
    (pushed (is_ok c.push.result) (held c.args.self.now.notes.items) (held c.push.new.self) (Arrival x.address) c.in_ok-ok-in-Below.ensures.variant c.push.ensures.kept)
    refl (allowed c.steps.new.self c.steps.result) c.steps.ensures.went

pub steps-returns-in_err-meet-in-Node-clause-went : goal.steps-returns-in_err-meet-in-Node-clause-went
steps-returns-in_err-meet-in-Node-clause-went t c =
    let k = kept c.args.blocks.now in
    let x = c.in-Some.step in
    subst (WentOn k (rest k c.args.node c.args.address c.args.from) c.args.self.now c.meet.new.self) (sym c.from_residual-in_err-meet-in-Node.ensures)
    (went_past k c.args.self.now.notes c.meet.new.self.notes x.destination c.in-Node.to x.address c.args.self.now.left
    (rest k c.args.node c.args.address c.args.from) (rest k c.args.node c.args.address x.next)
    c.in-Node.is c.in-Some.ensures.is c.in_err-meet-in-Node.ensures.went)

pub steps-returns-in_ok-meet-in-Node-clause-went : goal.steps-returns-in_ok-meet-in-Node-clause-went
steps-returns-in_ok-meet-in-Node-clause-went t c =
    let k = kept c.args.blocks.now in
    let x = c.in-Some.step in
    went_node k c.args.self.now.notes c.steps-in-Node.new.self.notes x.destination c.in-Node.to x.address c.args.self.now.left c.meet.new.self.left
    (rest k c.args.node c.args.address c.args.from) (rest k c.args.node c.args.address x.next) c.meet.new.self.notes
    c.in-Node.is c.in-Some.ensures.is c.in_ok-meet-in-Node.ensures.went
    (allowed c.steps-in-Node.new.self c.steps-in-Node.result) c.steps-in-Node.ensures.went

abbrev named : ℕ → ℕ → ℕ → Note
named g n a = Own (record { component = 32 * g + n; address = a })

pub meet-returns-clause-went : goal.meet-returns-clause-went
meet-returns-clause-went t c =
    let k = kept c.args.blocks.now in
    let before = c.args.self.now.notes in
    let mid = c.if-accepts.self.1.0 in
    let h = c.in_ok-self.ensures in
    let e : held mid.items ≡ held before.items ++ noted_of k (node c.args.node c.args.address) =
    elim c.if-accepts.branch [
      | meet-then-accepts+in_ok-ok w ↦ ap (λ z. held z.1.0.items) w.self-is
          ∙ pushed (is_ok w.push.result) (held before.items) (held w.push.new.self) (named w.from.result w.from-then-accepts.result c.args.address) w.in_ok-ok.ensures.variant w.push.ensures.kept
          ∙ ap (λ g. held before.items ++ named g w.from-then-accepts.result c.args.address ∷ []) w.from.ensures
          ∙ ap (λ m. held before.items ++ named k.group m c.args.address ∷ []) w.from-then-accepts.ensures
          ∙ ap (λ b. held before.items ++ cond b (Own (own k c.args.node c.args.address) ∷ []) []) (sym w.if-accepts.true ∙ c.accepts.ensures)
      | meet-else-accepts w ↦ ap (λ z. held z.1.0.items) w.self-is ∙ sym (append-nil (held before.items))
          ∙ ap (λ b. held before.items ++ cond b (Own (own k c.args.node c.args.address) ∷ []) []) (sym w.if-accepts.false ∙ c.accepts.ensures)
    ] in
    let g : mid.span ≡ before.span =
    elim c.if-accepts.branch [ meet-then-accepts+in_ok-ok w ↦ ap (λ z. z.1.0.span) w.self-is | meet-else-accepts w ↦ ap (λ z. z.1.0.span) w.self-is ] in
    let f : c.min-self.result ≡ min before.span (reach k c.args.node c.args.address) =
    c.min-self.ensures ∙ ap (λ z. min z c.reach_above.result) g ∙ ap (λ z. min before.span z) c.reach_above.ensures in
    went_name k before c.steps.new.self.notes c.args.node c.args.address c.args.self.now.left c.in_ok-self.field-0
    (record { items = mid.items; span = c.min-self.result }) (omega arith) e f
    (allowed c.steps.new.self c.steps.result) c.steps.ensures.went
