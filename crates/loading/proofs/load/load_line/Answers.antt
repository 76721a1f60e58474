use Rattle.std.proofs.Common.{◌≡◌, sym, ◌∙◌, rules}
use Rattle.std.proofs.lemmas.Result.{err_from_is_err_and}
use Rattle.blocks.specs.Shape.{kept}
use Rattle.loading.specs.declared.fault.Part.TheVariants.{Net}
use Rattle.loading.proofs.Going.{granted_by, refused_by, net_stops}
use Rattle.loading.proofs.load.load_line.Goals as goal

pub returns-in_err-map_err : goal.returns-in_err-map_err
returns-in_err-map_err c =
    let read = granted_by c.read_line.result _ c.map_err.result c.in_ok-frame.frame c.map_err.ensures.cases c.in_ok-frame.was in
    let w = refused_by c.apply.result _ c.map_err-2.result c.in_err-map_err.field-0.0 c.map_err-2.ensures.cases c.in_err-map_err.was in
    let is : c.in_err-map_err.field-0.0 ≡ record { line = c.args.number; part = Net; fault = w.0 } = search (rules, w.2) in
    let p = err_from_is_err_and c.from_residual-in_err-map_err.result c.from_residual-in_err-map_err.ensures.1 in
    rw (p.1, p.2)
    (net_stops c.args.number (kept c.args.table.now.blocks) (kept c.apply.new.table.blocks) c.args.line.now c.in_ok-frame.frame w.0 c.in_err-map_err.field-0.0
    (sym c.read_line.ensures ∙ read) (rw w.1 at c.apply.ensures) is)
