use Rattle.std.proofs.Common.{◌+◌, sym, ap, ◌∙◌, rules}
use Rattle.std.proofs.lemmas.Result.{err_from_is_err_and}
use Rattle.model.specs.Nets.{fresh}
use Rattle.blocks.specs.Shape.{kept}
use Rattle.loading.specs.Texts.{lines_of, unended_lem}
use Rattle.loading.specs.Loads.{loaded, line_loaded, stop_of}
use Rattle.loading.proofs.Lines.{first_piece}
use Rattle.loading.proofs.Going.{load_on, load_stops, load_done}
use Rattle.loading.proofs.load.load.Goals as goal

pub loop-index-preserved : goal.loop-index-preserved
loop-index-preserved c =
    let s = c.in-Some.ensures.steps in
    let k = kept c.loop-index.table.blocks in
    let m = kept c.load_line.new.table.blocks in
    let rest = c.next.new.self.iter.rest.now in
    let f = ap (λ i. line_loaded (i + 1) k (unended_lem c.in-Some.line.now)) (sym s.1) ∙ ap (line_loaded (c.in-Some.index + 1) k) (sym c.unended.ensures) ∙ c.in_ok-load_line.ensures in
    ap (λ i. loaded (i + 1) m (lines_of rest)) s.2
    ∙ load_on (c.loop-index.index-iterator.count + 1) k c.loop-index.index-iterator.iter.rest.now (unended_lem c.in-Some.line.now) rest
    (first_piece _ _ _ _ _ _ s.0 (λ s a r t k. search rules)) (loaded 1 (fresh c.args.group) (lines_of c.args.text.now)) c.loop-index.invariant m f

pub returns-in_err-load_line : goal.returns-in_err-load_line
returns-in_err-load_line c =
    let s = c.in-Some.ensures.steps in
    let k = kept c.loop-index.table.blocks in
    let f = ap (λ i. line_loaded (i + 1) k (unended_lem c.in-Some.line.now)) (sym s.1) ∙ ap (line_loaded (c.in-Some.index + 1) k) (sym c.unended.ensures) ∙ c.in_err-load_line.ensures in
    let p = err_from_is_err_and c.from_residual.result c.from_residual.ensures.1 in
    rw (p.1, p.2)
    (load_stops (c.loop-index.index-iterator.count + 1) k c.loop-index.index-iterator.iter.rest.now (unended_lem c.in-Some.line.now) c.next.new.self.iter.rest.now
    (first_piece _ _ _ _ _ _ s.0 (λ s a r t k. search rules)) (loaded 1 (fresh c.args.group) (lines_of c.args.text.now)) c.loop-index.invariant (stop_of c.in_err-load_line.field-0.0) f)

pub returns : goal.returns
returns c =
    load_done (c.loop-index.index-iterator.count + 1) (kept c.loop-index.table.blocks) c.loop-index.index-iterator.iter.rest.now
    (loaded 1 (fresh c.args.group) (lines_of c.args.text.now)) c.in-None.ensures.steps.0.0 c.loop-index.invariant
