use Rattle.std.proofs.Common.{None, ap, sym, subst, ◌∙◌, rules}
use Rattle.std.proofs.lemmas.List.{length-set}
use Rattle.std.proofs.lemmas.Bool.{le-leb}
use Rattle.model.specs.Edits.{asked, net_questions, net_after, over, with_overlays}
use Rattle.blocks.specs.Shape.{kept}
use Rattle.blocks.specs.Destinations.{OverlayKnown}
use Rattle.blocks.proofs.Asking.{granted_all}
use Rattle.blocks.proofs.Changes.{all_set}
use Rattle.blocks.proofs.Sending.{overlay_known, overlay_stored}
use Rattle.blocks.proofs.stored.Blocks.set_overlay.Goals as goal

pub invariant_of-self : goal.invariant_of-self
invariant_of-self c =
    let v = c.args.self.now.valid in
    record { valid = (v.0, all_set OverlayKnown None c.args.self.now.overlays c.args.node c.overlay.result (search rules) (subst OverlayKnown (sym c.overlay.ensures) (overlay_known c.args.destination)) v.1, v.2, v.3, length-set c.args.self.now.overlays c.args.node c.overlay.result ∙ v.4) }

pub returns : goal.returns
returns c =
    let k = kept c.args.self.now in
    let n = le-leb c.args.node 31 c.in_ok-check_node.ensures.passed in
    let d = le-leb c.args.destination 33 c.in_ok-check_destination.ensures.passed in
    granted_all (asked (net_questions k (over c.args.node c.args.destination))) (net_after k (over c.args.node c.args.destination)) k _ (simp (n, d))
    (ap (with_overlays k) (overlay_stored c.args.self.now.overlays c.args.node c.args.destination c.overlay.result c.overlay.ensures c.in_ok-check_destination.ensures.passed))
