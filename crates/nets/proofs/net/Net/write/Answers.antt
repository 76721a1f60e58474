use Rattle.std.proofs.Common.{◌≡◌, ◌+◌, ◌*◌, length, subst}
use Rattle.blocks.specs.Shape.{kept}
use Rattle.writing.specs.Texts.{text_of, overlays_set, Wrote}
use Rattle.roundtrip.proofs.Trips.{tables_storable, written_loads}
use Rattle.nets.proofs.net.Net.write.Goals as goal

pub returns : goal.returns
returns g c =
    let t = c.args.self.now.table in
    record {
      text = subst (λ b. Wrote (text_of (kept b)) c.args.out.now c.write.new.out c.write.result) c.blocks-2.ensures c.write.ensures.text;
      count = subst (λ b. length (text_of (kept b)) ≡ 5 + 37 * length (kept b).accepts + 55 * length (kept b).maps + 7 * overlays_set (kept b).overlays) c.blocks-2.ensures c.write.ensures.count;
      back = written_loads (kept t.blocks) (tables_storable t);
    }
