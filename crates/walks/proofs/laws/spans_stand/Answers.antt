use Rattle.std.proofs.Common.{◌-◌}
use Rattle.model.specs.Names.{top}
use Rattle.walks.proofs.Rising.{trace_up, noted_up}
use Rattle.walks.proofs.laws.spans_stand.Goals as goal

pub returns : goal.returns
returns c = record {
  walks = λ k n a allowed met e d h. trace_up k d n a allowed (top - 1 - a) met e h;
  notes = λ k a met d h. noted_up k d (top - 1 - a) met h;
}
