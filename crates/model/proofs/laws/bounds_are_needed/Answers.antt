use Rattle.model.proofs.Needed.{entry_needed, target_needed, window_needed}
use Rattle.model.proofs.laws.bounds_are_needed.Goals as goal

pub returns : goal.returns
returns c = record { entry = entry_needed; target = target_needed; window = window_needed }
