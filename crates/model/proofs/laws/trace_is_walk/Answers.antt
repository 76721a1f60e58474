use Rattle.model.proofs.Walking.{sound, complete, unique}
use Rattle.model.proofs.Bounds.{bound_walked, walked_bound}
use Rattle.model.proofs.laws.trace_is_walk.Goals as goal

pub returns : goal.returns
returns c = record {
  tied = λ k n spots met. (sound k n spots met, λ p. complete k p.0 n p.1);
  one = unique;
  bound = λ k. (bound_walked k, walked_bound k);
}
