use Rattle.model.proofs.Bounds.{asked-walked, walked-asked, asked_first, first_asked}
use Rattle.model.proofs.laws.question_is_exact.Goals as goal

pub returns : goal.returns
returns c = record {
  grants = λ k. (asked-walked k, walked-asked k);
  tells = λ k n a. (asked_first k n a, first_asked k n a);
}
