use Rattle.board.proofs.Jumps.{exact, first_exact, first_ends}
use Rattle.board.proofs.jumps_are_exact.Goals as goal

pub returns : goal.returns
returns c = record {
  exact = exact;
  first = λ k n jumps found e. first_exact k jumps n found e;
  ends = λ k n jumps l. first_ends k jumps n l;
}
