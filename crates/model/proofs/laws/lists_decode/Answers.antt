use Rattle.model.proofs.Decode.{lists-then, then-lists}
use Rattle.model.proofs.laws.lists_decode.Goals as goal

pub returns : goal.returns
returns c = λ m s a l x. (lists-then m s a l x, then-lists m s a l x)
