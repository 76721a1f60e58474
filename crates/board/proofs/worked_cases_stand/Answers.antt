use Rattle.std.proofs.Common.{refl, lit<}
use Rattle.board.specs.Jumping.{jumping, jumping_nodes}
use Rattle.board.proofs.Worked.{looks, looks_short, end, grant, refuse, refuse_walk, meets}
use Rattle.board.proofs.worked_cases_stand.Goals as goal

pub returns : goal.returns
unfolding jumping jumping_nodes
returns c = record {
  made = grant refl refl (grant refl refl (grant refl refl (grant refl refl (grant refl refl (end refl)))));
  accepted = looks refl;
  both = looks refl;
  below = looks refl;
  nothing = looks refl;
  short = looks_short (lit< tt);
  back = refuse_walk refl refl refl refl;
  again = refuse refl refl;
  past = refuse refl refl;
  last = grant refl refl (end refl);
  longest = grant refl refl (end refl);
  met = meets refl refl;
  longer = refuse_walk refl refl refl refl;
  ring = grant refl refl (grant refl refl (grant refl refl (refuse_walk refl refl refl refl)));
}
