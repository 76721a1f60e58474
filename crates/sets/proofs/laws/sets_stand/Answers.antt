use Rattle.sets.proofs.Squeezing.{set_rises, set-some, set_unique, place_unique}
use Rattle.sets.proofs.Ranking.{one_holds, below_chains, above_turns, same_from}
use Rattle.sets.proofs.laws.sets_stand.Goals as goal

pub returns : goal.returns
returns g c = record {
  one = one_holds;
  chains = below_chains;
  turns = above_turns;
  equal = λ o x y. (o.whole x y, same_from o x y);
  rises = set_rises;
  members = λ o xs x. set-some o (λ y. o.same y x) xs;
  only = set_unique;
  place = place_unique;
}
