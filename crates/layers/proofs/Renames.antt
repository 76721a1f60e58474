-- Looks through a renaming, and one pair more.
use Rattle.std.proofs.Common.{◌≡◌, ℕ, ◌+◌, eqb, List, [], ◌∷◌, ◌++◌, map, length, sym, refl, ap, ◌∙◌}
use Rattle.std.proofs.lemmas.List.{length-map, map_push}
use Rattle.std.specs.List.{list_any}
use Rattle.model.specs.declared.names.Name.{Name}
use Rattle.model.specs.Names.{renamed, raise, raised}
use Rattle.model.specs.Edits.{pair, edited, settled, asked, not_there_yet, place_free}
use Rattle.model.specs.Model.{Model, renaming, lists}
use Rattle.model.specs.Looks.{Reach}
use Rattle.layers.specs.declared.pairs.Pair.{Pair}
use Rattle.layers.specs.Pairs.{two}
use Rattle.layers.proofs.Scans.{some_two}
use Rattle.layers.proofs.Meeting.{comes_from}

module _ (ps : List (ℕ × ℕ)) where
  raised-renamed : (d : ℕ) (xs : List Name) → map (renamed ps) (raise d xs) ≡ raise d (map (renamed ps) xs)
  raised-renamed d [] = refl
  raised-renamed d (x ∷ xs) = ap (λ ys. renamed ps (raised d x) ∷ ys) (raised-renamed d xs)

  pub reach-renamed : (m : Model) (a reach : ℕ) → Reach (lists m) a reach → Reach (lists (renaming ps m)) a reach
  reach-renamed m a reach r = record {
    least = r.least;
    most = r.most;
    raises = λ d h. ap (map (renamed ps)) (r.raises d h) ∙ raised-renamed d (lists m a);
    none_past = λ d h x t. let f = comes_from ps (lists m (a + d)) x t in r.none_past d h (record { component = f.0; address = x.address }) f.2;
  }

-- one pair more, of the pairs kept so far
pub pair_asked : (xs : List Pair) (m : Model) (from to : ℕ)
    → edited (renaming (map two xs) m) (pair from to) ≡ settled (asked (not_there_yet (list_any (λ (x : Pair). eqb x.from from) xs) ∷ place_free (length xs) 32 ∷ [])) (renaming (map two (xs ++ record { from = from; to = to } ∷ [])) m) (renaming (map two xs) m)
pair_asked xs m from to =
    λ i. settled (asked (not_there_yet (some_two (λ p. eqb p.0 from) xs i) ∷ place_free (length-map xs two i) 32 ∷ [])) (renaming (sym (map_push two xs (record { from = from; to = to })) i) m) (renaming (map two xs) m)
