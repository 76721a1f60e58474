-- Loops over stored blocks, to what the model says of the plain ones.
use Rattle.std.proofs.Common.{◌≡◌, ℕ, zero, suc, ◌+◌, ◌-◌, ◌<◌, ◌≤◌, min, Bool, true, false, cond, ◌||◌, List, [], ◌∷◌, map, length, get_or, take, drop, Some, None, Option, is_some, sym, refl, ap, ◌∙◌, arith}
use Rattle.std.specs.List.{fold, position}
use Rattle.std.proofs.lemmas.Bool.{or_parts}
use Rattle.std.proofs.lemmas.Bool.Decides.{nat_tests}
use Rattle.std.proofs.lemmas.List.{take_all, drop-map, drop-drop, get_or-drop, length-drop}
use Rattle.std.proofs.lemmas.List.Quantifiers.{position-Some}
use Rattle.sets.specs.Members.{some_of}
use Rattle.blocks.proofs.Scans.{some_found}
use Rattle.model.specs.declared.blocks.AcceptBlock.{AcceptBlock}
use Rattle.model.specs.declared.blocks.MapBlock.{MapBlock}
use Rattle.model.specs.Names.{top}
use Rattle.model.specs.Nets.{Spot, accepting, mapped, spot}
use Rattle.walks.specs.Spans.{covers, nearest}

pub nearest_top : {X : Type 0} (f : X → ℕ) (xs : List X) → nearest f xs ≤ top - 1
nearest_top f [] = omega arith
nearest_top f (x ∷ xs) = let h = nearest_top f xs in omega arith

-- the least of the distances, from the first block on
pub fold_nearest : {X : Type 0} (f : X → ℕ) (s : ℕ) (xs : List X) → s ≤ top - 1 → fold min s (map f xs) ≡ min s (nearest f xs)
fold_nearest f s [] h = omega arith
fold_nearest f s (x ∷ xs) h = fold_nearest f (min s (f x)) xs (omega arith) ∙ omega arith

pub nearest_map : {X Y : Type 0} (p : X → Y) (f : Y → ℕ) (xs : List X) → nearest (λ x. f (p x)) xs ≡ nearest f (map p xs)
nearest_map p f [] = refl
nearest_map p f (x ∷ xs) = ap (min (f (p x))) (nearest_map p f xs)

-- whether one of the accept blocks covers
pub accepting_is : {X : Type 0} (f : X → AcceptBlock) (n a : ℕ) (xs : List X) → some_of (λ x. covers (f x).node (f x).lo (f x).hi n a) xs ≡ accepting (map f xs) n a
accepting_is f n a [] = refl
accepting_is f n a (x ∷ xs) = ap (λ b. covers (f x).node (f x).lo (f x).hi n a || b) (accepting_is f n a xs)

-- an address of a range
pub range_of_address : (its lo hi n a : ℕ) → covers its lo hi n a ≡ true → (lo ≤ a) × (a ≤ hi)
range_of_address its lo hi n a h = (grind (arith, nat_tests), grind (arith, nat_tests))

-- the first map block that covers, and what is mapped by it and by those after it
module _ {X : Type 0} (f : X → MapBlock) (n a : ℕ) where
  abbrev mapping : X → Bool
  mapping x = covers (f x).node (f x).lo (f x).hi n a

  abbrev sent : X → Spot
  sent x = spot (f x).destination ((f x).base + (a - (f x).lo))

  at_first : (x : X) (xs : List X) (b : Bool) → mapping x ≡ b → mapped (map f (x ∷ xs)) n a ≡ cond b (sent x ∷ mapped (map f xs) n a) (mapped (map f xs) n a)
  at_first x xs b e = ap (λ c. cond c (sent x ∷ mapped (map f xs) n a) (mapped (map f xs) n a)) e

  none_from : (xs : List X) → some_of mapping xs ≡ false → mapped (map f xs) n a ≡ []
  none_from [] h = refl
  none_from (x ∷ xs) h = let q = or_parts (mapping x) (some_of mapping xs) h in at_first x xs false q.0 ∙ none_from xs q.1

  found_at : (xs : List X) (i : ℕ) (d : X) → i < length xs → mapping (get_or xs i d) ≡ true → ((k : ℕ) → k < i → mapping (get_or xs k d) ≡ false)
      → mapped (map f xs) n a ≡ sent (get_or xs i d) ∷ mapped (map f (drop (suc i) xs)) n a
  found_at [] i d h e before = absurd (omega arith)
  found_at (x ∷ xs) zero d h e before = at_first x xs true e
  found_at (x ∷ xs) (suc i) d h e before = at_first x xs false (before 0 (omega arith)) ∙ found_at xs i d (omega arith) e (λ k l. before (suc k) (omega arith))

  pub map_missing : (xs : List X) → false ≡ is_some (position mapping xs) → mapped (map f xs) n a ≡ []
  map_missing xs h = none_from xs (sym (some_found mapping xs) ∙ sym h)

  pub map_found : (xs : List X) (i : ℕ) (d : X) → position mapping xs ≡ Some i → mapped (map f xs) n a ≡ sent (get_or xs i d) ∷ mapped (map f (drop (suc i) xs)) n a
  map_found xs i d e = let q = position-Some mapping xs i d e in found_at xs i d q.0 q.1 q.2

  pub map_there : (xs : List X) → true ≡ is_some (position mapping xs) → (s : Spot) × (ss : List Spot) × (mapped (map f xs) n a ≡ s ∷ ss)
  map_there [] h = absurd cc
  map_there (x ∷ xs) h = go (position mapping (x ∷ xs)) refl h
    where
      go : (r : Option ℕ) → position mapping (x ∷ xs) ≡ r → true ≡ is_some r → (s : Spot) × (ss : List Spot) × (mapped (map f (x ∷ xs)) n a ≡ s ∷ ss)
      go None e h = absurd cc
      go (Some i) e h = (sent (get_or (x ∷ xs) i x), mapped (map f (drop (suc i) (x ∷ xs))) n a, map_found (x ∷ xs) i x e)

  -- and what comes from the place i on
  module _ (xs : List X) (i : ℕ) where
    -- a cut from i to the end, as the slice reads it
    abbrev cut : List X
    cut = take (length xs - i) (drop i xs)

    whole : cut ≡ drop i xs
    whole = take_all (length xs - i) (drop i xs) (let l = length-drop i xs in omega arith)

    pub none_on : position mapping cut ≡ None → mapped (drop i (map f xs)) n a ≡ []
    none_on e = ap (λ l. mapped l n a) (drop-map f i xs) ∙ map_missing (drop i xs) (ap is_some (sym e ∙ ap (position mapping) whole))

    module _ (k : ℕ) (d : X) (h : position mapping cut ≡ Some k) where
      e : position mapping (drop i xs) ≡ Some k
      e = ap (position mapping) (sym whole) ∙ h

      pub covers_on : (i + k < length xs) × ((f (get_or xs (i + k) d)).lo ≤ a) × (a ≤ (f (get_or xs (i + k) d)).hi)
      covers_on =
          let q = position-Some mapping (drop i xs) k d e in
          let b = f (get_or xs (i + k) d) in
          let r = range_of_address b.node b.lo b.hi n a (ap mapping (sym (get_or-drop i xs k d)) ∙ q.1) in
          (omega (arith, q.0, length-drop i xs), r.0, r.1)

      pub found_on : mapped (drop i (map f xs)) n a ≡ sent (get_or xs (i + k) d) ∷ mapped (drop (i + k + 1) (map f xs)) n a
      found_on =
          ap (λ l. mapped l n a) (drop-map f i xs) ∙ map_found (drop i xs) k d e
          ∙ ap (λ x. sent x ∷ mapped (map f (drop (suc k) (drop i xs))) n a) (get_or-drop i xs k d)
          ∙ ap (λ l. sent (get_or xs (i + k) d) ∷ mapped l n a) (ap (map f) (drop-drop (suc k) i xs ∙ ap (λ j. drop j xs) (omega arith)) ∙ sym (drop-map f (i + k + 1) xs))
