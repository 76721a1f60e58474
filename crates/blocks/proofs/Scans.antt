-- Where the first element of a list that passes a test stands.
use Rattle.std.proofs.Common.{◌≡◌, ℕ, suc, ◌+◌, Bool, true, false, cond, not, ◌||◌, ltb, List, [], ◌∷◌, ◌++◌, length, take, drop, Some, None, Option, is_some, sym, refl, subst, ap, ◌∙◌, inl, inr, arith}
use Rattle.std.specs.List.{position, position_or_len}
use Rattle.std.proofs.lemmas.Bool.{cases_lt, lt-ltb, le-ltb}
use Rattle.sets.specs.Members.{some_of}
use Rattle.model.specs.Edits.{without}
use Rattle.blocks.specs.Found.{FoundAt}

one_more : (i j : ℕ) → ltb (1 + i) (suc j) ≡ ltb i j
one_more i j = elim (cases_lt i j) [
  | inl l ↦ lt-ltb (1 + i) (suc j) (omega arith) ∙ sym (lt-ltb i j l)
  | inr l ↦ le-ltb (1 + i) (suc j) (omega arith) ∙ sym (le-ltb i j l)
]

module _ {X : Type 0} (p : X → Bool) where
  -- at the end, where none passes
  some_before_end : (xs : List X) → some_of p xs ≡ ltb (position_or_len p xs) (length xs)
  some_before_end [] = refl
  some_before_end (x ∷ xs) = go (p x) (some_before_end xs)
    where
      go : (b : Bool) → some_of p xs ≡ ltb (position_or_len p xs) (length xs) → b || some_of p xs ≡ ltb (cond (not b) (1 + position_or_len p xs) 0) (suc (length xs))
      go true ih = sym (lt-ltb 0 (suc (length xs)) (omega arith))
      go false ih = ih ∙ sym (one_more (position_or_len p xs) (length xs))

  without_first : (xs : List X) → without p xs ≡ take (position_or_len p xs) xs ++ drop (position_or_len p xs + 1) xs
  without_first [] = refl
  without_first (x ∷ xs) = go (p x) (without_first xs)
    where
      go : (b : Bool) → without p xs ≡ take (position_or_len p xs) xs ++ drop (position_or_len p xs + 1) xs
          → cond b xs (x ∷ without p xs) ≡ take (cond (not b) (1 + position_or_len p xs) 0) (x ∷ xs) ++ drop (cond (not b) (1 + position_or_len p xs) 0 + 1) (x ∷ xs)
      go true ih = refl
      go false ih =
          let n = position_or_len p xs in
          let e : suc n ≡ 1 + n = omega arith in
          let f : suc (n + 1) ≡ 1 + n + 1 = omega arith in
          ap (λ zs. x ∷ zs) ih ∙ ap (λ j. take j (x ∷ xs) ++ drop (n + 1) xs) e ∙ ap (λ j. take (1 + n) (x ∷ xs) ++ drop j (x ∷ xs)) f

  pub found : (xs : List X) → FoundAt p xs (position p xs)
  found xs = go (ltb (position_or_len p xs) (length xs)) (some_before_end xs)
    where
      go : (b : Bool) → some_of p xs ≡ b → FoundAt p xs (cond b (Some (position_or_len p xs)) None)
      go true e = (e, without_first xs)
      go false e = e

  pub some_found : (xs : List X) → is_some (position p xs) ≡ some_of p xs
  some_found xs = go (ltb (position_or_len p xs) (length xs)) ∙ sym (some_before_end xs)
    where
      go : (b : Bool) → is_some (cond b (Some (position_or_len p xs)) None) ≡ b
      go true = refl
      go false = refl

  -- by what a search of the same list answered
  module _ (xs ys : List X) (r : Option ℕ) (e : ys ≡ xs) (q : r ≡ position p ys) where
    pub known_by : (b : Bool) → b ≡ is_some r → some_of p xs ≡ b
    known_by b h = ap (some_of p) (sym e) ∙ sym (some_found ys) ∙ ap is_some (sym q) ∙ sym h

    pub found_by : (i : ℕ) → r ≡ Some i → FoundAt p xs (Some i)
    found_by i h = subst (FoundAt p xs) (ap (position p) (sym e) ∙ sym q ∙ h) (found xs)
