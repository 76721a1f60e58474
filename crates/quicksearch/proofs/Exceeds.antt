-- Walks taken together: how many names they meet does not depend on the order, adds up, and is what is traced.
use Rattle.std.proofs.Common.{◌≡◌, ℕ, zero, suc, ◌+◌, ◌<◌, ◌≤◌, Bool, true, false, not, List, [], ◌∷◌, ◌++◌, map, length, Some, None, Option, is_some, sym, refl, ap, ◌∙◌, subst, arith}
use mathlib.Core.Option.{Option as Maybe, none, some}
use Rattle.std.proofs.lemmas.List.{append_assoc, length-append, length-map, map-append}
use Rattle.std.proofs.lemmas.Bool.{true≢false}
use Rattle.model.specs.Nets.{Kept, Spot, node}
use Rattle.model.specs.Walks.{onward, joined, trace, finite, overfull}
use Rattle.blocks.specs.declared.stored.Blocks.{Blocks}
use Rattle.blocks.specs.Shape.{kept}
use Rattle.walks.specs.Spans.{lifted}
use Rattle.quicksearch.specs.Exceeding.{exceeds, Within, FirstIn}

module _ (k : Kept) where
  pub exceeds_more : (i j : ℕ) (xs : List Spot) → i ≤ j → exceeds k i xs ≡ false → exceeds k j xs ≡ false
  exceeds_more i j [] h e = refl
  exceeds_more zero j (x ∷ xs) h e = absurd (true≢false e)
  exceeds_more (suc i) zero (x ∷ xs) h e = absurd (omega arith)
  exceeds_more (suc i) (suc j) (x ∷ xs) h e = exceeds_more i j (onward k x ++ xs) (omega arith) e

  pub exceeds_add : (i j : ℕ) (xs ys : List Spot) → exceeds k i xs ≡ false → exceeds k j ys ≡ false → exceeds k (i + j) (xs ++ ys) ≡ false
  exceeds_add i j [] ys e f = exceeds_more j (i + j) ys (omega arith) f
  exceeds_add zero j (x ∷ xs) ys e f = absurd (true≢false e)
  exceeds_add (suc i) j (x ∷ xs) ys e f =
      let s : suc i + j ≡ suc (i + j) = omega arith in
      ap (λ z. exceeds k z (x ∷ (xs ++ ys))) s ∙ ap (exceeds k (i + j)) (sym (append_assoc (onward k x) xs ys)) ∙ exceeds_add i j (onward k x ++ xs) ys e f

  exceeds_split : (n : ℕ) (xs ys : List Spot) → exceeds k n (xs ++ ys) ≡ false → (i : ℕ) × (j : ℕ) × (i + j ≡ n) × (exceeds k i xs ≡ false) × (exceeds k j ys ≡ false)
  exceeds_split n [] ys e = (0, n, omega arith, refl, e)
  exceeds_split zero (x ∷ xs) ys e = absurd (true≢false e)
  exceeds_split (suc n) (x ∷ xs) ys e =
      let p = exceeds_split n (onward k x ++ xs) ys (ap (exceeds k n) (append_assoc (onward k x) xs ys) ∙ e) in
      (suc p.0, p.1, (let q = p.2 in omega arith), p.3, p.4)

  -- the order does not matter
  swapped : (n : ℕ) (xs ys : List Spot) → exceeds k n (xs ++ ys) ≡ false → exceeds k n (ys ++ xs) ≡ false
  swapped n xs ys e =
      let p = exceeds_split n xs ys e in
      let q = p.2 in
      let z : p.1 + p.0 ≡ n = omega arith in
      subst (λ m. exceeds k m (ys ++ xs) ≡ false) z (exceeds_add p.1 p.0 ys xs p.4 p.3)

  exceeds-swap : (n : ℕ) (xs ys : List Spot) → exceeds k n (xs ++ ys) ≡ exceeds k n (ys ++ xs)
  exceeds-swap n xs ys = go (exceeds k n (xs ++ ys)) (exceeds k n (ys ++ xs)) refl refl
    where
      go : (a b : Bool) → exceeds k n (xs ++ ys) ≡ a → exceeds k n (ys ++ xs) ≡ b → a ≡ b
      go true true e f = refl
      go false false e f = refl
      go true false e f = sym e ∙ swapped n ys xs f
      go false true e f = sym (sym f ∙ swapped n xs ys e)

  pub first_swap : (n : ℕ) (xs ys : List Spot) (extent : ℕ) (o : Option ℕ) → FirstIn k n (xs ++ ys) extent o → FirstIn k n (ys ++ xs) extent o
  first_swap n xs ys extent o w = go o w
    where
      up : (d : ℕ) → exceeds k n (map (lifted d) (ys ++ xs)) ≡ exceeds k n (map (lifted d) (xs ++ ys))
      up d = ap (exceeds k n) (map-append (lifted d) ys xs) ∙ exceeds-swap n (map (lifted d) ys) (map (lifted d) xs) ∙ ap (exceeds k n) (sym (map-append (lifted d) xs ys))

      go : (o : Option ℕ) → FirstIn k n (xs ++ ys) extent o → FirstIn k n (ys ++ xs) extent o
      go None w = λ d i. up d ∙ w d i
      go (Some y) w = (w.0, up y ∙ w.1, λ d j. up d ∙ w.2 d j)

  -- more spots than are allowed
  exceeds_long : (n : ℕ) (xs : List Spot) → n < length xs → exceeds k n xs ≡ true
  exceeds_long n [] h = absurd (omega arith)
  exceeds_long zero (x ∷ xs) h = refl
  exceeds_long (suc n) (x ∷ xs) h = exceeds_long n (onward k x ++ xs) (omega (arith, length-append (onward k x) xs))

  pub first_long : (n : ℕ) (xs : List Spot) (extent : ℕ) → n < length xs → FirstIn k n xs extent (Some 0)
  first_long n xs extent h = (omega arith, exceeds_long n (map (lifted 0) xs) (omega (arith, length-map xs (lifted 0))), λ d i. absurd (omega arith))

  pub within_none : (n extent : ℕ) (xs : List Spot) → length xs ≡ 0 → Within k n xs extent
  within_none n extent [] h = λ d i. refl
  within_none n extent (x ∷ xs) h = absurd (omega arith)

  pub within_less : (m n r extent : ℕ) (xs : List Spot) → m ≤ n → r ≤ extent → Within k m xs extent → Within k n xs r
  within_less m n r extent xs h l w d i = exceeds_more m n (map (lifted d) xs) h (w d (omega arith))

  -- the walks exceed what is allowed exactly where there is no trace of them
  finite-joined : (s : Spot) (o : Maybe (List Spot)) → not (finite o) ≡ not (finite (joined s o))
  finite-joined s none = refl
  finite-joined s (some met) = refl

  exceeds-trace : (n : ℕ) (xs : List Spot) → exceeds k n xs ≡ not (finite (trace k n xs))
  exceeds-trace n [] = refl
  exceeds-trace zero (x ∷ xs) = refl
  exceeds-trace (suc n) (x ∷ xs) = exceeds-trace n (onward k x ++ xs) ∙ finite-joined x (trace k n (onward k x ++ xs))

  pub exceeds-overfull : (n a : ℕ) → exceeds k 64 (node n a ∷ []) ≡ overfull k n a
  exceeds-overfull n a = exceeds-trace 64 (node n a ∷ [])

-- what is found of a net is found of it under another name
pub of_net : {b c : Blocks} → b ≡ c → (n : ℕ) (xs : List Spot) (extent : ℕ) (o : Option ℕ) → FirstIn (kept b) n xs extent o → FirstIn (kept c) n xs extent o
of_net e n xs extent o = subst (λ b. FirstIn (kept b) n xs extent o) e

pub none_of : (k : Kept) (n : ℕ) (xs : List Spot) (extent : ℕ) (o : Option ℕ) → is_some o ≡ false → FirstIn k n xs extent o → Within k n xs extent
none_of k n xs extent None e w = w
none_of k n xs extent (Some y) e w = absurd (true≢false e)
