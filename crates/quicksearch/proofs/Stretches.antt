-- A range of starts, stretch by stretch of a node: on a stretch its steps are the same, all raised.
use Rattle.std.proofs.Common.{◌≡◌, ℕ, suc, ◌+◌, ◌-◌, ◌<◌, ◌≤◌, false, List, [], ◌∷◌, ◌++◌, map, Some, None, Option, sym, refl, ap, ◌∙◌, subst, inl, inr, arith}
use Rattle.std.proofs.lemmas.Bool.{cases_lt}
use Rattle.std.proofs.lemmas.List.{map-append}
use Rattle.model.specs.Nets.{Kept, Spot, node, below, steps}
use Rattle.walks.specs.Spans.{reach, lifted}
use Rattle.walks.proofs.Rising.{steps_up}
use Rattle.quicksearch.specs.Exceeding.{exceeds, Within, FirstIn}

lifted_one : (x d : ℕ) (s : Spot) → lifted (x + d) s ≡ lifted d (lifted x s)
lifted_one x d (node n a) = let e : a + (x + d) ≡ a + x + d = omega arith in ap (node n) e
lifted_one x d (below a) = let e : a + (x + d) ≡ a + x + d = omega arith in ap below e

pub lifted_twice : (x d : ℕ) (xs : List Spot) → map (lifted (x + d)) xs ≡ map (lifted d) (map (lifted x) xs)
lifted_twice x d [] = refl
lifted_twice x d (s ∷ xs) = ap (λ z. z ∷ map (lifted (x + d)) xs) (lifted_one x d s) ∙ ap (λ l. lifted d (lifted x s) ∷ l) (lifted_twice x d xs)

module _ (k : Kept) where
  -- a name, raised within its stretch, meets what its steps meet, raised
  stretch : (n a j d : ℕ) (xs : List Spot) → d ≤ reach k n a → exceeds k (suc j) (map (lifted d) (node n a ∷ xs)) ≡ exceeds k j (map (lifted d) (steps k n a ++ xs))
  stretch n a j d xs h = ap (λ z. exceeds k j (z ++ map (lifted d) xs)) (steps_up n a d k h) ∙ ap (exceeds k j) (sym (map-append (lifted d) (steps k n a) xs))

  pub first_name : (n a b j r : ℕ) (xs : List Spot) → b ≡ suc j → r ≤ reach k n a → (o : Option ℕ) → FirstIn k j (steps k n a ++ xs) r o → FirstIn k b (node n a ∷ xs) r o
  first_name n a b j r xs e l None w = λ d i. ap (λ z. exceeds k z (map (lifted d) (node n a ∷ xs))) e ∙ stretch n a j d xs (omega arith) ∙ w d i
  first_name n a b j r xs e l (Some y) (i, f, g) = (
    i,
    ap (λ z. exceeds k z (map (lifted y) (node n a ∷ xs))) e ∙ stretch n a j y xs (omega arith) ∙ f,
    λ d h. ap (λ z. exceeds k z (map (lifted d) (node n a ∷ xs))) e ∙ stretch n a j d xs (omega arith) ∙ g d h,
  )

  first_below : (a b j r : ℕ) (xs : List Spot) → b ≡ suc j → (o : Option ℕ) → FirstIn k j xs r o → FirstIn k b (below a ∷ xs) r o
  first_below a b j r xs e o w = subst (λ z. FirstIn k z (below a ∷ xs) r o) (sym e) (go o w)
    where
      go : (o : Option ℕ) → FirstIn k j xs r o → FirstIn k (suc j) (below a ∷ xs) r o
      go None w = w
      go (Some y) w = w

  -- what holds below x, and on the stretch from there on
  module _ (b : ℕ) (xs : List Spot) (x : ℕ) (low : (d : ℕ) → d < x → exceeds k b (map (lifted d) xs) ≡ false) where
    at_or_above : (r : ℕ) → ((d : ℕ) → d < r → exceeds k b (map (lifted d) (map (lifted x) xs)) ≡ false) → (d : ℕ) → d < x + r → exceeds k b (map (lifted d) xs) ≡ false
    at_or_above r w d h =
        elim (cases_lt d x) [
          | inl i ↦ low d i
          | inr i ↦
              let e : d ≡ x + (d - x) = omega arith in
              ap (λ z. exceeds k b (map (lifted z) xs)) e ∙ ap (exceeds k b) (lifted_twice x (d - x) xs) ∙ w (d - x) (omega arith)
        ]

    pub more_none : (r : ℕ) → Within k b (map (lifted x) xs) r → (d : ℕ) → d < x + (r + 1) → exceeds k b (map (lifted d) xs) ≡ false
    more_none r w = at_or_above (r + 1) (λ d h. w d (omega arith))

    pub more_some : (r extent y : ℕ) → FirstIn k b (map (lifted x) xs) r (Some y) → x + r ≤ extent → FirstIn k b xs extent (Some (x + y))
    more_some r extent y (i, f, g) h = (omega arith, ap (exceeds k b) (lifted_twice x y xs) ∙ f, at_or_above y g)

  -- an agenda by its first spot and the others, with b names allowed for it and j after the first
  module _ (xs : List Spot) (s : Spot) (os : List Spot) (b j extent : ℕ) (is : xs ≡ s ∷ os) (e : b ≡ suc j) where
    pub below_first : (a : ℕ) → s ≡ below a → (o : Option ℕ) → FirstIn k j os extent o → FirstIn k b xs extent o
    below_first a f o w = subst (λ l. FirstIn k b l extent o) (sym (is ∙ ap (λ z. z ∷ os) f)) (first_below a b j extent os e o w)
