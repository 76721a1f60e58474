-- Bounds of walks: added up over spots, and the greatest over stretches.
use Rattle.std.proofs.Common.{◌≡◌, ℕ, ◌+◌, ◌<◌, ◌≤◌, false, List, [], ◌∷◌, map, None, sym, refl, ◌∙◌, subst, arith}
use Rattle.std.proofs.lemmas.List.{append-nil}
use Rattle.model.specs.Nets.{Kept, Spot, node, steps}
use Rattle.walks.specs.Spans.{reach, lifted}
use Rattle.walks.specs.Steps.{rest}
use Rattle.walks.proofs.Stepping.{rest_0}
use Rattle.quicksearch.specs.Exceeding.{exceeds, Within}
use Rattle.quicksearch.proofs.Exceeds.{exceeds_more, exceeds_add}
use Rattle.quicksearch.proofs.Stretches.{first_name, more_none}

module _ (k : Kept) where
  -- a sum of bounds: what bounds the spots that are left bounds all of them, with the sum
  module _ (all : List Spot) (r : ℕ) where
    abbrev pub Counts : List Spot → ℕ → Type 0
    Counts left sum = (j : ℕ) → Within k j left r → Within k (sum + j) all r

    pub sum-none : Counts all 0
    sum-none j w = let e : j ≡ 0 + j = omega arith in subst (λ z. Within k z all r) e w

    pub sum_more : (left more : List Spot) (s : Spot) (sum b : ℕ) → Counts left sum → left ≡ s ∷ more → Within k b (s ∷ []) r → Counts more (sum + b)
    sum_more left more s sum b inv e h j w =
        let z : sum + (b + j) ≡ sum + b + j = omega arith in
        subst (λ i. Within k i all r) z
        (inv (b + j) (subst (λ l. Within k (b + j) l r) (sym e) (λ d i. exceeds_add k b j (map (lifted d) (s ∷ [])) (map (lifted d) more) (h d i) (w d i))))

    pub sum-all : (left : List Spot) (sum : ℕ) → Counts left sum → left ≡ [] → Within k sum all r
    sum-all left sum inv e =
        let z : sum + 0 ≡ sum = omega arith in
        subst (λ i. Within k i all r) z (inv 0 (subst (λ l. Within k 0 l r) (sym e) (λ d i. refl)))

    pub sum-within : (left : List Spot) (sum budget : ℕ) → Counts left sum → left ≡ [] → sum ≤ budget → Within k budget all r
    sum-within left sum budget inv e h d i = exceeds_more k sum budget (map (lifted d) all) h (sum-all left sum inv e d i)

  -- on a stretch a name meets one more than its steps
  pub bound_name : (n a j r : ℕ) → r ≤ reach k n a → Within k j (rest k n a 0) r → Within k (j + 1) (node n a ∷ []) r
  bound_name n a j r l w =
      first_name k n a (j + 1) j r [] (omega arith) l None (subst (λ z. Within k j z r) (rest_0 k n a ∙ sym (append-nil (steps k n a))) w)

  -- one stretch more
  pub bound_more : (n a x r most b most' : ℕ) → most ≤ most' → b ≤ most' → ((d : ℕ) → d < x → exceeds k most (map (lifted d) (node n a ∷ [])) ≡ false) → Within k b (node n (a + x) ∷ []) r
      → (d : ℕ) → d < x + (r + 1) → exceeds k most' (map (lifted d) (node n a ∷ [])) ≡ false
  bound_more n a x r most b most' h i low w =
      more_none k most' (node n a ∷ []) x (λ d l. exceeds_more k most most' (map (lifted d) (node n a ∷ [])) h (low d l)) r
      (λ d l. exceeds_more k b most' (map (lifted d) (node n (a + x) ∷ [])) i (w d l))
