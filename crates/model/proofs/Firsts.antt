-- The first overfull name, sought address by address of a node, and node by node.
use Rattle.std.proofs.Common.{◌≡◌, ℕ, ◌+◌, ◌-◌, ◌<◌, ◌≤◌, false, sym, subst, inl, inr, arith}
use mathlib.Core.Option.{none, some}
use Rattle.std.proofs.lemmas.Bool.{cases_lt}
use Rattle.model.specs.Names.{top}
use Rattle.model.specs.Nets.{Kept}
use Rattle.model.specs.Walks.{overfull, least, first_overfull_lem}
use Rattle.model.proofs.Bounds.{LeastOf, least_is, FirstOf, first_is, is_first}

module _ (k : Kept) (n : ℕ) where
  -- no address of the node below a is overfull
  abbrev pub Clear : ℕ → Type 0
  Clear a = (b : ℕ) → b < a → overfull k n b ≡ false

  pub clear_more : (a r : ℕ) → Clear a → ((d : ℕ) → d ≤ r → overfull k n (a + d) ≡ false) → Clear (a + (r + 1))
  clear_more a r low more b h =
      elim (cases_lt b a) [
        | inl l ↦ low b l
        | inr l ↦
            let e : a + (b - a) ≡ b = omega arith in
            subst (λ z. overfull k n z ≡ false) e (more (b - a) (omega arith))
      ]

-- no node below n has an overfull address; then node n has none, or its least is the first
module _ (k : Kept) where
  pub none_yet : first_overfull_lem k 0 ≡ none
  none_yet = is_first k 0 none (λ n a h l. absurd (omega arith))

  before : (n : ℕ) → first_overfull_lem k n ≡ none → FirstOf k n none
  before n e = subst (FirstOf k n) e (first_is k n)

  pub none_more : (n : ℕ) → first_overfull_lem k n ≡ none → none ≡ least (overfull k n) top → first_overfull_lem k (n + 1) ≡ none
  none_more n e f =
      is_first k (n + 1) none (λ i a h l.
      elim (cases_lt i n) [
        | inl c ↦ before n e i a c l
        | inr c ↦
            let q : n ≡ i = omega arith in
            let g : LeastOf (overfull k n) top none = subst (LeastOf (overfull k n) top) (sym f) (least_is (overfull k n) top) in
            subst (λ j. overfull k j a ≡ false) q (g a l)
      ])

  pub first_at : (n a : ℕ) → n < 32 → first_overfull_lem k n ≡ none → some a ≡ least (overfull k n) top → some (n, a) ≡ first_overfull_lem k 32
  first_at n a h e f =
      sym (is_first k 32 (some (n, a)) (record {
        node_under = h;
        at_least = subst (LeastOf (overfull k n) top) (sym f) (least_is (overfull k n) top);
        nodes_before = λ i b l t. before n e i b l t;
      }))
