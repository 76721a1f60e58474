-- The search by jumps finds the first overfull name.
use Rattle.std.proofs.Common.{◌≡◌, ℕ, zero, suc, ◌+◌, ◌-◌, ◌<◌, Bool, true, false, cond, not, ltb, List, [], ◌∷◌, sym, refl, ap, ◌∙◌, arith}
use mathlib.Core.Option.{Option, none, some}
use Rattle.std.proofs.lemmas.Bool.{ltb-true, ltb-false}
use Rattle.model.specs.Names.{top}
use Rattle.model.specs.Nets.{Kept, Spot, node}
use Rattle.model.specs.Walks.{trace, finite, overfull, least, first_overfull_lem}
use Rattle.model.proofs.Bounds.{is_least}
use Rattle.model.proofs.Firsts.{Clear, clear_more}
use Rattle.walks.specs.Spans.{spans}
use Rattle.walks.proofs.Rising.{trace_up}
use Rattle.board.specs.Jumping.{jumping, jumping_nodes}

module _ (k : Kept) (n : ℕ) where
  -- no address of the stretch that begins at a is overfull
  stretch : (a : ℕ) (met : List Spot) → trace k 64 (node n a ∷ []) ≡ some met → Clear k n a → Clear k n (a + (spans k (top - 1 - a) met + 1))
  stretch a met e low = clear_more k n a (spans k (top - 1 - a) met) low (λ d h. ap (λ o. not (finite o)) (trace_up k d n a 64 (top - 1 - a) met e h))

  exact_from : (jumps a : ℕ) (found : Option ℕ) → Clear k n a → jumping k n jumps a ≡ some found → least (overfull k n) top ≡ found
  unfolding jumping
  exact_from zero a found low e = let z : ◌≡◌ {A = ℕ} 0 1 = cc in absurd (omega arith)
  exact_from (suc jumps) a found low e = go (ltb a top) refl (trace k 64 (node n a ∷ [])) refl (exact_from jumps) e
    where
      go : (b : Bool) → ltb a top ≡ b → (t : Option (List Spot)) → trace k 64 (node n a ∷ []) ≡ t
          → ((a : ℕ) (found : Option ℕ) → Clear k n a → jumping k n jumps a ≡ some found → least (overfull k n) top ≡ found)
          → cond b (elim t [ none ↦ some (some a) | some met ↦ jumping k n jumps (a + (spans k (top - 1 - a) met + 1)) ]) (some none) ≡ some found
          → least (overfull k n) top ≡ found
      go true f none g ih e =
          let q : some a ≡ found = cc in
          is_least (overfull k n) top (some a) (record { under = ltb-true a top f; passes = ap (λ o. not (finite o)) g; earlier = low }) ∙ q
      go true f (some met) g ih e = ih (a + (spans k (top - 1 - a) met + 1)) found (stretch a met g low) e
      go false f t g ih e =
          let q : none ≡ found = cc in
          is_least (overfull k n) top none (λ b h. low b (omega (arith, ltb-false a top f))) ∙ q

  pub exact : (jumps : ℕ) (found : Option ℕ) → jumping k n jumps 0 ≡ some found → least (overfull k n) top ≡ found
  exact jumps found e = exact_from jumps 0 found (λ b h. absurd (omega arith)) e

  ends_from : (jumps a : ℕ) → top - a < jumps → (found : Option ℕ) × (jumping k n jumps a ≡ some found)
  unfolding jumping
  ends_from zero a h = absurd (omega arith)
  ends_from (suc jumps) a h = go (ltb a top) refl (trace k 64 (node n a ∷ [])) (ends_from jumps)
    where
      go : (b : Bool) → ltb a top ≡ b → (t : Option (List Spot)) → ((a : ℕ) → top - a < jumps → (found : Option ℕ) × (jumping k n jumps a ≡ some found))
          → (found : Option ℕ) × (cond b (elim t [ none ↦ some (some a) | some met ↦ jumping k n jumps (a + (spans k (top - 1 - a) met + 1)) ]) (some none) ≡ some found)
      go true f none ih = (some a, refl)
      go true f (some met) ih = ih (a + (spans k (top - 1 - a) met + 1)) (let l = ltb-true a top f in omega arith)
      go false f t ih = (none, refl)

module _ (k : Kept) (jumps : ℕ) where
  pub first_exact : (n : ℕ) (found : Option (ℕ × ℕ)) → jumping_nodes k jumps n ≡ some found → first_overfull_lem k n ≡ found
  unfolding jumping_nodes first_overfull_lem
  first_exact zero found e = cc
  first_exact (suc n) found e = go (jumping_nodes k jumps n) (first_exact n) (jumping k n jumps 0) (exact k n jumps) e
    where
      one : (o : Option ℕ) → least (overfull k n) top ≡ o → some (elim o [ some a ↦ some (n, a) | none ↦ none ]) ≡ some found
          → elim (least (overfull k n) top) [ some a ↦ some (n, a) | none ↦ none ] ≡ found
      one o f e = let q : elim o [ some a ↦ some (n, a) | none ↦ none ] ≡ found = cc in ap (λ u. elim u [ some a ↦ some (n, a) | none ↦ none ]) f ∙ q

      go : (s : Option (Option (ℕ × ℕ))) → ((f : Option (ℕ × ℕ)) → s ≡ some f → first_overfull_lem k n ≡ f)
          → (t : Option (Option ℕ)) → ((f : Option ℕ) → t ≡ some f → least (overfull k n) top ≡ f)
          → elim s [ none ↦ none | some first ↦ elim first [ some x ↦ some (some x) | none ↦ elim t [ none ↦ none | some o ↦ some (elim o [ some a ↦ some (n, a) | none ↦ none ]) ] ] ] ≡ some found
          → elim (first_overfull_lem k n) [ some x ↦ some x | none ↦ elim (least (overfull k n) top) [ some a ↦ some (n, a) | none ↦ none ] ] ≡ found
      go none ih t h e = let z : ◌≡◌ {A = ℕ} 0 1 = cc in absurd (omega arith)
      go (some (some x)) ih t h e =
          let q : some x ≡ found = cc in
          ap (λ u. elim u [ some x ↦ some x | none ↦ elim (least (overfull k n) top) [ some a ↦ some (n, a) | none ↦ none ] ]) (ih (some x) refl) ∙ q
      go (some none) ih none h e = let z : ◌≡◌ {A = ℕ} 0 1 = cc in absurd (omega arith)
      go (some none) ih (some o) h e =
          ap (λ u. elim u [ some x ↦ some x | none ↦ elim (least (overfull k n) top) [ some a ↦ some (n, a) | none ↦ none ] ]) (ih none refl) ∙ one o (h o refl) e

  first_some : top < jumps → (n : ℕ) → (found : Option (ℕ × ℕ)) × (jumping_nodes k jumps n ≡ some found)
  unfolding jumping_nodes
  first_some l zero = (none, refl)
  first_some l (suc n) = go (jumping_nodes k jumps n) (first_some l n) (jumping k n jumps 0) (ends_from k n jumps 0 (omega arith))
    where
      go : (s : Option (Option (ℕ × ℕ))) → (f : Option (ℕ × ℕ)) × (s ≡ some f) → (t : Option (Option ℕ)) → (f : Option ℕ) × (t ≡ some f)
          → (found : Option (ℕ × ℕ)) × (elim s [ none ↦ none | some first ↦ elim first [ some x ↦ some (some x) | none ↦ elim t [ none ↦ none | some o ↦ some (elim o [ some a ↦ some (n, a) | none ↦ none ]) ] ] ] ≡ some found)
      go none (f, p) t q = let z : ◌≡◌ {A = ℕ} 0 1 = cc in absurd (omega arith)
      go (some (some x)) p t q = (some x, refl)
      go (some none) p none (f, q) = let z : ◌≡◌ {A = ℕ} 0 1 = cc in absurd (omega arith)
      go (some none) p (some o) q = (elim o [ some a ↦ some (n, a) | none ↦ none ], refl)

  pub first_ends : (n : ℕ) → top < jumps → jumping_nodes k jumps n ≡ some (first_overfull_lem k n)
  first_ends n l = let p = first_some l n in p.1 ∙ ap some (sym (first_exact n p.0 p.1))
