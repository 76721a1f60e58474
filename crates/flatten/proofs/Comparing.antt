-- Comparing two spaces, stretch after stretch.
use Rattle.std.proofs.Common.{◌≡◌, ℕ, ◌+◌, ◌-◌, ◌<◌, ◌≤◌, true, false, List, length, sym, ap, ◌∙◌, subst, inl, inr, arith}
use Rattle.std.proofs.lemmas.Bool.{both_ways, cases_lt}
use Rattle.model.specs.declared.names.Name.{Name}
use Rattle.model.specs.Names.{top, raise, holds, SameSet}
use Rattle.model.specs.Looks.{Reach}
use Rattle.flatten.specs.declared.stretch.Stretch.{Stretch}
use Rattle.flatten.specs.Runs.{every}
use Rattle.flatten.specs.Steps.{Held}
use Rattle.flatten.specs.Comparing.{PassBelow, Differs}
use Rattle.flatten.proofs.Sets.{has, iff_eq, set_is, set_trans, set-raise, every_true, every_from}
use Rattle.flatten.proofs.Stretches.{held_fits}

-- what is known of a held stretch, of a space that stays the same
pub record Looked (list : ℕ → List Name) (size a reach : ℕ) : Type 0 where
  pub fit : length (list a) ≤ size
  pub reaches : Reach list a reach

module _ {X : Type 0} (F : X → ℕ → List Name) (u v : X) (scratch : List Name) (m : Stretch) (n a : ℕ) (here : (m.address ≡ a) × (u ≡ v) × (length scratch ≡ n)) where
  pub looked : (size : ℕ) → Held (F u) scratch m → n ≡ size → Looked (F v) size a m.reach
  looked size h e =
      let c = h.counts in
      let r = h.room in
      let k = here.2 in
      let there : Looked (F u) size m.address m.reach = record { fit = omega (arith, c, r, k, e); reaches = h.reaches } in
      subst (λ w. Looked (F w) size a m.reach) here.1 (subst (λ b. Looked (F u) size b m.reach) here.0 there)

  pub named : (xs : List Name) → xs ≡ F u m.address → xs ≡ F v a
  named xs x = x ∙ ap (F u) here.0 ∙ ap (λ w. F w a) here.1

module _ (l r : ℕ → List Name) (s t at reach far : ℕ) (p : Looked l s at reach) (q : Looked r t at far) (below : PassBelow l r s t at) where
  differs : at < top → (SameSet (l at) (r at) → ⊥) → Differs l r s t at
  differs inside other = record { inside = inside; below = below; fits_first = p.fit; fits_second = q.fit; other = other }

  pub differs_first : (xs : List Name) → xs ≡ l at → at < top → false ≡ every (holds (r at)) xs → Differs l r s t at
  differs_first xs x inside u = differs inside (λ h. both_ways (every (holds (r at)) xs) (sym u) (every_from (r at) xs (λ n m. sym (h n) ∙ ap (has n) (sym x) ∙ m)))

  pub differs_second : (ys : List Name) → ys ≡ r at → at < top → false ≡ every (holds (l at)) ys → Differs l r s t at
  differs_second ys y inside u = differs inside (λ h. both_ways (every (holds (l at)) ys) (sym u) (every_from (l at) ys (λ n m. h n ∙ ap (has n) (sym y) ∙ m)))

  -- a whole turn: each list is within the other, and both stay, raised, up to `last`
  pub passes_on : (xs ys : List Name) → xs ≡ l at → ys ≡ r at → (last : ℕ) → true ≡ every (holds (r at)) xs → true ≡ every (holds (l at)) ys
      → last ≤ reach → last ≤ far → PassBelow l r s t (last + 1)
  passes_on xs ys x y last u v a b c k = elim (cases_lt c at) [
    | inl m ↦ below c m
    | inr m ↦ (let d : ℕ = c - at in
        let e : at + d ≡ c = omega arith in
        let same : SameSet (l at) (r at) = λ n. iff_eq _ _ (λ h. every_true (r at) xs (sym u) n (ap (has n) x ∙ h)) (λ h. every_true (l at) ys (sym v) n (ap (has n) y ∙ h)) in
        record {
          fits_first = held_fits l at reach s p.reaches p.fit c m (omega arith);
          fits_second = held_fits r at far t q.reaches q.fit c m (omega arith);
          same = subst (λ x. SameSet (l x) (r x)) e
              (set_trans (l (at + d)) (raise d (l at)) (r (at + d)) (set_is _ _ (p.reaches.raises d (omega arith)))
              (set_trans (raise d (l at)) (raise d (r at)) (r (at + d)) (set-raise d (l at) (r at) same) (set_is _ _ (sym (q.reaches.raises d (omega arith))))));
        })
  ]
