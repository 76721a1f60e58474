-- A run is what lies between two seams, and what is needed below an address is counted at the seams.
use Rattle.std.proofs.Common.{◌≡◌, ℕ, zero, suc, ◌+◌, ◌-◌, ◌<◌, ◌≤◌, Bool, true, false, cond, not, ◌&&◌, List, length, sym, refl, ap, ◌∙◌, subst, inl, inr, add-one, arith}
use Rattle.std.proofs.lemmas.Bool.{both_ways, and_from, and_left, and_right, and_parts, le-leb, lt-leb, cases_Bool, cases_lt, cond-true, cond-false}
use Rattle.model.specs.declared.names.Name.{Name}
use Rattle.model.specs.Names.{top, raise, holds, SameSet}
use Rattle.flatten.specs.Runs.{Run, once, every, seam, needed, fits}
use Rattle.flatten.proofs.Sets.{has, iff_eq, set_sym, set_trans, set_is, set-raise, raise-raise, every_true, every_from}

abbrev both : List Name → List Name → Bool
both xs ys = every (holds ys) xs && every (holds xs) ys

both_from : (xs ys : List Name) → SameSet xs ys → both xs ys ≡ true
both_from xs ys h = and_from _ _ (every_from ys xs (λ n m. sym (h n) ∙ m)) (every_from xs ys (λ n m. h n ∙ m))

both_true : (xs ys : List Name) → both xs ys ≡ true → SameSet xs ys
both_true xs ys h n =
    let p = and_parts (every (holds ys) xs) (every (holds xs) ys) h in
    iff_eq (has n xs) (has n ys) (every_true ys xs p.0 n) (every_true xs ys p.1 n)

module _ (list : ℕ → List Name) where
  seam_in : (a : ℕ) → SameSet (raise 1 (list a)) (list (suc a)) → seam list (suc a) ≡ false
  seam_in a h = ap not (both_from (raise 1 (list a)) (list (suc a)) h)

  seam_out : (a : ℕ) → (SameSet (raise 1 (list a)) (list (suc a)) → ⊥) → seam list (suc a) ≡ true
  seam_out a h = elim (cases_Bool (both (raise 1 (list a)) (list (suc a)))) [
    | inl e ↦ absurd (h (both_true (raise 1 (list a)) (list (suc a)) e))
    | inr e ↦ ap not e
  ]

  -- the set at an address of a run raised by one, from the run's first
  run_next : (lo hi a : ℕ) → Run list lo hi → lo ≤ a → a ≤ hi → SameSet (raise (a + 1 - lo) (list lo)) (raise 1 (list a))
  run_next lo hi a r l m =
      let e : (a - lo) + 1 ≡ a + 1 - lo = omega arith in
      set_trans (raise (a + 1 - lo) (list lo)) (raise 1 (raise (a - lo) (list lo))) (raise 1 (list a))
      (set_is (raise (a + 1 - lo) (list lo)) (raise 1 (raise (a - lo) (list lo))) (sym (raise-raise (a - lo) 1 (list lo) ∙ ap (λ t. raise t (list lo)) e)))
      (set-raise 1 (raise (a - lo) (list lo)) (list a) (r.same a l m))

  pub run_inside : (lo hi a : ℕ) → Run list lo hi → lo ≤ a → a < hi → seam list (a + 1) ≡ false
  run_inside lo hi a r l m =
      let h : SameSet (raise 1 (list a)) (list (a + 1)) =
      set_trans (raise 1 (list a)) (raise (a + 1 - lo) (list lo)) (list (a + 1))
      (set_sym (raise (a + 1 - lo) (list lo)) (raise 1 (list a)) (run_next lo hi a r l (omega arith))) (r.same (a + 1) (omega arith) (omega arith)) in
      ap (seam list) (add-one a) ∙ seam_in a (subst (λ x. SameSet (raise 1 (list a)) (list x)) (add-one a) h)

  pub run_outside : (lo hi : ℕ) → Run list lo hi → hi + 1 < top → seam list (hi + 1) ≡ true
  run_outside lo hi r l = elim r.longest [
    | inl e ↦ absurd (omega arith)
    | inr stops ↦ ap (seam list) (add-one hi) ∙ seam_out hi (λ h. stops
        (set_trans (raise (hi + 1 - lo) (list lo)) (raise 1 (list hi)) (list (hi + 1)) (run_next lo hi hi r r.rises (omega arith))
        (subst (λ x. SameSet (raise 1 (list hi)) (list x)) (sym (add-one hi)) h)))
  ]

  pub needed-zero : needed list 0 ≡ 0
  unfolding needed
  needed-zero = refl

  needed_next : (a : ℕ) → needed list (suc a) ≡ needed list a + cond (seam list a) (length (once (list a))) 0
  unfolding needed
  needed_next a = refl

  needed-seam : (a : ℕ) → seam list a ≡ true → needed list (a + 1) ≡ needed list a + length (once (list a))
  needed-seam a e = ap (needed list) (add-one a) ∙ needed_next a ∙ ap (λ n. needed list a + n) (cond-true (seam list a) (length (once (list a))) 0 e)

  needed-none : (a : ℕ) → seam list a ≡ false → needed list (a + 1) ≡ needed list a
  needed-none a e =
      let h : needed list (a + 1) ≡ needed list a + 0 =
      ap (needed list) (add-one a) ∙ needed_next a ∙ ap (λ n. needed list a + n) (cond-false (seam list a) (length (once (list a))) 0 e) in
      omega arith

  needed_along : (lo hi : ℕ) → Run list lo hi → seam list lo ≡ true → (k : ℕ) → lo + k ≤ hi → needed list ((lo + k) + 1) ≡ needed list lo + length (once (list lo))
  needed_along lo hi r e zero l =
      let z : lo + 0 ≡ lo = omega arith in
      ap (λ a. needed list (a + 1)) z ∙ needed-seam lo e
  needed_along lo hi r e (suc k) l =
      let m : lo + k < hi = omega arith in
      let z : lo + suc k ≡ (lo + k) + 1 = omega arith in
      ap (λ a. needed list (a + 1)) z ∙ needed-none ((lo + k) + 1) (run_inside lo hi (lo + k) r (omega arith) m)
      ∙ needed_along lo hi r e k (omega arith)

  -- one run takes the names at its first address
  pub needed_run : (lo hi : ℕ) → Run list lo hi → seam list lo ≡ true → needed list (hi + 1) ≡ needed list lo + length (once (list lo))
  needed_run lo hi r e =
      let q = r.rises in
      let k : ℕ = hi - lo in
      let z : lo + k ≡ hi = omega arith in
      ap (λ a. needed list (a + 1)) (sym z) ∙ needed_along lo hi r e k (omega arith)

  needed_up : (a d : ℕ) → needed list a ≤ needed list (a + d)
  needed_up a zero = let e : a + 0 ≡ a = omega arith in subst (λ x. needed list a ≤ needed list x) (sym e) (omega arith)
  needed_up a (suc d) =
      let e : a + suc d ≡ suc (a + d) = omega arith in
      let h = needed_up a d in
      let n : needed list (a + suc d) ≡ needed list (a + d) + cond (seam list (a + d)) (length (once (list (a + d)))) 0 = ap (needed list) e ∙ needed_next (a + d) in
      omega (arith, h, n)

  -- at a seam there is room for the names there
  pub needed-room : (a n : ℕ) → a < n → seam list a ≡ true → needed list a + length (once (list a)) ≤ needed list n
  needed-room a n l e =
      let d : ℕ = n - (a + 1) in
      let z : (a + 1) + d ≡ n = omega arith in
      let h : needed list (a + 1) ≤ needed list n = subst (λ x. needed list (a + 1) ≤ needed list x) z (needed_up (a + 1) d) in
      let k = needed-seam a e in
      omega (arith, h, k)

  pub fits_from : (s n : ℕ) → ((a : ℕ) → a < n → length (list a) ≤ s) → fits list s n ≡ true
  unfolding fits
  fits_from s zero h = refl
  fits_from s (suc n) h = and_from _ _ (fits_from s n (λ a l. h a (omega arith))) (le-leb (length (list n)) s (h n (omega arith)))

  pub fits_not : (s n a : ℕ) → a < n → s < length (list a) → fits list s n ≡ false
  unfolding fits
  fits_not s zero a l m = absurd (omega arith)
  fits_not s (suc n) a l m = elim (cases_lt a n) [
    | inl k ↦ and_left _ _ (fits_not s n a k m)
    | inr k ↦ (let e : a ≡ n = omega arith in and_right _ _ (lt-leb (length (list n)) s (subst (λ x. s < length (list x)) e m)))
  ]

  pub fits_at : (s n a : ℕ) → fits list s n ≡ true → a < n → length (list a) ≤ s
  fits_at s n a f l = elim (cases_lt s (length (list a))) [ inl m ↦ absurd (both_ways (fits list s n) (fits_not s n a l m) f) | inr m ↦ m ]
