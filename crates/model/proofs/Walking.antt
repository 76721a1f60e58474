-- Walks as they are computed.
use Rattle.std.proofs.Common.{◌≡◌, ℕ, zero, suc, ◌-◌, ◌≤◌, max, List, [], ◌∷◌, ◌++◌, length, sym, refl, ap, ◌∙◌, subst, arith}
use mathlib.Core.Option.{Option, none, some}
use Rattle.std.proofs.lemmas.List.{append_assoc, length-append}
use Rattle.model.specs.Nets.{Kept, Spot, node, below, steps}
use Rattle.model.specs.Walks.{onward, joined, trace, Walk, done, arrives, goes_on}

-- what the first spots meet, and then what the later ones do
abbrev pub after : List Spot → Option (List Spot) → Option (List Spot)
after us none = none
after us (some vs) = some (us ++ vs)

abbrev pub bind : Option (List Spot) → (List Spot → Option (List Spot)) → Option (List Spot)
bind none f = none
bind (some us) f = after us (f us)

after-nil : (o : Option (List Spot)) → o ≡ after [] o
after-nil none = refl
after-nil (some x) = refl

after-cons : (s : Spot) (us : List Spot) (o : Option (List Spot)) → joined s (after us o) ≡ after (s ∷ us) o
after-cons s us none = refl
after-cons s us (some x) = refl

module _ (k : Kept) where
  bind_cons : (n : ℕ) (ys : List Spot) (s : Spot) (o : Option (List Spot))
      → joined s (bind o (λ us. trace k (n - length us) ys)) ≡ bind (joined s o) (λ us. trace k (suc n - length us) ys)
  bind_cons n ys s none = refl
  bind_cons n ys s (some us) =
      let e : n - length us ≡ suc n - suc (length us) = omega arith in
      after-cons s us (trace k (n - length us) ys) ∙ ap (λ j. after (s ∷ us) (trace k j ys)) e

  -- a walk through two lists is a walk through the first and then, with what is left, through the second
  pub trace-++ : (n : ℕ) (xs ys : List Spot) → trace k n (xs ++ ys) ≡ bind (trace k n xs) (λ us. trace k (n - length us) ys)
  trace-++ n [] ys = let e : n ≡ n - 0 = omega arith in after-nil (trace k n ys) ∙ ap (λ j. after [] (trace k j ys)) e
  trace-++ zero (x ∷ xs) ys = refl
  trace-++ (suc n) (x ∷ xs) ys =
      ap (λ l. joined x (trace k n l)) (sym (append_assoc (onward k x) xs ys))
      ∙ ap (joined x) (trace-++ n (onward k x ++ xs) ys)
      ∙ bind_cons n ys x (trace k n (onward k x ++ xs))

  -- a walk through two lists, in two
  pub split : (xs ys ws : List Spot) → Walk k (xs ++ ys) ws → (us : List Spot) × (vs : List Spot) × Walk k xs us × Walk k ys vs × (ws ≡ us ++ vs)
  split [] ys ws w = ([], ws, done, w, refl)
  split (x ∷ xs) ys ws (arrives {a} {met} w) =
      let p = split xs ys met w in (below a ∷ p.0, p.1, arrives p.2, p.3, ap (λ l. below a ∷ l) p.4)
  split (x ∷ xs) ys ws (goes_on {n} {a} {down} {met} u w) =
      let p = split xs ys met w in (
        node n a ∷ (down ++ p.0),
        p.1,
        goes_on u p.2,
        p.3,
        ap (λ l. node n a ∷ l) (ap (λ l. down ++ l) p.4 ∙ sym (append_assoc down p.0 p.1)),
      )

  pub complete : {xs vs : List Spot} → Walk k xs vs → (n : ℕ) → length vs ≤ n → trace k n xs ≡ some vs
  complete done n h = refl
  complete (arrives w) zero h = absurd (omega arith)
  complete (arrives {a} w) (suc n) h = ap (joined (below a)) (complete w n (omega arith))
  complete (goes_on u w) zero h = absurd (omega arith)
  complete (goes_on {n = i} {a} {rest} {down} {met} u w) (suc n) h =
      let l = length-append down met in
      ap (joined (node i a))
      (trace-++ n (steps k i a) rest ∙ ap (λ o. bind o (λ us. trace k (n - length us) rest)) (complete u n (omega arith))
      ∙ ap (after down) (complete w (n - length down) (omega arith)))

  first : (x : Spot) (xs ws : List Spot) → Walk k (onward k x ++ xs) ws → Walk k (x ∷ xs) (x ∷ ws)
  first (below a) xs ws w = arrives w
  first (node n a) xs ws w =
      let p = split (steps k n a) xs ws w in
      subst (λ l. Walk k (node n a ∷ xs) (node n a ∷ l)) (sym p.4) (goes_on p.2 p.3)

  pub sound : (n : ℕ) (xs vs : List Spot) → trace k n xs ≡ some vs → Walk k xs vs × (length vs ≤ n)
  sound n [] vs e = let f : [] ≡ vs = cc in subst (λ l. Walk k [] l × (length l ≤ n)) f (done, omega arith)
  sound zero (x ∷ xs) vs e = let z : ◌≡◌ {A = ℕ} 0 1 = cc in absurd (omega arith)
  sound (suc n) (x ∷ xs) vs e = go (trace k n (onward k x ++ xs)) (λ ws. sound n (onward k x ++ xs) ws) e
    where
      go : (o : Option (List Spot)) → ((ws : List Spot) → o ≡ some ws → Walk k (onward k x ++ xs) ws × (length ws ≤ n)) → joined x o ≡ some vs → Walk k (x ∷ xs) vs × (length vs ≤ suc n)
      go none ih q = let z : ◌≡◌ {A = ℕ} 0 1 = cc in absurd (omega arith)
      go (some ws) ih q =
          let f : x ∷ ws ≡ vs = cc in
          let h = ih ws refl in
          subst (λ l. Walk k (x ∷ xs) l × (length l ≤ suc n)) f (first x xs ws h.0, let l = h.1 in omega arith)

  pub unique : (xs us vs : List Spot) → Walk k xs us → Walk k xs vs → us ≡ vs
  unique xs us vs u v =
      let p : trace k (max (length us) (length vs)) xs ≡ some us = complete u (max (length us) (length vs)) (omega arith) in
      let q : trace k (max (length us) (length vs)) xs ≡ some vs = complete v (max (length us) (length vs)) (omega arith) in
      cc
