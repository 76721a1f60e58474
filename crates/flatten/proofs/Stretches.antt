-- Going from stretch to stretch of a space while the set of names stays, raised.
use Rattle.std.proofs.Common.{◌≡◌, ℕ, ◌+◌, ◌-◌, ◌<◌, ◌≤◌, Bool, true, false, List, length, sym, refl, ap, ◌∙◌, subst, inl, inr, arith}
use Rattle.std.proofs.lemmas.Bool.{cases_lt}
use Rattle.model.specs.declared.names.Name.{Name}
use Rattle.model.specs.Names.{top, raise, SameSet}
use Rattle.model.specs.Looks.{Reach}
use Rattle.flatten.specs.declared.stretch.Stretch.{Stretch}
use Rattle.flatten.specs.Steps.{ups, downs, Held, Ended}
use Rattle.flatten.proofs.Sets.{Low, set_sym, set_trans, set_is, set-raise, raise-raise, raise_zero, length-raise, goes_on, stops_up, stops_down}

-- the whole of a stretch fits where its first list does
pub held_fits : (list : ℕ → List Name) (a reach room : ℕ) → Reach list a reach → length (list a) ≤ room → (b : ℕ) → a ≤ b → b ≤ reach → length (list b) ≤ room
held_fits list a reach room h k b l m =
    let d : ℕ = b - a in
    let e : a + d ≡ b = omega arith in
    let st : list (a + d) ≡ raise d (list a) = h.raises d (omega arith) in
    let q : length (list b) ≡ length (list a) = ap (λ t. length (list t)) (sym e) ∙ ap length st ∙ length-raise d (list a) in
    omega (arith, q, k)

-- what going on keeps
pub record Going (list : ℕ → List Name) (lo room : ℕ) (scratch : List Name) (s : Stretch) : Type 0 where
  pub size : length scratch ≡ room
  pub held : Held list scratch s
  pub low : lo ≤ s.address
  pub alike : (d : ℕ) → lo + d ≤ s.reach → SameSet (list (lo + d)) (raise d (list lo))
  pub fit : (a : ℕ) → lo ≤ a → a ≤ s.reach → length (list a) ≤ room

stretch_fits : (list : ℕ → List Name) (scratch : List Name) (s : Stretch) → Held list scratch s → (a : ℕ) → s.address ≤ a → a ≤ s.reach → length (list a) ≤ length scratch
stretch_fits list scratch s h =
    let c = h.counts in
    let r = h.room in
    held_fits list s.address s.reach (length scratch) h.reaches (omega arith)

pub going_start : (list : ℕ → List Name) (scratch : List Name) (s : Stretch) → Held list scratch s → Going list s.address (length scratch) scratch s
going_start list scratch s h = record {
  size = refl;
  held = h;
  low = omega arith;
  alike = λ d l. set_is (list (s.address + d)) (raise d (list s.address)) (h.reaches.raises d l);
  fit = stretch_fits list scratch s h;
}

alike_run : (list : ℕ → List Name) (lo hi : ℕ) → ((d : ℕ) → lo + d ≤ hi → SameSet (list (lo + d)) (raise d (list lo)))
    → (a : ℕ) → lo ≤ a → a ≤ hi → SameSet (raise (a - lo) (list lo)) (list a)
alike_run list lo hi alike a l m =
    let d : ℕ = a - lo in
    let e : lo + d ≡ a = omega arith in
    set_sym (list a) (raise d (list lo)) (subst (λ x. SameSet (list x) (raise d (list lo))) e (alike d (omega arith)))

-- the set at `at`, the first address past the stretch, from the run's first and from the stretch's
module _ (list : ℕ → List Name) (lo room : ℕ) (scratch : List Name) (s : Stretch) (g : Going list lo room scratch s) (at : ℕ) (is : at ≡ s.reach + 1) where
  anchored : (e : ℕ) → SameSet (raise e (raise (at - s.address) (list s.address))) (raise ((at - lo) + e) (list lo))
  anchored e =
      let low = g.low in
      let far = g.held.reaches.least in
      let k : ℕ = s.address - lo in
      let d : ℕ = at - s.address in
      let p : lo + k ≡ s.address = omega arith in
      let one : SameSet (list s.address) (raise k (list lo)) = subst (λ t. SameSet (list t) (raise k (list lo))) p (g.alike k (omega arith)) in
      let two : SameSet (raise e (raise d (list s.address))) (raise e (raise d (raise k (list lo)))) =
      set-raise e (raise d (list s.address)) (raise d (raise k (list lo))) (set-raise d (list s.address) (raise k (list lo)) one) in
      let flat : raise e (raise d (raise k (list lo))) ≡ raise ((at - lo) + e) (list lo) =
      raise-raise d e (raise k (list lo)) ∙ raise-raise k (d + e) (list lo) ∙ ap (λ t. raise t (list lo)) (omega arith) in
      set_trans (raise e (raise d (list s.address))) (raise e (raise d (raise k (list lo)))) (raise ((at - lo) + e) (list lo)) two (set_is _ _ flat)

  going_next : (after : List Name) (t : Stretch) → length after ≡ room → Held list after t → t.address ≡ at
      → ups (at - s.address) (list at) (list s.address) ≡ true → downs (at - s.address) (list s.address) (list at) ≡ true
      → Going list lo room after t
  going_next after t len h here u v =
      let low = g.low in
      let far = g.held.reaches.least in
      let far2 = h.reaches.least in
      let on : SameSet (list at) (raise (at - s.address) (list s.address)) = goes_on (at - s.address) (list s.address) (list at) u v in
      record {
        size = len;
        held = h;
        low = omega arith;
        alike = λ d l. elim (cases_lt (lo + d) at) [
          | inl m ↦ g.alike d (omega arith)
          | inr m ↦ (let e : ℕ = (lo + d) - at in
              let p : t.address + e ≡ lo + d = omega arith in
              let st : list (lo + d) ≡ raise e (list at) = ap list (sym p) ∙ h.reaches.raises e (omega arith) ∙ ap (λ x. raise e (list x)) here in
              let q : (at - lo) + e ≡ d = omega arith in
              set_trans (list (lo + d)) (raise e (list at)) (raise d (list lo)) (set_is _ _ st)
              (set_trans (raise e (list at)) (raise e (raise (at - s.address) (list s.address))) (raise d (list lo))
              (set-raise e (list at) (raise (at - s.address) (list s.address)) on)
              (subst (λ x. SameSet (raise e (raise (at - s.address) (list s.address))) (raise x (list lo))) q (anchored e))))
        ];
        fit = λ a l m. elim (cases_lt a at) [
          | inl k ↦ g.fit a l (omega arith)
          | inr k ↦ subst (λ x. length (list a) ≤ x) len (stretch_fits list after t h a (omega arith) m)
        ];
      }

  going_ends : (SameSet (list at) (raise (at - s.address) (list s.address)) → ⊥) → at < top → Ended list lo (at - 1) room
  going_ends stops under =
      let low = g.low in
      let far = g.held.reaches.least in
      let one : (at - 1) + 1 ≡ at = omega arith in
      let f : (at - lo) + 0 ≡ at - lo = omega arith in
      let back : SameSet (raise (at - lo) (list lo)) (raise (at - s.address) (list s.address)) =
      subst (λ x. SameSet (raise x (list lo)) (raise (at - s.address) (list s.address))) f
      (subst (λ x. SameSet (raise ((at - lo) + 0) (list lo)) x) (raise_zero (raise (at - s.address) (list s.address))) (set_sym _ _ (anchored 0))) in
      record {
        run = record {
          rises = omega arith;
          below = omega arith;
          same = alike_run list lo (at - 1) (λ d l. g.alike d (omega arith));
          longest = inr (λ h. stops (set_trans (list at) (raise (at - lo) (list lo)) (raise (at - s.address) (list s.address))
              (set_sym (raise (at - lo) (list lo)) (list at) (subst (λ x. SameSet (raise (x - lo) (list lo)) (list x)) one h)) back));
        };
        fit = λ a l m. g.fit a l (omega arith);
      }

-- the turns as the code has them
module _ (list : ℕ → List Name) (lo room : ℕ) (scratch : List Name) (s : Stretch) (g : Going list lo room scratch s)
    (after : List Name) (t : Stretch) (here : t.address ≡ s.reach + 1) (h : Held list after t) where
  low_at : Low (list (s.reach + 1))
  low_at = let far = h.reaches.least in let e : t.address + 0 ≡ s.reach + 1 = omega arith in subst (λ a. Low (list a)) e (h.reaches.none_past 0 (omega arith))

  at_next : (d : ℕ) (b : Bool) (xs : List Name) → xs ≡ list t.address → b ≡ downs d (list s.address) xs → downs d (list s.address) (list (s.reach + 1)) ≡ b
  at_next d b xs x e = sym (e ∙ ap (downs d (list s.address)) (x ∙ ap list here))

  at_held : (d : ℕ) (b : Bool) (xs : List Name) → xs ≡ list s.address → b ≡ ups d (list (s.reach + 1)) xs → ups d (list (s.reach + 1)) (list s.address) ≡ b
  at_held d b xs x e = sym (e ∙ ap (ups d (list (s.reach + 1))) x)

  ended : (SameSet (list (s.reach + 1)) (raise (s.reach + 1 - s.address) (list s.address)) → ⊥)
      → (lo < t.address) × Ended list lo (t.address - 1) room
  ended stops =
      let far = h.reaches.least in
      let most = h.reaches.most in
      let low = g.low in
      let far2 = g.held.reaches.least in
      let under : s.reach + 1 < top = omega arith in
      (omega arith, subst (λ a. Ended list lo (a - 1) room) (sym here) (going_ends list lo room scratch s g (s.reach + 1) refl stops under))

  pub ended_up : (xs : List Name) → xs ≡ list s.address → false ≡ ups (s.reach + 1 - s.address) (list (s.reach + 1)) xs
      → (lo < t.address) × Ended list lo (t.address - 1) room
  ended_up xs x e = ended (stops_up (s.reach + 1 - s.address) (list s.address) (list (s.reach + 1)) low_at (at_held _ false xs x e))

  pub ended_down : (xs : List Name) → xs ≡ list t.address → false ≡ downs (s.reach + 1 - s.address) (list s.address) xs
      → (lo < t.address) × Ended list lo (t.address - 1) room
  ended_down xs x e = ended (stops_down (s.reach + 1 - s.address) (list s.address) (list (s.reach + 1)) (at_next _ false xs x e))

  pub going_on : length after ≡ room → (xs ys : List Name) → xs ≡ list s.address → ys ≡ list t.address
      → true ≡ ups (s.reach + 1 - s.address) (list (s.reach + 1)) xs → true ≡ downs (s.reach + 1 - s.address) (list s.address) ys
      → Going list lo room after t
  going_on len xs ys x y u v = going_next list lo room scratch s g (s.reach + 1) refl after t len h here (at_held _ true xs x u) (at_next _ true ys y v)
