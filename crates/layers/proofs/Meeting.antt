-- Which names a renaming gives.
use Rattle.std.proofs.Common.{◌≡◌, ℕ, Bool, true, false, ◌||◌, eqb, ◌⊎◌, List, [], ◌∷◌, map, sym, refl, ap, ◌∙◌, inl, inr}
use Rattle.std.proofs.lemmas.Bool.{cond-false, eq-eqb, eqb-true, cases_Bool, and_parts, and_from, or_cases, or_left, or_right, both_ways}
use Rattle.std.specs.List.{list_any}
use Rattle.sets.specs.Members.{some_of}
use Rattle.model.specs.declared.names.Name.{Name}
use Rattle.model.specs.Names.{replaced, renamed, holds}
use Rattle.layers.specs.declared.pairs.Pair.{Pair}
use Rattle.layers.specs.Pairs.{two, leads_lem}
use Rattle.model.proofs.Gathering.{holds-map, map-holds}
use Rattle.layers.proofs.Scans.{some_two}

-- a name that a renaming gives comes from one below
pub comes_from : (ps : List (ℕ × ℕ)) (xs : List Name) (n : Name) → holds (map (renamed ps) xs) n ≡ true
    → (k : ℕ) × (replaced ps k ≡ n.component) × (holds xs (record { component = k; address = n.address }) ≡ true)
comes_from ps xs n e =
    let r = map-holds (renamed ps) xs n e in
    let x : Name = r.0 in (
      x.component,
      sym (ap (λ (y : Name). y.component) r.2),
      ap (λ a. holds xs (record { component = x.component; address = a })) (ap (λ (y : Name). y.address) r.2) ∙ r.1,
    )

pub goes_to : (ps : List (ℕ × ℕ)) (xs : List Name) (n : Name) (k : ℕ) → replaced ps k ≡ n.component → holds xs (record { component = k; address = n.address }) ≡ true
    → holds (map (renamed ps) xs) n ≡ true
goes_to ps xs n k e h =
    ap (λ c. holds (map (renamed ps) xs) (record { component = c; address = n.address })) (sym e)
    ∙ holds-map (renamed ps) xs (record { component = k; address = n.address }) h

-- a component stays, or some pair is from it
stays : (ps : List (ℕ × ℕ)) (q : ℕ × ℕ → Bool) (k : ℕ) → ((t : ℕ) → q (k, t) ≡ true) → (replaced ps k ≡ k) ⊎ (some_of q ps ≡ true)
stays [] q k f = inl refl
stays (p ∷ ps) q k f =
    elim (cases_Bool (eqb p.0 k)) [
      | inl e ↦ inr (or_left (q p) (some_of q ps) (ap (λ j. q (j, p.1)) (eqb-true p.0 k e) ∙ f p.1))
      | inr e ↦ elim (stays ps q k f) [
        | inl s ↦ inl (cond-false (eqb p.0 k) p.1 (replaced ps k) e ∙ s)
        | inr s ↦ inr (or_right (q p) (some_of q ps) s)
      ]
    ]

some_one : (q : ℕ × ℕ → Bool) (ps : List (ℕ × ℕ)) → some_of q ps ≡ true → (p : ℕ × ℕ) × (q p ≡ true)
some_one q [] e = absurd (both_ways false refl e)
some_one q (p ∷ ps) e = elim (or_cases (q p) (some_of q ps) e) [ inl h ↦ (p, h) | inr h ↦ some_one q ps h ]

module _ (ps : List (ℕ × ℕ)) (xs : List Name) (n : Name) where
  goes_from : (k : ℕ) → leads_lem ps xs n k ≡ true → holds (map (renamed ps) xs) n ≡ true
  goes_from k e =
      let h = and_parts (eqb (replaced ps k) n.component) (holds xs (record { component = k; address = n.address })) e in
      goes_to ps xs n k (eqb-true (replaced ps k) n.component h.0) h.1

  none_leads : leads_lem ps xs n n.component ≡ false → some_of (λ p. leads_lem ps xs n p.0) ps ≡ false → holds (map (renamed ps) xs) n ≡ false
  none_leads own none =
      elim (cases_Bool (holds (map (renamed ps) xs) n)) [
        | inr e ↦ e
        | inl e ↦ (let r = comes_from ps xs n e in
            let t : leads_lem ps xs n r.0 ≡ true = and_from (eqb (replaced ps r.0) n.component) (holds xs (record { component = r.0; address = n.address })) (eq-eqb (replaced ps r.0) n.component r.1) r.2 in
            elim (stays ps (λ p. leads_lem ps xs n p.0) r.0 (λ u. t)) [
              | inl s ↦ absurd (both_ways (leads_lem ps xs n n.component) own (ap (leads_lem ps xs n) (sym r.1 ∙ s) ∙ t))
              | inr s ↦ absurd (both_ways (some_of (λ p. leads_lem ps xs n p.0) ps) none s)
            ])
      ]

  pub not_met : (replaced ps n.component ≡ n.component → holds xs n ≡ true → ⊥) → some_of (λ p. leads_lem ps xs n p.0) ps ≡ false → holds (map (renamed ps) xs) n ≡ false
  not_met own none =
      elim (cases_Bool (leads_lem ps xs n n.component)) [
        | inr e ↦ none_leads e none
        | inl e ↦ (let h = and_parts (eqb (replaced ps n.component) n.component) (holds xs n) e in
            absurd (own (eqb-true (replaced ps n.component) n.component h.0) h.1))
      ]

abbrev pub pair_leads : List Pair → List Name → Name → Bool
pair_leads ps xs n = list_any (λ (p : Pair). leads_lem (map two ps) xs n p.from) ps

-- a name is given where its own component, or that of some pair, leads to it
pub met_is : (ps : List Pair) (xs : List Name) (n : Name)
    → holds (map (renamed (map two ps)) xs) n ≡ (leads_lem (map two ps) xs n n.component || pair_leads ps xs n)
met_is ps xs n =
    let qs : List (ℕ × ℕ) = map two ps in
    let q : ℕ × ℕ → Bool = λ p. leads_lem qs xs n p.0 in
    elim (cases_Bool (leads_lem qs xs n n.component)) [
      | inl e ↦ goes_from qs xs n n.component e ∙ sym (ap (λ b. b || pair_leads ps xs n) e)
      | inr e ↦ elim (cases_Bool (pair_leads ps xs n)) [
        | inl s ↦ (let p = some_one q qs (some_two q ps ∙ s) in goes_from qs xs n p.0.0 p.1 ∙ sym (λ i. e i || s i))
        | inr s ↦ none_leads qs xs n e (some_two q ps ∙ s) ∙ sym (λ i. e i || s i)
      ]
    ]
