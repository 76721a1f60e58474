-- The steps from a node, as they are computed, are the decode steps.
use Rattle.std.proofs.Common.{◌≡◌, ℕ, ◌+◌, ◌-◌, Bool, true, false, cond, ◌&&◌, eqb, leb, List, [], ◌∷◌, get_or, sym, refl, ap, subst, inl, inr}
use Rattle.std.proofs.lemmas.Bool.{and_parts, and_from, leb-true, le-leb, eqb-true, eqb-false, eq-eqb, ne_eqb, or_cases, or_left, or_right, false≢true, both_ways}
use Rattle.model.specs.declared.blocks.AcceptBlock.{AcceptBlock}
use Rattle.model.specs.declared.blocks.MapBlock.{MapBlock}
use Rattle.model.specs.Nets.{Kept, Spot, node, below, spot, within, accepting, mapped, steps}
use Rattle.model.specs.Model.{Model, net}
use Rattle.model.specs.Decoding.{Among, here, later, Covers, Place, comes, stands, first, Lands, toNode, toBelow, Step, byMap, byOverlay}

pub covers-true : (its lo hi n a : ℕ) → Covers its lo hi n a → (eqb its n && within lo hi a) ≡ true
covers-true its lo hi n a c =
    and_from (eqb its n) (within lo hi a) (eq-eqb its n c.same_node) (and_from (leb lo a) (leb a hi) (le-leb lo a c.from) (le-leb a hi c.to))

pub true-covers : (its lo hi n a : ℕ) → (eqb its n && within lo hi a) ≡ true → Covers its lo hi n a
true-covers its lo hi n a e =
    let p = and_parts (eqb its n) (within lo hi a) e in
    let q = and_parts (leb lo a) (leb a hi) p.1 in
    record { same_node = eqb-true its n p.0; from = leb-true lo a q.0; to = leb-true a hi q.1 }

module _ (n a : ℕ) where
  pub block_accepts : {b : AcceptBlock} {bs : List AcceptBlock} → Among b bs → Covers b.node b.lo b.hi n a → accepting bs n a ≡ true
  block_accepts {b} (here {rest}) c = or_left (eqb b.node n && within b.lo b.hi a) (accepting rest n a) (covers-true b.node b.lo b.hi n a c)
  block_accepts (later {y} {rest} i) c = or_right (eqb y.node n && within y.lo y.hi a) (accepting rest n a) (block_accepts i c)

  pub accepts_block : (bs : List AcceptBlock) → accepting bs n a ≡ true → (b : AcceptBlock) × Among b bs × Covers b.node b.lo b.hi n a
  accepts_block [] e = absurd (false≢true e)
  accepts_block (b ∷ bs) e =
      elim (or_cases (eqb b.node n && within b.lo b.hi a) (accepting bs n a) e) [
        | inl f ↦ (b, here, true-covers b.node b.lo b.hi n a f)
        | inr f ↦ let t = accepts_block bs f in (t.0, later t.1, t.2)
      ]

  abbrev sent : MapBlock → Spot
  sent b = spot b.destination (b.base + (a - b.lo))

  pub block_maps : {b : MapBlock} {bs : List MapBlock} → Among b bs → Covers b.node b.lo b.hi n a → Among (spot b.destination (b.base + (a - b.lo))) (mapped bs n a)
  block_maps {b} (here {rest}) c =
      subst (λ z. Among (sent b) (cond z (sent b ∷ mapped rest n a) (mapped rest n a))) (sym (covers-true b.node b.lo b.hi n a c)) here
  block_maps {b} (later {y} {rest} i) c = go (eqb y.node n && within y.lo y.hi a) (block_maps i c)
    where
      go : (z : Bool) → Among (sent b) (mapped rest n a) → Among (sent b) (cond z (sent y ∷ mapped rest n a) (mapped rest n a))
      go true j = later j
      go false j = j

  pub maps_block : (bs : List MapBlock) (s : Spot) → Among s (mapped bs n a) → (b : MapBlock) × Among b bs × Covers b.node b.lo b.hi n a × (s ≡ spot b.destination (b.base + (a - b.lo)))
  maps_block [] s i = elim i [ ]
  maps_block (b ∷ bs) s i = go (eqb b.node n && within b.lo b.hi a) refl (mapped bs n a) (maps_block bs) s i
    where
      go : (z : Bool) → (eqb b.node n && within b.lo b.hi a) ≡ z → (rest : List Spot)
          → ((s : Spot) → Among s rest → (b : MapBlock) × Among b bs × Covers b.node b.lo b.hi n a × (s ≡ spot b.destination (b.base + (a - b.lo))))
          → (s : Spot) → Among s (cond z (sent b ∷ rest) rest) → (c : MapBlock) × Among c (b ∷ bs) × Covers c.node c.lo c.hi n a × (s ≡ spot c.destination (c.base + (a - c.lo)))
      go true e rest ih s here = (b, here, true-covers b.node b.lo b.hi n a e, refl)
      go true e rest ih s (later i) = let t = ih s i in (t.0, later t.1, t.2, t.3)
      go false e rest ih s i = let t = ih s i in (t.0, later t.1, t.2, t.3)

-- where decoding is when the walk of the top layer is at a spot
abbrev pub placed : Spot → Place
placed (node n a) = stands 0 n a
placed (below a) = comes 1 a

pub lands_spot : (d a : ℕ) → Lands 0 d a (placed (spot d a))
lands_spot d a = go (eqb d 32) refl
  where
    go : (z : Bool) → eqb d 32 ≡ z → Lands 0 d a (placed (cond z (below a) (node d a)))
    go true e = toBelow (eqb-true d 32 e)
    go false e = toNode (eqb-false d 32 e)

pub spot_lands : {d a : ℕ} {q : Place} → Lands 0 d a q → q ≡ placed (spot d a)
spot_lands {d} {a} (toNode e) = ap (λ z. placed (cond z (below a) (node d a))) (sym (ne_eqb d 32 e))
spot_lands {d} {a} (toBelow e) = ap (λ z. placed (cond z (below a) (node d a))) (sym (eq-eqb d 32 e))

module _ (k : Kept) (m : Model) (n a : ℕ) where
  abbrev overlay : ℕ
  overlay = get_or k.overlays n 33

  abbrev chosen : List Spot → Bool → Bool → List Spot
  chosen xs acc low = elim xs [ [] ↦ cond acc [] (cond low (spot overlay a ∷ []) []) | x ∷ xs ↦ x ∷ xs ]

  -- a computed step is a decode step
  pub steps_then : (s : Spot) → Among s (steps k n a) → Step (net k m) (stands 0 n a) (placed s)
  steps_then s i = go (mapped k.maps n a) refl (accepting k.accepts n a) refl (leb overlay 32) refl s i
    where
      over : (low : Bool) → leb overlay 32 ≡ low → mapped k.maps n a ≡ [] → accepting k.accepts n a ≡ false → (s : Spot) → Among s (cond low (spot overlay a ∷ []) []) → Step (net k m) (stands 0 n a) (placed s)
      over true g e f s here =
          byOverlay first
          (λ b j c. both_ways (accepting k.accepts n a) f (block_accepts n a j c))
          (λ b j c. let t : Among (spot b.destination (b.base + (a - b.lo))) [] = subst (Among (spot b.destination (b.base + (a - b.lo)))) e (block_maps n a j c) in elim t [ ])
          (leb-true overlay 32 g) (lands_spot overlay a)
      over true g e f s (later i) = elim i [ ]
      over false g e f s i = elim i [ ]

      go : (xs : List Spot) → mapped k.maps n a ≡ xs → (acc : Bool) → accepting k.accepts n a ≡ acc → (low : Bool) → leb overlay 32 ≡ low
          → (s : Spot) → Among s (chosen xs acc low) → Step (net k m) (stands 0 n a) (placed s)
      go [] e true f low g s i = elim i [ ]
      go [] e false f low g s i = over low g e f s i
      go (x ∷ xs) e acc f low g s i =
          let t = maps_block n a k.maps s (subst (Among s) (sym e) i) in
          byMap first t.1 t.2 (subst (λ z. Lands 0 t.0.destination (t.0.base + (a - t.0.lo)) (placed z)) (sym t.3) (lands_spot t.0.destination (t.0.base + (a - t.0.lo))))

  steps-mapped : (s : Spot) → Among s (mapped k.maps n a) → Among s (steps k n a)
  steps-mapped s i = go (mapped k.maps n a) i
    where
      go : (xs : List Spot) → Among s xs → Among s (chosen xs (accepting k.accepts n a) (leb overlay 32))
      go [] i = elim i [ ]
      go (x ∷ xs) i = i

  no_maps : ((b : MapBlock) → Among b k.maps → Covers b.node b.lo b.hi n a → ⊥) → mapped k.maps n a ≡ []
  no_maps none = go (mapped k.maps n a) (λ s i. let t = maps_block n a k.maps s i in none t.0 t.1 t.2)
    where
      go : (xs : List Spot) → ((s : Spot) → Among s xs → ⊥) → xs ≡ []
      go [] h = refl
      go (x ∷ xs) h = absurd (h x here)

  no_accepts : ((b : AcceptBlock) → Among b k.accepts → Covers b.node b.lo b.hi n a → ⊥) → accepting k.accepts n a ≡ false
  no_accepts none = go (accepting k.accepts n a) refl
    where
      go : (z : Bool) → accepting k.accepts n a ≡ z → z ≡ false
      go true e = let t = accepts_block n a k.accepts e in absurd (none t.0 t.1 t.2)
      go false e = refl

  -- a decode step is a computed one
  pub then-steps : {q : Place} → Step (net k m) (stands 0 n a) q → (s : Spot) × Among s (steps k n a) × (q ≡ placed s)
  then-steps (byMap {b} first i c t) = (spot b.destination (b.base + (a - b.lo)), steps-mapped _ (block_maps n a i c), spot_lands t)
  then-steps (byOverlay first x y l t) = (
    spot overlay a,
    subst (λ z. Among (spot overlay a) (chosen z (accepting k.accepts n a) (leb overlay 32))) (sym (no_maps y))
        (subst (λ z. Among (spot overlay a) (cond z [] (cond (leb overlay 32) (spot overlay a ∷ []) []))) (sym (no_accepts x))
        (subst (λ z. Among (spot overlay a) (cond z (spot overlay a ∷ []) [])) (sym (le-leb overlay 32 l)) here)),
    spot_lands t,
  )
