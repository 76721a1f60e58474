-- What a walk meets: its first spots, and with every spot the steps from it, and nothing else.
use Rattle.std.proofs.Common.{◌≡◌, ℕ, ◌+◌, ◌-◌, ◌<◌, ◌≤◌, Bool, true, false, cond, ◌&&◌, eqb, leb, ◌⊎◌, List, [], ◌∷◌, ◌++◌, get_or, refl, inl, inr, arith}
use Rattle.std.specs.List.{AllByRecursion}
use Rattle.std.proofs.lemmas.Bool.{and_parts, leb-true}
use Rattle.model.specs.declared.blocks.MapBlock.{MapBlock}
use Rattle.model.specs.Names.{top}
use Rattle.model.specs.Nets.{Kept, Spot, node, below, spot, within, accepting, mapped, overlaid, steps, TargetFits, Formed}
use Rattle.model.specs.Walks.{Walk, done, arrives, goes_on}
use Rattle.model.specs.Decoding.{Among, here, later}

pub among_left : {A : Type 0} {s : A} {xs : List A} → Among s xs → (ys : List A) → Among s (xs ++ ys)
among_left here ys = here
among_left (later i) ys = later (among_left i ys)

pub among_right : {A : Type 0} {s : A} (xs : List A) {ys : List A} → Among s ys → Among s (xs ++ ys)
among_right [] i = i
among_right (x ∷ xs) i = later (among_right xs i)

pub among_either : {A : Type 0} {s : A} (xs ys : List A) → Among s (xs ++ ys) → Among s xs ⊎ Among s ys
among_either [] ys i = inr i
among_either (x ∷ xs) ys here = inl here
among_either (x ∷ xs) ys (later i) = elim (among_either xs ys i) [ inl j ↦ inl (later j) | inr j ↦ inr j ]

module _ (k : Kept) where
  -- the first spots are met
  pub walk_first : {xs met : List Spot} → Walk k xs met → {s : Spot} → Among s xs → Among s met
  walk_first done i = i
  walk_first (arrives w) here = here
  walk_first (arrives w) (later i) = later (walk_first w i)
  walk_first (goes_on u w) here = here
  walk_first (goes_on {down} u w) (later i) = later (among_right down (walk_first w i))

  -- the steps from a node that is met are met
  pub walk_closed : {n a : ℕ} {s : Spot} → Among s (steps k n a) → {xs met : List Spot} → Walk k xs met → Among (node n a) met → Among s met
  walk_closed t done i = elim i [ ]
  walk_closed t (arrives w) (later i) = later (walk_closed t w i)
  walk_closed t (goes_on {met} u w) here = later (among_left (walk_first u t) met)
  walk_closed t (goes_on {down} {met} u w) (later i) =
      later (elim (among_either down met i) [ inl j ↦ among_left (walk_closed t u j) met | inr j ↦ among_right down (walk_closed t w j) ])

  -- what holds of the first spots and goes on with every step holds of all that is met
  module _ (R : Spot → Type 0) (on : (n a : ℕ) (s : Spot) → R (node n a) → Among s (steps k n a) → R s) where
    pub walk_each : {xs met : List Spot} → Walk k xs met → ((s : Spot) → Among s xs → R s) → (s : Spot) → Among s met → R s
    walk_each done r s i = r s i
    walk_each (arrives w) r s here = r s here
    walk_each (arrives w) r s (later i) = walk_each w (λ s i. r s (later i)) s i
    walk_each (goes_on u w) r s here = r s here
    walk_each (goes_on {n} {a} {down} {met} u w) r s (later i) =
        elim (among_either down met i) [
          | inl j ↦ walk_each u (λ s i. on n a s (r (node n a) here) i) s j
          | inr j ↦ walk_each w (λ s i. r s (later i)) s j
        ]

-- addresses stay below the top
abbrev pub at : Spot → ℕ
at (node n a) = a
at (below a) = a

at_spot : (d a : ℕ) → at (spot d a) ≡ a
at_spot d a = go (eqb d 32)
  where
    go : (b : Bool) → at (cond b (below a) (node d a)) ≡ a
    go true = refl
    go false = refl

module _ (n a : ℕ) (l : a < top) where
  sent_low : (b : MapBlock) → TargetFits b.lo b.hi b.base → (eqb b.node n && within b.lo b.hi a) ≡ true → at (spot b.destination (b.base + (a - b.lo))) < top
  sent_low b f e =
      let p = and_parts (eqb b.node n) (within b.lo b.hi a) e in
      let q = and_parts (leb b.lo a) (leb a b.hi) p.1 in
      let h : b.lo ≤ a = leb-true b.lo a q.0 in
      let i : a ≤ b.hi = leb-true a b.hi q.1 in
      let j = at_spot b.destination (b.base + (a - b.lo)) in
      omega arith

  mapped_low : (bs : List MapBlock) → AllByRecursion (λ b. TargetFits b.lo b.hi b.base) bs → (s : Spot) → Among s (mapped bs n a) → at s < top
  mapped_low [] f s i = elim i [ ]
  mapped_low (b ∷ bs) f s i = go (eqb b.node n && within b.lo b.hi a) refl (mapped bs n a) (mapped_low bs f.1) s i
    where
      go : (c : Bool) → (eqb b.node n && within b.lo b.hi a) ≡ c → (rest : List Spot) → ((s : Spot) → Among s rest → at s < top)
          → (s : Spot) → Among s (cond c (spot b.destination (b.base + (a - b.lo)) ∷ rest) rest) → at s < top
      go true e rest ih s here = sent_low b f.0 e
      go true e rest ih s (later i) = ih s i
      go false e rest ih s i = ih s i

  overlaid_low : (d : ℕ) (s : Spot) → Among s (overlaid d a) → at s < top
  overlaid_low d s i = go (leb d 32) s i
    where
      go : (c : Bool) (s : Spot) → Among s (cond c (spot d a ∷ []) []) → at s < top
      go true s here = let j = at_spot d a in omega arith
      go true s (later i) = elim i [ ]
      go false s i = elim i [ ]

  pub steps_low : (k : Kept) → Formed k → (s : Spot) → Among s (steps k n a) → at s < top
  steps_low k f s i = go (mapped k.maps n a) (mapped_low k.maps f.targets_fit) s i
    where
      over : (c : Bool) (s : Spot) → Among s (cond c [] (overlaid (get_or k.overlays n 33) a)) → at s < top
      over true s i = elim i [ ]
      over false s i = overlaid_low (get_or k.overlays n 33) s i

      go : (xs : List Spot) → ((s : Spot) → Among s xs → at s < top) → (s : Spot)
          → Among s (elim xs [ [] ↦ cond (accepting k.accepts n a) [] (overlaid (get_or k.overlays n 33) a) | x ∷ xs ↦ x ∷ xs ]) → at s < top
      go [] ih s i = over (accepting k.accepts n a) s i
      go (x ∷ xs) ih s i = ih s i

pub walk_low : (k : Kept) → Formed k → (n a : ℕ) → a < top → {met : List Spot} → Walk k (node n a ∷ []) met → (s : Spot) → Among s met → at s < top
walk_low k f n a l w = walk_each k (λ s. at s < top) (λ n a s h i. steps_low n a h k f s i) w start
  where
    start : (s : Spot) → Among s (node n a ∷ []) → at s < top
    start s here = l
    start s (later i) = elim i [ ]
