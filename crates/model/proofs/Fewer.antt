-- Nets that take some of another's steps.
use Rattle.std.proofs.Common.{◌≡◌, ℕ, ◌+◌, ◌-◌, ◌<◌, ◌≤◌, Bool, true, false, cond, ◌&&◌, eqb, ◌⊎◌, List, [], ◌∷◌, ◌++◌, length, get_or, replicate, sym, refl, ap, ◌∙◌, subst, inl, inr, arith}
use Rattle.std.proofs.lemmas.Bool.{cases_lt, cases_eq, ne_eqb, eqb-true, and_parts}
use Rattle.std.proofs.lemmas.List.{length-append, get_or-replicate, get_or_past}
use Rattle.model.specs.declared.blocks.MapBlock.{MapBlock}
use Rattle.model.specs.Nets.{Kept, Spot, node, below, spot, within, accepting, mapped, overlaid, steps}
use Rattle.model.specs.Walks.{Walk, done, arrives, goes_on, Sublist, empty, skip, keep, FewerSteps, Bounded}
use Rattle.model.specs.Edits.{without, same_map, with_maps, with_overlays}
use Rattle.model.specs.Laws.{FewerWalkLess}
use Rattle.model.proofs.Bounds.{bound_walked, walked_bound}

pub all_of : {X : Type 0} (xs : List X) → Sublist xs xs
all_of [] = empty
all_of (x ∷ xs) = keep (all_of xs)

pub none_of : {X : Type 0} (ys : List X) → Sublist [] ys
none_of [] = empty
none_of (y ∷ ys) = skip (none_of ys)

module _ (less k : Kept) (fewer : FewerSteps less k) where
  walks_less : {ys met : List Spot} → Walk k ys met → (xs : List Spot) → Sublist xs ys → (us : List Spot) × Walk less xs us × (length us ≤ length met)
  walks_less done xs empty = ([], done, omega arith)
  walks_less (arrives {a} w) xs (skip h) = let p = walks_less w xs h in let l = p.2 in (p.0, p.1, omega arith)
  walks_less (arrives {a} w) (x ∷ xs) (keep h) = let p = walks_less w xs h in let l = p.2 in (below a ∷ p.0, arrives p.1, omega arith)
  walks_less (goes_on {n} {a} {rest} {down} {met} u w) xs (skip h) =
      let p = walks_less w xs h in let l = p.2 in (p.0, p.1, omega (arith, length-append down met))
  walks_less (goes_on {n} {a} {rest} {down} {met} u w) (x ∷ xs) (keep h) =
      let p = walks_less u (steps less n a) (fewer n a) in
      let q = walks_less w xs h in
      let l = p.2 in
      let m = q.2 in
      (node n a ∷ (p.0 ++ q.0), goes_on p.1 q.1, omega (arith, length-append down met, length-append p.0 q.0))

  -- a bound on the walks of a net holds for those of a net with fewer steps
  pub less_bound : Bounded k → Bounded less
  less_bound b =
      walked_bound less (λ n a h l.
      let p = bound_walked k b n a h l in
      let t = walks_less p.1 (node n a ∷ []) (all_of (node n a ∷ [])) in
      let i = p.2 in
      let j = t.2 in
      (t.0, t.1, omega arith))

pub fewer_walk_less_lem : FewerWalkLess
fewer_walk_less_lem less k fewer spots met w = walks_less less k fewer w spots (all_of spots)

-- the steps of a name by those of its map blocks, and the overlay's, which an accept block takes away
abbrev pub chosen : List Spot → Bool → List Spot → List Spot
chosen xs accepted over = elim xs [ [] ↦ cond accepted [] over | x ∷ xs ↦ x ∷ xs ]

-- no overlay at a node
pub none_over : (n : ℕ) → ◌≡◌ {A = ℕ} (get_or (replicate 32 33) n 33) 33
none_over n = go (cases_lt n 32)
  where
    go : (n < 32) ⊎ (32 ≤ n) → ◌≡◌ {A = ℕ} (get_or (replicate 32 33) n 33) 33
    go (inl h) = get_or-replicate 32 n 33 33 h
    go (inr h) = get_or_past (replicate 32 33) n 33 (omega arith)

-- fewer map blocks, where no overlay takes their place
chosen_less : (xs ys : List Spot) (accepted : Bool) (over : List Spot) → Sublist xs ys → Sublist (chosen xs accepted []) (chosen ys accepted over)
chosen_less [] ys true over h = none_of (chosen ys true over)
chosen_less [] ys false over h = none_of (chosen ys false over)
chosen_less (x ∷ xs) [] accepted over h = elim h [ ]
chosen_less (x ∷ xs) (y ∷ ys) accepted over h = h

maps_less : (n a : ℕ) (ms ns : List MapBlock) → Sublist (mapped ms n a) (mapped (ms ++ ns) n a)
maps_less n a [] ns = none_of (mapped ns n a)
maps_less n a (m ∷ ms) ns = go (eqb m.node n && within m.lo m.hi a) (maps_less n a ms ns)
  where
    go : (b : Bool) → Sublist (mapped ms n a) (mapped (ms ++ ns) n a)
        → Sublist (cond b (spot m.destination (m.base + (a - m.lo)) ∷ mapped ms n a) (mapped ms n a))
        (cond b (spot m.destination (m.base + (a - m.lo)) ∷ mapped (ms ++ ns) n a) (mapped (ms ++ ns) n a))
    go true ih = keep ih
    go false ih = ih

-- the first of the map blocks, and no overlays
pub first_maps : (k : Kept) (ms ns : List MapBlock) → k.maps ≡ ms ++ ns → FewerSteps (with_overlays (with_maps k ms) (replicate 32 33)) k
first_maps k ms ns e n a =
    let acc = accepting k.accepts n a in
    let over = overlaid (get_or k.overlays n 33) a in
    subst (λ d. Sublist (chosen (mapped ms n a) acc (overlaid d a)) (chosen (mapped k.maps n a) acc over)) (sym (none_over n))
    (subst (λ l. Sublist (chosen (mapped ms n a) acc []) (chosen (mapped l n a) acc over)) (sym e)
    (chosen_less (mapped ms n a) (mapped (ms ++ ns) n a) acc over (maps_less n a ms ns)))

-- some of the overlays
pub some_overlays : (k : Kept) (ds : List ℕ) → ((n : ℕ) → (get_or ds n 33 ≡ get_or k.overlays n 33) ⊎ (get_or ds n 33 ≡ 33)) → FewerSteps (with_overlays k ds) k
some_overlays k ds h n a = go (h n)
  where
    unset : (xs : List Spot) (b : Bool) → Sublist (chosen xs b []) (chosen xs b (overlaid (get_or k.overlays n 33) a))
    unset [] true = empty
    unset [] false = none_of (overlaid (get_or k.overlays n 33) a)
    unset (x ∷ xs) b = all_of (x ∷ xs)

    go : (get_or ds n 33 ≡ get_or k.overlays n 33) ⊎ (get_or ds n 33 ≡ 33)
        → Sublist (chosen (mapped k.maps n a) (accepting k.accepts n a) (overlaid (get_or ds n 33) a))
        (chosen (mapped k.maps n a) (accepting k.accepts n a) (overlaid (get_or k.overlays n 33) a))
    go (inl e) = subst (λ d. Sublist (chosen (mapped k.maps n a) (accepting k.accepts n a) (overlaid (get_or ds n 33) a)) (chosen (mapped k.maps n a) (accepting k.accepts n a) (overlaid d a))) e
        (all_of (chosen (mapped k.maps n a) (accepting k.accepts n a) (overlaid (get_or ds n 33) a)))
    go (inr e) = subst (λ d. Sublist (chosen (mapped k.maps n a) (accepting k.accepts n a) (overlaid d a)) (chosen (mapped k.maps n a) (accepting k.accepts n a) (overlaid (get_or k.overlays n 33) a))) (sym e)
        (unset (mapped k.maps n a) (accepting k.accepts n a))

-- one map block less, at a node that has no overlay to take its place
maps_without : (p : MapBlock → Bool) (n a : ℕ) (ms : List MapBlock) → Sublist (mapped (without p ms) n a) (mapped ms n a)
maps_without p n a [] = empty
maps_without p n a (m ∷ ms) = go (p m) (eqb m.node n && within m.lo m.hi a) refl (maps_without p n a ms)
  where
    go : (b c : Bool) → (eqb m.node n && within m.lo m.hi a) ≡ c → Sublist (mapped (without p ms) n a) (mapped ms n a)
        → Sublist (mapped (cond b ms (m ∷ without p ms)) n a) (cond c (spot m.destination (m.base + (a - m.lo)) ∷ mapped ms n a) (mapped ms n a))
    go true true e ih = skip (all_of (mapped ms n a))
    go true false e ih = all_of (mapped ms n a)
    go false true e ih = subst (λ z. Sublist (cond z (spot m.destination (m.base + (a - m.lo)) ∷ mapped (without p ms) n a) (mapped (without p ms) n a)) (spot m.destination (m.base + (a - m.lo)) ∷ mapped ms n a)) (sym e) (keep ih)
    go false false e ih = subst (λ z. Sublist (cond z (spot m.destination (m.base + (a - m.lo)) ∷ mapped (without p ms) n a) (mapped (without p ms) n a)) (mapped ms n a)) (sym e) ih

maps_elsewhere : (b : MapBlock) (n a : ℕ) → (b.node ≡ n → ⊥) → (ms : List MapBlock) → mapped (without (same_map b) ms) n a ≡ mapped ms n a
maps_elsewhere b n a ne [] = refl
maps_elsewhere b n a ne (m ∷ ms) = go (same_map b m) refl (maps_elsewhere b n a ne ms)
  where
    x : Spot
    x = spot m.destination (m.base + (a - m.lo))

    go : (c : Bool) → same_map b m ≡ c → mapped (without (same_map b) ms) n a ≡ mapped ms n a
        → mapped (cond c ms (m ∷ without (same_map b) ms)) n a ≡ mapped (m ∷ ms) n a
    go true e ih =
        let same : b.node ≡ m.node = eqb-true b.node m.node (and_parts (eqb b.node m.node) _ e).0 in
        let off : eqb m.node n ≡ false = ne_eqb m.node n (λ q. ne (same ∙ q)) in
        sym (ap (λ z. cond (z && within m.lo m.hi a) (x ∷ mapped ms n a) (mapped ms n a)) off)
    go false e ih = ap (λ l. cond (eqb m.node n && within m.lo m.hi a) (x ∷ l) l) ih

pub map_dropped : (k : Kept) (b : MapBlock) → get_or k.overlays b.node 33 ≡ 33 → FewerSteps (with_maps k (without (same_map b) k.maps)) k
map_dropped k b bare n a = go (cases_eq b.node n)
  where
    go : (b.node ≡ n) ⊎ (b.node ≡ n → ⊥)
        → Sublist (chosen (mapped (without (same_map b) k.maps) n a) (accepting k.accepts n a) (overlaid (get_or k.overlays n 33) a))
        (chosen (mapped k.maps n a) (accepting k.accepts n a) (overlaid (get_or k.overlays n 33) a))
    go (inl e) =
        let none : get_or k.overlays n 33 ≡ 33 = subst (λ i. get_or k.overlays i 33 ≡ 33) e bare in
        subst (λ d. Sublist (chosen (mapped (without (same_map b) k.maps) n a) (accepting k.accepts n a) (overlaid d a)) (chosen (mapped k.maps n a) (accepting k.accepts n a) (overlaid d a))) (sym none)
        (chosen_less (mapped (without (same_map b) k.maps) n a) (mapped k.maps n a) (accepting k.accepts n a) [] (maps_without (same_map b) n a k.maps))
    go (inr ne) =
        subst (λ l. Sublist (chosen l (accepting k.accepts n a) (overlaid (get_or k.overlays n 33) a)) (chosen (mapped k.maps n a) (accepting k.accepts n a) (overlaid (get_or k.overlays n 33) a))) (sym (maps_elsewhere b n a ne k.maps))
        (all_of (chosen (mapped k.maps n a) (accepting k.accepts n a) (overlaid (get_or k.overlays n 33) a)))
