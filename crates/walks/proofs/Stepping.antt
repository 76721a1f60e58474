-- The steps of a node one after another.
use Rattle.std.proofs.Common.{◌≡◌, ℕ, ◌+◌, ◌<◌, ◌≤◌, Bool, true, false, cond, leb, List, [], ◌∷◌, ◌++◌, map, length, get_or, drop, Some, None, Option, sym, refl, ap, ◌∙◌, arith}
use Rattle.std.proofs.lemmas.List.{append-nil, drop_all, length-map, length-take}
use Rattle.std.proofs.lemmas.Bool.{le-leb, lt-leb, ne_eqb}
use Rattle.lists.specs.declared.ArrayVec.{ArrayVec}
use Rattle.lists.specs.Held.{held}
use Rattle.blocks.specs.declared.stored.Mapped.{Mapped}
use Rattle.blocks.specs.Shape.{map_block}
use Rattle.blocks.specs.declared.destination.Destination.{Destination}
use Rattle.blocks.specs.declared.destination.Destination.TheVariants.{Node, Below}
use Rattle.blocks.specs.Destinations.{overlay_number, Known, OverlayKnown, spot_of}
use Rattle.model.specs.Nets.{Kept, Spot, node, below, spot, accepting, mapped, overlaid, steps}
use Rattle.walks.specs.declared.nodes.Step.{Step}
use Rattle.walks.specs.Steps.{over, rest, ByMap, Overlay, Next}

module _ (k : Kept) (n a : ℕ) where
  abbrev overlay : ℕ
  overlay = get_or k.overlays n 33

  abbrev chosen : List Spot → Bool → List Spot
  chosen xs acc = elim xs [ [] ↦ cond acc [] (overlaid overlay a) | x ∷ xs ↦ [] ]

  -- the steps are those from place 0 on
  pub rest_0 : rest k n a 0 ≡ steps k n a
  rest_0 = ap (λ b. mapped k.maps n a ++ cond b (over k n a) []) (le-leb 0 (length k.maps) (omega arith)) ∙ go (mapped k.maps n a)
    where
      go : (xs : List Spot)
          → xs ++ elim xs [ [] ↦ cond (accepting k.accepts n a) [] (overlaid (get_or k.overlays n 33) a) | x ∷ xs ↦ [] ]
          ≡ elim xs [ [] ↦ cond (accepting k.accepts n a) [] (overlaid (get_or k.overlays n 33) a) | x ∷ xs ↦ x ∷ xs ]
      go [] = refl
      go (x ∷ xs) = append-nil (x ∷ xs)

  -- the overlay's step
  pub over_accepts : true ≡ accepting k.accepts n a → over k n a ≡ []
  over_accepts e = ap (chosen (mapped k.maps n a)) (sym e) ∙ go (mapped k.maps n a)
    where
      go : (xs : List Spot) → chosen xs true ≡ []
      go [] = refl
      go (x ∷ xs) = refl

  pub over_maps : (s : Spot) (xs : List Spot) → mapped k.maps n a ≡ s ∷ xs → over k n a ≡ []
  over_maps s xs e = ap (λ l. chosen l (accepting k.accepts n a)) e

  at_number : false ≡ accepting k.accepts n a → mapped k.maps n a ≡ [] → over k n a ≡ overlaid overlay a
  at_number e f = ap (λ l. chosen l (accepting k.accepts n a)) f ∙ ap (chosen []) (sym e)

  -- by what is stored at the node: an overlay where it stands, and none past the end
  pub over_at : false ≡ accepting k.accepts n a → mapped k.maps n a ≡ [] → (o : Option Destination) → overlay_number o ≡ overlay → OverlayKnown o → Overlay k n a o
  over_at e f None is h = at_number e f ∙ ap (λ d. overlaid d a) (sym is)
  over_at e f (Some (Node m)) is h =
      let l : m < 32 = h m refl in
      (at_number e f ∙ ap (λ d. overlaid d a) (sym is) ∙ ap (λ b. cond b (spot m a ∷ []) []) (le-leb m 32 (omega arith)) ∙ ap (λ b. cond b (below a) (node m a) ∷ []) (ne_eqb m 32 (λ q. omega arith)), λ i q. h i (ap Some q))
  over_at e f (Some Below) is h = (at_number e f ∙ ap (λ d. overlaid d a) (sym is), λ i q. h i (ap Some q))

  -- past the overlay's place there is nothing
  pub rest-past : (i : ℕ) → length k.maps < i → rest k n a i ≡ []
  rest-past i h =
      ap (λ l. mapped l n a ++ cond (leb i (length k.maps)) (over k n a) []) (drop_all i k.maps (omega arith))
      ∙ ap (λ b. cond b (over k n a) []) (lt-leb i (length k.maps) h)

  -- a step by a map block, and then what is left
  pub next_map : (i : ℕ) (s : Step) → length k.maps ≤ 128 → i ≤ length k.maps → ByMap k.maps n a i s → Next k n a i s
  next_map i s few h b =
      let w = b.within in
      record {
        is = ap (λ l. l ++ cond (leb i (length k.maps)) (over k n a) []) b.is
            ∙ ap (λ z. spot_of s.destination s.address ∷ (mapped (drop s.next k.maps) n a ++ cond z (over k n a) []))
            (le-leb i (length k.maps) h ∙ sym (le-leb s.next (length k.maps) b.within));
        known = b.known;
        later = b.later;
        few = omega arith;
      }

  no_map : (i : ℕ) → i ≤ length k.maps → mapped (drop i k.maps) n a ≡ [] → rest k n a i ≡ over k n a
  no_map i h e = ap (λ l. l ++ cond (leb i (length k.maps)) (over k n a) []) e ∙ ap (λ b. cond b (over k n a) []) (le-leb i (length k.maps) h)

  pub next_none : (i : ℕ) → i ≤ length k.maps → mapped (drop i k.maps) n a ≡ [] → over k n a ≡ [] → rest k n a i ≡ []
  next_none i h e o = no_map i h e ∙ o

  pub next_over : (i : ℕ) (s : Step) → length k.maps ≤ 128 → i ≤ length k.maps → mapped (drop i k.maps) n a ≡ [] → s.next ≡ length k.maps + 1
      → over k n a ≡ spot_of s.destination s.address ∷ [] → Known s.destination → Next k n a i s
  next_over i s few h e p o d = record {
    is = no_map i h e ∙ o ∙ ap (λ l. spot_of s.destination s.address ∷ l) (sym (rest-past s.next (omega arith)));
    known = d;
    later = omega arith;
    few = omega arith;
  }

-- how many stored blocks there are
pub length-kept : {X Y : Type 0} (f : X → Y) (xs ys : List X) → xs ≡ ys → length (map f ys) ≡ length xs
length-kept f xs ys e = length-map ys f ∙ sym (ap length e)

pub few_maps : (v : ArrayVec Mapped 128) → length (map map_block (held v)) ≤ 128
few_maps v =
    let l = length-map (held v) map_block in
    let t = length-take v.len v.items in
    let o = v.ok.0 in
    omega arith
