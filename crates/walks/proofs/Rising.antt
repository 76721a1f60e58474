-- Up to its span, a walk from higher is the same walk, all of it higher.
use Rattle.std.proofs.Common.{◌≡◌, ℕ, ◌+◌, ◌-◌, ◌≤◌, min, Bool, true, false, cond, ◌||◌, eqb, leb, List, [], ◌∷◌, ◌++◌, map, get_or, sym, refl, ap, ◌∙◌, subst, arith}
use mathlib.Core.Option.{some}
use Rattle.std.proofs.lemmas.Bool.{and_parts, leb-true}
use Rattle.std.proofs.lemmas.Bool.Decides.{nat_tests}
use Rattle.std.proofs.lemmas.List.{map-append, length-map}
use Rattle.model.specs.declared.blocks.AcceptBlock.{AcceptBlock}
use Rattle.model.specs.declared.blocks.MapBlock.{MapBlock}
use Rattle.model.specs.Nets.{Kept, Spot, node, below, spot, within, accepting, mapped, overlaid, steps}
use Rattle.model.specs.Model.{own}
use Rattle.model.specs.Walks.{Walk, done, arrives, goes_on, trace}
use Rattle.model.proofs.Walking.{sound, complete}
use Rattle.walks.specs.declared.notes.Note.{Note}
use Rattle.walks.specs.declared.notes.Note.TheVariants.{Own, Arrival}
use Rattle.walks.specs.Spans.{covers, room, accept_room, map_room, nearest, reach, spans, lifted}
use Rattle.walks.specs.Noted.{noted, note_up}

covers_up : (its lo hi n a d : ℕ) → d ≤ room its lo hi n a → covers its lo hi n (a + d) ≡ covers its lo hi n a
covers_up its lo hi n a d h = grind (arith, nat_tests)

pub spot_up : (destination a d : ℕ) → spot destination (a + d) ≡ lifted d (spot destination a)
spot_up destination a d = go (eqb destination 32)
  where
    go : (b : Bool) → cond b (below (a + d)) (node destination (a + d)) ≡ lifted d (cond b (below a) (node destination a))
    go true = refl
    go false = refl

module _ (n a d : ℕ) where
  accepting_up : (bs : List AcceptBlock) → d ≤ nearest (accept_room n a) bs → accepting bs n (a + d) ≡ accepting bs n a
  accepting_up [] h = refl
  accepting_up (b ∷ bs) h =
      ap (λ c. c || accepting bs n (a + d)) (covers_up b.node b.lo b.hi n a d (omega arith))
      ∙ ap (λ c. covers b.node b.lo b.hi n a || c) (accepting_up bs (omega arith))

  map_one : (b : MapBlock) (c : Bool) → covers b.node b.lo b.hi n a ≡ c → (xs : List Spot)
      → cond c (spot b.destination (b.base + (a + d - b.lo)) ∷ map (lifted d) xs) (map (lifted d) xs)
      ≡ map (lifted d) (cond c (spot b.destination (b.base + (a - b.lo)) ∷ xs) xs)
  map_one b true e xs =
      let p = and_parts (eqb b.node n) (within b.lo b.hi a) e in
      let q = and_parts (leb b.lo a) (leb a b.hi) p.1 in
      let l : b.lo ≤ a = leb-true b.lo a q.0 in
      let s : b.base + (a + d - b.lo) ≡ b.base + (a - b.lo) + d = omega arith in
      ap (λ z. z ∷ map (lifted d) xs) (ap (spot b.destination) s ∙ spot_up b.destination (b.base + (a - b.lo)) d)
  map_one b false e xs = refl

  mapped_up : (bs : List MapBlock) → d ≤ nearest (map_room n a) bs → mapped bs n (a + d) ≡ map (lifted d) (mapped bs n a)
  mapped_up [] h = refl
  mapped_up (b ∷ bs) h =
      ap (λ c. cond c (spot b.destination (b.base + (a + d - b.lo)) ∷ mapped bs n (a + d)) (mapped bs n (a + d))) (covers_up b.node b.lo b.hi n a d (omega arith))
      ∙ ap (λ l. cond (covers b.node b.lo b.hi n a) (spot b.destination (b.base + (a + d - b.lo)) ∷ l) l) (mapped_up bs (omega arith))
      ∙ map_one b (covers b.node b.lo b.hi n a) refl (mapped bs n a)

  overlaid_up : (o : ℕ) → overlaid o (a + d) ≡ map (lifted d) (overlaid o a)
  overlaid_up o = go (leb o 32)
    where
      go : (b : Bool) → cond b (spot o (a + d) ∷ []) [] ≡ map (lifted d) (cond b (spot o a ∷ []) [])
      go true = ap (λ z. z ∷ []) (spot_up o a d)
      go false = refl

  module _ (k : Kept) (h : d ≤ reach k n a) where
    abbrev chosen : Bool → ℕ → List Spot → List Spot
    chosen acc b xs = elim xs [ [] ↦ cond acc [] (overlaid (get_or k.overlays n 33) b) | x ∷ xs ↦ x ∷ xs ]

    accepts_up : accepting k.accepts n (a + d) ≡ accepting k.accepts n a
    accepts_up = accepting_up k.accepts (omega arith)

    chosen_up : (acc : Bool) (xs : List Spot) → chosen acc (a + d) (map (lifted d) xs) ≡ map (lifted d) (chosen acc a xs)
    chosen_up true [] = refl
    chosen_up false [] = overlaid_up (get_or k.overlays n 33)
    chosen_up acc (x ∷ xs) = refl

    pub steps_up : steps k n (a + d) ≡ map (lifted d) (steps k n a)
    steps_up =
        ap (chosen (accepting k.accepts n (a + d)) (a + d)) (mapped_up k.maps (omega arith))
        ∙ ap (λ c. chosen c (a + d) (map (lifted d) (mapped k.maps n a))) accepts_up
        ∙ chosen_up (accepting k.accepts n a) (mapped k.maps n a)

module _ (k : Kept) where
  pub spans-++ : (s : ℕ) (us vs : List Spot) → spans k s (us ++ vs) ≡ spans k (spans k s us) vs
  spans-++ s [] vs = refl
  spans-++ s (node n a ∷ us) vs = spans-++ (min s (reach k n a)) us vs
  spans-++ s (below a ∷ us) vs = spans-++ s us vs

  pub spans_le : (s : ℕ) (vs : List Spot) → spans k s vs ≤ s
  spans_le s [] = omega arith
  spans_le s (node n a ∷ vs) = let i = spans_le (min s (reach k n a)) vs in omega arith
  spans_le s (below a ∷ vs) = spans_le s vs

  module _ (d : ℕ) where
    walks_up : {xs vs : List Spot} → Walk k xs vs → (s : ℕ) → d ≤ spans k s vs → Walk k (map (lifted d) xs) (map (lifted d) vs)
    walks_up done s h = done
    walks_up (arrives w) s h = arrives (walks_up w s h)
    walks_up (goes_on {n} {a} {rest} {down} {met} u w) s h =
        let r = min s (reach k n a) in
        let e : spans k r (down ++ met) ≡ spans k (spans k r down) met = spans-++ r down met in
        let l1 : spans k (spans k r down) met ≤ spans k r down = spans_le (spans k r down) met in
        let l2 : spans k r down ≤ r = spans_le r down in
        let j : d ≤ reach k n a = omega arith in
        let u' : Walk k (steps k n (a + d)) (map (lifted d) down) = subst (λ l. Walk k l (map (lifted d) down)) (sym (steps_up n a d k j)) (walks_up u r (omega arith)) in
        let w' : Walk k (map (lifted d) rest) (map (lifted d) met) = walks_up w (spans k r down) (omega arith) in
        subst (λ l. Walk k (node n (a + d) ∷ map (lifted d) rest) (node n (a + d) ∷ l)) (sym (map-append (lifted d) down met)) (goes_on u' w')

    pub trace_up : (n a allowed s : ℕ) (met : List Spot) → trace k allowed (node n a ∷ []) ≡ some met → d ≤ spans k s met → trace k allowed (node n (a + d) ∷ []) ≡ some (map (lifted d) met)
    trace_up n a allowed s met e h =
        let p = sound k allowed (node n a ∷ []) met e in
        let l = p.1 in
        complete k (walks_up p.0 s h) allowed (let m = length-map met (lifted d) in omega arith)

    noted_one : (n a : ℕ) (c : Bool) (xs : List Note) → cond c (Own (own k n (a + d)) ∷ map (note_up d) xs) (map (note_up d) xs) ≡ map (note_up d) (cond c (Own (own k n a) ∷ xs) xs)
    noted_one n a true xs = refl
    noted_one n a false xs = refl

    pub noted_up : (s : ℕ) (met : List Spot) → d ≤ spans k s met → noted k (map (lifted d) met) ≡ map (note_up d) (noted k met)
    noted_up s [] h = refl
    noted_up s (node n a ∷ met) h =
        let i = spans_le (min s (reach k n a)) met in
        ap (λ c. cond c (Own (own k n (a + d)) ∷ noted k (map (lifted d) met)) (noted k (map (lifted d) met))) (accepts_up n a d k (omega arith))
        ∙ ap (λ l. cond (accepting k.accepts n a) (Own (own k n (a + d)) ∷ l) l) (noted_up (min s (reach k n a)) met h)
        ∙ noted_one n a (accepting k.accepts n a) (noted k met)
    noted_up s (below a ∷ met) h = ap (λ l. Arrival (a + d) ∷ l) (noted_up s met h)
