-- The lists of a stack have exactly the names that decoding gives.
use Rattle.std.proofs.Common.{◌≡◌, ℕ, suc, ◌+◌, ◌-◌, ◌<◌, ◌≤◌, Bool, true, false, cond, leb, List, [], ◌∷◌, map, sym, refl, ap, ◌∙◌, subst, arith}
use Rattle.std.proofs.lemmas.Bool.{and_parts, and_from, leb-true, le-leb, false≢true}
use Rattle.model.specs.declared.names.Name.{Name}
use Rattle.model.specs.Names.{top, holds, renamed}
use Rattle.model.specs.Nets.{Kept, Spot, node, below, within}
use Rattle.model.specs.Walks.{Walk}
use Rattle.model.specs.Model.{Model, bottom, net, window, renaming, own, gathered, walked, lists, Sound}
use Rattle.model.specs.Decoding.{Among, here, later, Place, comes, stands, Layer, first, netBelow, windowBelow, renamingBelow, enters, shifts, passes, Reaches, stays, goes, Accepts, byNode, byBottom, depth, given, Decodes}
use Rattle.model.proofs.Walking.{complete}
use Rattle.model.proofs.Bounds.{bound_walked}
use Rattle.model.proofs.Meeting.{walk_first, walk_closed, walk_each, walk_low}
use Rattle.model.proofs.Gathering.{holds-map, map-holds, Found, at_node, from_below, gathered-found, gathers_below, gathers_node}
use Rattle.model.proofs.Stepping.{placed, steps_then, then-steps, block_accepts, accepts_block}
use Rattle.model.proofs.Deeper.{deeper, depth_deeper, then, reaches_down, accepts_down, deep_comes, deep_depth, reaches_up, accepts_up}

-- a layer m over l, which gives a name of l by f
module _ (m l : Model) (down : (d : ℕ) (x : Model) → Layer l d x → Layer m (suc d) x) (up : (d : ℕ) (x : Model) → Layer m (suc d) x → Layer l d x)
    (f : Name → Name) (gives : (d : ℕ) (x : Name) → given m (suc d) x ≡ f (given l d x)) where
  decodes_down : (a b : ℕ) (x y : Name) → Reaches m (comes 0 a) (comes 1 b) → Decodes l b y → x ≡ f y → Decodes m a x
  decodes_down a b x y r (p, z, t, acc, e) g = (
    deeper p,
    z,
    then r (reaches_down m l down t),
    accepts_down m l down acc,
    g ∙ ap f e ∙ sym (gives (depth p) z) ∙ ap (λ d. given m d z) (sym (depth_deeper p)),
  )

  decodes_up : (b : ℕ) {p : Place} {y : Name} → Reaches m (comes 1 b) p → Accepts m p y → (z : Name) × Decodes l b z × (given m (depth p) y ≡ f z)
  decodes_up b {p} {y} r acc =
      let t = reaches_up m l up r deep_comes in
      (given l (depth t.0) y, (t.0, y, t.1, accepts_up m l up t.2 acc, refl), ap (λ d. given m d y) (deep_depth t.2) ∙ gives (depth t.0) y)

module _ (k : Kept) (m : Model) where
  net_up : (d : ℕ) (x : Model) → Layer (net k m) (suc d) x → Layer m d x
  net_up d x (netBelow h) = h

  net_down : (d : ℕ) (x : Model) → Layer m d x → Layer (net k m) (suc d) x
  net_down d x h = netBelow h

  -- a place that the walk meets
  data Met (met : List Spot) : Place → Type 0 where
    stood : {n a : ℕ} → Among (node n a) met → Met met (stands 0 n a)
    left : {a : ℕ} → Among (below a) met → Met met (comes 1 a)

  met_placed : (met : List Spot) (s : Spot) → Among s met → Met met (placed s)
  met_placed met (node n a) i = stood i
  met_placed met (below a) i = left i

  module _ (a : ℕ) (met : List Spot) (w : Walk k (node k.entry a ∷ []) met) where
    reached : (s : Spot) → Among s met → Reaches (net k m) (comes 0 a) (placed s)
    reached = walk_each k (λ s. Reaches (net k m) (comes 0 a) (placed s)) (λ n b s r i. then r (goes (steps_then k m n b s i) stays)) w start
      where
        start : (s : Spot) → Among s (node k.entry a ∷ []) → Reaches (net k m) (comes 0 a) (placed s)
        start s here = goes (enters first) stays
        start s (later i) = elim i [ ]

    module _ (ih : (b : ℕ) → Among (below b) met → (x : Name) → holds (lists m b) x ≡ true → Decodes m b x) where
      net_finds : (x : Name) → Found k (lists m) met x → Decodes (net k m) a x
      net_finds x (at_node n b i e f) =
          let t = accepts_block n b k.accepts e in
          (stands 0 n b, own k n b, reached (node n b) i, byNode first t.1 t.2, f)
      net_finds x (from_below b i h) = decodes_down (net k m) m net_down net_up (λ y. y) (λ d y. refl) a b x x (reached (below b) i) (ih b i x h) refl

    module _ (ih : (b : ℕ) → Among (below b) met → (x : Name) → Decodes m b x → holds (lists m b) x ≡ true) where
      found : {p q : Place} {y : Name} → Met met p → Reaches (net k m) p q → Accepts (net k m) q y → holds (gathered k (lists m) met) (given (net k m) (depth q) y) ≡ true
      found (left {a = b} i) r acc =
          let t = decodes_up (net k m) m net_down net_up (λ y. y) (λ d y. refl) b r acc in
          ap (holds (gathered k (lists m) met)) t.2 ∙ gathers_below k (lists m) t.0 b (ih b i t.0 t.1) i
      found (stood {n} {a = b} i) stays (byNode first j c) = gathers_node k (lists m) (own k n b) n b (block_accepts n b j c) refl i
      found (stood {n} {a = b} i) (goes s r) acc =
          let t = then-steps k m n b s in
          found (subst (Met met) (sym t.2) (met_placed met t.0 (walk_closed k t.1 w i))) r acc

      net_found : {p : Place} {y : Name} → Reaches (net k m) (comes 0 a) p → Accepts (net k m) p y → holds (gathered k (lists m) met) (given (net k m) (depth p) y) ≡ true
      net_found stays (byBottom h e) = elim h [ ]
      net_found (goes (enters first) r) acc = found (stood (walk_first k w here)) r acc
      net_found (goes (shifts h i j) r) acc = elim h [ ]
      net_found (goes (passes h) r) acc = elim h [ ]

module _ (lo hi base : ℕ) (m : Model) where
  window_up : (d : ℕ) (x : Model) → Layer (window lo hi base m) (suc d) x → Layer m d x
  window_up d x (windowBelow h) = h

  window_down : (d : ℕ) (x : Model) → Layer m d x → Layer (window lo hi base m) (suc d) x
  window_down d x h = windowBelow h

  window_found : (a : ℕ) → (lo ≤ a → a ≤ hi → (x : Name) → Decodes m (base + (a - lo)) x → holds (lists m (base + (a - lo))) x ≡ true)
      → {p : Place} {y : Name} → Reaches (window lo hi base m) (comes 0 a) p → Accepts (window lo hi base m) p y
      → holds (cond (within lo hi a) (lists m (base + (a - lo))) []) (given (window lo hi base m) (depth p) y) ≡ true
  window_found a ih stays (byBottom h e) = elim h [ ]
  window_found a ih (goes (enters h) r) acc = elim h [ ]
  window_found a ih {p} {y} (goes (shifts first i j) r) acc =
      let t = decodes_up (window lo hi base m) m window_down window_up (λ y. y) (λ d y. refl) (base + (a - lo)) r acc in
      let b : within lo hi a ≡ true = and_from (leb lo a) (leb a hi) (le-leb lo a i) (le-leb a hi j) in
      ap (λ c. holds (cond c (lists m (base + (a - lo))) []) (given (window lo hi base m) (depth p) y)) b
      ∙ ap (holds (lists m (base + (a - lo)))) t.2 ∙ ih i j t.0 t.1
  window_found a ih (goes (passes h) r) acc = elim h [ ]

module _ (ps : List (ℕ × ℕ)) (m : Model) where
  renaming_up : (d : ℕ) (x : Model) → Layer (renaming ps m) (suc d) x → Layer m d x
  renaming_up d x (renamingBelow h) = h

  renaming_down : (d : ℕ) (x : Model) → Layer m d x → Layer (renaming ps m) (suc d) x
  renaming_down d x h = renamingBelow h

  renaming_found : (a : ℕ) → ((x : Name) → Decodes m a x → holds (lists m a) x ≡ true)
      → {p : Place} {y : Name} → Reaches (renaming ps m) (comes 0 a) p → Accepts (renaming ps m) p y
      → holds (map (renamed ps) (lists m a)) (given (renaming ps m) (depth p) y) ≡ true
  renaming_found a ih stays (byBottom h e) = elim h [ ]
  renaming_found a ih (goes (enters h) r) acc = elim h [ ]
  renaming_found a ih (goes (shifts h i j) r) acc = elim h [ ]
  renaming_found a ih (goes (passes first) r) acc =
      let t = decodes_up (renaming ps m) m renaming_down renaming_up (renamed ps) (λ d y. refl) a r acc in
      ap (holds (map (renamed ps) (lists m a))) t.2 ∙ holds-map (renamed ps) (lists m a) t.0 (ih t.0 t.1)

-- what a list has is decoded
pub lists-then : (m : Model) → Sound m → (a : ℕ) → a < top → (x : Name) → holds (lists m a) x ≡ true → Decodes m a x
lists-then (bottom list) s a l x h = (comes 0 a, x, stays, byBottom first h, refl)
lists-then (net k m) s a l x h =
    let b = bound_walked k s.1 k.entry a s.0.entry_known l in
    let h' = subst (λ o. holds (walked k (lists m) o) x ≡ true) (complete k b.1 64 b.2) h in
    net_finds k m a b.0 b.1 (λ c i y g. lists-then m s.2 c (walk_low k s.0 k.entry a l b.1 (below c) i) y g) x
    (gathered-found k (lists m) x b.0 h')
lists-then (window lo hi base m) s a l x h = go (within lo hi a) refl h (λ k. lists-then m s.1 (base + (a - lo)) k x)
  where
    go : (b : Bool) → within lo hi a ≡ b → holds (cond b (lists m (base + (a - lo))) []) x ≡ true
        → (base + (a - lo) < top → holds (lists m (base + (a - lo))) x ≡ true → Decodes m (base + (a - lo)) x) → Decodes (window lo hi base m) a x
    go false e h ih = absurd (false≢true h)
    go true e h ih =
        let p = and_parts (leb lo a) (leb a hi) e in
        let i : lo ≤ a = leb-true lo a p.0 in
        let j : a ≤ hi = leb-true a hi p.1 in
        let f = s.0 in
        decodes_down (window lo hi base m) m (window_down lo hi base m) (window_up lo hi base m) (λ y. y) (λ d y. refl) a (base + (a - lo)) x x
        (goes (shifts first i j) stays) (ih (omega arith) h) refl
lists-then (renaming ps m) s a l x h =
    let p = map-holds (renamed ps) (lists m a) x h in
    decodes_down (renaming ps m) m (renaming_down ps m) (renaming_up ps m) (renamed ps) (λ d y. refl) a a x p.0
    (goes (passes first) stays) (lists-then m s a l p.0 p.1) p.2

bottom_found : (list : ℕ → List Name) (a : ℕ) {p : Place} {y : Name} → Reaches (bottom list) (comes 0 a) p → Accepts (bottom list) p y → holds (list a) (given (bottom list) (depth p) y) ≡ true
bottom_found list a stays (byBottom first e) = e
bottom_found list a (goes (enters h) r) acc = elim h [ ]
bottom_found list a (goes (shifts h i j) r) acc = elim h [ ]
bottom_found list a (goes (passes h) r) acc = elim h [ ]

-- what is decoded a list has
pub then-lists : (m : Model) → Sound m → (a : ℕ) → a < top → (x : Name) → Decodes m a x → holds (lists m a) x ≡ true
then-lists (bottom list) s a l x d = ap (holds (list a)) d.4 ∙ bottom_found list a d.2 d.3
then-lists (net k m) s a l x d =
    let b = bound_walked k s.1 k.entry a s.0.entry_known l in
    ap (holds (lists (net k m) a)) d.4
    ∙ ap (λ o. holds (walked k (lists m) o) (given (net k m) (depth d.0) d.1)) (complete k b.1 64 b.2)
    ∙ net_found k m a b.0 b.1 (λ c i y g. then-lists m s.2 c (walk_low k s.0 k.entry a l b.1 (below c) i) y g) d.2 d.3
then-lists (window lo hi base m) s a l x d =
    let f = s.0 in
    ap (holds (lists (window lo hi base m) a)) d.4
    ∙ window_found lo hi base m a (λ i j y g. then-lists m s.1 (base + (a - lo)) (omega arith) y g) d.2 d.3
then-lists (renaming ps m) s a l x d =
    ap (holds (lists (renaming ps m) a)) d.4
    ∙ renaming_found ps m a (λ y g. then-lists m s a l y g) d.2 d.3
