-- Decoding of what lies below a layer, seen from above it: every place one layer deeper.
use Rattle.std.proofs.Common.{◌≡◌, ℕ, suc, refl}
use Rattle.model.specs.declared.names.Name.{Name}
use Rattle.model.specs.Model.{Model}
use Rattle.model.specs.Decoding.{Place, comes, stands, Layer, Step, Lands, toNode, toBelow, enters, byMap, byOverlay, shifts, passes, Reaches, stays, goes, Accepts, byNode, byBottom, depth}

abbrev pub deeper : Place → Place
deeper (comes d a) = comes (suc d) a
deeper (stands d n a) = stands (suc d) n a

pub depth_deeper : (p : Place) → depth (deeper p) ≡ suc (depth p)
depth_deeper (comes d a) = refl
depth_deeper (stands d n a) = refl

pub then : {m : Model} {p q r : Place} → Reaches m p q → Reaches m q r → Reaches m p r
then stays t = t
then (goes s r) t = goes s (then r t)

lands_down : {d n a : ℕ} {q : Place} → Lands d n a q → Lands (suc d) n a (deeper q)
lands_down (toNode e) = toNode e
lands_down (toBelow e) = toBelow e

-- what is reached below, from above
module _ (m l : Model) (down : (d : ℕ) (x : Model) → Layer l d x → Layer m (suc d) x) where
  step_down : {p q : Place} → Step l p q → Step m (deeper p) (deeper q)
  step_down (enters h) = enters (down _ _ h)
  step_down (byMap h i c t) = byMap (down _ _ h) i c (lands_down t)
  step_down (byOverlay h x y i t) = byOverlay (down _ _ h) x y i (lands_down t)
  step_down (shifts h i j) = shifts (down _ _ h) i j
  step_down (passes h) = passes (down _ _ h)

  pub reaches_down : {p q : Place} → Reaches l p q → Reaches m (deeper p) (deeper q)
  reaches_down stays = stays
  reaches_down (goes s r) = goes (step_down s) (reaches_down r)

  pub accepts_down : {p : Place} {x : Name} → Accepts l p x → Accepts m (deeper p) x
  accepts_down (byNode h i c) = byNode (down _ _ h) i c
  accepts_down (byBottom h e) = byBottom (down _ _ h) e

-- the second place is the first, one layer deeper
pub data Deep : Place → Place → Type 0 where
  deep_comes : {d a : ℕ} → Deep (comes d a) (comes (suc d) a)
  deep_stands : {d n a : ℕ} → Deep (stands d n a) (stands (suc d) n a)

pub deep_depth : {p q : Place} → Deep p q → depth q ≡ suc (depth p)
deep_depth deep_comes = refl
deep_depth deep_stands = refl

-- and back
lands_up : {d n a : ℕ} {q : Place} → Lands (suc d) n a q → (p : Place) × Lands d n a p × Deep p q
lands_up (toNode e) = (_, toNode e, deep_stands)
lands_up (toBelow e) = (_, toBelow e, deep_comes)

module _ (m l : Model) (up : (d : ℕ) (x : Model) → Layer m (suc d) x → Layer l d x) where
  step_up : {p q r : Place} → Step m q r → Deep p q → (s : Place) × Step l p s × Deep s r
  step_up (enters h) deep_comes = (_, enters (up _ _ h), deep_stands)
  step_up (byMap h i c t) deep_stands = let u = lands_up t in (u.0, byMap (up _ _ h) i c u.1, u.2)
  step_up (byOverlay h x y i t) deep_stands = let u = lands_up t in (u.0, byOverlay (up _ _ h) x y i u.1, u.2)
  step_up (shifts h i j) deep_comes = (_, shifts (up _ _ h) i j, deep_comes)
  step_up (passes h) deep_comes = (_, passes (up _ _ h), deep_comes)

  pub reaches_up : {q r : Place} → Reaches m q r → {p : Place} → Deep p q → (s : Place) × Reaches l p s × Deep s r
  reaches_up stays {p} e = (p, stays, e)
  reaches_up (goes s r) e =
      let t = step_up s e in
      let u = reaches_up r t.2 in
      (u.0, goes t.1 u.1, u.2)

  pub accepts_up : {p q : Place} {x : Name} → Deep p q → Accepts m q x → Accepts l p x
  accepts_up deep_comes (byBottom h e) = byBottom (up _ _ h) e
  accepts_up deep_stands (byNode h i c) = byNode (up _ _ h) i c
