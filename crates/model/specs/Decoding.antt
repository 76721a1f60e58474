-- The decode steps of a stack of layers, as a relation, and what they reach.
use Rattle.std.specs.Prelude.{◌≡◌, ℕ, zero, suc, ◌+◌, ◌-◌, ◌≤◌, true, List, ◌∷◌, ◌≢◌, slice_index_or}
use Rattle.model.specs.declared.blocks.AcceptBlock.{AcceptBlock}
use Rattle.model.specs.declared.blocks.MapBlock.{MapBlock}
use Rattle.model.specs.declared.names.Name.{Name}
use Rattle.model.specs.Names.{renamed, holds}
use Rattle.model.specs.Nets.{Kept}
use Rattle.model.specs.Model.{Model, bottom, net, window, renaming, own}

-- an element of a list
pub data Among {A : Type 0} (x : A) : List A → Type 0 where
  here : {rest : List A} → Among x (x ∷ rest)
  later : {y : A} {rest : List A} → Among x rest → Among x (y ∷ rest)

-- a block of a node, from lo to hi, covers the address a at the node n
pub record Covers (its lo hi n a : ℕ) : Type 0 where
  pub same_node : its ≡ n
  pub from : lo ≤ a
  pub to : a ≤ hi

-- a place of decoding: an address that comes to layer d, or one at a node of the net that layer d is. The layers count from the top, 0
pub data Place : Type 0 where
  comes : ℕ → ℕ → Place
  stands : ℕ → ℕ → ℕ → Place

-- the layer d of a stack, with what lies below it
pub data Layer : Model → ℕ → Model → Type 0 where
  first : {m : Model} → Layer m zero m
  netBelow : {k : Kept} {m l : Model} {d : ℕ} → Layer m d l → Layer (net k m) (suc d) l
  windowBelow : {lo hi base : ℕ} {m l : Model} {d : ℕ} → Layer m d l → Layer (window lo hi base m) (suc d) l
  renamingBelow : {ps : List (ℕ × ℕ)} {m l : Model} {d : ℕ} → Layer m d l → Layer (renaming ps m) (suc d) l

-- where an address that is sent to a destination from a node of layer d comes: 32 is the space below
pub data Lands (d : ℕ) : ℕ → ℕ → Place → Type 0 where
  toNode : {n a : ℕ} → (n ≢ 32) → Lands d n a (stands d n a)
  toBelow : {n a : ℕ} → n ≡ 32 → Lands d n a (comes (suc d) a)

-- one decode step of the stack: into a net, by a map block, by an overlay where no block of the node covers the address, through a window, through a renaming
pub data Step (m : Model) : Place → Place → Type 0 where
  enters : {d a : ℕ} {k : Kept} {l : Model} → Layer m d (net k l) → Step m (comes d a) (stands d k.entry a)
  byMap : {d n a : ℕ} {k : Kept} {l : Model} {b : MapBlock} {q : Place} →
      Layer m d (net k l) → Among b k.maps → Covers b.node b.lo b.hi n a → Lands d b.destination (b.base + (a - b.lo)) q → Step m (stands d n a) q
  byOverlay : {d n a : ℕ} {k : Kept} {l : Model} {q : Place} →
      Layer m d (net k l) →
      ((b : AcceptBlock) → Among b k.accepts → Covers b.node b.lo b.hi n a → ⊥) →
      ((b : MapBlock) → Among b k.maps → Covers b.node b.lo b.hi n a → ⊥) →
      slice_index_or k.overlays n 33 ≤ 32 → Lands d (slice_index_or k.overlays n 33) a q → Step m (stands d n a) q
  shifts : {d a lo hi base : ℕ} {l : Model} → Layer m d (window lo hi base l) → lo ≤ a → a ≤ hi → Step m (comes d a) (comes (suc d) (base + (a - lo)))
  passes : {d a : ℕ} {ps : List (ℕ × ℕ)} {l : Model} → Layer m d (renaming ps l) → Step m (comes d a) (comes (suc d) a)

-- what finitely many steps lead to
pub data Reaches (m : Model) : Place → Place → Type 0 where
  stays : {p : Place} → Reaches m p p
  goes : {p q r : Place} → Step m p q → Reaches m q r → Reaches m p r

-- a name that is accepted at a place: by a node, or by the bottom
pub data Accepts (m : Model) : Place → Name → Type 0 where
  byNode : {d n a : ℕ} {k : Kept} {l : Model} {b : AcceptBlock} → Layer m d (net k l) → Among b k.accepts → Covers b.node b.lo b.hi n a → Accepts m (stands d n a) (own k n a)
  byBottom : {d a : ℕ} {l : ℕ → List Name} {x : Name} → Layer m d (bottom l) → holds (l a) x ≡ true → Accepts m (comes d a) x

abbrev pub depth : Place → ℕ
depth (comes d a) = d
depth (stands d n a) = d

-- a name as the renamings above layer d give it, the lowest first
abbrev pub given : Model → ℕ → Name → Name
given m zero x = x
given (bottom l) (suc d) x = x
given (net k m) (suc d) x = given m d x
given (window lo hi base m) (suc d) x = given m d x
given (renaming ps m) (suc d) x = renamed ps (given m d x)

-- some place that decoding reaches from the address accepts a name that is given as x
abbrev pub Decodes : Model → ℕ → Name → Type 0
Decodes m a x = (p : Place) × (y : Name) × Reaches m (comes 0 a) p × Accepts m p y × (x ≡ given m (depth p) y)
