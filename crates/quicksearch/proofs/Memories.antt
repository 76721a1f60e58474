-- What is remembered, read and written at a place.
use Rattle.std.proofs.Common.{◌≡◌, ℕ, zero, suc, ◌+◌, ◌%◌, ◌≤◌, true, eqb, ◌&&◌, List, [], ◌∷◌, length, replicate, sym, refl, ap, ◌∙◌, subst, arith}
use Rattle.std.proofs.lemmas.Bool.{and_parts, eqb-true, true≢false}
use Rattle.std.specs.List.{AllByRecursion, list_all, zip}
use Rattle.lists.specs.Held.{held}
use Rattle.model.specs.Names.{top}
use Rattle.model.specs.Nets.{Kept, node}
use Rattle.blocks.specs.declared.destination.Destination.{Destination}
use Rattle.blocks.specs.declared.destination.Destination.TheVariants.{Node, Below}
use Rattle.blocks.specs.Destinations.{spot_of}
use Rattle.quicksearch.specs.declared.memo.Range.{Range}
use Rattle.quicksearch.specs.declared.memo.Target.{Target}
use Rattle.quicksearch.specs.declared.memo.RangeBound.{RangeBound}
use Rattle.quicksearch.specs.declared.memo.PassedAgenda.{PassedAgenda}
use Rattle.quicksearch.specs.Exceeding.{Within}
use Rattle.quicksearch.specs.Agendas.{placed, spots, same_destination, same_spot}
use Rattle.quicksearch.specs.Remembered.{Holds, Bounds, Passes}
use Rattle.quicksearch.proofs.Exceeds.{within_less}

pub all_same : {X : Type 0} (P : X → Type 0) (n : ℕ) (y : X) → P y → AllByRecursion P (replicate n y)
all_same P zero y h = tt
all_same P (suc n) y h = (h, all_same P n y h)

-- targets that are compared in pairs from the front
same_to : (d e : Destination) (a : ℕ) → same_destination d e ≡ true → spot_of d a ≡ spot_of e a
same_to (Node m) (Node n) a h = ap (λ z. node z a) (eqb-true m n h)
same_to (Node m) Below a h = absurd (true≢false (sym h))
same_to Below (Node n) a h = absurd (true≢false (sym h))
same_to Below Below a h = refl

pub same_spots : (p q : ℕ) (us vs : List Target) → length us ≡ length vs → list_all (same_spot p q) (zip us vs) ≡ true → spots p us ≡ spots q vs
same_spots p q [] [] l e = refl
same_spots p q [] (v ∷ vs) l e = absurd (omega arith)
same_spots p q (u ∷ us) [] l e = absurd (omega arith)
same_spots p q (u ∷ us) (v ∷ vs) l e =
    let a : ℕ = (u.offset + p) % top in
    let b : ℕ = (v.offset + q) % top in
    let h = and_parts (same_spot p q (u, v)) (list_all (same_spot p q) (zip us vs)) e in
    let g = and_parts (same_destination u.destination v.destination) (eqb a b) h.0 in
    ap (λ s. s ∷ spots p us) (same_to u.destination v.destination a g.0 ∙ ap (spot_of v.destination) (eqb-true a b g.1))
    ∙ ap (λ l. placed q v ∷ l) (same_spots p q us vs (omega arith) h.1)

module _ (k : Kept) where
  pub bounds_of : (e : RangeBound) (n : ℕ) (r : Range) → e.node ≡ n → (eqb e.range.low r.low && eqb e.range.extent r.extent) ≡ true → Bounds k e → Holds k (node n r.low) r.extent e.most
  bounds_of e n r p q h =
      let g = and_parts (eqb e.range.low r.low) (eqb e.range.extent r.extent) q in
      subst (λ z. Holds k (node z r.low) r.extent e.most) p
      (subst (λ z. Holds k (node e.node z) r.extent e.most) (eqb-true e.range.low r.low g.0)
      (subst (λ z. Holds k (node e.node e.range.low) z e.most) (eqb-true e.range.extent r.extent g.1) h))

  pub passes_of : (e : PassedAgenda) (ts : List Target) (start extent budget : ℕ) → e.budget ≤ budget → extent ≤ e.starts.extent
      → (eqb (length (held e.targets)) (length ts) && list_all (same_spot e.starts.low start) (zip (held e.targets) ts)) ≡ true → Passes k e → Within k budget (spots start ts) extent
  passes_of e ts start extent budget b l same w =
      let g = and_parts (eqb (length (held e.targets)) (length ts)) (list_all (same_spot e.starts.low start) (zip (held e.targets) ts)) same in
      let s : spots e.starts.low (held e.targets) ≡ spots start ts = same_spots e.starts.low start (held e.targets) ts (eqb-true (length (held e.targets)) (length ts) g.0) g.1 in
      within_less k e.budget budget extent e.starts.extent (spots start ts) b l (subst (λ xs. Within k e.budget xs e.starts.extent) s w)
