-- An agenda by its first spot and the others.
use Rattle.std.proofs.Common.{◌≡◌, ℕ, ◌+◌, ◌-◌, ◌%◌, ◌<◌, ◌≤◌, false, List, ◌∷◌, ◌++◌, map, length, get_or, take, drop, Some, None, Option, sym, refl, ap, ◌∙◌, subst, arith}
use Rattle.std.proofs.lemmas.List.{length-append, length-map, map-append}
use Rattle.std.proofs.ByRecursion.{All-append}
use Rattle.model.specs.Names.{top}
use Rattle.model.specs.Nets.{Spot, node, steps}
use Rattle.blocks.specs.declared.destination.Destination.{Destination}
use Rattle.blocks.specs.declared.destination.Destination.TheVariants.{Node, Below}
use Rattle.blocks.specs.declared.stored.Blocks.{Blocks}
use Rattle.blocks.specs.Destinations.{spot_of}
use Rattle.blocks.specs.Shape.{kept}
use Rattle.blocks.specs.Formed.{formed}
use Rattle.walks.specs.Spans.{reach, lifted}
use Rattle.quicksearch.specs.declared.memo.Range.{Range}
use Rattle.quicksearch.specs.declared.memo.Target.{Target}
use Rattle.quicksearch.specs.Exceeding.{exceeds, FirstIn}
use Rattle.quicksearch.specs.Agendas.{placed, spots, waiting, address, Room, Waits, Laid}
use Rattle.quicksearch.proofs.Exceeds.{first_swap, first_long, of_net}
use Rattle.quicksearch.proofs.Queues.{address-spot, spots_up, length-waiting, waiting_first, waiting_more}
use Rattle.quicksearch.proofs.Rooms.{room_up, room-steps}
use Rattle.quicksearch.proofs.Stretches.{first_name, below_first, more_some, more_none}

abbrev pub first : List Target → ℕ → Target
first queue head = get_or queue head (record { offset = 0; destination = Node 0 })

below_of : (d : Destination) → ((m : ℕ) → d ≡ Node m → ⊥) → d ≡ Below
below_of (Node m) e = absurd (e m refl)
below_of Below e = refl

module _ (b : Blocks) {queue : List Target} {head tail : ℕ} {starts : Range} (h : head < tail) (w : Waits queue head tail starts) where
  abbrev to : Destination
  to = (first queue head).destination

  abbrev a : ℕ
  a = ((first queue head).offset + starts.low) % top

  abbrev others : List Spot
  others = spots starts.low (waiting (head + 1) tail queue)

  abbrev agenda : List Spot
  agenda = spots starts.low (waiting head tail queue)

  is : agenda ≡ placed starts.low (first queue head) ∷ others
  is = ap (spots starts.low) (waiting_first queue head tail (record { offset = 0; destination = Node 0 }) h (omega arith))

  parts : Room starts.extent (placed starts.low (first queue head) ∷ others)
  parts = subst (Room starts.extent) is w.room

  pub room_first : a + starts.extent < top
  room_first = let l = parts.0 in let e = address-spot to a in omega arith

  pub waits_behind : Waits queue (head + 1) tail starts
  waits_behind = record { ordered = omega arith; inside = w.inside; long = w.long; room = parts.1 }

  pub arrival : ((m : ℕ) → to ≡ Node m → ⊥) → (o : Option ℕ) → FirstIn (kept b) (64 - (head + 1)) others starts.extent o → FirstIn (kept b) (64 - head) agenda starts.extent o
  arrival e = below_first (kept b) agenda (placed starts.low (first queue head)) others (64 - head) (64 - (head + 1)) starts.extent is (let i = w.inside in omega arith) a (ap (λ d. spot_of d a) (below_of to e))

  -- a part of the starts, from x up to x + r; the queue is `now` then
  module _ (x r : ℕ) (i : x + r ≤ starts.extent) (now : List Target) (same : take tail now ≡ take tail queue) where
    raised_others : spots (starts.low + x) (waiting (head + 1) tail now) ≡ map (lifted x) others
    raised_others = ap (λ ts. spots (starts.low + x) (drop (head + 1) ts)) same ∙ spots_up starts.low x starts.extent (waiting (head + 1) tail queue) (omega arith) parts.1

    pub waits_part : length now ≡ 64 → (part : Range) → part.low ≡ starts.low + x → part.extent ≡ r → Waits now (head + 1) tail part
    waits_part l part e f = record {
      ordered = omega arith;
      inside = w.inside;
      long = l;
      room = subst (λ low. Room part.extent (spots low (waiting (head + 1) tail now))) (sym e)
          (subst (Room part.extent) (sym raised_others) (room_up x part.extent starts.extent others (omega arith) parts.1));
    }

    -- where the first spot is at a node
    module _ (n : ℕ) (at : to ≡ Node n) (low : (d : ℕ) → d < x → exceeds (kept b) (64 - head) (map (lifted d) agenda) ≡ false) {net : Blocks} (same_net : net ≡ b) where
      raised : map (lifted x) agenda ≡ node n (a + x) ∷ spots (starts.low + x) (waiting (head + 1) tail now)
      raised = ap (map (lifted x)) (is ∙ ap (λ d. spot_of d a ∷ others) at) ∙ ap (λ xs. node n (a + x) ∷ xs) (sym raised_others)

      there : (o : Option ℕ) → FirstIn (kept net) (64 - head) (node n (a + x) ∷ spots (starts.low + x) (waiting (head + 1) tail now)) r o → FirstIn (kept b) (64 - head) (map (lifted x) agenda) r o
      there o f = subst (λ l. FirstIn (kept b) (64 - head) l r o) (sym raised) (of_net same_net (64 - head) (node n (a + x) ∷ spots (starts.low + x) (waiting (head + 1) tail now)) r o f)

      pub found : (y : ℕ) → FirstIn (kept net) (64 - head) (node n (a + x) ∷ spots (starts.low + x) (waiting (head + 1) tail now)) r (Some y) → FirstIn (kept b) (64 - head) agenda starts.extent (Some (x + y))
      found y f = more_some (kept b) (64 - head) agenda x low r starts.extent y (there (Some y) f) i

      pub missed : FirstIn (kept net) (64 - head) (node n (a + x) ∷ spots (starts.low + x) (waiting (head + 1) tail now)) r None
          → (d : ℕ) → d < x + (r + 1) → exceeds (kept b) (64 - head) (map (lifted d) agenda) ≡ false
      missed f = more_none (kept b) (64 - head) agenda x low r (there None f)

-- an address at a node and what waits behind it, on a stretch of the node
module _ (b : Blocks) (head : ℕ) {queue : List Target} {tail : ℕ} {starts : Range} (w : Waits queue (head + 1) tail starts) (n a : ℕ) (fits : a + starts.extent < top) (near : starts.extent ≤ reach (kept b) n a) where
  abbrev behind : List Spot
  behind = spots starts.low (waiting (head + 1) tail queue)

  pub full : 64 < tail + length (steps (kept b) n a) → FirstIn (kept b) (64 - head) (node n a ∷ behind) starts.extent (Some 0)
  full over =
      let p = length-append (steps (kept b) n a) behind in
      let s = length-map (waiting (head + 1) tail queue) (placed starts.low) in
      let l = length-waiting queue (head + 1) tail w.ordered (omega arith) in
      first_name (kept b) n a (64 - head) (64 - (head + 1)) starts.extent behind (omega arith) near (Some 0)
      (first_long (kept b) (64 - (head + 1)) (steps (kept b) n a ++ behind) starts.extent (omega arith))

  -- the queue is `now` then, with the steps put into it from tail on up to end
  module _ (now : List Target) (end : ℕ) (same : take tail now ≡ take tail queue) (laid : Laid (steps (kept b) n a) starts.low tail now (Some end)) where
    onto : spots starts.low (waiting (head + 1) end now) ≡ behind ++ steps (kept b) n a
    onto =
        ap (spots starts.low) (waiting_more now queue (head + 1) tail end w.ordered laid.0 (omega arith) same)
        ∙ map-append (placed starts.low) (waiting (head + 1) tail queue) (waiting tail end now) ∙ ap (λ xs. behind ++ xs) laid.2

    pub waits_ahead : length now ≡ 64 → Waits now (head + 1) end starts
    waits_ahead l = record {
      ordered = let o = w.ordered in let m = laid.0 in omega arith;
      inside = let m = laid.1 in omega arith;
      long = l;
      room = subst (Room starts.extent) (sym onto)
          (All-append (λ s. address s + starts.extent < top) behind (steps (kept b) n a) w.room (room-steps n a starts.extent (kept b) (formed b).targets_fit near fits));
    }

    pub ahead : (o : Option ℕ) → FirstIn (kept b) (64 - (head + 1)) (spots starts.low (waiting (head + 1) end now)) starts.extent o → FirstIn (kept b) (64 - head) (node n a ∷ behind) starts.extent o
    ahead o f =
        first_name (kept b) n a (64 - head) (64 - (head + 1)) starts.extent behind (omega arith) near o
        (first_swap (kept b) (64 - (head + 1)) behind (steps (kept b) n a) starts.extent o (subst (λ l. FirstIn (kept b) (64 - (head + 1)) l starts.extent o) onto f))
