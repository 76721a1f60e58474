-- Spots that may be raised and stay below the top.
use Rattle.std.proofs.Common.{◌≡◌, ℕ, zero, suc, ◌+◌, ◌-◌, ◌%◌, ◌<◌, ◌≤◌, Bool, true, false, cond, eqb, leb, List, [], ◌∷◌, ◌++◌, map, length, get_or, sym, refl, ap, ◌∙◌, subst, arith}
use Rattle.std.proofs.lemmas.Bool.{and_parts, leb-true}
use Rattle.std.proofs.lemmas.Bool.Decides.{nat_tests}
use Rattle.std.specs.List.{AllByRecursion}
use Rattle.model.specs.declared.blocks.MapBlock.{MapBlock}
use Rattle.model.specs.Names.{top}
use Rattle.model.specs.Nets.{Kept, Spot, node, below, spot, within, accepting, mapped, steps, TargetFits}
use Rattle.blocks.specs.declared.destination.Destination.{Destination}
use Rattle.blocks.specs.Destinations.{destination_of, spot_of}
use Rattle.blocks.proofs.Sending.{spot_is}
use Rattle.walks.specs.Spans.{covers, room, nearest, map_room, reach, lifted}
use Rattle.quicksearch.specs.declared.memo.Target.{Target}
use Rattle.quicksearch.specs.Agendas.{spots, address, Room}
use Rattle.quicksearch.proofs.Queues.{address-spot}

pub room_at : (start extent : ℕ) (ts : List Target) (i : ℕ) (d : Target) → Room extent (spots start ts) → i < length ts → ((get_or ts i d).offset + start) % top + extent < top
room_at start extent [] i d u h = absurd (omega arith)
room_at start extent (t ∷ ts) zero d u h = let e = address-spot t.destination ((t.offset + start) % top) in let l = u.0 in omega arith
room_at start extent (t ∷ ts) (suc i) d u h = room_at start extent ts i d u.1 (omega arith)

pub room_up : (x r extent : ℕ) (xs : List Spot) → x + r ≤ extent → Room extent xs → Room r (map (lifted x) xs)
room_up x r extent [] h u = tt
room_up x r extent (node n a ∷ xs) h u = (let l = u.0 in omega arith, room_up x r extent xs h u.1)
room_up x r extent (below a ∷ xs) h u = (let l = u.0 in omega arith, room_up x r extent xs h u.1)

module _ (n a r : ℕ) where
  one_room : (d b : ℕ) (xs : List Spot) → b + r < top → Room r xs → Room r (spot d b ∷ xs)
  one_room d b xs h u = (let e : address (spot d b) ≡ b = ap address (sym (spot_is d b)) ∙ address-spot (destination_of d) b in omega arith, u)

  map_one : (b : MapBlock) (c : Bool) → covers b.node b.lo b.hi n a ≡ c → TargetFits b.lo b.hi b.base → r ≤ map_room n a b → (xs : List Spot) → Room r xs
      → Room r (cond c (spot b.destination (b.base + (a - b.lo)) ∷ xs) xs)
  map_one b true e f h xs u =
      let p = and_parts (eqb b.node n) (within b.lo b.hi a) e in
      let q = and_parts (leb b.lo a) (leb a b.hi) p.1 in
      let l : b.lo ≤ a = leb-true b.lo a q.0 in
      let m : a ≤ b.hi = leb-true a b.hi q.1 in
      let w : room b.node b.lo b.hi n a ≡ b.hi - a = grind (arith, nat_tests) in
      one_room b.destination (b.base + (a - b.lo)) xs (omega arith) u
  map_one b false e f h xs u = u

  maps_room : (bs : List MapBlock) → AllByRecursion (λ b. TargetFits b.lo b.hi b.base) bs → r ≤ nearest (map_room n a) bs → Room r (mapped bs n a)
  maps_room [] f h = tt
  maps_room (b ∷ bs) f h = map_one b (covers b.node b.lo b.hi n a) refl f.0 (omega arith) (mapped bs n a) (maps_room bs f.1 (omega arith))

  -- the steps from an address may be raised on its stretch
  pub room-steps : (k : Kept) → AllByRecursion (λ b. TargetFits b.lo b.hi b.base) k.maps → r ≤ reach k n a → a + r < top → Room r (steps k n a)
  room-steps k f h l = go (mapped k.maps n a) (maps_room k.maps f (omega arith)) (accepting k.accepts n a) (leb (get_or k.overlays n 33) 32)
    where
      go : (xs : List Spot) → Room r xs → (acc low : Bool) → Room r (elim xs [ [] ↦ cond acc [] (cond low (spot (get_or k.overlays n 33) a ∷ []) []) | x ∷ xs ↦ x ∷ xs ])
      go [] u true low = tt
      go [] u false true = one_room (get_or k.overlays n 33) a [] l tt
      go [] u false false = tt
      go (x ∷ xs) u acc low = u

-- a step that is still to be laid out
pub room-rest : (xs : List Spot) (d : Destination) (a : ℕ) (more all : List Spot) {left : List Spot} → xs ++ left ≡ all → left ≡ spot_of d a ∷ more → Room 0 all → a < top
room-rest xs d a more all e f u = go xs (subst (Room 0) (sym (ap (λ l. xs ++ l) (sym f) ∙ e)) u)
  where
    go : (xs : List Spot) → Room 0 (xs ++ spot_of d a ∷ more) → a < top
    go [] u = let e = address-spot d a in let l = u.0 in omega arith
    go (x ∷ xs) u = go xs u.1
