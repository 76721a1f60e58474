-- Stacks that decode names which their lists lack.
use Rattle.std.proofs.Common.{◌≡◌, ℕ, zero, suc, ◌+◌, ◌-◌, ◌<◌, ◌≤◌, Bool, true, false, cond, ◌&&◌, eqb, leb, List, [], ◌∷◌, ◌++◌, length, get_or, replicate, sym, refl, ap, ◌∙◌, subst, arith}
use Rattle.std.specs.List.{AllByRecursion}
use Rattle.std.proofs.lemmas.Bool.{and_left, and_right, ne_eqb, lt-leb}
use Rattle.model.specs.declared.blocks.AcceptBlock.{AcceptBlock}
use Rattle.model.specs.declared.blocks.MapBlock.{MapBlock}
use Rattle.model.specs.Names.{top}
use Rattle.model.specs.Nets.{Kept, Spot, node, below, within, accepting, mapped, overlaid, steps, TargetFits}
use Rattle.model.specs.Walks.{Walk, done, arrives, goes_on, Bounded}
use Rattle.model.specs.Model.{Model, bottom, net, own, Sound}
use Rattle.model.specs.Decoding.{here, Covers, stands, first, netBelow, windowBelow, toNode, toBelow, enters, byMap, shifts, stays, goes, byNode}
use Rattle.model.specs.Laws.{EntryNeeded, TargetNeeded, WindowNeeded}
use Rattle.model.proofs.Bounds.{walked_bound}
use Rattle.model.proofs.Fewer.{none_over}

abbrev kept : List AcceptBlock → List MapBlock → ℕ → Kept
kept cs ms entry = record { group = 0; accepts = cs; maps = ms; overlays = replicate 32 33; entry = entry }

abbrev nowhere : Model
nowhere = bottom (λ a. [])

-- a node with no map block that covers the address takes no step
no_steps : (cs : List AcceptBlock) (ms : List MapBlock) (entry n a : ℕ) → mapped ms n a ≡ [] → steps (kept cs ms entry) n a ≡ []
no_steps cs ms entry n a e =
    ap (λ l. elim l [ [] ↦ cond (accepting cs n a) [] (overlaid (get_or (replicate 32 33) n 33) a) | x ∷ xs ↦ x ∷ xs ]) e
    ∙ ap (λ d. cond (accepting cs n a) [] (overlaid d a)) (none_over n)
    ∙ go (accepting cs n a)
  where
    go : (b : Bool) → ◌≡◌ {A = List Spot} (cond b [] []) []
    go true = refl
    go false = refl

at_once : (k : Kept) (n a : ℕ) → steps k n a ≡ [] → (met : List Spot) × Walk k (node n a ∷ []) met × (length met ≤ 64)
at_once k n a e = (node n a ∷ ([] ++ []), goes_on (subst (λ l. Walk k l []) (sym e) done) done, omega arith)

-- the entry 40 has a map block onto itself, and accepts
abbrev loop : MapBlock
loop = record { node = 40; lo = 0; hi = 0; destination = 40; base = 0 }

abbrev looping : Kept
looping = kept (record { node = 40; lo = 0; hi = 0 } ∷ []) (loop ∷ []) 40

looping_bound : Bounded looping
looping_bound = walked_bound looping (λ n a h l.
    at_once looping n a (no_steps looping.accepts looping.maps 40 n a
    (ap (λ b. cond b (node 40 (0 + (a - 0)) ∷ []) []) (and_left (eqb 40 n) (within 0 0 a) (ne_eqb 40 n (λ e. omega arith))))))

pub entry_needed : EntryNeeded
entry_needed = (
  looping,
  nowhere,
  own looping 40 0,
  tt,
  looping_bound,
  (omega arith, tt),
  (stands 0 40 0, own looping 40 0, goes (enters first) stays, byNode first here (record { same_node = refl; from = omega arith; to = omega arith }), refl),
  refl,
)

-- at the first address past the top, node 0 has 65 map blocks onto a node that accepts
abbrev past : MapBlock
past = record { node = 0; lo = top; hi = top; destination = 1; base = 0 }

abbrev wide : Kept
wide = kept (record { node = 1; lo = 0; hi = 0 } ∷ []) (replicate 65 past) 0

past-none : (j n a : ℕ) → a < top → mapped (replicate j past) n a ≡ []
past-none zero n a l = refl
past-none (suc j) n a l =
    ap (λ b. cond b (node 1 (0 + (a - top)) ∷ mapped (replicate j past) n a) (mapped (replicate j past) n a))
    (and_right (eqb 0 n) (within top top a) (and_left (leb top a) (leb a top) (lt-leb top a l)))
    ∙ past-none j n a l

past_fits : (j : ℕ) → AllByRecursion (λ b. TargetFits b.lo b.hi b.base) (replicate j past)
past_fits zero = tt
past_fits (suc j) = (omega arith, past_fits j)

wide_sound : Sound (net wide nowhere)
wide_sound = (
  record { entry_known = omega arith; targets_fit = past_fits 65 },
  walked_bound wide (λ n a h l. at_once wide n a (no_steps wide.accepts wide.maps 0 n a (past-none 65 n a l))),
  tt,
)

on_past : Covers 0 top top 0 top
on_past = record { same_node = refl; from = omega arith; to = omega arith }

on_one : Covers 1 0 0 1 0
on_one = record { same_node = refl; from = omega arith; to = omega arith }

one_node : ◌≡◌ {A = ℕ} 1 32 → ⊥
one_node e = omega arith

pub window_needed : WindowNeeded
window_needed = (
  top,
  net wide nowhere,
  own wide 1 0,
  wide_sound,
  (
    stands 1 1 0,
    own wide 1 0,
    goes (shifts first (omega arith) (omega arith)) (goes (enters (windowBelow first)) (goes (byMap (windowBelow first) here on_past (toNode one_node)) stays)),
    byNode (windowBelow first) here on_one,
    refl,
  ),
  refl,
)

-- node 0 sends the address 0 past the top
abbrev over : MapBlock
over = record { node = 0; lo = 0; hi = 0; destination = 32; base = top }

abbrev sending : Kept
sending = kept [] (over ∷ []) 0

sending_bound : Bounded sending
sending_bound = walked_bound sending (λ n a h l. go n a (eqb 0 n && within 0 0 a) refl)
  where
    go : (n a : ℕ) (b : Bool) → (eqb 0 n && within 0 0 a) ≡ b → (met : List Spot) × Walk sending (node n a ∷ []) met × (length met ≤ 64)
    go n a false e = at_once sending n a (no_steps [] (over ∷ []) 0 n a (ap (λ b. cond b (below (top + (a - 0)) ∷ []) []) e))
    go n a true e =
        let f : steps sending n a ≡ below (top + (a - 0)) ∷ [] =
        ap (λ b. elim (cond b (below (top + (a - 0)) ∷ []) []) [ [] ↦ cond (accepting [] n a) [] (overlaid (get_or (replicate 32 33) n 33) a) | x ∷ xs ↦ x ∷ xs ]) e in
        (node n a ∷ ((below (top + (a - 0)) ∷ []) ++ []), goes_on (subst (λ l. Walk sending l (below (top + (a - 0)) ∷ [])) (sym f) (arrives done)) done, omega arith)

pub target_needed : TargetNeeded
target_needed = (
  sending,
  net wide nowhere,
  own wide 1 0,
  wide_sound,
  sending_bound,
  omega arith,
  (
    stands 1 1 0,
    own wide 1 0,
    goes (enters first) (goes (byMap first here (record { same_node = refl; from = omega arith; to = omega arith }) (toBelow refl))
        (goes (enters (netBelow first)) (goes (byMap (netBelow first) here on_past (toNode one_node)) stays))),
    byNode (netBelow first) here on_one,
    refl,
  ),
  refl,
)
