-- Destinations by their numbers.
use Rattle.std.proofs.Common.{◌≡◌, ℕ, ◌<◌, ◌≤◌, Bool, true, false, cond, eqb, ◌⊎◌, inl, inr, List, map, set, get_or, Some, None, Option, sym, refl, ap, ◌∙◌, arith}
use Rattle.std.proofs.Math.ListN.{get_or-map as everywhere}
use Rattle.std.proofs.lemmas.List.{map-set}
use Rattle.std.proofs.lemmas.Bool.{cases_eq, cases_lt, eq-eqb, ne_eqb, lt-ltb, le-ltb}
use Rattle.model.specs.Nets.{node, below, spot}
use Rattle.blocks.specs.declared.destination.Destination.{Destination}
use Rattle.blocks.specs.declared.destination.Destination.TheVariants.{Node, Below}
use Rattle.blocks.specs.Destinations.{destination_of, number_of, overlay_of, overlay_number, Known, OverlayKnown, spot_of}

pub number_is : (n : ℕ) → number_of (destination_of n) ≡ n
number_is n = elim (cases_eq n 32) [
  | inl e ↦ ap (λ b. number_of (cond b Below (Node n))) (eq-eqb n 32 e) ∙ sym e
  | inr e ↦ ap (λ b. number_of (cond b Below (Node n))) (ne_eqb n 32 e)
]

pub known : (n : ℕ) → n ≤ 32 → Known (destination_of n)
known n h m = go (cases_eq n 32)
  where
    go : (n ≡ 32) ⊎ (n ≡ 32 → ⊥) → destination_of n ≡ Node m → m < 32
    go (inl e) f = let g = ap (λ b. cond b Below (Node n)) (eq-eqb n 32 e) in absurd cc
    go (inr e) f = let g = ap (λ b. cond b Below (Node n)) (ne_eqb n 32 e) in let i : n ≡ m = cc in omega arith

pub spot_is : (n a : ℕ) → spot_of (destination_of n) a ≡ spot n a
spot_is n a = go (eqb n 32)
  where
    go : (b : Bool) → spot_of (cond b Below (Node n)) a ≡ cond b (below a) (node n a)
    go true = refl
    go false = refl

pub overlay_is : (n : ℕ) → n ≤ 33 → overlay_number (overlay_of n) ≡ n
overlay_is n h = go (cases_lt n 33)
  where
    go : (n < 33) ⊎ (33 ≤ n) → overlay_number (overlay_of n) ≡ n
    go (inl l) = ap (λ b. overlay_number (cond b (Some (destination_of n)) None)) (lt-ltb n 33 l) ∙ number_is n
    go (inr l) = ap (λ b. overlay_number (cond b (Some (destination_of n)) None)) (le-ltb n 33 l) ∙ omega arith

pub overlay_known : (n : ℕ) → OverlayKnown (overlay_of n)
overlay_known n m = go (cases_lt n 33)
  where
    go : (n < 33) ⊎ (33 ≤ n) → overlay_of n ≡ Some (Node m) → m < 32
    go (inl l) f = let g = ap (λ b. cond b (Some (destination_of n)) None) (lt-ltb n 33 l) in known n (omega arith) m cc
    go (inr l) f = let g = ap (λ b. cond b (Some (destination_of n)) None) (le-ltb n 33 l) in absurd cc

pub overlay_stored : (xs : List (Option Destination)) (i n : ℕ) (o : Option Destination) → o ≡ overlay_of n → n ≤ 33 → map overlay_number (set xs i o) ≡ set (map overlay_number xs) i n
overlay_stored xs i n o e h = map-set overlay_number xs i o ∙ ap (set (map overlay_number xs) i) (ap overlay_number e ∙ overlay_is n h)

-- what stands at a node, as a number
pub overlay_at : (xs : List (Option Destination)) (i : ℕ) → get_or (map overlay_number xs) i 33 ≡ overlay_number (get_or xs i None)
overlay_at xs i = everywhere overlay_number xs i None
