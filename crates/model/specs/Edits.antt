-- The edits of a stack of layers: the questions that each puts, and what it leaves.
use Rattle.std.specs.Prelude.{ℕ, ◌+◌, ◌-◌, Bool, true, false, cond, not, ◌&&◌, List, [], ◌∷◌, ◌++◌, length, Ok, Err, Result, ◌==◌, nat_eq, nat_le, nat_lt, slice_set}
use Rattle.std.proofs.Math.Option.{Option, none, some}
use Rattle.sets.specs.Members.{some_of}
use Rattle.model.specs.declared.blocks.AcceptBlock.{AcceptBlock}
use Rattle.model.specs.declared.blocks.MapBlock.{MapBlock}
use Rattle.model.specs.declared.faults.Fault.{Fault}
use Rattle.model.specs.Names.{top}
use Rattle.model.specs.Nets.{Kept}
use Rattle.model.specs.Walks.{first_overfull_lem}
use Rattle.model.specs.Model.{Model, bottom, net, window, renaming}
use Rattle.model.specs.Faults.{Refusal, plain, at_name, told}

-- an edit of a net's own table
pub data NetEdit : Type 0 where
  accept : AcceptBlock → NetEdit
  map_to : MapBlock → NetEdit
  over : ℕ → ℕ → NetEdit
  drop_accept : AcceptBlock → NetEdit
  drop_map : MapBlock → NetEdit
  enter : ℕ → NetEdit

-- an edit of the top layer of a stack
pub data Edit : Type 0 where
  on_net : NetEdit → Edit
  pair : ℕ → ℕ → Edit
  plug : Model → Edit

-- how an edit ends: granted, refused, or not a call of that layer
pub data End : Type 0 where
  granted : End
  refused : Refusal → End
  foreign : End

abbrev pub ended : Result (Unit {0}) Fault → End
ended (Ok u) = granted
ended (Err f) = refused (told f)

abbrev pub same_accept : AcceptBlock → AcceptBlock → Bool
same_accept b c = b.node == c.node && (b.lo == c.lo && b.hi == c.hi)

abbrev pub same_map : MapBlock → MapBlock → Bool
same_map b c = b.node == c.node && (b.lo == c.lo && (b.hi == c.hi && (b.destination == c.destination && b.base == c.base)))

-- a list without the first element that passes the test
abbrev pub without : {A : Type 0} → (A → Bool) → List A → List A
without p [] = []
without p (x ∷ xs) = cond (p x) xs (x ∷ without p xs)

-- what a net keeps, with one part exchanged
abbrev pub with_accepts : Kept → List AcceptBlock → Kept
with_accepts k bs = record { group = k.group; accepts = bs; maps = k.maps; overlays = k.overlays; entry = k.entry }

abbrev pub with_maps : Kept → List MapBlock → Kept
with_maps k bs = record { group = k.group; accepts = k.accepts; maps = bs; overlays = k.overlays; entry = k.entry }

abbrev pub with_overlays : Kept → List ℕ → Kept
with_overlays k ds = record { group = k.group; accepts = k.accepts; maps = k.maps; overlays = ds; entry = k.entry }

abbrev pub with_entry : Kept → ℕ → Kept
with_entry k n = record { group = k.group; accepts = k.accepts; maps = k.maps; overlays = k.overlays; entry = n }

-- what a granted edit leaves
abbrev pub net_after : Kept → NetEdit → Kept
net_after k (accept b) = with_accepts k (k.accepts ++ b ∷ [])
net_after k (map_to b) = with_maps k (k.maps ++ b ∷ [])
net_after k (over n d) = with_overlays k (slice_set k.overlays n d)
net_after k (drop_accept b) = with_accepts k (without (same_accept b) k.accepts)
net_after k (drop_map b) = with_maps k (without (same_map b) k.maps)
net_after k (enter n) = with_entry k n

-- the questions of a call, each with the refusal that a no gives; the first no decides
abbrev pub asked : List (Bool × Refusal) → Option Refusal
asked [] = none
asked (q ∷ qs) = cond q.0 (asked qs) (some q.1)

abbrev pub node_known : ℕ → Bool × Refusal
node_known n = (nat_le n 31, plain 1)

abbrev pub destination_known : ℕ → ℕ → Bool × Refusal
destination_known most d = (nat_le d most, plain 2)

abbrev pub range_rises : ℕ → ℕ → Bool × Refusal
range_rises lo hi = (nat_le lo hi, plain 3)

abbrev pub target_fits : ℕ → ℕ → ℕ → Bool × Refusal
target_fits lo hi base = (nat_lt (base + (hi - lo)) top, plain 4)

abbrev pub not_there_yet : Bool → Bool × Refusal
not_there_yet b = (not b, plain 5)

abbrev pub there : Bool → Bool × Refusal
there b = (b, plain 6)

abbrev pub place_free : ℕ → ℕ → Bool × Refusal
place_free used room = (nat_lt used room, plain 7)

-- the question about walks, asked last, of the net as it would be
abbrev pub walks_bounded : Kept → Option Refusal
walks_bounded k = elim (first_overfull_lem k 32) [ none ↦ none | some x ↦ some (at_name 8 x.0 x.1) ]

abbrev pub then : Option Refusal → Option Refusal → Option Refusal
then none later = later
then (some r) later = some r

-- the questions of an edit before the one about walks
abbrev pub net_questions : Kept → NetEdit → List (Bool × Refusal)
net_questions k (accept b) = node_known b.node ∷ range_rises b.lo b.hi ∷ not_there_yet (some_of (same_accept b) k.accepts) ∷ place_free (length k.accepts) 64 ∷ []
net_questions k (map_to b) =
    node_known b.node ∷ destination_known 32 b.destination ∷ range_rises b.lo b.hi ∷ target_fits b.lo b.hi b.base
    ∷ not_there_yet (some_of (same_map b) k.maps) ∷ place_free (length k.maps) 128 ∷ []
net_questions k (over n d) = node_known n ∷ destination_known 33 d ∷ []
net_questions k (drop_accept b) = node_known b.node ∷ range_rises b.lo b.hi ∷ there (some_of (same_accept b) k.accepts) ∷ []
net_questions k (drop_map b) =
    node_known b.node ∷ destination_known 32 b.destination ∷ range_rises b.lo b.hi ∷ target_fits b.lo b.hi b.base
    ∷ there (some_of (same_map b) k.maps) ∷ []
net_questions k (enter n) = node_known n ∷ []

-- whether an edit asks about walks: one more accept block, or another entry, makes none longer
abbrev pub asks_walks : NetEdit → Bool
asks_walks (accept b) = false
asks_walks (map_to b) = true
asks_walks (over n d) = true
asks_walks (drop_accept b) = true
asks_walks (drop_map b) = true
asks_walks (enter n) = false

-- the refusal of an edit, if any
abbrev pub net_refusal : Kept → NetEdit → Option Refusal
net_refusal k e = then (asked (net_questions k e)) (cond (asks_walks e) (walks_bounded (net_after k e)) none)

-- a granted edit leaves the new value, any other the old one
abbrev pub settled : {A : Type 0} → Option Refusal → A → A → End × A
settled none new old = (granted, new)
settled (some r) new old = (refused r, old)

abbrev pub pair_refusal : List (ℕ × ℕ) → ℕ → Option Refusal
pair_refusal ps from = asked (not_there_yet (some_of (λ p. nat_eq p.0 from) ps) ∷ place_free (length ps) 32 ∷ [])

-- what an edit of the top layer answers, and what it leaves
abbrev pub edited : Model → Edit → End × Model
edited (bottom list) e = (foreign, bottom list)
edited (net k m) (on_net e) = settled (net_refusal k e) (net (net_after k e) m) (net k m)
edited (net k m) (pair from to) = (foreign, net k m)
edited (net k m) (plug new) = (granted, net k new)
edited (window lo hi base m) (on_net e) = (foreign, window lo hi base m)
edited (window lo hi base m) (pair from to) = (foreign, window lo hi base m)
edited (window lo hi base m) (plug new) = (granted, window lo hi base new)
edited (renaming ps m) (on_net e) = (foreign, renaming ps m)
edited (renaming ps m) (pair from to) = settled (pair_refusal ps from) (renaming (ps ++ (from, to) ∷ []) m) (renaming ps m)
edited (renaming ps m) (plug new) = (granted, renaming ps new)
