-- The board of the worked cases, and what is said of it: looks, edits one after another, the length of a walk.
use Rattle.std.specs.Prelude.{◌≡◌, ℕ, ◌≤◌, List, [], ◌∷◌, ◌++◌, length, drop, replicate, Ok, Err, Result}
use Rattle.std.proofs.Math.Option.{some}
use Rattle.model.specs.declared.blocks.AcceptBlock.{AcceptBlock}
use Rattle.model.specs.declared.blocks.MapBlock.{MapBlock}
use Rattle.model.specs.declared.faults.Fault.{Fault}
use Rattle.model.specs.declared.names.Name.{Name}
use Rattle.model.specs.Nets.{Kept, Spot, node}
use Rattle.model.specs.Walks.{Walk, Bounded}
use Rattle.model.specs.Model.{Model, bottom, net, lists}
use Rattle.model.specs.Bottoms.{banked}
use Rattle.model.specs.Faults.{Refusal, plain, refusal}
use Rattle.model.specs.Edits.{NetEdit, accept, map_to, over, on_net, End, granted, refused, edited, net_after}
use Rattle.model.specs.Looks.{LookAnswer, filled}

abbrev pub named : ℕ → ℕ → Name
named component a = record { component = component; address = a }

-- node n accepts lo to hi
abbrev pub takes : ℕ → ℕ → ℕ → AcceptBlock
takes n lo hi = record { node = n; lo = lo; hi = hi }

-- node n sends lo to hi on to a destination, from base up
abbrev pub sends : ℕ → ℕ → ℕ → ℕ → ℕ → MapBlock
sends n lo hi destination base = record { node = n; lo = lo; hi = hi; destination = destination; base = base }

-- what lies below the board
abbrev pub bank : Model
bank = bottom (banked 900 0x1000)

-- node 0 overlays 1, and sends one page to 2, which sends it below, and its first 256 addresses to 1 too
abbrev pub board : Kept
board = record {
  group = 2;
  accepts = takes 1 0x8000 0x8fff ∷ [];
  maps = sends 0 0x4000 0x4fff 2 0 ∷ sends 2 0 0xfff 32 0 ∷ sends 2 0 0xff 1 0x8000 ∷ [];
  overlays = 1 ∷ replicate 31 33;
  entry = 0;
}

abbrev pub board_edits : List NetEdit
board_edits =
    over 0 1 ∷ accept (takes 1 0x8000 0x8fff) ∷ map_to (sends 0 0x4000 0x4fff 2 0) ∷ map_to (sends 2 0 0xfff 32 0) ∷ map_to (sends 2 0 0xff 1 0x8000) ∷ []

-- the board once node 5 accepts everywhere and 4 and 5 overlay each other: no walk goes on from 5
abbrev pub ringed : Kept
ringed = record {
  group = 2;
  accepts = takes 1 0x8000 0x8fff ∷ takes 5 0 0xffff_ffff_ffff_ffff ∷ [];
  maps = board.maps;
  overlays = 1 ∷ 33 ∷ 33 ∷ 33 ∷ 5 ∷ 4 ∷ replicate 26 33;
  entry = 0;
}

-- the reference model of a net over the bank is fed with edits one after another, each finding what the earlier ones left: it answers each so, and at the start and after each every walk meets at most 64 names
pub data Fed : Kept → List NetEdit → List End → Kept → Type 0 where
  finished : {k : Kept} → Bounded k → Fed k [] [] k
  answered : {k next last : Kept} {e : NetEdit} {end : End} {es : List NetEdit} {ends : List End} →
      Bounded k → edited (net k bank) (on_net e) ≡ (end, net next bank) → Fed next es ends last → Fed k (e ∷ es) (end ∷ ends) last

-- one edit is granted, or refused
abbrev pub Grants : Kept → NetEdit → Type 0
Grants k e = Fed k (e ∷ []) (granted ∷ []) (net_after k e)

abbrev pub Refuses : Kept → NetEdit → Refusal → Type 0
Refuses k e r = Fed k (e ∷ []) (refused r ∷ []) k

abbrev pub Counted : ℕ → Result (record { 0 : ℕ; 1 : ℕ }) Fault → Type 0
Counted count (Ok g) = g.0 ≡ count
Counted count (Err e) = ⊥

-- a look at an address finds just these names: where the slots suffice it is granted with their count, and they stand in the first slots, and later slots as they were
pub record Looks (k : Kept) (a : ℕ) (names : List Name) : Type 0 where
  pub finds : lists (net k bank) a ≡ names
  pub counts : (size : ℕ) (r : Result (record { 0 : ℕ; 1 : ℕ }) Fault) → length names ≤ size → LookAnswer (lists (net k bank)) a size r → Counted (length names) r
  pub fills : (slots : List Name) → length names ≤ length slots → filled (lists (net k bank) a) slots ≡ names ++ drop (length names) slots

-- a look with so many slots is refused with 9, and every slot is zero, whatever it held
pub record LooksShort (k : Kept) (a size : ℕ) : Type 0 where
  pub refuses : (r : Result (record { 0 : ℕ; 1 : ℕ }) Fault) → LookAnswer (lists (net k bank)) a size r → refusal r ≡ some (plain 9)
  pub wipes : (slots : List Name) → length slots ≡ size → filled (lists (net k bank) a) slots ≡ replicate size (named 0 0)

-- the walk from an address at a node ends, and meets just so many names
abbrev pub Meets : Kept → ℕ → ℕ → ℕ → Type 0
Meets k n a count = (met : List Spot) × Walk k (node n a ∷ []) met × (length met ≡ count)
