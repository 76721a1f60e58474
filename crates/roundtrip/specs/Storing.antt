-- What a net can keep, said of the reference model alone.
use Rattle.std.specs.Prelude.{◌≡◌, ℕ, ◌+◌, ◌-◌, ◌<◌, ◌≤◌, true, length, slice_index}
use Rattle.std.specs.List.{AllByRecursion}
use Rattle.model.specs.declared.blocks.AcceptBlock.{AcceptBlock}
use Rattle.model.specs.declared.blocks.MapBlock.{MapBlock}
use Rattle.model.specs.Names.{top}
use Rattle.model.specs.Nets.{Kept}
use Rattle.model.specs.Walks.{WalksEnd}
use Rattle.model.specs.Edits.{same_accept, same_map}
use Rattle.blocks.specs.Apart.{apart}

pub record GoodAccept (b : AcceptBlock) : Type 0 where
  pub node_known : b.node < 32
  pub rises : b.lo ≤ b.hi
  pub low : b.hi < top

pub record GoodMap (b : MapBlock) : Type 0 where
  pub node_known : b.node < 32
  pub destination_known : b.destination ≤ 32
  pub rises : b.lo ≤ b.hi
  pub low : b.hi < top
  pub target_fits : b.base + (b.hi - b.lo) < top

-- good blocks within the budgets, no two of a kind the same; 32 overlays, of which 33 is none; a node as entry; and every walk ends
pub record Storable (k : Kept) : Type 0 where
  pub entry_known : k.entry < 32
  pub good_accepts : AllByRecursion GoodAccept k.accepts
  pub good_maps : AllByRecursion GoodMap k.maps
  pub accepts_apart : apart same_accept k.accepts ≡ true
  pub maps_apart : apart same_map k.maps ≡ true
  pub few_accepts : length k.accepts ≤ 64
  pub few_maps : length k.maps ≤ 128
  pub all_nodes : length k.overlays ≡ 32
  pub overlays_known : (n : ℕ) → slice_index k.overlays n ≤ 33
  pub walks_end : WalksEnd k
