-- What stored blocks are to the reference model.
use Rattle.std.specs.Prelude.{map}
use Rattle.lists.specs.Held.{held}
use Rattle.model.specs.declared.blocks.AcceptBlock.{AcceptBlock}
use Rattle.model.specs.declared.blocks.MapBlock.{MapBlock}
use Rattle.model.specs.Nets.{Kept}
use Rattle.blocks.specs.declared.stored.Accepted.{Accepted}
use Rattle.blocks.specs.declared.stored.Mapped.{Mapped}
use Rattle.blocks.specs.declared.stored.Blocks.{Blocks}
use Rattle.blocks.specs.Destinations.{overlay_number}

abbrev pub accept_block : Accepted → AcceptBlock
accept_block x = x.block

abbrev pub map_block : Mapped → MapBlock
map_block x = x.block

abbrev pub kept : Blocks → Kept
kept t = record { group = t.group; accepts = map accept_block (held t.accepts); maps = map map_block (held t.maps); overlays = map overlay_number t.overlays; entry = t.entry }
