-- The round trip from a net to text and back.
use Rattle.std.specs.Prelude.{◌≡◌, Ok}
use Rattle.model.specs.Nets.{Kept, fresh}
use Rattle.blocks.specs.Shape.{kept}
use Rattle.table.specs.declared.table.Table.{Table}
use Rattle.writing.specs.Texts.{text_of}
use Rattle.loading.specs.Texts.{lines_of}
use Rattle.loading.specs.Loads.{loaded}
use Rattle.roundtrip.specs.Storing.{Storable}

-- every table keeps what can be stored
abbrev pub TablesStorable : Type 0
TablesStorable = (t : Table) → Storable (kept t.blocks)

-- the text of what can be stored is granted line by line by a fresh net of its group, and leaves just that: the same blocks in the same order, overlays and entry
abbrev pub WrittenLoads : Type 0
WrittenLoads = (k : Kept) → Storable k → loaded 1 (fresh k.group) (lines_of (text_of k)) ≡ Ok k

-- and what such a load leaves is written with the same bytes
abbrev pub BytesReturn : Type 0
BytesReturn = (k m : Kept) → Storable k → loaded 1 (fresh k.group) (lines_of (text_of k)) ≡ Ok m → text_of m ≡ text_of k
