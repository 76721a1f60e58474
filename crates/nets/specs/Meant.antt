-- What an edit of a net is to the reference model.
use Rattle.model.specs.Model.{Meaning}
use Rattle.model.specs.Edits.{Edit, on_net, plug, accept, map_to, over, drop_accept, drop_map, enter}
use Rattle.nets.specs.declared.edit.NetEdit.{NetEdit}
use Rattle.nets.specs.declared.edit.NetEdit.TheVariants.{Accept, Map, Over, DropAccept, DropMap, Enter, Plug}

abbrev pub net_meant : {B : Type 0} → (B → Meaning) → NetEdit B → Edit
net_meant means (Accept b) = on_net (accept b)
net_meant means (Map b) = on_net (map_to b)
net_meant means (Over n d) = on_net (over n d)
net_meant means (DropAccept b) = on_net (drop_accept b)
net_meant means (DropMap b) = on_net (drop_map b)
net_meant means (Enter n) = on_net (enter n)
net_meant means (Plug b) = plug (means b).shape
