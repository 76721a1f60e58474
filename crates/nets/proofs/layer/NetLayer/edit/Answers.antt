use Rattle.std.proofs.Common.{ap}
use Rattle.model.specs.Edits.{map_to, drop_accept, drop_map}
use Rattle.nets.specs.Meant.{net_meant}
use Rattle.nets.proofs.Lifting.{edit_made}
use Rattle.nets.proofs.layer.NetLayer.edit.Goals as goal

pub returns-in-Map : goal.returns-in-Map
returns-in-Map g c =
    edit_made _ _ _ _ (map_to c.in-Map.block) c.map.result c.map.ensures.table (ap (λ s. (g.B.Space.means s).shape) c.map.ensures.below) _ (ap (net_meant g.B.Space.means) c.in-Map.is)

pub returns-in-DropAccept : goal.returns-in-DropAccept
returns-in-DropAccept g c =
    edit_made _ _ _ _ (drop_accept c.in-DropAccept.block) c.drop_accept.result c.drop_accept.ensures.table (ap (λ s. (g.B.Space.means s).shape) c.drop_accept.ensures.below) _ (ap (net_meant g.B.Space.means) c.in-DropAccept.is)

pub returns-in-DropMap : goal.returns-in-DropMap
returns-in-DropMap g c =
    edit_made _ _ _ _ (drop_map c.in-DropMap.block) c.drop_map.result c.drop_map.ensures.table (ap (λ s. (g.B.Space.means s).shape) c.drop_map.ensures.below) _ (ap (net_meant g.B.Space.means) c.in-DropMap.is)
