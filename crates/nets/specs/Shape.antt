-- What a net is to the reference model.
use Rattle.blocks.specs.Shape.{kept}
use Rattle.blocks.specs.Formed.{formed}
use Rattle.model.specs.Nets.{Kept, Formed}
use Rattle.model.specs.Walks.{Bounded}
use Rattle.model.specs.Model.{net, Meaning}
use Rattle.table.specs.declared.table.Table.{Table}
use Rattle.nets.specs.declared.net.Net.{Net}

-- what a table keeps, and that it is formed and bounded
pub record Inner : Type 0 where
  pub keeps : Kept
  pub formed_so : Formed keeps
  pub bounded_so : Bounded keeps

abbrev pub inner : Table → Inner
inner t = record { keeps = kept t.blocks; formed_so = formed t.blocks; bounded_so = t.bounded }

-- a net over a space of any meaning
abbrev pub net_means : {B : Type 0} → (B → Meaning) → Net B → Meaning
net_means means s = record {
  shape = net (inner s.table).keeps (means s.below).shape;
  sound = ((inner s.table).formed_so, (inner s.table).bounded_so, (means s.below).sound);
}
