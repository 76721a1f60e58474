use Rattle.roundtrip.proofs.Trips.{tables_storable, written_loads, bytes_return}
use Rattle.roundtrip.proofs.laws.texts_come_back.Goals as goal

pub returns : goal.returns
returns c = record { storable = tables_storable; back = written_loads; bytes = bytes_return }
