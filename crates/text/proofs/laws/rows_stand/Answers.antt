use Rattle.text.proofs.Backs.{row_back, address_back}
use Rattle.text.proofs.Peels.{row-spelled, row_fits, address-spelled}
use Rattle.text.proofs.laws.rows_stand.Goals as goal

pub returns : goal.returns
returns c = record { row = row_back; row_spelled = row-spelled; row_fits = row_fits; address = address_back; address_spelled = address-spelled }
