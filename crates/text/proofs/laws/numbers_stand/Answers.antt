use Rattle.text.proofs.Backs.{written_read, read_written, length-spelled}
use Rattle.text.proofs.laws.numbers_stand.Goals as goal

pub returns : goal.returns
returns c = record { written = written_read; read = read_written; width = length-spelled }
