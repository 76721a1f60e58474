use Rattle.loading.proofs.Lines.{no_line, ended_line, last_line}
use Rattle.loading.proofs.Building.{nets_build}
use Rattle.loading.proofs.laws.texts_stand.Goals as goal

pub returns : goal.returns
returns c = record { empty = no_line; ended = ended_line; last = last_line; nets = nets_build }
