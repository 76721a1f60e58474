use Rattle.frames.proofs.Feeding.{read_by_characters}
use Rattle.frames.proofs.Bounds.{nets_read_less, line_fits}
use Rattle.frames.proofs.laws.lines_stand.Goals as goal

pub returns : goal.returns
returns c = record { fed = read_by_characters; nets = nets_read_less; fits = line_fits }
