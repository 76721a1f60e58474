use Rattle.std.proofs.Common.{refl, arith}
use Rattle.writing.proofs.Pastes.{pasted_one}
use Rattle.writing.proofs.writer.Writer.byte.Goals as goal

pub returns : goal.returns
returns c =
    let f = c.requires.within in
    record { same = refl; at = refl; out = pasted_one c.args.byte c.args.self.now.at c.args.self.now.out.now (omega arith) }
