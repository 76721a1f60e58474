use Rattle.frames.specs.Machine.{seen}
use Rattle.frames.proofs.Feeding.{line_told}
use Rattle.frames.proofs.reader.read_line.Goals as goal

pub returns : goal.returns
returns c =
    line_told c.args.kinds c.args.line.now (seen c.new-reader.result) (seen c.take_all.new.self) c.finish.result
    c.new-reader.ensures c.take_all.ensures c.finish.ensures
