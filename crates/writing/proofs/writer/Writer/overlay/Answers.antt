use Rattle.std.proofs.Common.{ap}
use Rattle.blocks.specs.Destinations.{overlay_number}
use Rattle.writing.specs.Texts.{overlay_line}
use Rattle.writing.proofs.Writers.{begun, done}
use Rattle.writing.proofs.writer.Writer.overlay.Goals as goal

pub returns-in-None : goal.returns-in-None
returns-in-None c = done (ap (λ o. overlay_line c.args.node (overlay_number o)) c.in-None.is) (begun (overlay_line c.args.node (overlay_number c.args.overlay)) c.args.self.now)
