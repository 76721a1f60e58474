use Rattle.std.proofs.Common.{sym, ◌∙◌}
use Rattle.frames.proofs.Laying.{node_frame, look_frame}
use Rattle.frames.proofs.read.read_frame.Goals as goal

pub returns-in_default-len1-up : goal.returns-in_default-len1-up
returns-in_default-len1-up c =
    node_frame c.args.kinds c.args.bytes.now c.in_ok-kind.kind c.read_node_frame.result c.in_default-len1-up.len_at_least (sym c.try_from.ensures ∙ c.in_ok-kind.was)
    c.if-not-knows.ensures c.in_default-len1-up.not-Look-0 c.read_node_frame.ensures

pub returns-in-Look-default : goal.returns-in-Look-default
returns-in-Look-default c =
    look_frame c.args.kinds c.args.bytes.now c.in_ok-kind.kind c.read_look.result c.in-len1-up.len_at_least (sym c.try_from.ensures ∙ c.in_ok-kind.was)
    c.in-Look-default.is-0 c.if-not-knows.ensures c.read_look.ensures
