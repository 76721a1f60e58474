use Rattle.std.proofs.lemmas.Result.{err_from_is_err_and}
use Rattle.frames.proofs.Laying.{map_wrong, map_whole}
use Rattle.frames.proofs.read.read_map.Goals as goal

pub returns-in_err-read_word : goal.returns-in_err-read_word
returns-in_err-read_word c =
    let cut = rw c.in_ok-block.ensures.ok_part at c.split_at_checked.ensures.cases in
    let p = err_from_is_err_and c.from_residual-in_err-read_word.result c.from_residual-in_err-read_word.ensures.1 in
    rw (p.1, p.2)
    (map_wrong c.args.node c.args.numbers.now c.in_ok-block.block.now c.in_ok-block.rest.now cut c.in-len1-up.len_at_least c.in_err-read_word.field-0.0 c.in_err-read_word.ensures)

pub returns : goal.returns
returns c =
    let cut = rw c.in_ok-block.ensures.ok_part at c.split_at_checked.ensures.cases in
    map_whole c.args.node c.args.numbers.now c.in_ok-block.block.now c.in_ok-block.rest.now cut c.in-len1-up.len_at_least c.in_ok-node.field-0 c.in_ok-read_word.field-0 c.in_ok-node.ensures c.in_ok-read_word.ensures
