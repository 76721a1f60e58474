use Rattle.std.proofs.Common.{length, get_or, sym, arith}
use Rattle.text.proofs.Spelling.{fits_more, value_below, in_range}
use Rattle.text.proofs.number.read_number.Goals as goal

pub overflow_mul-value : goal.overflow_mul-value
overflow_mul-value c =
    let some = in_range 1 16 (length c.args.digits.now) _ _ c.new.ensures.start c.new.ensures.end c.if-not-contains.ensures.cases in
    let h = fits_more c.loop-byte.byte-index c.loop-byte.value (omega arith) c.loop-byte.invariant.0 in omega arith

pub overflow_add-value : goal.overflow_add-value
overflow_add-value c =
    let some = in_range 1 16 (length c.args.digits.now) _ _ c.new.ensures.start c.new.ensures.end c.if-not-contains.ensures.cases in
    let h = fits_more c.loop-byte.byte-index c.loop-byte.value (omega arith) c.loop-byte.invariant.0 in
    let d = value_below (get_or c.args.digits.now c.loop-byte.byte-index 0) c.in_ok-low.low (sym c.in_ok-low.ensures) in
    omega arith
