use Rattle.std.proofs.Common.{◌≤◌, length, rules}
use Rattle.netfile.proofs.Rowing.{written_within}
use Rattle.netfile.proofs.print_text.Goals as goal

pub slice_bounds-write_all-end : goal.slice_bounds-write_all-end
slice_bounds-write_all-end c =
    let t = c.in-Ok.ensures.text in
    let h : c.in-Ok.count ≤ length c.write.new.out = written_within _ _ c.write.new.out c.in-Ok.count t.0 t.1 in
    search rules
