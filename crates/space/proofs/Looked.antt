-- What a granted look leaves in its first slots.
use Rattle.std.proofs.Common.{◌≡◌, ℕ, ◌≤◌, leb, List, ◌++◌, length, take, drop, sym, ap, ◌∙◌, arith}
use Rattle.std.proofs.lemmas.List.{take_at}
use Rattle.std.proofs.lemmas.Bool.{cond-true, le-leb}
use Rattle.model.specs.declared.names.Name.{Name}
use Rattle.model.specs.Looks.{zeroed, filled}

pub listed : (list slots after : List Name) (count : ℕ) → after ≡ filled list slots → count ≡ length list → count ≤ length slots → take count after ≡ list
listed list slots after count e k l =
    let m : length list ≤ length slots = omega arith in
    ap (take count) (e ∙ cond-true (leb (length list) (length slots)) (list ++ drop (length list) slots) (zeroed slots) (le-leb (length list) (length slots) m))
    ∙ take_at list (drop (length list) slots) count (sym k)
