use Rattle.std.proofs.Common.{◌≡◌, ℕ, ◌+◌, ◌-◌, ◌^◌, ◌<◌, ◌≤◌, List, length, take, drop, IfSome, Some, None, Option, unwrap_or, zero-lt-suc, arith}
use native.Mathlib.Nat.{one-le-pow}
use Rattle.std.proofs.lemmas.List.{length-take, length-drop}

-- a field of a line
bounded : (o : Option ℕ) (k : ℕ) → IfSome o (λ n. n < 16 ^ k) → unwrap_or o 0 < 16 ^ k
bounded None k h = one-le-pow k 16 (zero-lt-suc 15)
bounded (Some n) k h = h

pub field_bound : (cs : List ℕ) (from count r : ℕ) (o : Option ℕ) → from + count ≤ length cs → r ≡ unwrap_or o 0 → IfSome o (λ n. n < 16 ^ length (take (from + count - from) (drop from cs))) → r < 16 ^ count
field_bound cs from count r o h e q =
    let a = length-take (from + count - from) (drop from cs) in
    let b = length-drop from cs in
    let w : length (take (from + count - from) (drop from cs)) ≡ count = omega arith in
    let g = bounded o (length (take (from + count - from) (drop from cs))) q in
    rw (e, ← w) g
