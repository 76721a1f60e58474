-- Closing a gap in a list.
use Rattle.std.proofs.Common.{◌≡◌, ℕ, ◌+◌, ◌-◌, ◌<◌, ◌≤◌, List, [], ◌++◌, length, take, drop, sym, ap, ◌∙◌, arith}
use Rattle.std.proofs.lemmas.List.{length-drop, take-take, take_all, drop_all, append-nil, drop-take}
use Rattle.std.proofs.lemmas.List.Edits.{take-paste}
use Rattle.std.specs.List.{copy_within}

-- of a list of which the first `count` are held, what stands behind a place moves down by one
pub shifted : {X : Type 0} (xs : List X) (at count : ℕ) → at < count → count ≤ length xs → take (count - 1) (copy_within xs (at + 1) count at) ≡ take at (take count xs) ++ drop (at + 1) (take count xs)
shifted xs at count h l =
    let n : at + (count - (at + 1)) ≡ count - 1 = omega arith in
    let long = length-drop (at + 1) xs in
    ap (λ k. take k (copy_within xs (at + 1) count at)) (sym n)
    ∙ take-paste xs at (drop (at + 1) xs) (count - (at + 1)) (omega arith) (omega arith)
    ∙ ap (λ zs. zs ++ take (count - (at + 1)) (drop (at + 1) xs)) (sym (take-take at count xs (omega arith)))
    ∙ ap (λ zs. take at (take count xs) ++ zs) (sym (drop-take (at + 1) (count - (at + 1)) xs) ∙ ap (λ k. drop (at + 1) (take k xs)) (let e : (at + 1) + (count - (at + 1)) ≡ count = omega arith in e))

pub none_removed : {X : Type 0} (xs : List X) (at : ℕ) → length xs ≤ at → xs ≡ take at xs ++ drop (at + 1) xs
none_removed xs at h =
    sym (ap (λ zs. zs ++ drop (at + 1) xs) (take_all at xs h) ∙ ap (λ zs. xs ++ zs) (drop_all (at + 1) xs (omega arith)) ∙ append-nil xs)
