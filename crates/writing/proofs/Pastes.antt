-- Pieces of text written one after another.
use Rattle.std.proofs.Common.{◌≡◌, ℕ, suc, ◌+◌, ◌<◌, ◌≤◌, List, [], ◌∷◌, ◌++◌, length, take, drop, set, sym, ap, ◌∙◌, arith}
use Rattle.std.proofs.lemmas.List.{set_split, append_assoc, length-append, length-take-le, length-drop, take-append-drop, take_at, drop_at, drop-drop}
use Rattle.writing.specs.Pasting.{pasted}

pub pasted-nil : (at : ℕ) (o : List ℕ) → o ≡ pasted [] at o
unfolding pasted
pasted-nil at o = let e : at + 0 ≡ at = omega arith in sym (ap (λ n. take at o ++ drop n o) e ∙ take-append-drop at o)

pub pasted_one : (c k : ℕ) (o : List ℕ) → k < length o → set o k c ≡ pasted (c ∷ []) k o
unfolding pasted
pasted_one c k o h = let e : suc k ≡ k + 1 = omega arith in set_split o k c h ∙ ap (λ n. take k o ++ c ∷ drop n o) e

-- one paste after another
pub pasted_both : (u w : List ℕ) (at k : ℕ) (o : List ℕ) → k ≡ at + length u → at + length u ≤ length o → pasted w k (pasted u at o) ≡ pasted (u ++ w) at o
unfolding pasted
pasted_both u w at k o e h =
    let l : length (take at o) ≡ at = length-take-le at o (omega arith) in
    let n : length (take at o ++ u) ≡ k = length-append (take at o) u ∙ ap (λ z. z + length u) l ∙ sym e in
    let r = drop (at + length u) o in
    let p : take at o ++ (u ++ r) ≡ (take at o ++ u) ++ r = sym (append_assoc (take at o) u r) in
    let t : take k (take at o ++ (u ++ r)) ≡ take at o ++ u = ap (take k) p ∙ take_at (take at o ++ u) r k n in
    let g : at + length u + length w ≡ at + length (u ++ w) = omega (arith, length-append u w) in
    let d : drop (k + length w) (take at o ++ (u ++ r)) ≡ drop (at + length (u ++ w)) o =
    ap (drop (k + length w)) p ∙ sym (drop-drop (length w) k ((take at o ++ u) ++ r)) ∙ ap (drop (length w)) (drop_at (take at o ++ u) r k n)
    ∙ drop-drop (length w) (at + length u) o ∙ ap (λ m. drop m o) g in
    ap (λ z. z ++ (w ++ drop (k + length w) (take at o ++ (u ++ r)))) t ∙ ap (λ z. (take at o ++ u) ++ (w ++ z)) d
    ∙ append_assoc (take at o) u (w ++ drop (at + length (u ++ w)) o) ∙ ap (λ z. take at o ++ z) (sym (append_assoc u w (drop (at + length (u ++ w)) o)))

pub length-pasted : (w : List ℕ) (at : ℕ) (o : List ℕ) → at + length w ≤ length o → length (pasted w at o) ≡ length o
unfolding pasted
length-pasted w at o h =
    length-append (take at o) (w ++ drop (at + length w) o) ∙ omega (arith, length-append w (drop (at + length w) o), length-take-le at o (omega arith), length-drop (at + length w) o)

-- a piece written off the front of what is left to write
pub piece_more : (u w rest : List ℕ) (k m : ℕ) (o out whole : List ℕ) → rest ≡ u ++ w → m ≡ k + length u → k + length u ≤ length o → out ≡ pasted u k o → pasted rest k o ≡ whole → pasted w m out ≡ whole
piece_more u w rest k m o out whole e n h q p = ap (λ z. pasted w m z) q ∙ pasted_both u w k m o n h ∙ ap (λ z. pasted z k o) (sym e) ∙ p
