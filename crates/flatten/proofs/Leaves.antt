-- Loops over names and records, one element after another.
use Rattle.std.proofs.Common.{◌≡◌, ℕ, ◌+◌, ◌<◌, ◌≤◌, true, false, cond, List, [], ◌∷◌, ◌++◌, map, length, get_or, take, drop, set, sym, ap, ◌∙◌, append_assoc, arith}
use Rattle.std.proofs.lemmas.List.{drop_more, take_more, take_more_set, drop-set-lt, drop_all, take_all, map_push, set_at, length-take-le, length-map, take-append-drop, get_or_at, append-nil, drop-drop}
use Rattle.model.specs.declared.names.Name.{Name}
use Rattle.model.specs.declared.records.Record.{Record}
use Rattle.model.specs.Names.{holds}
use Rattle.flatten.specs.Runs.{once}
use Rattle.flatten.specs.Steps.{row, rows}

-- no more names than there were
pub length-once : (xs : List Name) → length (once xs) ≤ length xs
length-once [] = omega arith
length-once (x ∷ xs) = elim (holds xs x) as (λ b. length (cond b (once xs) (x ∷ once xs)) ≤ length (x ∷ xs)) [
  | true ↦ (let h = length-once xs in omega arith)
  | false ↦ (let h = length-once xs in omega arith)
]

-- a map in place: what stands before i is done
pub map_next : {X : Type 0} (f : X → X) (xs cur : List X) (i : ℕ) (d : X) → i < length xs
    → cur ≡ map f (take i xs) ++ drop i xs
    → set cur i (f (get_or cur i d)) ≡ map f (take (i + 1) xs) ++ drop (i + 1) xs
map_next f xs cur i d h inv =
    let n : length (map f (take i xs)) ≡ i = length-map (take i xs) f ∙ length-take-le i xs (omega arith) in
    let split : cur ≡ map f (take i xs) ++ (get_or xs i d ∷ drop (i + 1) xs) = inv ∙ ap (λ t. map f (take i xs) ++ t) (drop_more xs i d h) in
    let read : get_or cur i d ≡ get_or xs i d = ap (λ t. get_or t i d) split ∙ get_or_at (map f (take i xs)) (get_or xs i d) (drop (i + 1) xs) d i n in
    ap (λ t. set cur i (f t)) read
    ∙ ap (λ t. set t i (f (get_or xs i d))) split
    ∙ set_at (map f (take i xs)) (get_or xs i d) (drop (i + 1) xs) (f (get_or xs i d)) i n
    ∙ sym (append_assoc (map f (take i xs)) (f (get_or xs i d) ∷ []) (drop (i + 1) xs))
    ∙ ap (λ t. t ++ drop (i + 1) xs) (sym (ap (map f) (take_more xs i d h) ∙ map_push f (take i xs) (get_or xs i d)))

pub map_done : {X : Type 0} (f : X → X) (xs cur : List X) (i : ℕ) → length xs ≤ i
    → cur ≡ map f (take i xs) ++ drop i xs → cur ≡ map f xs
map_done f xs cur i h inv =
    inv ∙ ap (λ t. map f (take i xs) ++ t) (drop_all i xs h) ∙ append-nil _ ∙ ap (map f) (take_all i xs h)

-- rows written before `found`, for the names that are still to come
module _ (lo : ℕ) (found : ℕ) (part all : List Record) (ys : List Name) (inv : take found part ++ rows lo lo ys ≡ all) where
  pub rows_new : (x : Name) (zs : List Name) → ys ≡ x ∷ zs → found < length part → take (found + 1) (set part found (row lo lo x)) ++ rows lo lo zs ≡ all
  rows_new x zs e l =
      ap (λ t. t ++ rows lo lo zs) (take_more_set part found (row lo lo x) l)
      ∙ append_assoc (take found part) (row lo lo x ∷ []) (rows lo lo zs)
      ∙ ap (λ t. take found part ++ rows lo lo t) (sym e)
      ∙ inv

  pub rows_done : (was : List Record) → ys ≡ [] → drop found part ≡ drop found was → part ≡ all ++ drop found was
  rows_done was e kept =
      let q : take found part ≡ all = sym (append-nil (take found part)) ∙ ap (λ t. take found part ++ rows lo lo t) (sym e) ∙ inv in
      sym (take-append-drop found part) ∙ ap (λ t. t ++ drop found part) q ∙ ap (λ t. all ++ t) kept

pub kept_new : {X : Type 0} (part was : List X) (found : ℕ) (y : X) → drop found part ≡ drop found was → drop (found + 1) (set part found y) ≡ drop (found + 1) was
kept_new part was found y e =
    drop-set-lt (found + 1) part found y (omega arith) ∙ sym (drop-drop 1 found part) ∙ ap (drop 1) e ∙ drop-drop 1 found was
