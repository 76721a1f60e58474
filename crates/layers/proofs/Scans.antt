-- A renaming's pairs, and the slots that it renames.
use Rattle.std.proofs.Common.{◌≡◌, ℕ, ◌+◌, ◌<◌, Bool, true, false, cond, ◌||◌, eqb, List, [], ◌∷◌, ◌++◌, map, length, get_or, take, drop, set, refl, ap, ◌∙◌}
use Rattle.std.proofs.lemmas.List.{get_or_default}
use Rattle.std.proofs.lemmas.List.Edits.{map_over_more}
use Rattle.std.specs.List.{find, list_any}
use Rattle.std.specs.Option.{option_map, unwrap_or}
use Rattle.std.specs.Prelude.{Some}
use Rattle.std.specs.declared.option.Option.{Option}
use Rattle.sets.specs.Members.{some_of}
use Rattle.model.specs.declared.names.Name.{Name}
use Rattle.model.specs.Names.{replaced, renamed}
use Rattle.layers.specs.declared.pairs.Pair.{Pair}
use Rattle.layers.specs.Pairs.{two}

-- the pairs' test as the reference model puts it
pub some_two : (q : ℕ × ℕ → Bool) (xs : List Pair) → some_of q (map two xs) ≡ list_any (λ x. q (two x)) xs
some_two q [] = refl
some_two q (x ∷ xs) = ap (λ b. q (two x) || b) (some_two q xs)

pub replaced_by : (k : ℕ) (xs : List Pair) → replaced (map two xs) k ≡ unwrap_or (option_map (λ (p : Pair). p.to) (find (λ (p : Pair). eqb p.from k) xs)) k
replaced_by k [] = refl
replaced_by k (x ∷ xs) = go (eqb x.from k) (find (λ (p : Pair). eqb p.from k) xs) (replaced_by k xs)
  where
    go : (b : Bool) (r : Option Pair) → replaced (map two xs) k ≡ unwrap_or (option_map (λ (p : Pair). p.to) r) k → cond b x.to (replaced (map two xs) k) ≡ unwrap_or (option_map (λ (p : Pair). p.to) (cond b (Some x) r)) k
    go true r h = refl
    go false r h = h

-- one slot more is renamed
pub renamed_more : (ps : List (ℕ × ℕ)) (xs ys : List Name) (i r : ℕ) (d : Name) → i < length xs → i < length ys
    → ys ≡ map (renamed ps) (take i xs) ++ drop i xs → r ≡ replaced ps (get_or ys i d).component
    → set ys i (record { component = r; address = (get_or ys i d).address }) ≡ map (renamed ps) (take (i + 1) xs) ++ drop (i + 1) xs
renamed_more ps xs ys i r d h h' inv e =
    ap (λ c. set ys i (record { component = c; address = (get_or ys i d).address })) e
    ∙ map_over_more (renamed ps) xs ys i (get_or ys i d) h inv (get_or_default ys i d (get_or ys i d) h')
