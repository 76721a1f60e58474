-- Runs of addresses, and flat tables that are cut into them.
use Rattle.std.specs.Prelude.{◌≡◌, ℕ, zero, suc, ◌+◌, ◌-◌, ◌<◌, ◌≤◌, Bool, true, cond, not, ◌&&◌, ◌⊎◌, List, [], ◌∷◌, ◌++◌, map, length, nat_le}
use Rattle.model.specs.declared.names.Name.{Name}
use Rattle.model.specs.declared.records.Record.{Record}
use Rattle.model.specs.Names.{top, raise, holds, SameSet}
use Rattle.model.specs.Bottoms.{tabled}

-- the addresses lo to hi are a run: at each the set of names is the one at lo raised by the distance, and hi is the last address or at the next it is not
pub record Run (list : ℕ → List Name) (lo hi : ℕ) : Type 0 where
  pub rises : lo ≤ hi
  pub below : hi < top
  pub same : (a : ℕ) → lo ≤ a → a ≤ hi → SameSet (raise (a - lo) (list lo)) (list a)
  pub longest : (hi + 1 ≡ top) ⊎ (SameSet (raise (hi + 1 - lo) (list lo)) (list (hi + 1)) → ⊥)

-- a list with each of its names once
abbrev pub once : List Name → List Name
once [] = []
once (x ∷ xs) = cond (holds xs x) (once xs) (x ∷ once xs)

-- the name to which a record leads its first address
abbrev pub name_of : Record → Name
name_of r = record { component = r.component; address = r.base }

-- the names of one run, each once, as records with its ends
pub record Rows (list : ℕ → List Name) (lo hi : ℕ) (rows : List Record) : Type 0 where
  pub los : map (λ r. r.lo) rows ≡ map (λ _. lo) rows
  pub his : map (λ r. r.hi) rows ≡ map (λ _. hi) rows
  pub names : SameSet (map name_of rows) (list lo)
  pub single : once (map name_of rows) ≡ map name_of rows

-- a table cut into runs, from an address up to the top
pub data Cut (list : ℕ → List Name) : ℕ → List Record → Type 0 where
  end : Cut list top []
  run : {lo hi : ℕ} {rows rest : List Record} → Run list lo hi → Rows list lo hi rows → Cut list (hi + 1) rest → Cut list lo (rows ++ rest)

-- a table cut into runs from address 0 up, that gives at each address the names of the list
abbrev pub Flattened : (ℕ → List Name) → List Record → Type 0
Flattened list rows = Cut list 0 rows × ((a : ℕ) → a < top → SameSet (tabled rows a) (list a))

abbrev pub every : (Name → Bool) → List Name → Bool
every p [] = true
every p (x ∷ xs) = p x && every p xs

-- whether the set at an address is not the one before it raised by one
abbrev pub seam : (ℕ → List Name) → ℕ → Bool
seam list zero = true
seam list (suc a) = not (every (holds (list (suc a))) (raise 1 (list a)) && every (holds (raise 1 (list a))) (list (suc a)))

-- the records that flattening the addresses below n takes: for each seam, the names there, each once. It stays shut, as does the one below
unfoldable pub needed : (ℕ → List Name) → ℕ → ℕ
needed list zero = 0
needed list (suc a) = needed list a + cond (seam list a) (length (once (list a))) 0

-- whether each list below n has at most s names
unfoldable pub fits : (ℕ → List Name) → ℕ → ℕ → Bool
fits list s zero = true
fits list s (suc a) = fits list s a && nat_le (length (list a)) s
