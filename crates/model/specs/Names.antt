-- Names and lists of names: raising, renaming, membership, and equality as sets.
use Rattle.std.specs.Prelude.{◌≡◌, ℕ, ◌+◌, ◌^◌, Bool, cond, ◌&&◌, List, [], ◌∷◌, map, ◌==◌}
use Rattle.sets.specs.Members.{some_of}
use Rattle.model.specs.declared.names.Name.{Name}

-- one past the last address
abbrev pub top : ℕ
top = 2 ^ 64

abbrev pub raised : ℕ → Name → Name
raised d n = record { component = n.component; address = n.address + d }

-- a list of names, the address of each raised by d
abbrev pub raise : ℕ → List Name → List Name
raise d xs = map (raised d) xs

abbrev pub same_name : Name → Name → Bool
same_name m n = m.component == n.component && m.address == n.address

-- whether a list has a name
abbrev pub holds : List Name → Name → Bool
holds xs n = some_of (λ x. same_name x n) xs

-- two lists have the same names
abbrev pub SameSet : List Name → List Name → Type 0
SameSet xs ys = (n : Name) → holds xs n ≡ holds ys n

-- a component as a renaming's pairs, from and to, give it: replaced once, by the first pair that is from it
abbrev pub replaced : List (ℕ × ℕ) → ℕ → ℕ
replaced [] c = c
replaced (p ∷ ps) c = cond (p.0 == c) p.1 (replaced ps c)

abbrev pub renamed : List (ℕ × ℕ) → Name → Name
renamed ps n = record { component = replaced ps n.component; address = n.address }
