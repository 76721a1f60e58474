-- The line of a look: two digits of a node, a space, sixteen of an address, then what is found from there.
use Rattle.std.specs.Prelude.{ℕ, cond, ◌&&◌, List, [], ◌∷◌, ◌++◌, length, take, drop, Some, None, codes, Option, nat_le, nat_lt}
use Rattle.model.specs.declared.names.Name.{Name}
use Rattle.model.specs.Model.{Meaning, found, lists}
use Rattle.text.specs.Numbers.{number_of, spelled}
use Rattle.text.specs.Rows.{found_text}
use Rattle.nets.specs.Shape.{inner}
use Rattle.nets.specs.declared.net.Net.{Net}
use Rattle.systems.specs.declared.look.Look.{Look}

abbrev pub paired : Option ℕ → Option ℕ → Option Look
paired None a = None
paired (Some n) None = None
paired (Some n) (Some a) = Some (record { node = n; address = a })

-- the two numbers that a line begins with
abbrev pub look_read : List ℕ → Option Look
look_read line = cond (nat_lt (length line) 19) None (paired (number_of (take 2 line)) (number_of (take 16 (drop 3 line))))

-- the names that a net over a space finds from a node
abbrev pub seen : {B : Type 0} → (B → Meaning) → Net B → Look → List Name
seen means s l = found (inner s.table).keeps (lists (means s.below).shape) l.node l.address

-- refused where there is no such node, or where so many slots do not hold the names
abbrev pub look_text : List Name → Look → ℕ → List ℕ
look_text names l size = ((spelled 2 l.node ++ (32 ∷ [])) ++ spelled 16 l.address) ++ cond (nat_le l.node 31 && nat_le (length names) size) (found_text names) (codes " refused")
