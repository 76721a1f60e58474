-- What a walk notes, and what is answered of it.
use Rattle.std.specs.Prelude.{◌≡◌, ℕ, ◌+◌, ◌-◌, ◌<◌, ◌≤◌, cond, List, [], ◌∷◌, map, Ok, Err, Result}
use Rattle.std.proofs.Math.Option.{none, some}
use Rattle.lists.specs.Held.{held}
use Rattle.model.specs.declared.faults.Fault.{Fault}
use Rattle.model.specs.Names.{top, raised}
use Rattle.model.specs.Nets.{Kept, Spot, node, below, accepting}
use Rattle.model.specs.Walks.{trace}
use Rattle.model.specs.Model.{own}
use Rattle.model.specs.Faults.{told, plain, at_name}
use Rattle.walks.specs.declared.notes.Note.{Note}
use Rattle.walks.specs.declared.notes.Note.TheVariants.{Own, Arrival}
use Rattle.walks.specs.declared.notes.Notes.{Notes}
use Rattle.walks.specs.Spans.{spans, lifted}

-- of all that a walk meets the names that are accepted, and the arrivals below
abbrev pub noted : Kept → List Spot → List Note
noted k [] = []
noted k (node n a ∷ met) = cond (accepting k.accepts n a) (Own (own k n a) ∷ noted k met) (noted k met)
noted k (below a ∷ met) = Arrival a ∷ noted k met

abbrev pub note_up : ℕ → Note → Note
note_up d (Own x) = Own (raised d x)
note_up d (Arrival a) = Arrival (a + d)

-- a finished walk, and that at each distance up to the span it is the same, each address raised by the distance
pub record Walked (k : Kept) (n a : ℕ) (items : List Note) (span : ℕ) : Type 0 where
  pub met : List Spot
  pub known : n < 32
  pub found : trace k 64 (node n a ∷ []) ≡ some met
  pub listed : items ≡ noted k met
  pub spanned : span ≡ spans k (top - 1 - a) met
  pub last : a + span < top
  pub alike : (d : ℕ) → d ≤ span → trace k 64 (node n (a + d) ∷ []) ≡ some (map (lifted d) met)
  pub noted_alike : (d : ℕ) → d ≤ span → noted k (map (lifted d) met) ≡ map (note_up d) (noted k met)

-- no walk: there is no such node, or the walk meets more than 64 names
pub record NotWalked (k : Kept) (n a : ℕ) (e : Fault) : Type 0 where
  pub unknown : 31 < n → told e ≡ plain 1
  pub named : n < 32 → told e ≡ at_name 8 n a
  pub too_long : n < 32 → trace k 64 (node n a ∷ []) ≡ none

abbrev pub WalkAnswer : Kept → ℕ → ℕ → Result Notes Fault → Type 0
WalkAnswer k n a (Ok notes) = Walked k n a (held notes.items) notes.span
WalkAnswer k n a (Err e) = NotWalked k n a e
