-- What one call of the walk does to the notes.
use Rattle.std.specs.Prelude.{◌≡◌, ℕ, ◌+◌, List, ◌++◌, length, Some, None, Option}
use Rattle.std.proofs.Math.Option.{none, some}
use Rattle.lists.specs.Held.{held}
use Rattle.model.specs.Nets.{Kept, Spot}
use Rattle.model.specs.Walks.{trace}
use Rattle.walks.specs.declared.notes.Notes.{Notes}
use Rattle.walks.specs.declared.notes.Walk.{Walk}
use Rattle.walks.specs.Spans.{spans}
use Rattle.walks.specs.Noted.{noted}

-- a walk through spots that ends with `over` of `left` names still allowed
pub record Passed (k : Kept) (spots : List Spot) (left : ℕ) (before after : Notes) (over : ℕ) : Type 0 where
  pub met : List Spot
  pub found : trace k left spots ≡ some met
  pub counted : over + length met ≡ left
  pub listed : held after.items ≡ held before.items ++ noted k met
  pub spanned : after.span ≡ spans k before.span met

abbrev pub Went : Kept → List Spot → ℕ → Notes → Notes → Option ℕ → Type 0
Went k spots left before after None = trace k left spots ≡ none
Went k spots left before after (Some over) = Passed k spots left before after over

-- the same of a walk, which has with it what is still allowed
abbrev pub allowed : Walk → Option (Unit {0}) → Option ℕ
allowed w None = None
allowed w (Some u) = Some w.left

abbrev pub WentOn : Kept → List Spot → Walk → Walk → Option (Unit {0}) → Type 0
WentOn k spots before after r = Went k spots before.left before.notes after.notes (allowed after r)
