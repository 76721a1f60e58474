-- How a call that is settled ended.
use Rattle.std.proofs.Common.{◌≡◌, ℕ, refl, arith}
use mathlib.Core.Option.{Option, none, some}
use Rattle.model.specs.Faults.{Refusal}
use Rattle.model.specs.Edits.{granted, refused, settled}

pub settled_granted : {A : Type 0} (o : Option Refusal) (new old : A) → granted ≡ (settled o new old).0 → o ≡ none
settled_granted none new old e = refl
settled_granted (some r) new old e = let z : ◌≡◌ {A = ℕ} 0 1 = cc in absurd (omega arith)

pub settled_refused : {A : Type 0} (o : Option Refusal) (new old : A) (r : Refusal) → refused r ≡ (settled o new old).0 → o ≡ some r
settled_refused none new old r e = let z : ◌≡◌ {A = ℕ} 0 1 = cc in absurd (omega arith)
settled_refused (some s) new old r e = cc
