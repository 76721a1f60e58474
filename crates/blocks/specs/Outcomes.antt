-- What a change of stored blocks answers, and what it leaves.
use Rattle.std.specs.Prelude.{◌≡◌, ℕ, Bool, List, [], ◌∷◌, length, Ok, Err, Result}
use Rattle.std.proofs.Math.Option.{Option, none, some}
use Rattle.sets.specs.Members.{some_of}
use Rattle.model.specs.declared.blocks.AcceptBlock.{AcceptBlock}
use Rattle.model.specs.declared.blocks.MapBlock.{MapBlock}
use Rattle.model.specs.declared.faults.Fault.{Fault}
use Rattle.model.specs.Faults.{Refusal, told, refusal}
use Rattle.model.specs.Nets.{Kept}
use Rattle.model.specs.Edits.{NetEdit, asked, settled, net_questions, net_after, node_known, destination_known, range_rises, target_fits, not_there_yet, place_free, there}

-- a call that is refused as q says leaves what was there, and any other the new value
abbrev pub Decided : {A : Type 0} → Option Refusal → A → A → A → Result (Unit {0}) Fault → Type 0
Decided q new before after r = (refusal r ≡ q) × (after ≡ (settled q new before).1)

-- an edit of a net's table that puts all its questions but the one about walks
abbrev pub Tried : Kept → Kept → NetEdit → Result (Unit {0}) Fault → Type 0
Tried before after e r = Decided (asked (net_questions before e)) (net_after before e) before after r

-- what is asked of a block by itself
abbrev pub of_accept : AcceptBlock → List (Bool × Refusal)
of_accept b = node_known b.node ∷ range_rises b.lo b.hi ∷ []

abbrev pub of_map : MapBlock → List (Bool × Refusal)
of_map b = node_known b.node ∷ destination_known 32 b.destination ∷ range_rises b.lo b.hi ∷ target_fits b.lo b.hi b.base ∷ []

-- what is asked of a list that is to have one more, or one less, that passes a test
abbrev pub to_add : {X : Type 0} → (X → Bool) → List X → ℕ → List (Bool × Refusal)
to_add p xs room = not_there_yet (some_of p xs) ∷ place_free (length xs) room ∷ []

abbrev pub to_drop : {X : Type 0} → (X → Bool) → List X → List (Bool × Refusal)
to_drop p xs = there (some_of p xs) ∷ []

-- a plain block is wrapped as it is, or refused
abbrev pub Wrapped : {X Y : Type 0} → (X → Y) → List (Bool × Refusal) → Y → Result X Fault → Type 0
Wrapped plain qs b (Ok x) = (asked qs ≡ none) × (plain x ≡ b)
Wrapped plain qs b (Err f) = asked qs ≡ some (told f)
