-- Calls fed to a stack one after another, and what every answer shows.
use Rattle.std.specs.Prelude.{◌≡◌, ℕ, true, ◌↔◌, List, [], ◌∷◌, length, take, drop, Ok, Err, vec_items, Result}
use Rattle.model.specs.declared.faults.Fault.{Fault}
use Rattle.model.specs.declared.names.Name.{Name}
use Rattle.model.specs.declared.records.Record.{Record}
use Rattle.model.specs.Names.{holds}
use Rattle.model.specs.Model.{Model, lists, AllWalksEnd}
use Rattle.model.specs.Decoding.{Decodes}
use Rattle.model.specs.Edits.{Edit}
use Rattle.model.specs.Looks.{zeroed, filled, Reach}
use Rattle.flatten.specs.Runs.{Flattened}
use Rattle.serve.specs.declared.call.Call.{Call}
use Rattle.serve.specs.declared.call.Call.TheVariants.{Edit as edit, Look as look, Flatten as flatten}
use Rattle.serve.specs.declared.call.Answer.{Answer}
use Rattle.serve.specs.declared.call.Answer.TheVariants.{Edited as edited_with, Looked as looked_with, Flattened as flattened_with}
use Rattle.serve.specs.Reference.{asked_of, heard, reference}

-- a granted look: the names in the slots are exactly those that decode steps reach and that a node or the bottom accepts, as the renamings give them; and the reach is lawful
abbrev pub LookRight : Model → ℕ → Result (record { 0 : ℕ; 1 : ℕ }) Fault → List Name → Type 0
LookRight m a (Ok g) after = ((x : Name) → (holds (take g.0 after) x ≡ true) ↔ Decodes m a x) × Reach (lists m) a g.1
LookRight m a (Err f) after = Unit {0}

-- a granted flattening: the table is cut into runs, each name of a run once, and gives the stack's set of names at every address; later records are as they were. A refused one leaves the table
abbrev pub FlattenRight : Model → Result ℕ Fault → List Record → List Record → Type 0
FlattenRight m (Ok count) table after = Flattened (lists m) (take count after) × (drop count after ≡ drop count table) × (length after ≡ length table)
FlattenRight m (Err f) table after = after ≡ table

-- what an answer shows beside being the reference model's, and what it leaves in each buffer
abbrev pub Shows : {E : Type 0} → Model → Call E → Answer → Type 0
Shows m (edit e) (edited_with r) = Unit {0}
Shows m (edit e) (looked_with r slots) = ⊥
Shows m (edit e) (flattened_with r scratch table) = ⊥
Shows m (look a slots) (edited_with r) = ⊥
Shows m (look a slots) (looked_with r after) = LookRight m a r (vec_items after) × (vec_items after ≡ filled (lists m a) (vec_items slots))
Shows m (look a slots) (flattened_with r scratch table) = ⊥
Shows m (flatten scratch table) (edited_with r) = ⊥
Shows m (flatten scratch table) (looked_with r slots) = ⊥
Shows m (flatten scratch table) (flattened_with r s t) = FlattenRight m r (vec_items table) (vec_items t) × (vec_items s ≡ zeroed (vec_items scratch))

-- an answer is the reference model's to the same call, and shows what it should
pub record Right {E : Type 0} (meaning : E → Edit) (m : Model) (c : Call E) (r : Answer) : Type 0 where
  pub same : heard r ≡ (reference m (asked_of meaning c)).0
  pub shows : Shows m c r

-- calls one after another, each finding what the reference model keeps after the earlier ones: every answer is right, and at the start and after each call every walk of every net in the stack meets at most 64 names
pub data Served {E : Type 0} (meaning : E → Edit) : Model → List (Call E) → List Answer → Model → Type 0 where
  finished : {m : Model} → AllWalksEnd m → Served meaning m [] [] m
  answered : {m n : Model} {c : Call E} {r : Answer} {cs : List (Call E)} {rs : List Answer} →
      AllWalksEnd m → Right meaning m c r → Served meaning (reference m (asked_of meaning c)).1 cs rs n → Served meaning m (c ∷ cs) (r ∷ rs) n
