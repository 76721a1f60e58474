-- The reference model fed with calls: what it is asked, what it answers, and what it keeps. It gets the arguments, and of each buffer only the length.
use Rattle.std.specs.Prelude.{ℕ, cond, List, length, take, Ok, Err, vec_items, vec_len, Result, nat_le}
use Rattle.model.specs.declared.faults.Fault.{Fault}
use Rattle.model.specs.declared.names.Name.{Name}
use Rattle.model.specs.Names.{top}
use Rattle.model.specs.Model.{Model, lists}
use Rattle.model.specs.Faults.{Refusal, plain, told}
use Rattle.model.specs.Edits.{Edit, End, ended, edited}
use Rattle.flatten.specs.Runs.{needed, fits}
use Rattle.serve.specs.declared.call.Call.{Call}
use Rattle.serve.specs.declared.call.Call.TheVariants.{Edit as edit, Look as look, Flatten as flatten}
use Rattle.serve.specs.declared.call.Answer.{Answer}
use Rattle.serve.specs.declared.call.Answer.TheVariants.{Edited, Looked, Flattened}

-- a call: an edit, a look with so many slots, a flattening with so many slots of scratch and records of table
pub data Asked : Type 0 where
  to_edit : Edit → Asked
  to_look : ℕ → ℕ → Asked
  to_flatten : ℕ → ℕ → Asked

-- an answer: how an edit ended, the list that a look gives, the records that a flattening writes; or a refusal
pub data Reply : Type 0 where
  edited_so : End → Reply
  named : List Name → Reply
  recorded : ℕ → Reply
  denied : Refusal → Reply

abbrev pub reference : Model → Asked → Reply × Model
reference m (to_edit e) = (edited_so (edited m e).0, (edited m e).1)
reference m (to_look a slots) = (cond (nat_le (length (lists m a)) slots) (named (lists m a)) (denied (plain 9)), m)
reference m (to_flatten scratch table) =
    (cond (fits (lists m) scratch top) (cond (nat_le (needed (lists m) top) table) (recorded (needed (lists m) top)) (denied (plain 9))) (denied (plain 10)), m)

-- what a call asks
abbrev pub asked_of : {E : Type 0} → (E → Edit) → Call E → Asked
asked_of meaning (edit e) = to_edit (meaning e)
asked_of meaning (look a slots) = to_look a (vec_len slots)
asked_of meaning (flatten scratch table) = to_flatten (vec_len scratch) (vec_len table)

-- what an answer tells: of a look the first slots, as many as it counts
abbrev pub looked : Result (record { 0 : ℕ; 1 : ℕ }) Fault → List Name → Reply
looked (Ok g) slots = named (take g.0 slots)
looked (Err f) slots = denied (told f)

abbrev pub flattened : Result ℕ Fault → Reply
flattened (Ok count) = recorded count
flattened (Err f) = denied (told f)

abbrev pub heard : Answer → Reply
heard (Edited r) = edited_so (ended r)
heard (Looked r slots) = looked r (vec_items slots)
heard (Flattened r scratch table) = flattened r
