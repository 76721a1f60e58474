-- What an edit of a table answers, and what it leaves.
use Rattle.std.specs.Prelude.{◌≡◌, Result}
use Rattle.model.specs.declared.faults.Fault.{Fault}
use Rattle.model.specs.Nets.{Kept}
use Rattle.model.specs.Edits.{NetEdit, ended, settled, net_refusal, net_after}

-- an edit answers as the reference model does, and leaves what that leaves: refused, what was there
abbrev pub Settles : Kept → Kept → NetEdit → Result (Unit {0}) Fault → Type 0
Settles before after e r =
    (ended r ≡ (settled (net_refusal before e) (net_after before e) before).0) × (after ≡ (settled (net_refusal before e) (net_after before e) before).1)
