-- An edit of a net's table, seen as an edit of the stack that the net is the top of.
use Rattle.std.proofs.Common.{◌≡◌, Result, sym, refl, ap, ◌∙◌}
use mathlib.Core.Option.{Option, none, some}
use Rattle.model.specs.declared.faults.Fault.{Fault}
use Rattle.model.specs.Nets.{Kept}
use Rattle.model.specs.Model.{Model, net}
use Rattle.model.specs.Faults.{Refusal}
use Rattle.model.specs.Edits.{NetEdit, Edit, on_net, ended, settled, net_refusal, net_after, edited}
use Rattle.table.specs.Settling.{Settles}

settled_end : {A B : Type 0} (o : Option Refusal) (new old : A) (new' old' : B) → (settled o new old).0 ≡ (settled o new' old').0
settled_end none new old new' old' = refl
settled_end (some r) new old new' old' = refl

settled_under : (o : Option Refusal) (new old : Kept) (m : Model) → net (settled o new old).1 m ≡ (settled o (net new m) (net old m)).1
settled_under none new old m = refl
settled_under (some r) new old m = refl

module _ (k k' : Kept) (m m' : Model) (e : NetEdit) (r : Result (Unit {0}) Fault) (s : Settles k k' e r) (b : m' ≡ m) (x : Edit) (is : x ≡ on_net e) where
  pub edit_made : record { answer : ended r ≡ (edited (net k m) x).0; kept : net k' m' ≡ (edited (net k m) x).1 }
  edit_made = record {
    answer = s.0 ∙ settled_end (net_refusal k e) (net_after k e) k (net (net_after k e) m) (net k m) ∙ ap (λ y. (edited (net k m) y).0) (sym is);
    kept = ap (net k') b ∙ ap (λ j. net j m) s.1 ∙ settled_under (net_refusal k e) (net_after k e) k m ∙ ap (λ y. (edited (net k m) y).1) (sym is);
  }
