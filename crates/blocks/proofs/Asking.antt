-- Questions put one after another, and what a call leaves by them.
use Rattle.std.proofs.Common.{◌≡◌, Bool, true, false, cond, List, [], ◌∷◌, ◌++◌, None, Ok, Err, Result, sym, refl, ap, ◌∙◌}
use Rattle.std.specs.Option.{ok_or}
use Rattle.std.proofs.Common.{Option}
use mathlib.Core.Option.{Option as Maybe, none, some}
use Rattle.model.specs.declared.faults.Fault.{Fault}
use Rattle.model.specs.Faults.{Refusal, told, refusal}
use Rattle.model.specs.Edits.{asked, then, settled}
use Rattle.blocks.specs.Outcomes.{Decided}

pub asked-append : (qs ps : List (Bool × Refusal)) → asked (qs ++ ps) ≡ then (asked qs) (asked ps)
asked-append [] ps = refl
asked-append (q ∷ qs) ps = go q.0 (asked-append qs ps)
  where
    go : (b : Bool) → asked (qs ++ ps) ≡ then (asked qs) (asked ps) → cond b (asked (qs ++ ps)) (some q.1) ≡ then (cond b (asked qs) (some q.1)) (asked ps)
    go true e = e
    go false e = refl

pub settled-ap : {A B : Type 0} (g : A → B) (q : Maybe Refusal) (new old : A) → g (settled q new old).1 ≡ (settled q (g new) (g old)).1
settled-ap g none new old = refl
settled-ap g (some r) new old = refl

pub settled-holds : {A : Type 0} (P : A → Type 0) (q : Maybe Refusal) (new old : A) → (q ≡ none → P new) → P old → P (settled q new old).1
settled-holds P none new old h k = h refl
settled-holds P (some r) new old h k = k

-- no question refuses
pub granted_all : {A : Type 0} (q : Maybe Refusal) (new old after : A) → q ≡ none → after ≡ new → Decided q new old after (Ok tt)
granted_all q new old after h e = (sym h, e ∙ ap (λ o. (settled o new old).1) (sym h))

-- what `ok_or` says where there is nothing
pub refused_by : {X : Type 0} (f g : Fault) (o : Option X) → Err f ≡ ok_or o g → o ≡ None → f ≡ g
refused_by f g o e h = let i : Err f ≡ Err g = e ∙ ap (λ z. ok_or z g) h in cc

-- a question refuses
pub refused_as : {A : Type 0} (q : Maybe Refusal) (f : Fault) (new old : A) (r : Result (Unit {0}) Fault) → r ≡ Err f → q ≡ some (told f) → Decided q new old old r
refused_as q f new old r is h = (ap refusal is ∙ sym h, ap (λ o. (settled o new old).1) (sym h))

-- where the first questions are granted, the later ones decide; g says what the whole is by the part that is changed
pub decided_late : {A B : Type 0} (g : A → B) (qs ps ps' : List (Bool × Refusal)) (new old after : A) (new' : B) (r : Result (Unit {0}) Fault)
    → asked qs ≡ none → asked ps ≡ asked ps' → g new ≡ new' → Decided (asked ps) new old after r → Decided (asked (qs ++ ps')) new' (g old) (g after) r
decided_late g qs ps ps' new old after new' r h m n d =
    let e : asked ps ≡ asked (qs ++ ps') = m ∙ sym (asked-append qs ps' ∙ ap (λ o. then o (asked ps')) h) in
    (d.0 ∙ e, ap g d.1 ∙ settled-ap g (asked ps) new old ∙ ap (λ b. (settled (asked ps) b (g old)).1) n ∙ ap (λ o. (settled o new' (g old)).1) e)
