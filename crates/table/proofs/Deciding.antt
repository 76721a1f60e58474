-- An edit's answer, put together from its first questions and the one about walks.
use Rattle.std.proofs.Common.{◌≡◌, ℕ, true, false, cond, ◌⊎◌, List, [], map, length, get_or, set, Ok, Err, Result, sym, refl, ap, ◌∙◌, subst, inl, inr}
use Rattle.std.proofs.Common.{Option as Maybe, None, Some, is_none}
use mathlib.Core.Option.{Option, none, some}
use Rattle.std.proofs.lemmas.Bool.{cases_lt, cases_eq}
use Rattle.std.proofs.lemmas.List.{get_or-set_same, get_or-set_other, set_past}
use Rattle.model.specs.declared.blocks.AcceptBlock.{AcceptBlock}
use Rattle.model.specs.declared.blocks.MapBlock.{MapBlock}
use Rattle.model.specs.declared.faults.Fault.{Fault}
use Rattle.model.specs.Faults.{Refusal, refusal, at_name}
use Rattle.model.specs.Nets.{Kept, fresh}
use Rattle.model.specs.Walks.{Bounded, FewerSteps, first_overfull_lem}
use Rattle.model.specs.Model.{bottom}
use Rattle.model.specs.Edits.{NetEdit, accept, over, drop_map, enter, asked, then, settled, ended, asks_walks, walks_bounded, net_questions, net_refusal, net_after}
use Rattle.model.proofs.Bounds.{asked-walked, walked-asked, walked_bound, bound_walked}
use Rattle.model.proofs.Fewer.{less_bound, some_overlays, map_dropped}
use Rattle.model.proofs.Keeping.{accept_bound, enter_bound, fresh_sound}
use Rattle.blocks.specs.declared.destination.Destination.{Destination}
use Rattle.blocks.specs.declared.stored.Blocks.{Blocks}
use Rattle.blocks.specs.Destinations.{overlay_number}
use Rattle.blocks.specs.Shape.{kept}
use Rattle.blocks.specs.Outcomes.{Decided, Tried}
use Rattle.blocks.proofs.Sending.{overlay_at}
use Rattle.blocks.proofs.Asking.{settled-holds}
use Rattle.table.specs.Settling.{Settles}

then_nothing : (q : Option Refusal) → q ≡ then q none
then_nothing none = refl
then_nothing (some r) = refl

ended_is : (r : Result (Unit {0}) Fault) (new old : Kept) → ended r ≡ (settled (refusal r) new old).0
ended_is (Ok u) new old = refl
ended_is (Err f) new old = refl

module _ (k : Kept) (e : NetEdit) where
  decided : (after : Kept) (r : Result (Unit {0}) Fault) (q : Option Refusal) → q ≡ net_refusal k e → Decided q (net_after k e) k after r → Settles k after e r
  decided after r q h d =
      (ended_is r (net_after k e) k ∙ ap (λ o. (settled o (net_after k e) k).0) (d.0 ∙ h), d.1 ∙ ap (λ o. (settled o (net_after k e) k).1) h)

  -- an edit that does not ask about walks
  pub settles_at_once : (after : Kept) (r : Result (Unit {0}) Fault) → asks_walks e ≡ false → Tried k after e r → Settles k after e r
  settles_at_once after r a t =
      decided after r (asked (net_questions k e)) (then_nothing (asked (net_questions k e)) ∙ ap (λ b. then (asked (net_questions k e)) (cond b (walks_bounded (net_after k e)) none)) (sym a)) t

  -- one that does, and has come to it
  pub settles_last : (new after : Kept) (u : Unit {0}) (r : Result (Unit {0}) Fault) → asks_walks e ≡ true → Tried k new e (Ok u) → Decided (walks_bounded new) new k after r → Settles k after e r
  settles_last new after u r a t d =
      let n : new ≡ net_after k e = t.1 ∙ ap (λ o. (settled o (net_after k e) k).1) (sym t.0) in
      decided after r (walks_bounded new)
      (ap walks_bounded n ∙ ap (λ o. then o (walks_bounded (net_after k e))) t.0 ∙ ap (λ b. then (asked (net_questions k e)) (cond b (walks_bounded (net_after k e)) none)) (sym a))
      (d.0, d.1 ∙ ap (λ z. (settled (walks_bounded new) z k).1) n)

  -- one that has come to it, and makes no walk longer
  pub settles_bounded : (new after : Kept) (u : Unit {0}) → asks_walks e ≡ true → Tried k new e (Ok u) → Bounded new → after ≡ new → Settles k after e (Ok u)
  settles_bounded new after u a t b is =
      let w = walked-asked new (bound_walked new b) in
      settles_last new after u (Ok u) a t (sym w, is ∙ ap (λ o. (settled o new k).1) (sym w))

  -- what a granted edit leaves is bounded where that has fewer steps
  fewer_bound : (new : Kept) (u : Unit {0}) → Tried k new e (Ok u) → FewerSteps (net_after k e) k → Bounded k → Bounded new
  fewer_bound new u t f b = subst Bounded (sym (t.1 ∙ ap (λ o. (settled o (net_after k e) k).1) (sym t.0))) (less_bound (net_after k e) k f b)

-- no overlay at a node any more
pub cleared_bound : (k new : Kept) (n d : ℕ) (u : Unit {0}) → d ≡ 33 → Tried k new (over n d) (Ok u) → Bounded k → Bounded new
cleared_bound k new n d u is t b = fewer_bound k (over n 33) new u (subst (λ z. Tried k new (over n z) (Ok u)) is t) (some_overlays k (set k.overlays n 33) unset) b
  where
    unset : (i : ℕ) → (get_or (set k.overlays n 33) i 33 ≡ get_or k.overlays i 33) ⊎ (get_or (set k.overlays n 33) i 33 ≡ 33)
    unset i =
        elim (cases_eq i n) [
          | inl e ↦ elim (cases_lt n (length k.overlays)) [
            | inl l ↦ inr (ap (λ j. get_or (set k.overlays n 33) j 33) e ∙ get_or-set_same k.overlays n 33 33 l)
            | inr l ↦ inl (ap (λ ds. get_or ds i 33) (set_past k.overlays n 33 l))
          ]
          | inr e ↦ inl (get_or-set_other k.overlays n i 33 33 e)
        ]

-- a node without an overlay, as the reference model has it
bare_number : (xs : List (Maybe Destination)) (i : ℕ) → true ≡ is_none (get_or xs i None) → get_or (map overlay_number xs) i 33 ≡ 33
bare_number xs i h = overlay_at xs i ∙ go (get_or xs i None) h
  where
    go : (o : Maybe Destination) → true ≡ is_none o → overlay_number o ≡ 33
    go None h = refl
    go (Some d) h = absurd cc

-- a map block less, at a node without an overlay
pub dropped_bound : (t : Blocks) (new : Kept) (x : MapBlock) (u : Unit {0}) → Tried (kept t) new (drop_map x) (Ok u) → true ≡ is_none (get_or t.overlays x.node None) → Bounded (kept t) → Bounded new
dropped_bound t new x u d bare b = fewer_bound (kept t) (drop_map x) new u d (map_dropped (kept t) x (bare_number t.overlays x.node bare)) b

keeps : (k new after : Kept) (q : Option Refusal) (r : Result (Unit {0}) Fault) → Decided q new k after r → Bounded new → Bounded k → Bounded after
keeps k new after q r d n h = subst Bounded (sym d.1) (settled-holds Bounded q new k (λ e. n) h)

pub accept_keeps : (k after : Kept) (b : AcceptBlock) (r : Result (Unit {0}) Fault) → Tried k after (accept b) r → Bounded k → Bounded after
accept_keeps k after b r t h = keeps k (net_after k (accept b)) after (asked (net_questions k (accept b))) r t (accept_bound k b h) h

pub enter_keeps : (k after : Kept) (n : ℕ) (r : Result (Unit {0}) Fault) → Tried k after (enter n) r → Bounded k → Bounded after
enter_keeps k after n r t h = keeps k (net_after k (enter n)) after (asked (net_questions k (enter n))) r t (enter_bound k n h) h

-- a search that finds nothing shows that walks are bounded
pub none_found : (k : Kept) → none ≡ first_overfull_lem k 32 → Bounded k
none_found k h = walked_bound k (asked-walked k (ap (λ o. elim o [ none ↦ none | some x ↦ some (at_name 8 x.0 x.1) ]) (sym h)))

pub fresh_bound : (k : Kept) (g : ℕ) → k ≡ fresh g → Bounded k
fresh_bound k g e = subst Bounded (sym e) (fresh_sound g (bottom (λ a. [])) tt).1
