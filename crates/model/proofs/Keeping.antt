-- Edits keep a stack sound.
use Rattle.std.proofs.Common.{◌≡◌, ℕ, ◌+◌, ◌-◌, ◌≤◌, Bool, true, false, cond, ◌&&◌, eqb, List, [], ◌∷◌, ◌++◌, get_or, sym, refl, subst, inl, inr, arith}
use mathlib.Core.Option.{Option, none, some}
use Rattle.std.specs.List.{AllByRecursion}
use Rattle.std.proofs.lemmas.Bool.{leb-true, ltb-true, false≢true, or_left, or_right, or_cases}
use Rattle.std.proofs.ByRecursion.{All-push}
use Rattle.model.specs.declared.blocks.AcceptBlock.{AcceptBlock}
use Rattle.model.specs.Names.{top}
use Rattle.model.specs.Nets.{Kept, Spot, node, within, accepting, mapped, overlaid, steps, TargetFits, Formed, fresh}
use Rattle.model.specs.Walks.{Walk, done, goes_on, Sublist, FewerSteps, Bounded}
use Rattle.model.specs.Model.{Model, bottom, net, window, renaming, Sound, AllWalksEnd}
use Rattle.model.specs.Faults.{Refusal}
use Rattle.model.specs.Edits.{NetEdit, accept, map_to, over, drop_accept, drop_map, enter, Edit, on_net, pair, plug, edited, settled, asked, then, asks_walks, walks_bounded, without, same_map, net_questions, net_refusal, net_after, pair_refusal}
use Rattle.model.specs.Laws.{PlugsSound}
use Rattle.model.proofs.Bounds.{bound_walked, walked_bound, asked-walked}
use Rattle.model.proofs.Fewer.{all_of, none_of, chosen, less_bound, none_over}

-- one more accept block only takes an overlay's step away
module _ (k : Kept) (b : AcceptBlock) where
  abbrev more : Kept
  more = net_after k (accept b)

  accepting_more : (n a : ℕ) (bs : List AcceptBlock) → accepting bs n a ≡ true → accepting (bs ++ b ∷ []) n a ≡ true
  accepting_more n a [] e = absurd (false≢true e)
  accepting_more n a (c ∷ bs) e =
      elim (or_cases (eqb c.node n && within c.lo c.hi a) (accepting bs n a) e) [
        | inl f ↦ or_left (eqb c.node n && within c.lo c.hi a) (accepting (bs ++ b ∷ []) n a) f
        | inr f ↦ or_right (eqb c.node n && within c.lo c.hi a) (accepting (bs ++ b ∷ []) n a) (accepting_more n a bs f)
      ]

  accept_fewer : FewerSteps more k
  accept_fewer n a = go (mapped k.maps n a) (accepting k.accepts n a) (accepting (k.accepts ++ b ∷ []) n a) (accepting_more n a k.accepts)
    where
      go : (xs : List Spot) (acc acc' : Bool) → (acc ≡ true → acc' ≡ true) → Sublist (chosen xs acc' (overlaid (get_or k.overlays n 33) a)) (chosen xs acc (overlaid (get_or k.overlays n 33) a))
      go (x ∷ xs) acc acc' h = all_of (x ∷ xs)
      go [] acc true h = none_of (cond acc [] (overlaid (get_or k.overlays n 33) a))
      go [] true false h = absurd (false≢true (h refl))
      go [] false false h = all_of (overlaid (get_or k.overlays n 33) a)

  pub accept_bound : Bounded k → Bounded more
  accept_bound = less_bound more k accept_fewer

pub all_without : {A : Type 0} (P : A → Type 0) (p : A → Bool) (xs : List A) → AllByRecursion P xs → AllByRecursion P (without p xs)
all_without P p [] h = tt
all_without P p (x ∷ xs) h = go (p x) (all_without P p xs h.1)
  where
    go : (b : Bool) → AllByRecursion P (without p xs) → AllByRecursion P (cond b xs (x ∷ without p xs))
    go true r = h.1
    go false r = (h.0, r)

-- what a call asked
then-none : (o p : Option Refusal) → then o p ≡ none → (o ≡ none) × (p ≡ none)
then-none none p e = (refl, e)
then-none (some r) p e = let z : ◌≡◌ {A = ℕ} 0 1 = cc in absurd (omega arith)

asked-all : (qs : List (Bool × Refusal)) → asked qs ≡ none → AllByRecursion (λ q. q.0 ≡ true) qs
asked-all [] e = tt
asked-all (q ∷ qs) e = go q.0 refl e (asked-all qs)
  where
    go : (b : Bool) → q.0 ≡ b → cond b (asked qs) (some q.1) ≡ none → (asked qs ≡ none → AllByRecursion (λ q. q.0 ≡ true) qs) → (q.0 ≡ true) × AllByRecursion (λ q. q.0 ≡ true) qs
    go true f e ih = (f, ih e)
    go false f e ih = let z : ◌≡◌ {A = ℕ} 0 1 = cc in absurd (omega arith)

settled_sound : (o : Option Refusal) (new old : Model) → (o ≡ none → Sound new) → Sound old → Sound (settled o new old).1
settled_sound none new old h s = h refl
settled_sound (some r) new old h s = s

-- what a granted edit leaves is formed and bounded
module _ (k : Kept) (f : Formed k) where
  after_formed : (e : NetEdit) → asked (net_questions k e) ≡ none → Formed (net_after k e)
  after_formed (accept b) q = record { entry_known = f.entry_known; targets_fit = f.targets_fit }
  after_formed (map_to b) q = record {
    entry_known = f.entry_known;
    targets_fit = All-push (λ b. TargetFits b.lo b.hi b.base) k.maps b f.targets_fit
        (ltb-true (b.base + (b.hi - b.lo)) top (asked-all (net_questions k (map_to b)) q).1.1.1.0);
  }
  after_formed (over n d) q = record { entry_known = f.entry_known; targets_fit = f.targets_fit }
  after_formed (drop_accept b) q = record { entry_known = f.entry_known; targets_fit = f.targets_fit }
  after_formed (drop_map b) q = record {
    entry_known = f.entry_known;
    targets_fit = all_without (λ b. TargetFits b.lo b.hi b.base) (same_map b) k.maps f.targets_fit;
  }
  after_formed (enter n) q = record {
    entry_known = let l : n ≤ 31 = leb-true n 31 (asked-all (net_questions k (enter n)) q).0 in omega arith;
    targets_fit = f.targets_fit;
  }

pub enter_bound : (k : Kept) (n : ℕ) → Bounded k → Bounded (net_after k (enter n))
enter_bound k n = less_bound (net_after k (enter n)) k (λ i a. all_of (steps k i a))

after_bound : (k : Kept) (e : NetEdit) → Bounded k → net_refusal k e ≡ none → Bounded (net_after k e)
after_bound k (accept b) s q = accept_bound k b s
after_bound k (map_to b) s q = walked_bound _ (asked-walked _ (then-none _ _ q).1)
after_bound k (over n d) s q = walked_bound _ (asked-walked _ (then-none _ _ q).1)
after_bound k (drop_accept b) s q = walked_bound _ (asked-walked _ (then-none _ _ q).1)
after_bound k (drop_map b) s q = walked_bound _ (asked-walked _ (then-none _ _ q).1)
after_bound k (enter n) s q = enter_bound k n s

pub kept : (m : Model) (e : Edit) → Sound m → PlugsSound e → Sound (edited m e).1
kept (bottom list) e s p = tt
kept (net k m) (on_net e) s p =
    settled_sound (net_refusal k e) (net (net_after k e) m) (net k m)
    (λ q. (after_formed k s.0 e (then-none (asked (net_questions k e)) (cond (asks_walks e) (walks_bounded (net_after k e)) none) q).0, after_bound k e s.1 q, s.2)) s
kept (net k m) (pair from to) s p = s
kept (net k m) (plug new) s p = (s.0, s.1, p)
kept (window lo hi base m) (on_net e) s p = s
kept (window lo hi base m) (pair from to) s p = s
kept (window lo hi base m) (plug new) s p = (s.0, p)
kept (renaming ps m) (on_net e) s p = s
kept (renaming ps m) (pair from to) s p = settled_sound (pair_refusal ps from) (renaming (ps ++ (from, to) ∷ []) m) (renaming ps m) (λ e. s) s
kept (renaming ps m) (plug new) s p = p

pub sound_ends : (m : Model) → Sound m → AllWalksEnd m
sound_ends (bottom list) s = tt
sound_ends (net k m) s = (bound_walked k s.1, sound_ends m s.2)
sound_ends (window lo hi base m) s = sound_ends m s.1
sound_ends (renaming ps m) s = sound_ends m s

pub fresh_sound : (g : ℕ) (m : Model) → Sound m → Sound (net (fresh g) m)
fresh_sound g m s = (record { entry_known = omega arith; targets_fit = tt }, bound, s)
  where
    bound : Bounded (fresh g)
    bound = walked_bound (fresh g) (λ n a h l. (node n a ∷ ([] ++ []), goes_on (subst (λ d. Walk (fresh g) (overlaid d a) []) (sym (none_over n)) done) done, omega arith))
