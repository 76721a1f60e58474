-- Looks through a window.
use Rattle.std.proofs.Common.{◌≡◌, ℕ, ◌+◌, ◌-◌, ◌<◌, ◌≤◌, min, true, leb, sym, ap, ◌∙◌, arith}
use Rattle.std.proofs.lemmas.Bool.{cond-true, le-leb, and_from}
use Rattle.model.specs.Names.{top, raise, holds}
use Rattle.model.specs.Nets.{within}
use Rattle.model.specs.Model.{Model, window, lists}
use Rattle.model.specs.Looks.{Reach}

pub inside : (lo hi a : ℕ) → lo ≤ a → a ≤ hi → within lo hi a ≡ true
inside lo hi a l h = and_from (leb lo a) (leb a hi) (le-leb lo a l) (le-leb a hi h)

module _ (lo hi base : ℕ) (m : Model) where
  pub shown : (a : ℕ) → lo ≤ a → a ≤ hi → lists (window lo hi base m) a ≡ lists m (base + (a - lo))
  shown a l h = cond-true _ _ _ (inside lo hi a l h)

  shown_further : (a d : ℕ) → lo ≤ a → a + d ≤ hi → lists (window lo hi base m) (a + d) ≡ lists m (base + (a - lo) + d)
  shown_further a d l h =
      let e : base + (a + d - lo) ≡ base + (a - lo) + d = omega arith in
      shown (a + d) (omega arith) h ∙ ap (lists m) e

  pub reach_shown : (a reach room : ℕ) → lo ≤ a → a ≤ hi → hi < top → room ≡ min (reach - (base + (a - lo))) (hi - a)
      → Reach (lists m) (base + (a - lo)) reach → Reach (lists (window lo hi base m)) a (a + room)
  reach_shown a reach room l h f e r = let u = r.least in record {
    least = omega arith;
    most = omega (arith, e);
    raises = λ d k. shown_further a d l (omega (arith, e)) ∙ r.raises d (omega (arith, e, u)) ∙ ap (raise d) (sym (shown a l h));
    none_past = λ d k x t. r.none_past d (omega (arith, e, u)) x (ap (λ xs. holds xs x) (sym (shown_further a d l (omega (arith, e)))) ∙ t);
  }
