-- What follows from the laws of an order.
use Rattle.std.proofs.Common.{◌≡◌, true, false, Ordering, Less, Equal, Greater, sym, refl, ap, ◌∙◌, subst, true≢false}
use mathlib.Core.Bool.{false≢true}
use Rattle.std.specs.Ordering.{is_eq, is_lt, is_gt, ordering_reverse}
use Rattle.std.specs.Cmp.{IsTotalOrder}
use Rattle.sets.specs.Laws.{below, above, one_alone}
use Rattle.sets.specs.Orders.{Order}

own_turn : (k : Ordering) → k ≡ ordering_reverse k → k ≡ Equal
own_turn Less e = absurd (true≢false (ap is_lt e))
own_turn Equal e = refl
own_turn Greater e = absurd (true≢false (ap is_gt e))

pub less_from : (k : Ordering) → is_lt k ≡ true → k ≡ Less
less_from Less e = refl
less_from Equal e = absurd (false≢true e)
less_from Greater e = absurd (false≢true e)

pub gt_turned : (k : Ordering) → is_gt (ordering_reverse k) ≡ is_lt k
gt_turned Less = refl
gt_turned Equal = refl
gt_turned Greater = refl

-- neither above nor the same is below
pub less_left : (k : Ordering) → is_gt k ≡ false → is_eq k ≡ false → k ≡ Less
less_left Less g e = refl
less_left Equal g e = absurd (true≢false e)
less_left Greater g e = absurd (true≢false g)

lone : (k : Ordering) → one_alone (is_lt k) (is_eq k) (is_gt k) ≡ true
lone Less = refl
lone Equal = refl
lone Greater = refl

module _ {A : Type 0} (o : Order A) where
  pub one_holds : (x y : A) → one_alone (below o x y) (o.same x y) (above o x y) ≡ true
  one_holds x y = ap (λ b. one_alone (below o x y) b (above o x y)) (sym (o.agrees x y)) ∙ lone (o.rank x y)

  pub below_chains : (x y z : A) → below o x y ≡ true → below o y z ≡ true → below o x z ≡ true
  below_chains x y z h k = ap is_lt (o.rises x y z (less_from (o.rank x y) h) (less_from (o.rank y z) k))

  pub above_turns : (x y : A) → above o x y ≡ below o y x
  above_turns x y = ap is_gt (o.flips x y) ∙ gt_turned (o.rank y x)

  pub self : (x : A) → o.rank x x ≡ Equal
  self x = own_turn (o.rank x x) (o.flips x x)

  pub same_self : (x : A) → o.same x x ≡ true
  same_self x = sym (o.agrees x x) ∙ ap is_eq (self x)

  pub same_from : (x y : A) → x ≡ y → o.same x y ≡ true
  same_from x y e = subst (λ w. o.same x w ≡ true) e (same_self x)

  pub tied : (x y : A) → o.rank x y ≡ Equal → x ≡ y
  tied x y e = o.whole x y (sym (o.agrees x y) ∙ ap is_eq e)

  pub turned : (x y : A) → o.rank x y ≡ Greater → o.rank y x ≡ Less
  turned x y e = o.flips y x ∙ ap ordering_reverse e

  -- an element below w is not the same as w
  pub apart : (x w : A) → o.rank x w ≡ Less → o.same w x ≡ false
  apart x w e = sym (o.agrees w x) ∙ ap is_eq (o.flips w x ∙ ap ordering_reverse e)

  decided : (x y : A) (G : Type 0) → (o.rank x y ≡ Less → G) → (x ≡ y → G) → (o.rank x y ≡ Greater → G) → (k : Ordering) → o.rank x y ≡ k → G
  decided x y G l e g Less p = l p
  decided x y G l e g Equal p = e (tied x y p)
  decided x y G l e g Greater p = g p

  pub by_rank : (x y : A) (G : Type 0) → (o.rank x y ≡ Less → G) → (x ≡ y → G) → (o.rank x y ≡ Greater → G) → G
  by_rank x y G l e g = decided x y G l e g (o.rank x y) refl

  -- x is not above y
  abbrev pub UpTo : A → A → Type 0
  UpTo x y = is_gt (o.rank x y) ≡ false

  pub upto_from : (x y : A) → is_lt (o.rank y x) ≡ false → UpTo x y
  upto_from x y h = ap is_gt (o.flips x y) ∙ gt_turned (o.rank y x) ∙ h

  pub upto_less : (x y : A) → o.rank x y ≡ Less → UpTo x y
  upto_less x y e = ap is_gt e

  pub less_upto : (x y z : A) → o.rank x y ≡ Less → UpTo y z → o.rank x z ≡ Less
  less_upto x y z h k =
      by_rank y z (o.rank x z ≡ Less) (o.rises x y z h) (λ e. subst (λ w. o.rank x w ≡ Less) e h) (λ g. absurd (true≢false (sym (ap is_gt g) ∙ k)))

  pub upto_chain : (x y z : A) → UpTo x y → UpTo y z → UpTo x z
  upto_chain x y z h k =
      by_rank x y (UpTo x z) (λ l. upto_less x z (less_upto x y z l k)) (λ e. subst (λ w. UpTo w z) (sym e) k) (λ g. absurd (true≢false (sym (ap is_gt g) ∙ h)))

  -- the order as the library's sort and search take it
  total_rank : IsTotalOrder o.rank
  total_rank = record {
    antisymm = o.flips;
    trans = o.rises;
    congr = λ x y z e. ap (λ w. o.rank w z) (tied x y e);
  }

  pub total : (R : A → A → Ordering) → ((x y : A) → R x y ≡ o.rank x y) → IsTotalOrder R
  total R says = subst IsTotalOrder (λ i x y. sym (says x y) i) total_rank
