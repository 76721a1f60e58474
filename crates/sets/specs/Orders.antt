-- A total order on a type, with the test that goes with it.
use Rattle.std.specs.Prelude.{◌≡◌, Bool, true}
use Rattle.std.specs.declared.cmp.Ordering.TheVariants.{Less}
use Rattle.std.specs.declared.cmp.Ordering.{Ordering}
use Rattle.std.specs.Ordering.{is_eq, ordering_reverse}

-- rank says how the first stands to the second, and two elements that are the same are equal
pub record Order (A : Type 0) : Type 0 where
  pub rank : A → A → Ordering
  pub same : A → A → Bool
  pub flips : (x y : A) → rank x y ≡ ordering_reverse (rank y x)
  pub rises : (x y z : A) → rank x y ≡ Less → rank y z ≡ Less → rank x z ≡ Less
  pub agrees : (x y : A) → is_eq (rank x y) ≡ same x y
  pub whole : (x y : A) → same x y ≡ true → x ≡ y
