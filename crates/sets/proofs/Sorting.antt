-- Insertion sort: it ascends, keeps what it sorts, and is the one list that does.
use Rattle.std.proofs.Common.{◌≡◌, ℕ, suc, ◌+◌, ◌<◌, ◌≤◌, Bool, true, false, cond, ◌||◌, List, [], ◌∷◌, length, get_or, Ordering, Less, Equal, Greater, sym, refl, ap, ◌∙◌, true≢false, arith}
use Rattle.std.specs.Ordering.{is_lt, is_gt, ordering_reverse}
use Rattle.std.specs.List.Sorted.{IsPermutation, IsSortedWithin}
use Rattle.std.specs.Cmp.{IsStrictWeakOrder}
use Rattle.std.specs.List.{AllByRecursion, sum_by}
use Rattle.std.proofs.ByRecursion.{All-weaker, All-from_get_or}
use Rattle.std.proofs.lemmas.List.Recursion.{is_sum_by}
use Rattle.std.proofs.lemmas.List.Sorted.{sum_by-IsPermutation, sorted_far}
use Rattle.sets.specs.Members.{some_of}
use Rattle.sets.specs.Orders.{Order}
use Rattle.sets.specs.Sets.{placed, sorted}
use Rattle.sets.proofs.Ranking.{by_rank, UpTo, upto_from, upto_less, less_upto, upto_chain, less_from, same_self, apart, turned, gt_turned}

-- how many elements pass a test
abbrev pub times : {A : Type 0} → (A → Bool) → List A → ℕ
times p [] = 0
times p (x ∷ xs) = cond (p x) 1 0 + times p xs

times_sum : {A : Type 0} (p : A → Bool) (xs : List A) → times p xs ≡ sum_by (λ x. cond (p x) 1 0) xs
times_sum p xs = is_sum_by (times p) (λ x. cond (p x) 1 0) refl (λ x xs. refl) xs

pub times_shuffled : {A : Type 0} (p : A → Bool) (xs ys : List A) → IsPermutation xs ys → times p ys ≡ times p xs
times_shuffled p xs ys h = times_sum p ys ∙ sum_by-IsPermutation (λ x. cond (p x) 1 0) xs ys h ∙ sym (times_sum p xs)

module _ {A : Type 0} (rank : A → A → Ordering) where
  placed-some : (p : A → Bool) (x y : A) (ys : List A) (t : Bool) → some_of p (placed rank x ys) ≡ (p x || some_of p ys) → some_of p (cond t (y ∷ placed rank x ys) (x ∷ (y ∷ ys))) ≡ (p x || (p y || some_of p ys))
  placed-some p x y ys true h = ap (λ b. p y || b) h ∙ swapped (p x) (p y) (some_of p ys)
    where
      swapped : (a b c : Bool) → (b || (a || c)) ≡ (a || (b || c))
      swapped true true c = refl
      swapped true false c = refl
      swapped false true c = refl
      swapped false false c = refl
  placed-some p x y ys false h = refl

  pub some-placed : (p : A → Bool) (x : A) (ys : List A) → some_of p (placed rank x ys) ≡ (p x || some_of p ys)
  some-placed p x [] = refl
  some-placed p x (y ∷ ys) = placed-some p x y ys (is_lt (rank y x)) (some-placed p x ys)

  pub some-sorted : (p : A → Bool) (xs : List A) → some_of p (sorted rank xs) ≡ some_of p xs
  some-sorted p [] = refl
  some-sorted p (x ∷ xs) = some-placed p x (sorted rank xs) ∙ ap (λ b. p x || b) (some-sorted p xs)

  placed_times : (p : A → Bool) (x y : A) (ys : List A) (t : Bool) → times p (placed rank x ys) ≡ cond (p x) 1 0 + times p ys → times p (cond t (y ∷ placed rank x ys) (x ∷ (y ∷ ys))) ≡ cond (p x) 1 0 + (cond (p y) 1 0 + times p ys)
  placed_times p x y ys true h = omega arith
  placed_times p x y ys false h = refl

  pub times_placed : (p : A → Bool) (x : A) (ys : List A) → times p (placed rank x ys) ≡ cond (p x) 1 0 + times p ys
  times_placed p x [] = refl
  times_placed p x (y ∷ ys) = placed_times p x y ys (is_lt (rank y x)) (times_placed p x ys)

  pub times_sorted : (p : A → Bool) (xs : List A) → times p (sorted rank xs) ≡ times p xs
  times_sorted p [] = refl
  times_sorted p (x ∷ xs) = times_placed p x (sorted rank xs) ∙ ap (λ n. cond (p x) 1 0 + n) (times_sorted p xs)

  placed-all : (P : A → Type 0) (x y : A) (ys : List A) (t : Bool) → P x → P y → AllByRecursion P ys → AllByRecursion P (placed rank x ys) → AllByRecursion P (cond t (y ∷ placed rank x ys) (x ∷ (y ∷ ys)))
  placed-all P x y ys true a b c d = (b, d)
  placed-all P x y ys false a b c d = (a, (b, c))

  pub all_placed : (P : A → Type 0) (x : A) (ys : List A) → P x → AllByRecursion P ys → AllByRecursion P (placed rank x ys)
  all_placed P x [] a h = (a, tt)
  all_placed P x (y ∷ ys) a h = placed-all P x y ys (is_lt (rank y x)) a h.0 h.1 (all_placed P x ys a h.1)

module _ {A : Type 0} (o : Order A) where
  -- no element is above a later one
  abbrev pub Up : List A → Type 0
  Up [] = Unit {0}
  Up (x ∷ xs) = AllByRecursion (UpTo o x) xs × Up xs

  placed_up : (x y : A) (ys : List A) (t : Bool) → is_lt (o.rank y x) ≡ t → AllByRecursion (UpTo o y) ys → Up ys → Up (placed o.rank x ys) → Up (cond t (y ∷ placed o.rank x ys) (x ∷ (y ∷ ys)))
  placed_up x y ys true e h u v = (all_placed o.rank (UpTo o y) x ys (upto_less o y x (less_from (o.rank y x) e)) h, v)
  placed_up x y ys false e h u v =
      let l = upto_from o x y e in
      ((l, All-weaker (UpTo o y) (UpTo o x) (λ w k. upto_chain o x y w l k) ys h), (h, u))

  pub up_placed : (x : A) (ys : List A) → Up ys → Up (placed o.rank x ys)
  up_placed x [] u = (tt, tt)
  up_placed x (y ∷ ys) u = placed_up x y ys (is_lt (o.rank y x)) refl u.0 u.1 (up_placed x ys u.1)

  pub up_sorted : (xs : List A) → Up (sorted o.rank xs)
  up_sorted [] = tt
  up_sorted (x ∷ xs) = up_placed x (sorted o.rank xs) (up_sorted xs)

  -- none of what is above x is the same as x
  pub none_beyond : (x : A) (ys : List A) → AllByRecursion (λ w. o.rank x w ≡ Less) ys → times (λ y. o.same y x) ys ≡ 0
  none_beyond x [] h = refl
  none_beyond x (y ∷ ys) h =
      let a : ◌≡◌ {A = ℕ} (cond (o.same y x) 1 0) 0 = ap (λ b. cond b 1 0) (apart o x y h.0) in
      let b = none_beyond x ys h.1 in
      omega arith

  some_here : (x : A) (xs : List A) → 0 < times (λ y. o.same y x) (x ∷ xs)
  some_here x xs =
      let a : ◌≡◌ {A = ℕ} (cond (o.same x x) 1 0) 1 = ap (λ b. cond b 1 0) (same_self o x) in
      omega arith

  beyond_all : (x y : A) (ys : List A) → o.rank x y ≡ Less → AllByRecursion (UpTo o y) ys → AllByRecursion (λ w. o.rank x w ≡ Less) (y ∷ ys)
  beyond_all x y ys l h = (l, All-weaker (UpTo o y) (λ w. o.rank x w ≡ Less) (λ w k. less_upto o x y w l k) ys h)

  -- lists that ascend and hold each element as often are equal
  pub up_unique : (xs ys : List A) → Up xs → Up ys → ((x : A) → times (λ y. o.same y x) xs ≡ times (λ y. o.same y x) ys) → xs ≡ ys
  up_unique [] [] u v h = refl
  up_unique [] (y ∷ ys) u v h = let a = h y in let b = some_here y ys in absurd (omega arith)
  up_unique (x ∷ xs) [] u v h = let a = h x in let b = some_here x xs in absurd (omega arith)
  up_unique (x ∷ xs) (y ∷ ys) u v h =
      by_rank o x y (◌≡◌ {A = List A} (x ∷ xs) (y ∷ ys))
      (λ l. let a = h x in let b = some_here x xs in let c = none_beyond x (y ∷ ys) (beyond_all x y ys l v.0) in absurd (omega arith))
      (λ e. let t : xs ≡ ys = up_unique xs ys u.1 v.1 (λ z. let a = h z in let b : ◌≡◌ {A = ℕ} (cond (o.same x z) 1 0) (cond (o.same y z) 1 0) = ap (λ w. cond (o.same w z) 1 0) e in omega arith) in cc)
      (λ g. let a = h y in let b = some_here y ys in let c = none_beyond y (x ∷ xs) (beyond_all y x xs (turned o x y g) u.0) in absurd (omega arith))

  pub sorted_is : (xs ys : List A) → IsPermutation xs ys → Up ys → ys ≡ sorted o.rank xs
  sorted_is xs ys s u =
      up_unique ys (sorted o.rank xs) u (up_sorted xs)
      (λ x. times_shuffled (λ y. o.same y x) xs ys s ∙ sym (times_sorted o.rank (λ y. o.same y x) xs))

  up_from_far : (xs : List A) → ((i j : ℕ) (d : A) → i ≤ j → j < length xs → is_lt (o.rank (get_or xs j d) (get_or xs i d)) ≡ false) → Up xs
  up_from_far [] h = tt
  up_from_far (x ∷ xs) h = (
    All-from_get_or (UpTo o x) xs x (λ i l. upto_from o x (get_or xs i x) (h 0 (suc i) x (omega arith) (omega arith))),
    up_from_far xs (λ i j d k l. h (suc i) (suc j) d (omega arith) (omega arith)),
  )

  not_both : (x y : A) (k : Ordering) → o.rank y x ≡ k → is_lt (ordering_reverse k) ≡ true → is_lt (o.rank y x) ≡ false
  not_both x y Less e l = absurd (true≢false (sym l))
  not_both x y Equal e l = ap is_lt e
  not_both x y Greater e l = ap is_lt e

  lt_ranks : IsStrictWeakOrder (λ (x y : A). is_lt (o.rank x y))
  lt_ranks = record {
    one_way = λ x y h. not_both x y (o.rank y x) refl (ap is_lt (sym (o.flips x y)) ∙ h);
    chain = λ x y z h k. sym (gt_turned (o.rank x z)) ∙ ap is_gt (sym (o.flips z x)) ∙ upto_chain o z y x (upto_from o z y k) (upto_from o y x h);
  }

  pub up_from_ascends : (xs : List A) (n : ℕ) → length xs ≡ n → IsSortedWithin (λ x y. is_lt (o.rank x y)) xs 0 n → Up xs
  up_from_ascends xs n e h =
      up_from_far xs (sorted_far (λ x y. is_lt (o.rank x y)) lt_ranks xs (λ k d a b. h k d a (omega arith)))
