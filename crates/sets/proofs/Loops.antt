-- Lemmas in the shapes that the functions' needs have.
use Rattle.std.proofs.Common.{◌≡◌, ℕ, zero, suc, ◌+◌, ◌-◌, ◌<◌, ◌≤◌, Bool, true, false, cond, ◌||◌, List, [], ◌∷◌, ◌++◌, length, get_or, take, drop, set, Ordering, Less, Greater, sym, refl, ap, ◌∙◌, subst, ⊎_elim, append_assoc, add-one, arith, ◌==◌, not, Equal}
use Rattle.std.specs.Ordering.{is_eq, is_lt, is_gt, ordering_index}
use Rattle.std.specs.Prelude.{Ok, Err, Result, IfNone}
use Rattle.std.specs.Result.{result_ok}
use Rattle.std.specs.declared.option.Option.{Option}
use Rattle.std.specs.List.Sorted.{IsNonDecreasingBy, IsPartitionPoint, IsBinarySearchResult, IsSortedWithin, IsSorted}
use Rattle.std.specs.List.{AllByRecursion}
use Rattle.std.proofs.ByRecursion.{All-get_or, All-from_get_or}
use Rattle.std.proofs.lemmas.List.{drop_more, drop_all, drop-drop, drop-set-lt, get_or-drop, get_or_read, get_or-set_same, length-set, length-take-le, append-nil, take-append-drop, take_at, take_more_set}
use Rattle.std.proofs.lemmas.List.Sorted.{searchable_from_sorted}
use Rattle.std.proofs.lemmas.Bool.{cases_lt}
use Rattle.sets.specs.Members.{some_of}
use Rattle.sets.specs.declared.order.Ordered.{Ghosts}
use Rattle.sets.specs.Orders.{Order}
use Rattle.sets.specs.Sets.{past, squeezed, sorted, set_of, Rising}
use Rattle.sets.proofs.Ranking.{UpTo, total, gt_turned}
use Rattle.sets.proofs.Sorting.{Up}
use Rattle.sets.proofs.Squeezing.{climbs, up_from_climbs, set_rises, set-some}

-- the order that a type's members make
abbrev pub order : {A : Type 0} → Ghosts A → Order A
order t = record {
  rank = t.rank;
  same = t.same;
  flips = t.flips;
  rises = t.rises;
  agrees = t.agrees;
  whole = t.whole;
}

-- ---- what a comparison tells

equal_told : (k : Ordering) → is_eq k ≡ (ordering_index k == 1)
equal_told Less = refl
equal_told Equal = refl
equal_told Greater = refl

pub same_told : {A : Type 0} (o : Order A) (x y : A) (k : Ordering) (t : Bool) → k ≡ o.rank x y → t ≡ (ordering_index k == 1) → o.same x y ≡ t
same_told o x y k t e d = sym (o.agrees x y) ∙ ap is_eq (sym e) ∙ equal_told k ∙ sym d

twice_not : (b : Bool) → not (not b) ≡ b
twice_not true = refl
twice_not false = refl

pub differ_told : {A : Type 0} (o : Order A) (x y : A) (k : Ordering) (t s : Bool) → k ≡ o.rank x y → t ≡ not (ordering_index k == 1) → t ≡ s → o.same x y ≡ not s
differ_told o x y k t s e d u = same_told o x y k (ordering_index k == 1) e refl ∙ sym (twice_not (ordering_index k == 1)) ∙ ap not (sym d ∙ u)

-- two elements are the same where they are equal by `==`
pub same_by_eq : {A : Type 0} (o : Order A) (R : A → A → Ordering) (E : A → A → Bool) → ((x y : A) → R x y ≡ o.rank x y) → ((x y : A) → E x y ≡ is_eq (R x y)) → (x y : A) → o.same x y ≡ E x y
same_by_eq o R E says ties x y = sym (ties x y ∙ ap is_eq (says x y) ∙ o.agrees x y)

-- ---- squeezing

-- the first `used` elements and what follows the last of them make the whole
pub record Squeezing {A : Type 0} (same : A → A → Bool) (before now : List A) (i used : ℕ) : Type 0 where
  pub some : 0 < used
  pub within : used ≤ i
  pub long : length now ≡ length before
  pub rest : drop used now ≡ drop used before
  pub front : (d : A) → take used now ++ past same (get_or now (used - 1) d) (drop i before) ≡ squeezed same before

pub squeeze_start : {A : Type 0} (same : A → A → Bool) (xs : List A) → (length xs ≡ 0 → ⊥) → Squeezing same xs xs 1 1
squeeze_start same [] h = absurd (h refl)
squeeze_start same (x ∷ xs) h = record { some = omega arith; within = omega arith; long = refl; rest = refl; front = λ d. refl }

module _ {A : Type 0} (same : A → A → Bool) (before now : List A) (i used : ℕ) (next last : A) (h : Squeezing same before now i used) (l : i < length before) (n : next ≡ get_or now i next) (m : last ≡ get_or now (used - 1) last) where
  inside : i < length now
  inside = let k = h.long in omega arith

  next_is : (d : A) → get_or before i d ≡ next
  next_is d =
      let k : used + (i - used) ≡ i = let w = h.within in omega arith in
      let a = ap (λ j. get_or before j d) k in
      let b = ap (λ j. get_or now j d) k in
      let u = get_or-drop used before (i - used) d in
      let v = get_or-drop used now (i - used) d in
      let r = ap (λ ys. get_or ys (i - used) d) h.rest in
      let t = get_or_read now i next inside n d in
      cc

  last_is : (d : A) → get_or now (used - 1) d ≡ last
  last_is d =
      let k : used - 1 < length now = let w = h.within in let s = h.some in let j = inside in omega arith in
      sym (get_or_read now (used - 1) last k m d)

  opened : (d : A) → take used now ++ past same last (next ∷ drop (i + 1) before) ≡ squeezed same before
  opened d =
      let e : drop i before ≡ next ∷ drop (i + 1) before = drop_more before i d l ∙ ap (λ w. w ∷ drop (i + 1) before) (next_is d) in
      sym (λ j. take used now ++ past same (last_is d j) (e j)) ∙ h.front d

  pub squeeze_skip : same last next ≡ true → Squeezing same before now (i + 1) used
  squeeze_skip e = record {
    some = h.some;
    within = let w = h.within in omega arith;
    long = h.long;
    rest = h.rest;
    front = λ d.
        ap (λ x. take used now ++ past same x (drop (i + 1) before)) (last_is d)
        ∙ ap (λ b. take used now ++ cond b (past same last (drop (i + 1) before)) (next ∷ past same next (drop (i + 1) before))) (sym e)
        ∙ opened d;
  }

  room : used < length now
  room = let w = h.within in let j = inside in omega arith

  behind : (d : A) → get_or (set now used next) (used + 1 - 1) d ≡ next
  behind d =
      let k : used + 1 - 1 ≡ used = omega arith in
      ap (λ j. get_or (set now used next) j d) k ∙ get_or-set_same now used next d room

  pub squeeze_take : same last next ≡ false → Squeezing same before (set now used next) (i + 1) (used + 1)
  squeeze_take e = record {
    some = omega arith;
    within = let w = h.within in omega arith;
    long = length-set now used next ∙ h.long;
    rest = let k : used < used + 1 = omega arith in
        drop-set-lt (used + 1) now used next k ∙ sym (drop-drop 1 used now) ∙ ap (drop 1) h.rest ∙ drop-drop 1 used before;
    front = λ d.
        (λ j. take_more_set now used next room j ++ past same (behind d j) (drop (i + 1) before))
        ∙ append_assoc (take used now) (next ∷ []) (past same next (drop (i + 1) before))
        ∙ ap (λ b. take used now ++ cond b (past same last (drop (i + 1) before)) (next ∷ past same next (drop (i + 1) before))) (sym e)
        ∙ opened d;
  }

squeeze_all : {A : Type 0} (same : A → A → Bool) (before now : List A) (i used : ℕ) → Squeezing same before now i used → i ≤ length before → length before ≤ i → take used now ≡ squeezed same before
squeeze_all same before [] i used h l m = absurd (let a = h.some in let b = h.within in let c = h.long in omega arith)
squeeze_all same before (x ∷ xs) i used h l m =
    sym (append-nil (take used (x ∷ xs)))
    ∙ ap (λ ys. take used (x ∷ xs) ++ past same (get_or (x ∷ xs) (used - 1) x) ys) (sym (drop_all i before m))
    ∙ h.front x

pub squeeze_count : {A : Type 0} (same : A → A → Bool) (before now : List A) (i used : ℕ) → Squeezing same before now i used → i ≤ length before → length before ≤ i → used ≡ length (squeezed same before)
squeeze_count same before now i used h l m =
    let k : used ≤ length now = let b = h.within in let c = h.long in omega arith in
    sym (length-take-le used now k) ∙ ap length (squeeze_all same before now i used h l m)

pub squeeze_held : {A : Type 0} (same : A → A → Bool) (before now : List A) (i used : ℕ) → Squeezing same before now i used → i ≤ length before → length before ≤ i → now ≡ squeezed same before ++ drop used before
squeeze_held same before now i used h l m =
    sym (take-append-drop used now) ∙ (λ j. squeeze_all same before now i used h l m j ++ h.rest j)

-- ---- a sort and then a squeeze

pub set_count : {A : Type 0} (o : Order A) (xs ys : List A) (n : ℕ) → ys ≡ sorted o.rank xs → n ≡ length (squeezed o.same ys) → n ≡ length (set_of o.rank o.same xs)
set_count o xs ys n e h = h ∙ ap (λ zs. length (squeezed o.same zs)) e

pub set-held : {A : Type 0} (o : Order A) (xs ys zs : List A) (n : ℕ) → ys ≡ sorted o.rank xs → zs ≡ squeezed o.same ys ++ drop n ys → zs ≡ set_of o.rank o.same xs ++ drop n (sorted o.rank xs)
set-held o xs ys zs n e h = h ∙ ap (λ ws. squeezed o.same ws ++ drop n ws) e

module _ {A : Type 0} (o : Order A) (xs zs : List A) (n : ℕ) (c : n ≡ length (set_of o.rank o.same xs)) (h : zs ≡ set_of o.rank o.same xs ++ drop n (sorted o.rank xs)) where
  front_is : take n zs ≡ set_of o.rank o.same xs
  front_is = ap (take n) h ∙ take_at (set_of o.rank o.same xs) (drop n (sorted o.rank xs)) n (sym c)

  pub front_rises : Rising o.rank (take n zs)
  front_rises = subst (λ ys. Rising o.rank ys) (sym front_is) (set_rises o xs)

  pub front_has : (x : A) → some_of (λ y. o.same y x) (take n zs) ≡ some_of (λ y. o.same y x) xs
  front_has x = ap (some_of (λ y. o.same y x)) front_is ∙ set-some o (λ y. o.same y x) xs

-- ---- a search in a rising list

module _ {A : Type 0} (o : Order A) where
  up_next : (xs : List A) → Up o xs → (k : ℕ) (d : A) → suc k < length xs → UpTo o (get_or xs k d) (get_or xs (suc k) d)
  up_next [] u k d l = absurd (omega arith)
  up_next (x ∷ xs) u zero d l = All-get_or (UpTo o x) xs 0 d (omega arith) u.0
  up_next (x ∷ xs) u (suc k) d l = up_next xs u.1 k d (omega arith)

  not-above : (x y : A) → UpTo o x y → is_lt (o.rank y x) ≡ false
  not-above x y h = sym (gt_turned (o.rank y x)) ∙ ap is_gt (sym (o.flips x y)) ∙ h

  ascends : (xs : List A) → Up o xs → IsSortedWithin (λ x y. is_lt (o.rank x y)) xs 0 (length xs)
  ascends xs u k d a l = rw add-one (let m : suc k < length xs = omega arith in not-above (get_or xs k d) (get_or xs (suc k) d) (up_next xs u k d m))

  lacks_all : (w : A) (xs : List A) → AllByRecursion (λ y. o.same y w ≡ false) xs → some_of (λ y. o.same y w) xs ≡ false
  lacks_all w [] h = refl
  lacks_all w (x ∷ xs) h = λ j. h.0 j || lacks_all w xs h.1 j

  -- sorted by a function that answers what the rank does
  pub sorted_by_rank : (R : A → A → Ordering) → ((x y : A) → R x y ≡ o.rank x y) → (xs : List A) → IsSorted R xs → IsSorted o.rank xs
  sorted_by_rank R says xs h = subst {A = A → A → Ordering} (λ Q. IsSorted Q xs) (λ j x y. says x y j) h

  sorted_by : (R : A → A → Ordering) → ((x y : A) → R x y ≡ o.rank x y) → (xs : List A) → IsSorted o.rank xs → IsSorted R xs
  sorted_by R says xs h = subst {A = A → A → Ordering} (λ Q. IsSorted Q xs) (λ j x y. sym (says x y) j) h

  pub search_lacks : (R : A → A → Ordering) (says : (x y : A) → R x y ≡ o.rank x y) (xs : List A) (w : A) (i : ℕ) → (IsNonDecreasingBy (λ y. ordering_index (R y w)) xs → IsPartitionPoint (λ y. R y w ≡ Less) (λ y. R y w ≡ Greater) xs i) → Rising o.rank xs → some_of (λ y. o.same y w) xs ≡ false
  search_lacks R says xs w i h r =
      let u = up_from_climbs o xs (climbs o xs r) in
      let p = h (searchable_from_sorted (total o R says) (λ x. x) xs w (sorted_by R says xs (ascends xs u))) in
      lacks_all w xs (All-from_get_or (λ y. o.same y w ≡ false) xs w (λ k l.
      ⊎_elim
      (λ b. sym (o.agrees (get_or xs k w) w) ∙ ap is_eq (sym (says (get_or xs k w) w) ∙ p.0 k w (omega arith) b))
      (λ b. sym (o.agrees (get_or xs k w) w) ∙ ap is_eq (sym (says (get_or xs k w) w) ∙ p.1 k w b l))
      (cases_lt k i)))

  pub search_misses : (R : A → A → Ordering) (says : (x y : A) → R x y ≡ o.rank x y) (xs : List A) (w : A) (r : Result ℕ ℕ) (s : Option ℕ)
      → s ≡ result_ok r → IsBinarySearchResult (λ y. R y w) xs r → Rising o.rank xs → IfNone s (some_of (λ y. o.same y w) xs ≡ false)
  search_misses R says xs w (Ok i) s e h u = subst (λ t. IfNone t (some_of (λ y. o.same y w) xs ≡ false)) (sym e) tt
  search_misses R says xs w (Err i) s e h u = subst (λ t. IfNone t (some_of (λ y. o.same y w) xs ≡ false)) (sym e) (search_lacks R says xs w i h u)
