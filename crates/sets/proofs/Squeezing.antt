-- Squeezing an ascending list: it rises strictly, has the same members, and is the one list that does.
use Rattle.std.proofs.Common.{◌≡◌, ℕ, zero, suc, ◌<◌, Bool, true, false, cond, ◌||◌, List, [], ◌∷◌, length, get_or, Less, sym, refl, ap, ◌∙◌, subst, true≢false, arith}
use Rattle.std.specs.Ordering.{is_lt}
use Rattle.std.specs.List.{AllByRecursion}
use Rattle.std.proofs.ByRecursion.{All-weaker, All-get_or}
use Rattle.std.proofs.lemmas.Bool.{and_parts, and_from}
use Rattle.sets.specs.Members.{some_of}
use Rattle.sets.specs.Orders.{Order}
use Rattle.sets.specs.Sets.{sorted, past, squeezed, set_of, leads, rising, Rising}
use Rattle.sets.proofs.Ranking.{by_rank, UpTo, upto_less, less_left, less_from, same_self, same_from, apart, turned}
use Rattle.sets.proofs.Sorting.{Up, up_sorted, some-sorted}

twice : (a b : Bool) → (a || (a || b)) ≡ (a || b)
twice true b = refl
twice false b = refl

module _ {A : Type 0} (o : Order A) where
  past-some : (p : A → Bool) (x y : A) (ys : List A) (t : Bool) → o.same x y ≡ t → (p x || some_of p (past o.same x ys)) ≡ (p x || some_of p ys) → (p y || some_of p (past o.same y ys)) ≡ (p y || some_of p ys) → (p x || some_of p (cond t (past o.same x ys) (y ∷ past o.same y ys))) ≡ (p x || (p y || some_of p ys))
  past-some p x y ys true e h k = h ∙ sym (twice (p x) (some_of p ys)) ∙ ap (λ w. p x || (p w || some_of p ys)) (o.whole x y e)
  past-some p x y ys false e h k = ap (λ b. p x || b) k

  some-past : (p : A → Bool) (x : A) (ys : List A) → (p x || some_of p (past o.same x ys)) ≡ (p x || some_of p ys)
  some-past p x [] = refl
  some-past p x (y ∷ ys) = past-some p x y ys (o.same x y) refl (some-past p x ys) (some-past p y ys)

  pub some-squeezed : (p : A → Bool) (xs : List A) → some_of p (squeezed o.same xs) ≡ some_of p xs
  some-squeezed p [] = refl
  some-squeezed p (x ∷ xs) = some-past p x xs

  past_rises : (x y : A) (ys : List A) (t : Bool) → o.same x y ≡ t → UpTo o x y → Rising o.rank (x ∷ past o.same x ys) → Rising o.rank (y ∷ past o.same y ys) → Rising o.rank (x ∷ cond t (past o.same x ys) (y ∷ past o.same y ys))
  past_rises x y ys true e u h k = h
  past_rises x y ys false e u h k = and_from (is_lt (o.rank x y)) (rising o.rank (y ∷ past o.same y ys)) (ap is_lt (less_left (o.rank x y) u (o.agrees x y ∙ e))) k

  rises_past : (x : A) (ys : List A) → AllByRecursion (UpTo o x) ys → Up o ys → Rising o.rank (x ∷ past o.same x ys)
  rises_past x [] h u = refl
  rises_past x (y ∷ ys) h u = past_rises x y ys (o.same x y) refl h.0 (rises_past x ys h.1 u.1) (rises_past y ys u.0 u.1)

  pub rises_squeezed : (xs : List A) → Up o xs → Rising o.rank (squeezed o.same xs)
  rises_squeezed [] u = refl
  rises_squeezed (x ∷ xs) u = rises_past x xs u.0 u.1

  pub set_rises : (xs : List A) → Rising o.rank (set_of o.rank o.same xs)
  set_rises xs = rises_squeezed (sorted o.rank xs) (up_sorted o xs)

  pub set-some : (p : A → Bool) (xs : List A) → some_of p (set_of o.rank o.same xs) ≡ some_of p xs
  set-some p xs = some-squeezed p (sorted o.rank xs) ∙ some-sorted o.rank p xs

  -- each element is below all later ones
  abbrev pub Climbs : List A → Type 0
  Climbs [] = Unit {0}
  Climbs (x ∷ xs) = AllByRecursion (λ w. o.rank x w ≡ Less) xs × Climbs xs

  ahead : (x : A) (ys : List A) → leads o.rank x ys ≡ true → Climbs ys → AllByRecursion (λ w. o.rank x w ≡ Less) ys
  ahead x [] h k = tt
  ahead x (y ∷ ys) h k =
      let l = less_from (o.rank x y) h in
      (l, All-weaker (λ w. o.rank y w ≡ Less) (λ w. o.rank x w ≡ Less) (λ w m. o.rises x y w l m) ys k.0)

  pub climbs : (xs : List A) → Rising o.rank xs → Climbs xs
  climbs [] h = tt
  climbs (x ∷ xs) h =
      let p = and_parts (leads o.rank x xs) (rising o.rank xs) h in
      let k = climbs xs p.1 in
      (ahead x xs p.0 k, k)

  pub up_from_climbs : (xs : List A) → Climbs xs → Up o xs
  up_from_climbs [] k = tt
  up_from_climbs (x ∷ xs) k = (All-weaker (λ w. o.rank x w ≡ Less) (UpTo o x) (λ w l. upto_less o x w l) xs k.0, up_from_climbs xs k.1)

  not_itself : (x y : A) → o.rank x y ≡ Less → x ≡ y → ⊥
  not_itself x y l e = true≢false (sym (same_from o y x (sym e)) ∙ apart o x y l)

  abbrev has : List A → A → Bool
  has xs x = some_of (λ y. o.same y x) xs

  lacks : (x : A) (ys : List A) → AllByRecursion (λ w. o.rank x w ≡ Less) ys → has ys x ≡ false
  lacks x [] h = refl
  lacks x (y ∷ ys) h = (λ i. apart o x y h.0 i || lacks x ys h.1 i)

  here : (x : A) (xs : List A) → has (x ∷ xs) x ≡ true
  here x xs = ap (λ b. b || has xs x) (same_self o x)

  clash : (x : A) (xs ys : List A) → has (x ∷ xs) x ≡ has ys x → AllByRecursion (λ w. o.rank x w ≡ Less) ys → ⊥
  clash x xs ys h l = true≢false (sym (here x xs) ∙ h ∙ lacks x ys l)

  beyond : (x y : A) (ys : List A) → o.rank x y ≡ Less → AllByRecursion (λ w. o.rank y w ≡ Less) ys → AllByRecursion (λ w. o.rank x w ≡ Less) (y ∷ ys)
  beyond x y ys l h = (l, All-weaker (λ w. o.rank y w ≡ Less) (λ w. o.rank x w ≡ Less) (λ w m. o.rises x y w l m) ys h)

  -- what two lists hold after a common first element
  tails : (x z : A) (xs ys : List A) (t : Bool) → o.same x z ≡ t → AllByRecursion (λ w. o.rank x w ≡ Less) xs → AllByRecursion (λ w. o.rank x w ≡ Less) ys → (t || has xs z) ≡ (t || has ys z) → has xs z ≡ has ys z
  tails x z xs ys true e a b h =
      let p = o.whole x z e in
      subst (λ w. has xs w ≡ has ys w) p (lacks x xs a ∙ sym (lacks x ys b))
  tails x z xs ys false e a b h = h

  pub climb_unique : (xs ys : List A) → Climbs xs → Climbs ys → ((x : A) → has xs x ≡ has ys x) → xs ≡ ys
  climb_unique [] [] a b h = refl
  climb_unique [] (y ∷ ys) a b h = absurd (true≢false (sym (here y ys) ∙ sym (h y)))
  climb_unique (x ∷ xs) [] a b h = absurd (true≢false (sym (here x xs) ∙ h x))
  climb_unique (x ∷ xs) (y ∷ ys) a b h =
      by_rank o x y (◌≡◌ {A = List A} (x ∷ xs) (y ∷ ys))
      (λ l. absurd (clash x xs (y ∷ ys) (h x) (beyond x y ys l b.0)))
      (λ e.
      let first : AllByRecursion (λ w. o.rank x w ≡ Less) ys = subst (λ v. AllByRecursion (λ w. o.rank v w ≡ Less) ys) (sym e) b.0 in
      let even : (z : A) → (o.same x z || has xs z) ≡ (o.same x z || has ys z) = λ z. h z ∙ ap (λ v. o.same v z || has ys z) (sym e) in
      let t : xs ≡ ys = climb_unique xs ys a.1 b.1 (λ z. tails x z xs ys (o.same x z) refl a.0 first (even z)) in
      cc)
      (λ g. absurd (clash y ys (x ∷ xs) (sym (h y)) (beyond y x xs (turned o x y g) a.0)))

  pub set_unique : (xs ys : List A) → Rising o.rank ys → ((x : A) → has ys x ≡ has xs x) → ys ≡ set_of o.rank o.same xs
  set_unique xs ys r h =
      climb_unique ys (set_of o.rank o.same xs) (climbs ys r) (climbs (set_of o.rank o.same xs) (set_rises xs))
      (λ x. h x ∙ sym (set-some (λ y. o.same y x) xs))

  place_climbs : (xs : List A) (i j : ℕ) (d : A) → Climbs xs → i < length xs → j < length xs → get_or xs i d ≡ get_or xs j d → i ≡ j
  place_climbs [] i j d k l m e = absurd (omega arith)
  place_climbs (x ∷ xs) zero zero d k l m e = refl
  place_climbs (x ∷ xs) zero (suc j) d k l m e = absurd (not_itself x (get_or xs j d) (All-get_or (λ w. o.rank x w ≡ Less) xs j d (omega arith) k.0) e)
  place_climbs (x ∷ xs) (suc i) zero d k l m e = absurd (not_itself x (get_or xs i d) (All-get_or (λ w. o.rank x w ≡ Less) xs i d (omega arith) k.0) (sym e))
  place_climbs (x ∷ xs) (suc i) (suc j) d k l m e = ap suc (place_climbs xs i j d k.1 (omega arith) (omega arith) e)

  pub place_unique : (xs : List A) (i j : ℕ) (d : A) → Rising o.rank xs → i < length xs → j < length xs → o.same (get_or xs i d) (get_or xs j d) ≡ true → i ≡ j
  place_unique xs i j d r l m e = place_climbs xs i j d (climbs xs r) l m (o.whole (get_or xs i d) (get_or xs j d) e)
