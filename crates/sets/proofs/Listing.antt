-- The order by fields is an order, whatever the fields.
use Rattle.std.proofs.Common.{◌≡◌, ℕ, Bool, true, false, ◌&&◌, eqb, List, [], ◌∷◌, Ordering, Less, Equal, Greater, sym, refl, ap, ◌∙◌, true≢false, eqb-true}
use mathlib.Core.Bool.{false≢true}
use Rattle.std.specs.Ordering.{is_eq, is_gt, ordering_reverse, ordering_then, nat_cmp}
use Rattle.std.specs.Cmp.{nat_cmp_total, unsigned_tied, alike_right, then_flip, tied_then}
use Rattle.std.proofs.Math.Bool.{and-true, and-false}
use Rattle.std.proofs.lemmas.Bool.{and_parts}
use Rattle.sets.specs.Fields.{lex}
use Rattle.sets.specs.Orders.{Order}

then_equal : (k : Ordering) → ordering_then k Equal ≡ k
then_equal Less = refl
then_equal Equal = refl
then_equal Greater = refl

pub lex_flips : (xs ys : List ℕ) → lex xs ys ≡ ordering_reverse (lex ys xs)
lex_flips [] [] = refl
lex_flips [] (y ∷ ys) = refl
lex_flips (x ∷ xs) [] = refl
lex_flips (x ∷ xs) (y ∷ ys) = (λ i. ordering_then (nat_cmp_total.antisymm x y i) (lex_flips xs ys i)) ∙ then_flip (nat_cmp y x) (lex ys xs)

lex-steps : (x y z : ℕ) (a b c : Ordering) (k m : Ordering) → nat_cmp x y ≡ k → nat_cmp y z ≡ m → (a ≡ Less → b ≡ Less → c ≡ Less) → ordering_then k a ≡ Less → ordering_then m b ≡ Less → ordering_then (nat_cmp x z) c ≡ Less
lex-steps x y z a b c Less Less p q t h g = ap (λ k. ordering_then k c) (nat_cmp_total.trans x y z p q)
lex-steps x y z a b c Less Equal p q t h g = ap (λ k. ordering_then k c) (sym (alike_right nat_cmp_total y z x q) ∙ p)
lex-steps x y z a b c Less Greater p q t h g = absurd (true≢false (ap is_gt g))
lex-steps x y z a b c Equal Less p q t h g = ap (λ k. ordering_then k c) (nat_cmp_total.congr x y z p ∙ q)
lex-steps x y z a b c Equal Equal p q t h g = ap (λ k. ordering_then k c) (nat_cmp_total.congr x y z p ∙ q) ∙ t h g
lex-steps x y z a b c Equal Greater p q t h g = absurd (true≢false (ap is_gt g))
lex-steps x y z a b c Greater m p q t h g = absurd (true≢false (ap is_gt h))

pub lex_rises : (xs ys zs : List ℕ) → lex xs ys ≡ Less → lex ys zs ≡ Less → lex xs zs ≡ Less
lex_rises [] [] zs h k = k
lex_rises [] (y ∷ ys) [] h k = absurd (true≢false (ap is_gt k))
lex_rises [] (y ∷ ys) (z ∷ zs) h k = refl
lex_rises (x ∷ xs) [] zs h k = absurd (true≢false (ap is_gt h))
lex_rises (x ∷ xs) (y ∷ ys) [] h k = k
lex_rises (x ∷ xs) (y ∷ ys) (z ∷ zs) h k = lex-steps x y z (lex xs ys) (lex ys zs) (lex xs zs) (nat_cmp x y) (nat_cmp y z) refl refl (lex_rises xs ys zs) h k

-- the test of the fields, joined from the right
abbrev pub alike_next : ℕ → List ℕ → ℕ → List ℕ → Bool
alike_next x [] y [] = eqb x y
alike_next x [] y (z ∷ zs) = false
alike_next x (w ∷ ws) y [] = false
alike_next x (w ∷ ws) y (z ∷ zs) = eqb x y && alike_next w ws z zs

abbrev pub alike : List ℕ → List ℕ → Bool
alike [] [] = true
alike [] (y ∷ ys) = false
alike (x ∷ xs) [] = false
alike (x ∷ xs) (y ∷ ys) = alike_next x xs y ys

next_agrees : (x : ℕ) (xs : List ℕ) (y : ℕ) (ys : List ℕ) → is_eq (lex (x ∷ xs) (y ∷ ys)) ≡ alike_next x xs y ys
next_agrees x [] y [] = sym (tied_then (nat_cmp x y) Equal) ∙ and-true (is_eq (nat_cmp x y)) ∙ unsigned_tied x y
next_agrees x [] y (z ∷ zs) = sym (tied_then (nat_cmp x y) Less) ∙ and-false (is_eq (nat_cmp x y))
next_agrees x (w ∷ ws) y [] = sym (tied_then (nat_cmp x y) Greater) ∙ and-false (is_eq (nat_cmp x y))
next_agrees x (w ∷ ws) y (z ∷ zs) = sym (tied_then (nat_cmp x y) (lex (w ∷ ws) (z ∷ zs))) ∙ (λ i. unsigned_tied x y i && next_agrees w ws z zs i)

pub lex_agrees : (xs ys : List ℕ) → is_eq (lex xs ys) ≡ alike xs ys
lex_agrees [] [] = refl
lex_agrees [] (y ∷ ys) = refl
lex_agrees (x ∷ xs) [] = refl
lex_agrees (x ∷ xs) (y ∷ ys) = next_agrees x xs y ys

next_equal : (x : ℕ) (xs : List ℕ) (y : ℕ) (ys : List ℕ) → alike_next x xs y ys ≡ true → ◌≡◌ {A = List ℕ} (x ∷ xs) (y ∷ ys)
next_equal x [] y [] h = ap (λ n. n ∷ []) (eqb-true x y h)
next_equal x [] y (z ∷ zs) h = absurd (false≢true h)
next_equal x (w ∷ ws) y [] h = absurd (false≢true h)
next_equal x (w ∷ ws) y (z ∷ zs) h =
    let p = and_parts (eqb x y) (alike_next w ws z zs) h in
    let e = eqb-true x y p.0 in
    let t = next_equal w ws z zs p.1 in
    cc

pub alike_equal : (xs ys : List ℕ) → alike xs ys ≡ true → xs ≡ ys
alike_equal [] [] h = refl
alike_equal [] (y ∷ ys) h = absurd (false≢true h)
alike_equal (x ∷ xs) [] h = absurd (false≢true h)
alike_equal (x ∷ xs) (y ∷ ys) h = next_equal x xs y ys h

-- what a derived `cmp` answers
abbrev pub told_next : ℕ → List ℕ → ℕ → List ℕ → Ordering
told_next x [] y [] = nat_cmp x y
told_next x [] y (z ∷ zs) = ordering_then (nat_cmp x y) Less
told_next x (w ∷ ws) y [] = ordering_then (nat_cmp x y) Greater
told_next x (w ∷ ws) y (z ∷ zs) = ordering_then (nat_cmp x y) (told_next w ws z zs)

abbrev pub told : List ℕ → List ℕ → Ordering
told [] [] = Equal
told [] (y ∷ ys) = Less
told (x ∷ xs) [] = Greater
told (x ∷ xs) (y ∷ ys) = told_next x xs y ys

next_says : (x : ℕ) (xs : List ℕ) (y : ℕ) (ys : List ℕ) → told_next x xs y ys ≡ lex (x ∷ xs) (y ∷ ys)
next_says x [] y [] = sym (then_equal (nat_cmp x y))
next_says x [] y (z ∷ zs) = refl
next_says x (w ∷ ws) y [] = refl
next_says x (w ∷ ws) y (z ∷ zs) = ap (ordering_then (nat_cmp x y)) (next_says w ws z zs)

pub lex_says : (xs ys : List ℕ) → told xs ys ≡ lex xs ys
lex_says [] [] = refl
lex_says [] (y ∷ ys) = refl
lex_says (x ∷ xs) [] = refl
lex_says (x ∷ xs) (y ∷ ys) = next_says x xs y ys

-- the order of values by their fields, which make the value again
abbrev pub by_fields : {T : Type 0} (fields : T → List ℕ) (made : List ℕ → T) → ((x : T) → made (fields x) ≡ x) → Order T
by_fields fields made back = record {
  rank = λ x y. lex (fields x) (fields y);
  same = λ x y. alike (fields x) (fields y);
  flips = λ x y. lex_flips (fields x) (fields y);
  rises = λ x y z. lex_rises (fields x) (fields y) (fields z);
  agrees = λ x y. lex_agrees (fields x) (fields y);
  whole = λ x y h. sym (back x) ∙ ap made (alike_equal (fields x) (fields y) h) ∙ back y;
}
