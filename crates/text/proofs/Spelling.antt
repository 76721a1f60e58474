use Rattle.std.proofs.Common.{◌≡◌, ℕ, zero, suc, ◌+◌, ◌*◌, ◌/◌, ◌%◌, ◌^◌, ◌<◌, ◌≤◌, true, cond, is_le, nat_cmp, ltb, List, [], ◌∷◌, ◌++◌, Some, sym, refl, ap, ◌∙◌, lt_of_lt_of_le, zero-lt-suc, pow-suc, arith, pow-add}
use native.Mathlib.Nat.{pow-le-pow_right, div-eq_of_lt}
use Rattle.std.proofs.lemmas.Bool.Decides.{nat_tests}
use Rattle.std.proofs.lemmas.Map.Keys.{le_from_is_le}
use Rattle.std.proofs.lemmas.List.{append_assoc}
use Rattle.text.specs.Digits.{digit_value, digit_code}
use Rattle.text.specs.Numbers.{spelled}

-- digits by shifts
pub sixteens : (p : ℕ) → 2 ^ (4 * p) ≡ 16 ^ p
sixteens zero = refl
sixteens (suc p) =
    let e : 4 * suc p ≡ 4 * p + 4 = omega arith in
    ap (λ z. 2 ^ z) e ∙ pow-add 2 (4 * p) 4 ∙ ap (λ z. z * 16) (sixteens p) ∙ sym (pow-suc 16 p)

pub code_low : (v : ℕ) → digit_code (v % 16) ≡ digit_code v
code_low v = let e : v % 16 % 16 ≡ v % 16 = omega arith in ap (λ z. cond (ltb z 10) (48 + z) (87 + z)) e

pub code_shifted : (v p : ℕ) → digit_code (v / 2 ^ (4 * p) % 16) ≡ digit_code (v / 16 ^ p)
code_shifted v p = code_low (v / 2 ^ (4 * p)) ∙ ap (λ z. digit_code (v / z)) (sixteens p)

pub code_past : (v p : ℕ) → v < 2 ^ 64 → 16 ≤ p → 48 ≡ digit_code (v / 16 ^ p)
code_past v p h k =
    let g : 16 ^ 16 ≤ 16 ^ p = pow-le-pow_right (zero-lt-suc 15) k in
    ap digit_code (sym (div-eq_of_lt (lt_of_lt_of_le h g)))

-- the value of a digit is below 16
pub value_below : (c d : ℕ) → digit_value c ≡ Some d → d < 16
value_below c d e = grind (arith, nat_tests)

-- a number of at most fifteen digits takes one more
pub fits_more : (i n : ℕ) → i < 16 → n < 16 ^ i → n < 1152921504606846976
fits_more i n h b =
    let k : i ≤ 15 = omega arith in
    let g : 16 ^ i ≤ 16 ^ 15 = pow-le-pow_right (zero-lt-suc 15) k in
    lt_of_lt_of_le b g

-- one digit more is written
pub spelled_more : (a b : List ℕ) (x : List ℕ) (p v : ℕ) → b ≡ a ++ (digit_code (v / 16 ^ p) ∷ []) → a ++ spelled (suc p) v ≡ x → b ++ spelled p v ≡ x
unfolding spelled
spelled_more a b x p v e q = ap (λ z. z ++ spelled p v) e ∙ append_assoc a (digit_code (v / 16 ^ p) ∷ []) (spelled p v) ∙ q

-- what a test of a range tells
pub in_range : (lo hi n start end : ℕ) → start ≡ lo → end ≡ hi → (is_le (nat_cmp start n) ≡ true) × (is_le (nat_cmp n end) ≡ true) → (lo ≤ n) × (n ≤ hi)
in_range lo hi n start end s e h = let a = le_from_is_le start n h.0 in let b = le_from_is_le n end h.1 in (omega arith, omega arith)
