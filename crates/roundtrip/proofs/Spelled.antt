-- What a reader of lines makes of spelled numbers.
use Rattle.std.proofs.Common.{◌≡◌, ℕ, zero, suc, ◌+◌, ◌*◌, ◌/◌, ◌%◌, ◌^◌, ◌<◌, false, not, ◌&&◌, eqb, List, [], ◌∷◌, ◌++◌, is_some, unwrap_or, sym, refl, ap, ◌∙◌, arith}
use native.Mathlib.Nat.{div-div-eq-div-mul}
use Rattle.std.proofs.lemmas.Bool.Decides.{nat_tests}
use Rattle.text.specs.Digits.{digit_value, digit_code}
use Rattle.text.specs.Numbers.{spelled}
use Rattle.text.proofs.Backs.{value_code}
use Rattle.frames.specs.Lines.{all_digits, byte_of, bytes_of}
use Rattle.loading.specs.Laws.{unbroken}

pub digits_spelled : (n v : ℕ) (rest : List ℕ) → all_digits (spelled n v ++ rest) ≡ all_digits rest
unfolding all_digits spelled
digits_spelled zero v rest = refl
digits_spelled (suc n) v rest = ap (λ o. is_some o && all_digits (spelled n v ++ rest)) (value_code (v / 16 ^ n)) ∙ digits_spelled n v rest

no_feed : (v : ℕ) → eqb (digit_code v) 10 ≡ false
no_feed v = let m : v % 16 < 16 = omega arith in grind (arith, nat_tests)

pub unbroken-spelled : (n v : ℕ) (rest : List ℕ) → unbroken (spelled n v ++ rest) ≡ unbroken rest
unfolding spelled
unbroken-spelled zero v rest = refl
unbroken-spelled (suc n) v rest = ap (λ b. not b && unbroken (spelled n v ++ rest)) (no_feed (v / 16 ^ n)) ∙ unbroken-spelled n v rest

-- two digits are a byte
digits_byte : (h l : ℕ) → byte_of (digit_code h) (digit_code l) ≡ 16 * (h % 16) + l % 16
digits_byte h l = ap (λ o. 16 * unwrap_or o 0 + unwrap_or (digit_value (digit_code l)) 0) (value_code h) ∙ ap (λ o. 16 * (h % 16) + unwrap_or o 0) (value_code l)

pub byte_spelled : (v : ℕ) (rest : List ℕ) → v < 256 → bytes_of (spelled 2 v ++ rest) ≡ v ∷ bytes_of rest
unfolding bytes_of spelled
byte_spelled v rest h =
    let e : 16 * (v / 16 % 16) + v / 1 % 16 ≡ v = omega arith in
    ap (λ b. b ∷ bytes_of rest) (digits_byte (v / 16) (v / 1) ∙ e)

-- sixteen digits are eight bytes, the high one first
abbrev pub word_bytes : ℕ → List ℕ
word_bytes v =
    v / 16 ^ 14 % 256 ∷ v / 16 ^ 12 % 256 ∷ v / 16 ^ 10 % 256 ∷ v / 16 ^ 8 % 256 ∷ v / 16 ^ 6 % 256 ∷ v / 16 ^ 4 % 256 ∷ v / 16 ^ 2 % 256 ∷ v / 16 ^ 0 % 256 ∷ []

byte_at : (v c : ℕ) → byte_of (digit_code (v / (c * 16))) (digit_code (v / c)) ≡ v / c % 256
byte_at v c =
    let w = v / c in
    let e : 16 * (w / 16 % 16) + w % 16 ≡ w % 256 = omega arith in
    digits_byte (v / (c * 16)) w ∙ ap (λ q. 16 * (q % 16) + w % 16) (sym (div-div-eq-div-mul v c 16)) ∙ e

pub word-spelled : (v : ℕ) (rest : List ℕ) → bytes_of (spelled 16 v ++ rest) ≡ word_bytes v ++ bytes_of rest
unfolding bytes_of spelled
word-spelled v rest =
    cc (byte_at v (16 ^ 14), byte_at v (16 ^ 12), byte_at v (16 ^ 10), byte_at v (16 ^ 8), byte_at v (16 ^ 6), byte_at v (16 ^ 4), byte_at v (16 ^ 2), byte_at v (16 ^ 0))

abbrev pub word_sum : ℕ → ℕ
word_sum v =
    v / 16 ^ 14 % 256 * 2 ^ 56 + v / 16 ^ 12 % 256 * 2 ^ 48 + v / 16 ^ 10 % 256 * 2 ^ 40 + v / 16 ^ 8 % 256 * 2 ^ 32 + v / 16 ^ 6 % 256 * 2 ^ 24
    + v / 16 ^ 4 % 256 * 2 ^ 16 + v / 16 ^ 2 % 256 * 2 ^ 8 + v / 16 ^ 0 % 256

pub word_value : (v : ℕ) → v < 2 ^ 64 → word_sum v ≡ v
word_value v h = omega arith
