use Rattle.std.specs.Prelude.{◌≡◌, ℕ, zero, suc, ◌+◌, ◌≤◌, ◌++◌, String, string_bytes, string_len, string_capacity, ◌*◌, ◌/◌, ◌^◌, cond, ◌&&◌, List, [], ◌∷◌, length, Some, None, Option, nat_le}
use Rattle.text.specs.Digits.{digit_value, digit_code}

abbrev pub and_then : Option ℕ → (ℕ → Option ℕ) → Option ℕ
and_then None f = None
and_then (Some d) f = f d

-- the number that the digits go on to spell after n
unfoldable pub read_on : ℕ → List ℕ → Option ℕ
read_on n [] = Some n
read_on n (c ∷ cs) = and_then (digit_value c) (λ d. read_on (16 * n + d) cs)

-- the number that 1 to 16 digits spell
abbrev pub number_of : List ℕ → Option ℕ
number_of cs = cond (nat_le 1 (length cs) && nat_le (length cs) 16) (read_on 0 cs) None

-- the low digits of a value, the highest first
unfoldable pub spelled : ℕ → ℕ → List ℕ
spelled zero v = []
spelled (suc k) v = digit_code (v / 16 ^ k) ∷ spelled k v

-- a text with these bytes, n of them, behind its own, and no less room than before
abbrev pub Appended : {Z : Type 0} → ℕ → List ℕ → String Z → String Z → Type 0
Appended n bs before after = (string_bytes after ≡ string_bytes before ++ bs) × (string_len after ≡ string_len before + n) × (string_capacity before ≤ string_capacity after)
