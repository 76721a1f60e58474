use Rattle.std.specs.Prelude.{ℕ, ◌+◌, ◌-◌, ◌%◌, cond, Some, None, Option, nat_lt}

-- the value of a digit, 0 to 9 or a to f, by the character's code
abbrev pub digit_value : ℕ → Option ℕ
digit_value c = cond (nat_lt c 48) None (cond (nat_lt c 58) (Some (c - 48)) (cond (nat_lt c 97) None (cond (nat_lt c 103) (Some (c - 87)) None)))

-- the digit of a value's low four bits
abbrev pub digit_code : ℕ → ℕ
digit_code v = cond (nat_lt (v % 16) 10) (48 + v % 16) (87 + v % 16)
