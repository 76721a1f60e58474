use Rattle.std.proofs.Common.{◌≡◌, ◌+◌, ◌≤◌, ◌++◌, string_bytes, string_len, string_capacity}
use Rattle.text.specs.Numbers.{spelled}
use Rattle.text.proofs.number.append_number.Given as goal

abbrev pub invariant-loop-place : goal.invariant-loop-place
invariant-loop-place l = (string_bytes l.out ++ spelled l.place l.value ≡ string_bytes l.initial.out ++ spelled l.digits l.value)
    × (string_len l.out + l.place ≡ string_len l.initial.out + l.digits) × (string_capacity l.initial.out ≤ string_capacity l.out)
