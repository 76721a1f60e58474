use Rattle.std.specs.Prelude.{Bool, true, nat_lt}
use Rattle.frames.specs.declared.state.State.{State}
use Rattle.frames.specs.declared.state.State.TheVariants.{Whole, Half, NoDigit}

-- the first digit of a byte is below 16
abbrev pub sane : State → Bool
sane Whole = true
sane (Half high) = nat_lt high 16
sane NoDigit = true
