-- What a load leaves in a net.
use Rattle.std.specs.Prelude.{◌≡◌, Ok, Err, Result}
use Rattle.model.specs.Nets.{Kept}
use Rattle.loading.specs.declared.fault.LoadFault.{LoadFault}
use Rattle.loading.specs.Loads.{Stop, stop_of}

-- what all lines leave, or, told where they stop, what was there
abbrev pub LoadsInto : Result Kept Stop → Kept → Kept → Result (Unit {0}) LoadFault → Type 0
LoadsInto lines before after (Ok u) = lines ≡ Ok after
LoadsInto lines before after (Err f) = (lines ≡ Err (stop_of f)) × (after ≡ before)
