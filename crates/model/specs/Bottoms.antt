-- What stands at the bottom of a stack: an empty socket, a bank of one component, a flat table of records.
use Rattle.std.specs.Prelude.{ℕ, suc, ◌+◌, ◌-◌, min, Bool, true, cond, ◌&&◌, List, [], ◌∷◌, nat_le, nat_lt}
use Rattle.std.proofs.Math.Option.{Option, none, some}
use Rattle.model.specs.declared.names.Name.{Name}
use Rattle.model.specs.declared.records.Record.{Record}
use Rattle.model.specs.Names.{top}
use Rattle.model.specs.Nets.{within}
use Rattle.model.specs.Faults.{Refusal, at_place}

abbrev pub nowhere : ℕ → List Name
nowhere a = []

-- a bank of one component: its addresses are those below its size
abbrev pub banked : ℕ → ℕ → ℕ → List Name
banked component size a = cond (nat_lt a size) (record { component = component; address = a } ∷ []) []

-- the last address up to which a bank answers as it does at a
abbrev pub bank_reach : ℕ → ℕ → ℕ
bank_reach size a = cond (nat_lt a size) (size - 1) (top - 1)

-- where a record leads an address that it covers
abbrev pub led : Record → ℕ → Name
led r a = record { component = r.component; address = r.base + (a - r.lo) }

-- what a table gives at an address: each record that covers it, one after another
abbrev pub tabled : List Record → ℕ → List Name
tabled [] a = []
tabled (r ∷ rs) a = cond (within r.lo r.hi a) (led r a ∷ tabled rs a) (tabled rs a)

-- a record's range rises, and its target stays below the top
abbrev pub sane : Record → Bool
sane r = nat_le r.lo r.hi && nat_lt (r.base + (r.hi - r.lo)) top

abbrev pub all_sane : List Record → Bool
all_sane [] = true
all_sane (r ∷ rs) = sane r && all_sane rs

-- the refusal of a table's records, the first of which stands at place i: of the first that fails, 3 where its range is reversed, else 4 where its target passes the top
abbrev pub misfit : ℕ → List Record → Option Refusal
misfit i [] = none
misfit i (r ∷ rs) =
    cond (nat_le r.lo r.hi)
    (cond (nat_lt (r.base + (r.hi - r.lo)) top) (misfit (suc i) rs) (some (at_place 4 i)))
    (some (at_place 3 i))

-- the last address up to which a record covers each address as it covers a
abbrev pub steady : Record → ℕ → ℕ
steady r a = cond (nat_le r.lo a) (cond (nat_le a r.hi) r.hi (top - 1)) (r.lo - 1)

-- the same for a table: up to the nearest end of a record
abbrev pub steady_all : List Record → ℕ → ℕ
steady_all [] a = top - 1
steady_all (r ∷ rs) a = min (steady r a) (steady_all rs a)
