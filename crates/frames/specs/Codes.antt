-- The bytes that stand for the kinds of frames.
use Rattle.std.specs.Prelude.{ℕ, cond, Ok, Err, Result, ◌==◌}
use Rattle.model.specs.declared.faults.Fault.{Fault}
use Rattle.model.specs.declared.faults.Fault.TheVariants.{KindUnknown}
use Rattle.frames.specs.declared.kind.Kind.{Kind}
use Rattle.frames.specs.declared.kind.Kind.TheVariants.{Accept, Map, Over, Enter, DropAccept, DropMap, Look}

abbrev pub code_of : Kind → ℕ
code_of Accept = 0x41
code_of Map = 0x4d
code_of Over = 0x4f
code_of Enter = 0x45
code_of DropAccept = 0x61
code_of DropMap = 0x6d
code_of Look = 0x4c

-- the kind of a byte, for which no other byte stands
abbrev pub kind_of : ℕ → Result Kind Fault
kind_of c =
    cond (c == 0x41) (Ok Accept)
    (cond (c == 0x4d) (Ok Map)
    (cond (c == 0x4f) (Ok Over)
    (cond (c == 0x45) (Ok Enter)
    (cond (c == 0x61) (Ok DropAccept)
    (cond (c == 0x6d) (Ok DropMap)
    (cond (c == 0x4c) (Ok Look)
    (Err KindUnknown)))))))
