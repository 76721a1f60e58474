-- What the bytes of a frame say: the kind, which tells the length and the layout, and the numbers by their places.
use Rattle.std.specs.Prelude.{ℕ, ◌+◌, ◌*◌, ◌^◌, Bool, cond, ◌||◌, List, length, Ok, Err, Result, ◌==◌, slice_index}
use Rattle.model.specs.declared.blocks.AcceptBlock.{AcceptBlock}
use Rattle.model.specs.declared.blocks.MapBlock.{MapBlock}
use Rattle.model.specs.declared.faults.Fault.{Fault}
use Rattle.model.specs.declared.faults.Fault.TheVariants.{KindUnknown, LengthWrong}
use Rattle.frames.specs.declared.frame.Frame.{Frame}
use Rattle.frames.specs.declared.frame.Frame.TheVariants.{Accept, Map, Over, Enter, DropAccept, DropMap, Look}
use Rattle.frames.specs.declared.frame.Kinds.{Kinds}
use Rattle.frames.specs.declared.frame.Kinds.TheVariants.{Net, Program}

-- the number whose eight bytes begin at i, the high one first
abbrev pub word : List ℕ → ℕ → ℕ
word bs i = slice_index bs i * 2 ^ 56 + slice_index bs (i + 1) * 2 ^ 48 + slice_index bs (i + 2) * 2 ^ 40 + slice_index bs (i + 3) * 2 ^ 32
    + slice_index bs (i + 4) * 2 ^ 24 + slice_index bs (i + 5) * 2 ^ 16 + slice_index bs (i + 6) * 2 ^ 8 + slice_index bs (i + 7)

-- accept, map, over and enter
abbrev pub for_nets : ℕ → Bool
for_nets k = k == 0x41 || (k == 0x4d || (k == 0x4f || k == 0x45))

-- the drops of an accept block and of a map block, and the look
abbrev pub for_programs : ℕ → Bool
for_programs k = k == 0x61 || (k == 0x6d || k == 0x4c)

abbrev pub known : Kinds → ℕ → Bool
known Net k = for_nets k
known Program k = for_nets k || for_programs k

-- how many bytes a frame of a known kind has
abbrev pub size : ℕ → ℕ
size k = cond (k == 0x41 || k == 0x61) 18 (cond (k == 0x4d || k == 0x6d) 27 (cond (k == 0x4f) 3 (cond (k == 0x45) 2 9)))

-- kind, node, lo, hi
abbrev pub accept_in : List ℕ → AcceptBlock
accept_in bs = record { node = slice_index bs 1; lo = word bs 2; hi = word bs 10 }

-- kind, node, lo, hi, destination, base
abbrev pub map_in : List ℕ → MapBlock
map_in bs = record { node = slice_index bs 1; lo = word bs 2; hi = word bs 10; destination = slice_index bs 18; base = word bs 19 }

-- the frame of a known kind in bytes that are as many as it has
abbrev pub laid : ℕ → List ℕ → Frame
laid k bs =
    cond (k == 0x41) (Accept (accept_in bs))
    (cond (k == 0x4d) (Map (map_in bs))
    (cond (k == 0x4f) (Over (slice_index bs 1) (slice_index bs 2))
    (cond (k == 0x45) (Enter (slice_index bs 1))
    (cond (k == 0x61) (DropAccept (accept_in bs))
    (cond (k == 0x6d) (DropMap (map_in bs))
    (Look (word bs 1)))))))

abbrev pub sized : {X : Type 0} → ℕ → List ℕ → X → Result X Fault
sized n bs x = cond (length bs == n) (Ok x) (Err LengthWrong)

abbrev pub of_kind : Kinds → ℕ → List ℕ → Result Frame Fault
of_kind ks k bs = cond (known ks k) (sized (size k) bs (laid k bs)) (Err KindUnknown)

-- first the kind is asked for, then the length; of no bytes the kind is 0, which nobody knows
abbrev pub frame_read : Kinds → List ℕ → Result Frame Fault
frame_read ks bs = of_kind ks (slice_index bs 0) bs

-- the number that eight bytes are
abbrev pub word_read : List ℕ → Result ℕ Fault
word_read xs = sized 8 xs (word xs 0)

-- the parts of a frame behind its kind, or behind its kind and node
abbrev pub look_read : List ℕ → Result Frame Fault
look_read xs = sized 8 xs (Look (word xs 0))

abbrev pub accept_read : ℕ → List ℕ → Result AcceptBlock Fault
accept_read node xs = sized 16 xs (record { node = node; lo = word xs 0; hi = word xs 8 })

abbrev pub map_read : ℕ → List ℕ → Result MapBlock Fault
map_read node xs = sized 25 xs (record { node = node; lo = word xs 0; hi = word xs 8; destination = slice_index xs 16; base = word xs 17 })

abbrev pub framed : {B : Type 0} → (B → Frame) → Result B Fault → Result Frame Fault
framed f (Ok b) = Ok (f b)
framed f (Err e) = Err e

abbrev pub node_frame_read : ℕ → ℕ → List ℕ → Result Frame Fault
node_frame_read k node xs =
    cond (k == 0x41) (framed Accept (accept_read node xs))
    (cond (k == 0x4d) (framed Map (map_read node xs))
    (cond (k == 0x61) (framed DropAccept (accept_read node xs))
    (cond (k == 0x6d) (framed DropMap (map_read node xs))
    (cond (k == 0x4f) (sized 1 xs (Over node (slice_index xs 0)))
    (cond (k == 0x45) (sized 0 xs (Enter node))
    (Err LengthWrong))))))
