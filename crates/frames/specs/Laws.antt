use Rattle.std.specs.Prelude.{◌≡◌, ℕ, ◌^◌, ◌<◌, List, Ok, fold}
use Rattle.model.specs.declared.blocks.AcceptBlock.{AcceptBlock}
use Rattle.model.specs.declared.blocks.MapBlock.{MapBlock}
use Rattle.frames.specs.declared.frame.Frame.{Frame}
use Rattle.frames.specs.declared.frame.Frame.TheVariants.{Accept, Map, Over, Enter, DropAccept, DropMap, Look}
use Rattle.frames.specs.declared.frame.Kinds.{Kinds}
use Rattle.frames.specs.declared.frame.Kinds.TheVariants.{Net, Program}
use Rattle.frames.specs.Lines.{line_read}
use Rattle.frames.specs.Machine.{fresh, after, finished}

-- the machine, fed the characters of a line, tells what the line says: 27 bytes and whether there were more suffice
abbrev pub ReadByCharacters : Type 0
ReadByCharacters = (ks : Kinds) (cs : List ℕ) → finished ks (fold after fresh cs) ≡ line_read ks cs

-- what a net reads, a program reads too
abbrev pub NetsReadLess : Type 0
NetsReadLess = (cs : List ℕ) (f : Frame) → line_read Net cs ≡ Ok f → line_read Program cs ≡ Ok f

-- the numbers of a frame fit their bytes
abbrev pub accept_fits : AcceptBlock → Type 0
accept_fits b = (b.node < 2 ^ 8) × (b.lo < 2 ^ 64) × (b.hi < 2 ^ 64)

abbrev pub map_fits : MapBlock → Type 0
map_fits b = (b.node < 2 ^ 8) × (b.lo < 2 ^ 64) × (b.hi < 2 ^ 64) × (b.destination < 2 ^ 8) × (b.base < 2 ^ 64)

abbrev pub Fitting : Frame → Type 0
Fitting (Accept b) = accept_fits b
Fitting (Map b) = map_fits b
Fitting (Over node destination) = (node < 2 ^ 8) × (destination < 2 ^ 8)
Fitting (Enter node) = node < 2 ^ 8
Fitting (DropAccept b) = accept_fits b
Fitting (DropMap b) = map_fits b
Fitting (Look address) = address < 2 ^ 64

abbrev pub LineFits : Type 0
LineFits = (ks : Kinds) (cs : List ℕ) (f : Frame) → line_read ks cs ≡ Ok f → Fitting f
