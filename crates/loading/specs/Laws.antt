use Rattle.std.specs.Prelude.{◌≡◌, ℕ, ◌<◌, Bool, true, not, ◌&&◌, List, [], ◌∷◌, ◌++◌, length, Ok, ◌==◌}
use Rattle.frames.specs.declared.frame.Frame.{Frame}
use Rattle.frames.specs.declared.frame.Kinds.TheVariants.{Net}
use Rattle.frames.specs.Lines.{line_read}
use Rattle.loading.specs.Texts.{lines_of}
use Rattle.loading.specs.Loads.{builds}

-- no character is a line feed
abbrev pub unbroken : List ℕ → Bool
unbroken [] = true
unbroken (c ∷ cs) = not (c == 10) && unbroken cs

-- every text is empty, or a line with its line feed and a text, or a line that lacks it: these three tell its lines
abbrev pub NoLine : Type 0
NoLine = lines_of [] ≡ []

abbrev pub EndedLine : Type 0
EndedLine = (l cs : List ℕ) → unbroken l ≡ true → lines_of (l ++ 10 ∷ cs) ≡ l ∷ lines_of cs

abbrev pub LastLine : Type 0
LastLine = (l : List ℕ) → 0 < length l → unbroken l ≡ true → lines_of l ≡ l ∷ []

-- a net reads neither a drop nor a look
abbrev pub NetsBuild : Type 0
NetsBuild = (cs : List ℕ) (f : Frame) → line_read Net cs ≡ Ok f → builds f ≡ true
