-- The text of what a net keeps: a line for each frame, two digits a byte, ended by a line feed.
use Rattle.std.specs.Prelude.{◌≡◌, ℕ, ◌+◌, ◌<◌, cond, List, [], ◌∷◌, ◌++◌, length, drop, Ok, Err, Result, nat_le}
use Rattle.model.specs.declared.blocks.AcceptBlock.{AcceptBlock}
use Rattle.model.specs.declared.blocks.MapBlock.{MapBlock}
use Rattle.model.specs.declared.faults.Fault.{Fault}
use Rattle.model.specs.Faults.{told, plain}
use Rattle.model.specs.Nets.{Kept}
use Rattle.text.specs.Numbers.{spelled}

abbrev pub enter_line : ℕ → List ℕ
enter_line node = spelled 2 0x45 ++ (spelled 2 node ++ (10 ∷ []))

abbrev pub accept_line : AcceptBlock → List ℕ
accept_line b = spelled 2 0x41 ++ (spelled 2 b.node ++ (spelled 16 b.lo ++ (spelled 16 b.hi ++ (10 ∷ []))))

abbrev pub map_line : MapBlock → List ℕ
map_line b = spelled 2 0x4d ++ (spelled 2 b.node ++ (spelled 16 b.lo ++ (spelled 16 b.hi ++ (spelled 2 b.destination ++ (spelled 16 b.base ++ (10 ∷ []))))))

-- a destination of 33 is no overlay, and no line
abbrev pub overlay_line : ℕ → ℕ → List ℕ
overlay_line node destination = cond (nat_le destination 32) (spelled 2 0x4f ++ (spelled 2 node ++ (spelled 2 destination ++ (10 ∷ [])))) []

abbrev pub lines : {X : Type 0} → (X → List ℕ) → List X → List ℕ
lines line [] = []
lines line (x ∷ xs) = line x ++ lines line xs

-- the overlays of the nodes from one on
abbrev pub overlay_lines : ℕ → List ℕ → List ℕ
overlay_lines node [] = []
overlay_lines node (d ∷ ds) = overlay_line node d ++ overlay_lines (node + 1) ds

abbrev pub text_of : Kept → List ℕ
text_of k = enter_line k.entry ++ (lines accept_line k.accepts ++ (lines map_line k.maps ++ overlay_lines 0 k.overlays))

-- how many overlays are set
abbrev pub set_or_not : ℕ → ℕ
set_or_not destination = cond (nat_le destination 32) 1 0

abbrev pub overlays_set : List ℕ → ℕ
overlays_set [] = 0
overlays_set (d ∷ ds) = set_or_not d + overlays_set ds

-- the text stands at the front of the buffer, and the rest is as it was; or the buffer is short, and as it was
abbrev pub Wrote : List ℕ → List ℕ → List ℕ → Result ℕ Fault → Type 0
Wrote text before after (Ok n) = (n ≡ length text) × (after ≡ text ++ drop n before)
Wrote text before after (Err e) = (told e ≡ plain 9) × (length before < length text) × (after ≡ before)
