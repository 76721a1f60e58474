-- What the lines of a text build, each an edit of what the lines before it left.
use Rattle.std.specs.Prelude.{◌≡◌, ℕ, ◌+◌, Bool, true, false, cond, ◌||◌, List, [], ◌∷◌, Ok, Err, Result, ◌==◌}
use Rattle.model.specs.declared.faults.Fault.{Fault}
use Rattle.model.specs.Faults.{Refusal, number, told}
use Rattle.model.specs.Nets.{Kept}
use Rattle.model.specs.Edits.{NetEdit, accept, map_to, over, drop_accept, drop_map, enter, End, granted, refused, foreign, settled, net_refusal, net_after}
use Rattle.blocks.specs.Shape.{kept}
use Rattle.table.specs.declared.table.Table.{Table}
use Rattle.frames.specs.declared.frame.Frame.{Frame}
use Rattle.frames.specs.declared.frame.Frame.TheVariants.{Accept, Map, Over, Enter, DropAccept, DropMap, Look}
use Rattle.frames.specs.declared.frame.Kinds.TheVariants.{Net}
use Rattle.frames.specs.Lines.{line_read}
use Rattle.loading.specs.declared.fault.Part.{Part}
use Rattle.loading.specs.declared.fault.Part.TheVariants.{Text as of_text, Frame as of_frame, Net as of_net}
use Rattle.loading.specs.declared.fault.LoadFault.{LoadFault}

-- the kinds that a net reads
abbrev pub builds : Frame → Bool
builds (Accept b) = true
builds (Map b) = true
builds (Over n d) = true
builds (Enter n) = true
builds (DropAccept b) = false
builds (DropMap b) = false
builds (Look a) = false

-- the edit that a frame tells; a look is none, and no net reads it
abbrev pub edit_of : Frame → NetEdit
edit_of (Accept b) = accept b
edit_of (Map b) = map_to b
edit_of (Over n d) = over n d
edit_of (Enter n) = enter n
edit_of (DropAccept b) = drop_accept b
edit_of (DropMap b) = drop_map b
edit_of (Look a) = enter 0

-- where a load stops: the line, from 1, who refused it, and why
pub record Stop : Type 0 where
  pub line : ℕ
  pub part : Part
  pub why : Refusal

abbrev pub stop_of : LoadFault → Stop
stop_of f = record { line = f.line; part = f.part; why = told f.fault }

-- of the refusals to read a line, 12 and 13 are about its text, the others about its frame
abbrev pub reading_part_lem : Refusal → Part
reading_part_lem r = cond (number r == 12 || number r == 13) of_text of_frame

-- what an edit at a line leaves, by how it ends; an edit of a net is never foreign
abbrev pub left_by : ℕ → End × Kept → Result Kept Stop
left_by i x = elim x.0 [
  | granted ↦ Ok x.1
  | refused r ↦ Err (record { line = i; part = of_net; why = r })
  | foreign ↦ Ok x.1
]

abbrev pub edited_by : ℕ → Kept → NetEdit → Result Kept Stop
edited_by i k e = left_by i (settled (net_refusal k e) (net_after k e) k)

abbrev pub told_by : ℕ → Kept → Result Frame Fault → Result Kept Stop
told_by i k (Ok f) = edited_by i k (edit_of f)
told_by i k (Err f) = Err (record { line = i; part = reading_part_lem (told f); why = told f })

-- what the line i leaves
abbrev pub line_loaded : ℕ → Kept → List ℕ → Result Kept Stop
line_loaded i k cs = told_by i k (line_read Net cs)

abbrev pub and_then : Result Kept Stop → (Kept → Result Kept Stop) → Result Kept Stop
and_then (Ok k) next = next k
and_then (Err s) next = Err s

-- what the lines leave, of which the first is the line i
abbrev pub loaded : ℕ → Kept → List (List ℕ) → Result Kept Stop
loaded i k [] = Ok k
loaded i k (l ∷ ls) = and_then (line_loaded i k l) (λ m. loaded (i + 1) m ls)

-- a line answers as the lines do, and leaves what it leaves
abbrev pub LineAnswer : Result Kept Stop → Kept → Result (Unit {0}) LoadFault → Type 0
LineAnswer q k (Ok u) = q ≡ Ok k
LineAnswer q k (Err f) = q ≡ Err (stop_of f)

-- a table of what the lines leave, or where they stop
abbrev pub LoadAnswer : Result Kept Stop → Result Table LoadFault → Type 0
LoadAnswer q (Ok t) = q ≡ Ok (kept t.blocks)
LoadAnswer q (Err f) = q ≡ Err (stop_of f)
