-- What the program answers to a line: the reference model's answer, spelled.
use Rattle.std.specs.Prelude.{ℕ, List, ◌++◌, length, Ok, Err, codes, Result}
use Rattle.model.specs.declared.names.Name.{Name}
use Rattle.model.specs.declared.faults.Fault.{Fault}
use Rattle.model.specs.Model.{Model}
use Rattle.model.specs.Faults.{Refusal, number, told}
use Rattle.model.specs.Edits.{accept, map_to, over, drop_accept, drop_map, enter, on_net, End, granted, refused, foreign}
use Rattle.text.specs.Numbers.{spelled}
use Rattle.text.specs.Rows.{names_text}
use Rattle.frames.specs.declared.frame.Frame.{Frame}
use Rattle.frames.specs.declared.frame.Frame.TheVariants.{Accept, Map, Over, Enter, DropAccept, DropMap, Look}
use Rattle.serve.specs.Reference.{Asked, to_edit, to_look, Reply, edited_so, named, recorded, denied, reference}

-- a minus and the refusal's number
abbrev pub refusal_text : Refusal → List ℕ
refusal_text r = codes "- " ++ spelled 2 (number r)

-- a plus for a granted edit; one that a net does not know never comes
abbrev pub end_text : End → List ℕ
end_text granted = codes "+"
end_text (refused r) = refusal_text r
end_text foreign = codes "+"

-- how many names, and each of them
abbrev pub names_line_lem : List Name → List ℕ
names_line_lem ns = codes "= " ++ (spelled 2 (length ns) ++ names_text ns)

-- no line asks for a flattening
abbrev pub reply_text : Reply → List ℕ
reply_text (edited_so e) = end_text e
reply_text (named ns) = names_line_lem ns
reply_text (recorded count) = codes "= " ++ spelled 16 count
reply_text (denied r) = refusal_text r

-- what a frame asks of the reference model; a look has 64 slots
abbrev pub frame_asked : Frame → Asked
frame_asked (Accept b) = to_edit (on_net (accept b))
frame_asked (Map b) = to_edit (on_net (map_to b))
frame_asked (Over n d) = to_edit (on_net (over n d))
frame_asked (Enter n) = to_edit (on_net (enter n))
frame_asked (DropAccept b) = to_edit (on_net (drop_accept b))
frame_asked (DropMap b) = to_edit (on_net (drop_map b))
frame_asked (Look a) = to_look a 64

-- the answer's line, and the net after it
abbrev pub answered : Model → Result Frame Fault → List ℕ × Model
answered m (Ok f) = (reply_text (reference m (frame_asked f)).0, (reference m (frame_asked f)).1)
answered m (Err f) = (refusal_text (told f), m)
