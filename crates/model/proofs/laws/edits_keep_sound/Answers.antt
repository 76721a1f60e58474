use Rattle.model.proofs.Keeping.{fresh_sound, kept, sound_ends}
use Rattle.model.proofs.laws.edits_keep_sound.Goals as goal

pub returns : goal.returns
returns c = record { fresh = fresh_sound; kept = kept; walks = sound_ends }
