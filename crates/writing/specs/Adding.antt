-- Text written with a writer, from where it stands on.
use Rattle.std.specs.Prelude.{◌≡◌, ℕ, ◌+◌, ◌≤◌, List, length}
use Rattle.writing.specs.declared.writer.Writer.{Writer}
use Rattle.writing.specs.Pasting.{pasted}

pub record Fits (text : List ℕ) (w : Writer) : Type 0 where
  pub within : w.at + length text ≤ length w.out.now

-- in the same buffer
pub record Adds (text : List ℕ) (before after : Writer) : Type 0 where
  pub same : after.out.ghost_name ≡ before.out.ghost_name
  pub at : after.at ≡ before.at + length text
  pub out : after.out.now ≡ pasted text before.at before.out.now
