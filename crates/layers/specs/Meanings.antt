-- What the layers and their edits mean, over what the space below means.
use Rattle.std.specs.Prelude.{ℕ, ◌-◌, cond, map, nat_lt}
use Rattle.lists.specs.Held.{held}
use Rattle.model.specs.Names.{top}
use Rattle.model.specs.Model.{Meaning, renaming, window}
use Rattle.model.specs.Edits.{Edit, pair, plug}
use Rattle.layers.specs.declared.renaming.Renaming.{Renaming}
use Rattle.layers.specs.declared.renaming.RenamingEdit.{RenamingEdit}
use Rattle.layers.specs.declared.renaming.RenamingEdit.TheVariants as r
use Rattle.layers.specs.declared.window.Window.{Window}
use Rattle.layers.specs.declared.window.WindowEdit.{WindowEdit}
use Rattle.layers.specs.declared.window.WindowEdit.TheVariants as w
use Rattle.layers.specs.Pairs.{two}

abbrev pub window_means : {B : Type 0} → (B → Meaning) → Window B → Meaning
window_means means s = record {
  shape = window s.lo s.hi s.base (means s.below).shape;
  sound = (s.checked.1, (means s.below).sound);
}

abbrev pub window_edit : {B : Type 0} → (B → Meaning) → WindowEdit B → Edit
window_edit means (w.Plug b) = plug (means b).shape

-- the last address up to which a window shows nothing, from an address outside it
abbrev pub clear_to : ℕ → ℕ → ℕ
clear_to lo a = cond (nat_lt a lo) (lo - 1) (top - 1)

abbrev pub renaming_means : {B : Type 0} → (B → Meaning) → Renaming B → Meaning
renaming_means means s = record {
  shape = renaming (map two (held s.pairs)) (means s.below).shape;
  sound = (means s.below).sound;
}

abbrev pub renaming_edit : {B : Type 0} → (B → Meaning) → RenamingEdit B → Edit
renaming_edit means (r.Pair from to) = pair from to
renaming_edit means (r.Plug b) = plug (means b).shape
