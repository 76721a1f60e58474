-- What is appended where there are no names, and where there are some.
use Rattle.std.proofs.Common.{◌≡◌, ℕ, List, [], ◌∷◌, ◌++◌, length, codes, refl, ap, ◌∙◌, append_assoc, arith}
use Rattle.model.specs.declared.names.Name.{Name}
use Rattle.text.specs.Rows.{names_text, found_text}

pub found_none : (names : List Name) (line after : List ℕ) → length names ≡ 0 → after ≡ line ++ codes " none" → after ≡ line ++ found_text names
found_none [] line after h e = e
found_none (n ∷ ns) line after h e = absurd (omega arith)

pub found_some : (names : List Name) (line marked after : List ℕ) → (length names ≡ 0 → ⊥) → marked ≡ line ++ codes " =" → after ≡ marked ++ names_text names → after ≡ line ++ found_text names
found_some [] line marked after h e f = absurd (h refl)
found_some (n ∷ ns) line marked after h e f = f ∙ ap (λ l. l ++ names_text (n ∷ ns)) e ∙ append_assoc line (codes " =") (names_text (n ∷ ns))
