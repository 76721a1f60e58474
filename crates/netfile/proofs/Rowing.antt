-- Rows written one after another.
use Rattle.std.proofs.Common.{◌≡◌, ℕ, ◌+◌, ◌<◌, ◌≤◌, List, [], ◌∷◌, ◌++◌, length, get_or, drop, sym, ap, ◌∙◌, append_assoc, arith}
use Rattle.std.proofs.lemmas.List.{at_drop_more, at_drop_all, append-nil, length-append}
use Rattle.model.specs.declared.records.Record.{Record}
use Rattle.text.specs.Rows.{row_text}
use Rattle.netfile.specs.Rows.{rows_text}

module _ (rows : List Record) (i : ℕ) (whole text : List ℕ) (inv : text ++ rows_text (drop i rows) ≡ whole) where
  pub rows_more : (d : Record) (rowed ended : List ℕ) → i < length rows → rowed ≡ text ++ row_text (get_or rows i d) → ended ≡ rowed ++ (10 ∷ []) → ended ++ rows_text (drop (i + 1) rows) ≡ whole
  rows_more d rowed ended h e f =
      ap (λ l. l ++ rows_text (drop (i + 1) rows)) (f ∙ ap (λ l. l ++ (10 ∷ [])) e)
      ∙ append_assoc (text ++ row_text (get_or rows i d)) (10 ∷ []) (rows_text (drop (i + 1) rows))
      ∙ append_assoc text (row_text (get_or rows i d)) (10 ∷ rows_text (drop (i + 1) rows))
      ∙ ap (λ l. text ++ l) (sym (at_drop_more rows_text rows i d h)) ∙ inv

  pub rows_done : length rows ≤ i → text ≡ whole
  rows_done h = sym (append-nil text) ∙ ap (λ l. text ++ l) (sym (at_drop_all rows_text rows i h)) ∙ inv

-- a text that stands at the front of a buffer ends within it
pub written_within : (text before after : List ℕ) (n : ℕ) → n ≡ length text → after ≡ text ++ drop n before → n ≤ length after
written_within text before after n e f = let l = length-append text (drop n before) in let m = ap length f in omega arith
