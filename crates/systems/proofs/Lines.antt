-- The line of a look.
use Rattle.std.proofs.Common.{◌≡◌, ℕ, ◌-◌, ◌<◌, ◌≤◌, false, cond, ◌&&◌, leb, List, [], ◌∷◌, ◌++◌, length, take, codes, sym, ap, ◌∙◌, inl, inr, arith}
use Rattle.std.proofs.lemmas.Bool.{cond-true, cond-false, le-leb, lt-leb, cases_lt, and_from, and_left, and_right}
use Rattle.model.specs.declared.names.Name.{Name}
use Rattle.model.specs.Looks.{filled}
use Rattle.space.proofs.Looked.{listed}
use Rattle.text.specs.Numbers.{spelled}
use Rattle.text.specs.Rows.{found_text}
use Rattle.systems.specs.declared.look.Look.{Look}
use Rattle.systems.specs.Looks.{look_text}

-- how a line begins
pub begun : (l : Look) (wide : ℕ) (empty noded spaced start : List ℕ) → wide ≡ l.node → empty ≡ [] → noded ≡ empty ++ spelled 2 wide → spaced ≡ noded ++ (32 ∷ []) → start ≡ spaced ++ spelled 16 l.address → start ≡ (spelled 2 l.node ++ (32 ∷ [])) ++ spelled 16 l.address
begun l wide empty noded spaced start w e n s t = t ∙ ap (λ x. x ++ spelled 16 l.address) (s ∙ ap (λ x. x ++ (32 ∷ [])) (n ∙ ap (λ x. x ++ spelled 2 wide) e ∙ ap (spelled 2) w))

-- the line of a look whose names fit, and of one that is refused
module _ (list slots : List Name) (l : Look) (start after : List ℕ) (s : start ≡ (spelled 2 l.node ++ (32 ∷ [])) ++ spelled 16 l.address) where
  pub look_found : (count : ℕ) (last : List Name) → l.node < 32 → count ≡ length list → count ≤ length slots → last ≡ cond (leb l.node 31) (filled list slots) slots → after ≡ start ++ found_text (take (count - 0) last) → after ≡ look_text list l (length slots)
  look_found count last n k m f e =
      let a = le-leb l.node 31 (omega arith) in
      let b = le-leb (length list) (length slots) (omega arith) in
      let g = f ∙ cond-true (leb l.node 31) (filled list slots) slots a in
      let t : take (count - 0) last ≡ list = listed list slots last (count - 0) g (omega arith) (omega arith) in
      e ∙ ap (λ x. x ++ found_text (take (count - 0) last)) s ∙ ap (λ x. ((spelled 2 l.node ++ (32 ∷ [])) ++ spelled 16 l.address) ++ found_text x) t
      ∙ ap (λ x. ((spelled 2 l.node ++ (32 ∷ [])) ++ spelled 16 l.address) ++ x)
      (sym (cond-true (leb l.node 31 && leb (length list) (length slots)) (found_text list) (codes " refused") (and_from _ _ a b)))

  pub look_refused : (l.node < 32 → length slots < length list) → after ≡ start ++ codes " refused" → after ≡ look_text list l (length slots)
  look_refused h e =
      let none : leb l.node 31 && leb (length list) (length slots) ≡ false =
      elim (cases_lt l.node 32) [
        | inl n ↦ and_right _ _ (lt-leb (length list) (length slots) (h n))
        | inr n ↦ and_left _ _ (lt-leb l.node 31 (omega arith))
      ] in
      e ∙ ap (λ x. x ++ codes " refused") s
      ∙ ap (λ x. ((spelled 2 l.node ++ (32 ∷ [])) ++ spelled 16 l.address) ++ x) (sym (cond-false _ (found_text list) (codes " refused") none))
