-- The line of an address.
use Rattle.std.proofs.Common.{◌≡◌, ℕ, ◌-◌, ◌<◌, ◌≤◌, leb, List, ◌++◌, length, take, codes, sym, ap, ◌∙◌, arith}
use Rattle.std.proofs.lemmas.Bool.{cond-true, cond-false, le-leb, lt-leb}
use Rattle.model.specs.declared.names.Name.{Name}
use Rattle.model.specs.Looks.{filled}
use Rattle.space.proofs.Looked.{listed}
use Rattle.text.specs.Numbers.{spelled}
use Rattle.text.specs.Rows.{found_text}
use Rattle.tablelook.specs.Answers.{look_text}

-- the line of an address whose list fits, and of one whose list does not
module _ (list slots : List Name) (a : ℕ) (start after : List ℕ) (s : start ≡ spelled 16 a) where
  pub look_found : (count : ℕ) (last : List Name) → count ≡ length list → count ≤ length slots → last ≡ filled list slots → after ≡ start ++ found_text (take (count - 0) last) → after ≡ look_text list (length slots) a
  look_found count last k l f e =
      let m : length list ≤ length slots = omega arith in
      let n : count - 0 ≡ length list = omega arith in
      let t : take (count - 0) last ≡ list = listed list slots last (count - 0) f n (omega arith) in
      e ∙ ap (λ x. x ++ found_text (take (count - 0) last)) s ∙ ap (λ x. spelled 16 a ++ found_text x) t
      ∙ ap (λ x. spelled 16 a ++ x) (sym (cond-true (leb (length list) (length slots)) (found_text list) (codes " - 09") (le-leb (length list) (length slots) m)))

  pub look_short : length slots < length list → after ≡ start ++ codes " - 09" → after ≡ look_text list (length slots) a
  look_short l e = e ∙ ap (λ x. x ++ codes " - 09") s ∙ ap (λ x. spelled 16 a ++ x) (sym (cond-false (leb (length list) (length slots)) (found_text list) (codes " - 09") (lt-leb (length list) (length slots) l)))
