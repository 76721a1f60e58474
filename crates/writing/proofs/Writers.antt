-- What is left to write of a text, and that each piece written leaves the rest.
use Rattle.std.proofs.Common.{◌≡◌, ℕ, zero, suc, ◌+◌, ◌-◌, ◌/◌, ◌^◌, ◌<◌, List, [], ◌∷◌, ◌++◌, length, drop, sym, refl, ap, ◌∙◌, zero-add, arith}
use Rattle.std.proofs.lemmas.List.{length-append}
use Rattle.text.specs.Digits.{digit_code}
use Rattle.text.specs.Numbers.{spelled}
use Rattle.writing.specs.declared.writer.Writer.{Writer}
use Rattle.writing.specs.Adding.{Adds, Fits}
use Rattle.writing.specs.Pasting.{pasted}
use Rattle.writing.proofs.Pastes.{pasted-nil, length-pasted, piece_more}

pub record Left (rest : List ℕ) (now : Writer) (whole : List ℕ) (start : Writer) : Type 0 where
  pub same : now.out.ghost_name ≡ start.out.ghost_name
  pub at : now.at + length rest ≡ start.at + length whole
  pub size : length now.out.now ≡ length start.out.now
  pub out : pasted rest now.at now.out.now ≡ pasted whole start.at start.out.now

pub begun : (whole : List ℕ) (start : Writer) → Left whole start whole start
begun whole start = record { same = refl; at = refl; size = refl; out = refl }

module _ {rest whole : List ℕ} {now start : Writer} (u w : List ℕ) (e : rest ≡ u ++ w) (f : Fits whole start) (l : Left rest now whole start) where
  pub room : Fits u now
  room =
      let a = l.at in
      let b = l.size in
      let g = f.within in
      let n = ap length e in
      record { within = omega (arith, length-append u w) }

  pub step : (after : Writer) → Adds u now after → Left w after whole start
  step after d =
      let r = room.within in
      let a = l.at in
      let n = ap length e in
      let m = d.at in
      record {
        same = d.same ∙ l.same;
        at = omega (arith, length-append u w);
        size = ap length d.out ∙ length-pasted u now.at now.out.now r ∙ l.size;
        out = piece_more u w rest now.at after.at now.out.now after.out.now _ e d.at r d.out l.out;
      }

pub done : {rest whole : List ℕ} {now start : Writer} → rest ≡ [] → Left rest now whole start → Adds whole start now
done {now = now} e l =
    let n = ap length e in
    let a = l.at in
    record { same = l.same; at = omega arith; out = pasted-nil now.at now.out.now ∙ sym (ap (λ z. pasted z now.at now.out.now) e) ∙ l.out }

pub digit_first : (left v c : ℕ) → 0 < left → c ≡ digit_code (v / 16 ^ (left - 1)) → spelled left v ≡ (c ∷ []) ++ spelled (left - 1) v
unfolding spelled
digit_first zero v c h e = absurd (omega arith)
digit_first (suc n) v c h e =
    let m : suc n - 1 ≡ n = omega arith in
    sym (ap (λ z. c ∷ spelled z v) m ∙ ap (λ z. z ∷ spelled n v) (e ∙ ap (λ z. digit_code (v / 16 ^ z)) m))

pub none_left : (left v : ℕ) → left ≡ 0 → spelled left v ≡ []
unfolding spelled
none_left left v e = ap (λ n. spelled n v) e

-- a text written from the front
pub from_front : (text : List ℕ) (before after : Writer) → before.at ≡ 0 → Adds text before after → (after.at ≡ length text) × (after.out.now ≡ text ++ drop after.at before.out.now)
unfolding pasted
from_front text before after z d =
    let n = d.at in
    let m : after.at ≡ length text = omega arith in
    (m, d.out ∙ ap (λ k. pasted text k before.out.now) z ∙ ap (λ k. text ++ drop k before.out.now) (zero-add (length text) ∙ sym m))
