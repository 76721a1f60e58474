-- What a line that is read says of the frame.
use Rattle.std.proofs.Common.{◌≡◌, ℕ, zero, suc, ◌+◌, ◌%◌, ◌^◌, ◌<◌, Bool, true, false, cond, ◌&&◌, ◌||◌, eqb, ltb, List, [], ◌∷◌, length, get_or, Some, None, Ok, Err, Option, Result, unwrap_or, refl, ap, ◌∙◌, subst, arith}
use Rattle.std.proofs.lemmas.Bool.{false≢true}
use Rattle.model.specs.declared.faults.Fault.{Fault}
use Rattle.model.specs.declared.faults.Fault.TheVariants.{NotADigit, OddDigits, KindUnknown, LengthWrong}
use Rattle.text.specs.Digits.{digit_value}
use Rattle.text.proofs.Spelling.{value_below}
use Rattle.frames.specs.declared.frame.Frame.{Frame}
use Rattle.frames.specs.declared.frame.Frame.TheVariants.{Accept, Map, Over, Enter, DropAccept, DropMap, Look}
use Rattle.frames.specs.declared.frame.Kinds.{Kinds}
use Rattle.frames.specs.declared.frame.Kinds.TheVariants.{Net, Program}
use Rattle.frames.specs.Frames.{word, known, for_nets, for_programs, size, accept_in, map_in, laid, of_kind, frame_read}
use Rattle.frames.specs.Lines.{all_digits, bytes_of, line_read}
use Rattle.frames.specs.Laws.{Fitting, LineFits, NetsReadLess}

value_small : (c : ℕ) → unwrap_or (digit_value c) 0 < 16
value_small c = go (digit_value c) refl
  where
    go : (o : Option ℕ) → digit_value c ≡ o → unwrap_or o 0 < 16
    go None e = omega arith
    go (Some d) e = value_below c d e

byte_small : (cs : List ℕ) (i : ℕ) → get_or (bytes_of cs) i 0 < 2 ^ 8
unfolding bytes_of
byte_small [] i = omega arith
byte_small (c ∷ []) i = omega arith
byte_small (h ∷ l ∷ cs) zero = let a = value_small h in let b = value_small l in omega arith
byte_small (h ∷ l ∷ cs) (suc i) = byte_small cs i

-- of the answers that ask something first, the granted ones
pub granted : {X : Type 0} (b : Bool) (r : Result X Fault) (e : Fault) (x : X) → cond b r (Err e) ≡ Ok x → (b ≡ true) × (r ≡ Ok x)
granted true r e x q = (refl, q)
granted false r e x q = let z : ◌≡◌ {A = ℕ} 0 1 = cc in absurd (omega arith)

module _ (bs : List ℕ) (small : (i : ℕ) → get_or bs i 0 < 2 ^ 8) where
  word_small : (i : ℕ) → word bs i < 2 ^ 64
  word_small i =
      let a = small i in
      let b = small (i + 1) in
      let c = small (i + 2) in
      let d = small (i + 3) in
      let e = small (i + 4) in
      let f = small (i + 5) in
      let g = small (i + 6) in
      let h = small (i + 7) in
      omega arith

  laid-fits : (a m o e da dm : Bool)
      → Fitting (cond a (Accept (accept_in bs)) (cond m (Map (map_in bs)) (cond o (Over (get_or bs 1 0) (get_or bs 2 0)) (cond e (Enter (get_or bs 1 0)) (cond da (DropAccept (accept_in bs)) (cond dm (DropMap (map_in bs)) (Look (word bs 1))))))))
  laid-fits true m o e da dm = (small 1, word_small 2, word_small 10)
  laid-fits false true o e da dm = (small 1, word_small 2, word_small 10, small 18, word_small 19)
  laid-fits false false true e da dm = (small 1, small 2)
  laid-fits false false false true da dm = small 1
  laid-fits false false false false true dm = (small 1, word_small 2, word_small 10)
  laid-fits false false false false false true = (small 1, word_small 2, word_small 10, small 18, word_small 19)
  laid-fits false false false false false false = word_small 1

  frame_fits : (ks : Kinds) (f : Frame) → frame_read ks bs ≡ Ok f → Fitting f
  frame_fits ks f q =
      let k = get_or bs 0 0 in
      let p = (granted (known ks k) _ KindUnknown f q).1 in
      let r = (granted (eqb (length bs) (size k)) (Ok (laid k bs)) LengthWrong f p).1 in
      let e : laid k bs ≡ f = cc in
      subst Fitting e (laid-fits (eqb k 0x41) (eqb k 0x4d) (eqb k 0x4f) (eqb k 0x45) (eqb k 0x61) (eqb k 0x6d))

line_granted : (ks : Kinds) (cs : List ℕ) (f : Frame) → line_read ks cs ≡ Ok f → (all_digits cs ≡ true) × ((eqb (length cs % 2) 0 && ltb 0 (length cs)) ≡ true) × (frame_read ks (bytes_of cs) ≡ Ok f)
line_granted ks cs f q =
    let p = granted (all_digits cs) _ NotADigit f q in
    let r = granted (eqb (length cs % 2) 0 && ltb 0 (length cs)) (frame_read ks (bytes_of cs)) OddDigits f p.1 in
    (p.0, r.0, r.1)

pub line_fits : LineFits
line_fits ks cs f q = frame_fits (bytes_of cs) (byte_small cs) ks f (line_granted ks cs f q).2

-- a program asks no more than a net
or_left : (a b : Bool) → a ≡ true → (a || b) ≡ true
or_left true b e = refl
or_left false b e = absurd (false≢true e)

net_frame : (k : ℕ) (bs : List ℕ) (f : Frame) → of_kind Net k bs ≡ Ok f → of_kind Program k bs ≡ Ok f
net_frame k bs f q =
    let p = granted (for_nets k) (cond (eqb (length bs) (size k)) (Ok (laid k bs)) (Err LengthWrong)) KindUnknown f q in
    ap (λ t. cond t (cond (eqb (length bs) (size k)) (Ok (laid k bs)) (Err LengthWrong)) (Err KindUnknown)) (or_left (for_nets k) (for_programs k) p.0) ∙ p.1

pub nets_read_less : NetsReadLess
nets_read_less cs f q =
    let g = line_granted Net cs f q in
    ap (λ t. cond t (cond (eqb (length cs % 2) 0 && ltb 0 (length cs)) (frame_read Program (bytes_of cs)) (Err OddDigits)) (Err NotADigit)) g.0
    ∙ ap (λ t. cond t (frame_read Program (bytes_of cs)) (Err OddDigits)) g.1
    ∙ net_frame (get_or (bytes_of cs) 0 0) (bytes_of cs) f g.2
