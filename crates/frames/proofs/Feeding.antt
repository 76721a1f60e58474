-- The machine, fed a line, against what the line says.
use Rattle.std.proofs.Common.{◌≡◌, ℕ, suc, ◌+◌, ◌*◌, ◌%◌, ◌<◌, ◌≤◌, Bool, true, false, cond, ◌&&◌, eqb, ltb, ◌⊎◌, List, [], ◌∷◌, ◌++◌, length, take, is_some, Some, None, Ok, Err, fold, Option, Result, unwrap_or, sym, refl, ap, ◌∙◌, inl, inr, zero-add, arith, length-append, length-take}
use Rattle.std.proofs.lemmas.Bool.{cases_lt, lt-ltb, le-ltb, ne_eqb, cond-true, cond-false}
use Rattle.std.proofs.lemmas.List.{append_assoc, append-nil, take_all, take-append-le}
use Rattle.model.specs.declared.faults.Fault.{Fault}
use Rattle.model.specs.declared.faults.Fault.TheVariants.{NotADigit, OddDigits, KindUnknown, LengthWrong}
use Rattle.text.specs.Digits.{digit_value}
use Rattle.frames.specs.declared.frame.Frame.{Frame}
use Rattle.frames.specs.declared.frame.Kinds.{Kinds}
use Rattle.frames.specs.declared.state.State.TheVariants.{Whole, NoDigit}
use Rattle.frames.specs.Frames.{known, size, laid, of_kind, frame_read}
use Rattle.frames.specs.Lines.{all_digits, bytes_of, line_read}
use Rattle.frames.specs.Machine.{Seen, fresh, in_state, with_byte, moved, after, cut, kept_read, finished}
use Rattle.frames.specs.Laws.{ReadByCharacters}

-- a frame has at most 27 bytes
size_small : (k : ℕ) → size k ≤ 27
size_small k = grind arith

-- so of a longer line only the kind matters
cut_long : (ks : Kinds) (k : ℕ) (xs bs : List ℕ) → 27 < length bs → cut true (of_kind ks k xs) ≡ of_kind ks k bs
cut_long ks k xs bs h = kind (known ks k)
  where
    wrong : cond (eqb (length bs) (size k)) (Ok (laid k bs)) (Err LengthWrong) ≡ Err LengthWrong
    wrong = cond-false (eqb (length bs) (size k)) _ _ (ne_eqb (length bs) (size k) (λ e. let s = size_small k in omega arith))

    long : (t : Bool) → cut true (cond t (Ok (laid k xs)) (Err LengthWrong)) ≡ Err LengthWrong
    long true = refl
    long false = refl

    kind : (t : Bool) → cut true (cond t (cond (eqb (length xs) (size k)) (Ok (laid k xs)) (Err LengthWrong)) (Err KindUnknown)) ≡ cond t (cond (eqb (length bs) (size k)) (Ok (laid k bs)) (Err LengthWrong)) (Err KindUnknown)
    kind true = long (eqb (length xs) (size k)) ∙ sym wrong
    kind false = refl

-- what the machine holds of these bytes, when the line stands between two
abbrev pub holding : List ℕ → Seen
holding bs = record { kept = take 27 bs; more = ltb 27 (length bs); state = Whole }

holding_read : (ks : Kinds) (bs : List ℕ) → kept_read ks (holding bs) ≡ cond (ltb 0 (length bs)) (frame_read ks bs) (Err OddDigits)
holding_read ks [] = refl
holding_read ks (b ∷ bs) = cond-false (eqb (length (take 27 (b ∷ bs))) 0) _ _ (ne_eqb (length (take 27 (b ∷ bs))) 0 (λ e. let n = length-take 27 (b ∷ bs) in omega arith))
    ∙ go (cases_lt 27 (length (b ∷ bs)))
    ∙ sym (cond-true (ltb 0 (length (b ∷ bs))) _ _ (lt-ltb 0 (length (b ∷ bs)) (omega arith)))
  where
    go : (27 < length (b ∷ bs)) ⊎ (length (b ∷ bs) ≤ 27) → cut (ltb 27 (length (b ∷ bs))) (frame_read ks (take 27 (b ∷ bs))) ≡ frame_read ks (b ∷ bs)
    go (inl h) = ap (λ t. cut t (frame_read ks (take 27 (b ∷ bs)))) (lt-ltb 27 (length (b ∷ bs)) h) ∙ cut_long ks b (take 27 (b ∷ bs)) (b ∷ bs) h
    go (inr h) = ap (λ t. cut t (frame_read ks (take 27 (b ∷ bs)))) (le-ltb 27 (length (b ∷ bs)) h) ∙ ap (frame_read ks) (take_all 27 (b ∷ bs) h)

-- one byte more
holding_more : (bs : List ℕ) (b : ℕ) → with_byte (holding bs) b ≡ holding (bs ++ b ∷ [])
holding_more bs b = go (cases_lt (length bs) 27)
  where
    same : (t : Bool) → ltb (length (take 27 bs)) 27 ≡ t → cond t (take 27 bs ++ b ∷ []) (take 27 bs) ≡ take 27 (bs ++ b ∷ []) → cond t (ltb 27 (length bs)) true ≡ ltb 27 (length (bs ++ b ∷ []))
        → with_byte (holding bs) b ≡ holding (bs ++ b ∷ [])
    same t e p q =
        ap (λ z. record { kept = cond z (take 27 bs ++ b ∷ []) (take 27 bs); more = cond z (ltb 27 (length bs)) true; state = Whole }) e
        ∙ ap (λ z. record { kept = z; more = cond t (ltb 27 (length bs)) true; state = Whole }) p
        ∙ ap (λ z. record { kept = take 27 (bs ++ b ∷ []); more = z; state = Whole }) q

    go : (length bs < 27) ⊎ (27 ≤ length bs) → with_byte (holding bs) b ≡ holding (bs ++ b ∷ [])
    go (inl h) =
        let m = length-take 27 bs in
        let n = length-append bs (b ∷ []) in
        same true (lt-ltb (length (take 27 bs)) 27 (omega arith))
        (ap (λ z. z ++ b ∷ []) (take_all 27 bs (omega arith)) ∙ sym (take_all 27 (bs ++ b ∷ []) (omega arith)))
        (le-ltb 27 (length bs) (omega arith) ∙ sym (le-ltb 27 (length (bs ++ b ∷ [])) (omega arith)))
    go (inr h) =
        let m = length-take 27 bs in
        let n = length-append bs (b ∷ []) in
        same false (le-ltb (length (take 27 bs)) 27 (omega arith))
        (sym (take-append-le 27 bs (b ∷ []) h))
        (sym (lt-ltb 27 (length (bs ++ b ∷ [])) (omega arith)))

-- what the rest of the line says behind the bytes so far
abbrev pub rest_read : Kinds → List ℕ → List ℕ → Result Frame Fault
rest_read ks bs cs = cond (all_digits cs) (cond (eqb (length cs % 2) 0 && ltb 0 (length bs + length cs)) (frame_read ks (bs ++ bytes_of cs)) (Err OddDigits)) (Err NotADigit)

spoilt : (ks : Kinds) (cs : List ℕ) (s : Seen) → finished ks (fold after (in_state s NoDigit) cs) ≡ Err NotADigit
spoilt ks [] s = refl
spoilt ks (c ∷ cs) s = spoilt ks cs s

same_rest : (ks : Kinds) (bs cs : List ℕ) (b : ℕ)
    → rest_read ks (bs ++ b ∷ []) cs ≡ cond (all_digits cs) (cond (eqb (suc (suc (length cs)) % 2) 0 && ltb 0 (length bs + suc (suc (length cs)))) (frame_read ks (bs ++ (b ∷ bytes_of cs))) (Err OddDigits)) (Err NotADigit)
same_rest ks bs cs b =
    let n = length-append bs (b ∷ []) in
    let p : length cs % 2 ≡ suc (suc (length cs)) % 2 = omega arith in
    let q = lt-ltb 0 (length (bs ++ b ∷ []) + length cs) (omega arith) ∙ sym (lt-ltb 0 (length bs + suc (suc (length cs))) (omega arith)) in
    ap (λ z. cond (all_digits cs) (cond (eqb z 0 && ltb 0 (length (bs ++ b ∷ []) + length cs)) (frame_read ks ((bs ++ b ∷ []) ++ bytes_of cs)) (Err OddDigits)) (Err NotADigit)) p
    ∙ ap (λ z. cond (all_digits cs) (cond (eqb (suc (suc (length cs)) % 2) 0 && z) (frame_read ks ((bs ++ b ∷ []) ++ bytes_of cs)) (Err OddDigits)) (Err NotADigit)) q
    ∙ ap (λ z. cond (all_digits cs) (cond (eqb (suc (suc (length cs)) % 2) 0 && ltb 0 (length bs + suc (suc (length cs)))) (frame_read ks z) (Err OddDigits)) (Err NotADigit)) (append_assoc bs (b ∷ []) (bytes_of cs))

-- by what two characters more are
pair : (ks : Kinds) (bs cs : List ℕ) (o p : Option ℕ) → ((ds : List ℕ) → finished ks (fold after (holding ds) cs) ≡ rest_read ks ds cs)
    → finished ks (fold after (moved (moved (holding bs) Whole o) (moved (holding bs) Whole o).state p) cs)
    ≡ cond (is_some o && (is_some p && all_digits cs)) (cond (eqb (suc (suc (length cs)) % 2) 0 && ltb 0 (length bs + suc (suc (length cs)))) (frame_read ks (bs ++ ((16 * unwrap_or o 0 + unwrap_or p 0) ∷ bytes_of cs))) (Err OddDigits)) (Err NotADigit)
pair ks bs cs None p later = spoilt ks cs (holding bs)
pair ks bs cs (Some a) None later = spoilt ks cs (holding bs)
pair ks bs cs (Some a) (Some d) later =
    ap (λ s. finished ks (fold after s cs)) (holding_more bs (16 * a + d)) ∙ later (bs ++ (16 * a + d) ∷ []) ∙ same_rest ks bs cs (16 * a + d)

single : (ks : Kinds) (bs : List ℕ) (o : Option ℕ) (r : Result Frame Fault) → finished ks (moved (holding bs) Whole o) ≡ cond (is_some o && true) (cond false r (Err OddDigits)) (Err NotADigit)
single ks bs None r = refl
single ks bs (Some d) r = refl

none_left : (ks : Kinds) (bs : List ℕ) → kept_read ks (holding bs) ≡ cond (ltb 0 (length bs + 0)) (frame_read ks (bs ++ [])) (Err OddDigits)
none_left ks bs =
    let n : length bs ≡ length bs + 0 = omega arith in
    holding_read ks bs ∙ ap (λ z. cond (ltb 0 z) (frame_read ks bs) (Err OddDigits)) n ∙ ap (λ z. cond (ltb 0 (length bs + 0)) (frame_read ks z) (Err OddDigits)) (sym (append-nil bs))

pub fed : (ks : Kinds) (cs bs : List ℕ) → finished ks (fold after (holding bs) cs) ≡ rest_read ks bs cs
unfolding all_digits bytes_of
fed ks [] bs = none_left ks bs
fed ks (c ∷ []) bs = single ks bs (digit_value c) (frame_read ks (bs ++ []))
fed ks (h ∷ l ∷ cs) bs = pair ks bs cs (digit_value h) (digit_value l) (λ ds. fed ks cs ds)

pub read_by_characters : ReadByCharacters
read_by_characters ks cs = fed ks cs [] ∙ ap (λ z. cond (all_digits cs) (cond (eqb (length cs % 2) 0 && ltb 0 z) (frame_read ks (bytes_of cs)) (Err OddDigits)) (Err NotADigit)) (zero-add (length cs))

-- a reader that is made, fed and finished
pub line_told : (ks : Kinds) (cs : List ℕ) (s t : Seen) (r : Result Frame Fault) → s ≡ fresh → t ≡ fold after s cs → r ≡ finished ks t → r ≡ line_read ks cs
line_told ks cs s t r p q e = e ∙ ap (finished ks) (q ∙ ap (λ z. fold after z cs) p) ∙ read_by_characters ks cs
