-- The first line of a text, and what comes after it.
use Rattle.std.proofs.Common.{◌≡◌, ℕ, zero, suc, ◌+◌, ◌-◌, ◌<◌, ◌≤◌, min, Bool, true, false, cond, not, ◌&&◌, eqb, ◌⊎◌, List, [], ◌∷◌, ◌++◌, length, get_or, take, drop, Bor, sym, refl, ap, ◌∙◌, inl, inr, arith}
use Rattle.std.specs.Fn.{Mut, Called, ComputesKey}
use Rattle.std.specs.List.{IsFirstMatchOrLen}
use Rattle.std.proofs.lemmas.Bool.{cases_lt, cond-true, cond-false, eq-eqb, eqb-true, false≢true}
use Rattle.std.proofs.lemmas.List.{append_assoc, drop_more, drop_all, take_all, take-append-drop, length-append, length-take}
use Rattle.std.proofs.lemmas.List.Sorted.{answers_always}
use Rattle.std.proofs.Math.Seq.{take-append_seam, drop-append_seam}
use Rattle.loading.specs.Texts.{in_front, lines_of, unended_lem}
use Rattle.loading.specs.Laws.{unbroken, NoLine, EndedLine, LastLine}

pub no_line : NoLine
unfolding lines_of
no_line = refl

pub none_left : (cs : List ℕ) → length cs ≡ 0 → lines_of cs ≡ []
unfolding lines_of
none_left [] h = refl
none_left (c ∷ cs) h = absurd (omega arith)

pub ended_line : EndedLine
unfolding lines_of
ended_line [] cs u = refl
ended_line (c ∷ l) cs u = go (eqb c 10) u (ended_line l cs)
  where
    go : (b : Bool) → (not b && unbroken l) ≡ true → (unbroken l ≡ true → lines_of (l ++ 10 ∷ cs) ≡ l ∷ lines_of cs)
        → cond b ([] ∷ lines_of (l ++ 10 ∷ cs)) (in_front c (lines_of (l ++ 10 ∷ cs))) ≡ (c ∷ l) ∷ lines_of cs
    go true h rest = absurd (false≢true h)
    go false h rest = ap (in_front c) (rest h)

pub last_line : LastLine
unfolding lines_of
last_line [] h u = absurd (omega arith)
last_line (c ∷ []) h u = go (eqb c 10) u
  where
    go : (b : Bool) → (not b && true) ≡ true → cond b ([] ∷ []) ((c ∷ []) ∷ []) ≡ (c ∷ []) ∷ []
    go true v = absurd (false≢true v)
    go false v = refl
last_line (c ∷ d ∷ ds) h u = go (eqb c 10) u (last_line (d ∷ ds) (omega arith))
  where
    go : (b : Bool) → (not b && unbroken (d ∷ ds)) ≡ true → (unbroken (d ∷ ds) ≡ true → lines_of (d ∷ ds) ≡ (d ∷ ds) ∷ [])
        → cond b ([] ∷ lines_of (d ∷ ds)) (in_front c (lines_of (d ∷ ds))) ≡ (c ∷ d ∷ ds) ∷ []
    go true v rest = absurd (false≢true v)
    go false v rest = ap (in_front c) (rest v)

-- no line feed stands before the first
unbroken_to : (cs : List ℕ) (i : ℕ) → ((k d : ℕ) → 0 ≤ k → k < i → eqb (get_or cs k d) 10 ≡ false) → unbroken (take i cs) ≡ true
unbroken_to cs zero h = refl
unbroken_to [] (suc i) h = refl
unbroken_to (c ∷ cs) (suc i) h = ap (λ b. not b && unbroken (take i cs)) (h 0 0 (omega arith) (omega arith)) ∙ unbroken_to cs i (λ k d p q. h (suc k) d (omega arith) (omega arith))

-- a line with its line feed, without it
last_is : (l : List ℕ) → get_or (l ++ 10 ∷ []) (length l) 0 ≡ 10
last_is [] = refl
last_is (c ∷ l) = last_is l

fed : (l : List ℕ) → unended_lem (l ++ 10 ∷ []) ≡ l
fed l =
    let m = length-append l (10 ∷ []) in
    let n : length (l ++ 10 ∷ []) - 1 ≡ length l = omega arith in
    cond-true _ _ _ (ap (λ k. eqb (get_or (l ++ 10 ∷ []) k 0) 10) n ∙ eq-eqb _ 10 (last_is l)) ∙ ap (λ k. take k (l ++ 10 ∷ [])) n ∙ take-append_seam l (10 ∷ [])

-- a line that lacks it
bare : (l : List ℕ) → (eqb (get_or l (length l - 1) 0) 10 ≡ false) → unended_lem l ≡ l
bare l e = cond-false _ _ _ e

-- a piece of a text, up to its first line feed or to its end, is its first line
module _ (cs piece rest : List ℕ) (whole : cs ≡ piece ++ rest) (i : ℕ) (long : length piece ≡ min (i + 1) (length cs)) (some : 0 < length cs) (first : IsFirstMatchOrLen (λ c. eqb c 10) cs i) where
  before : piece ≡ take (length piece) cs
  before = sym (ap (take (length piece)) whole ∙ take-append_seam piece rest)

  after : rest ≡ drop (length piece) cs
  after = sym (ap (drop (length piece)) whole ∙ drop-append_seam piece rest)

  cut : (i < length cs) ⊎ (length cs ≤ i) → lines_of cs ≡ unended_lem piece ∷ lines_of rest
  cut (inl h) =
      let l = take i cs in
      let d = drop (i + 1) cs in
      let w : cs ≡ l ++ 10 ∷ d = sym (take-append-drop i cs) ∙ ap (λ z. l ++ z) (drop_more cs i 0 h ∙ ap (λ z. z ∷ d) (eqb-true (get_or cs i 0) 10 (first.1 h 0))) in
      let t = length-take i cs in
      let a = length-append l (10 ∷ []) in
      let n : length piece ≡ length (l ++ 10 ∷ []) = omega arith in
      let m : length piece ≡ i + 1 = omega arith in
      let x : piece ≡ l ++ 10 ∷ [] = before ∙ ap (λ k. take k cs) n ∙ ap (take (length (l ++ 10 ∷ []))) (w ∙ sym (append_assoc l (10 ∷ []) d)) ∙ take-append_seam (l ++ 10 ∷ []) d in
      ap lines_of w ∙ ended_line l d (unbroken_to cs i first.0)
      ∙ ap (λ z. z ∷ lines_of d) (sym (ap unended_lem x ∙ fed l))
      ∙ ap (λ z. unended_lem piece ∷ lines_of z) (sym (after ∙ ap (λ k. drop k cs) m))
  cut (inr h) =
      let n : length piece ≡ length cs = omega arith in
      let x : piece ≡ cs = before ∙ take_all (length piece) cs (omega arith) in
      let u : unbroken cs ≡ true = ap unbroken (sym (take_all (length cs) cs (omega arith))) ∙ unbroken_to cs (length cs) (λ k d p q. first.0 k d p (omega arith)) in
      last_line cs some u
      ∙ ap (λ z. z ∷ []) (sym (ap unended_lem x ∙ bare cs (first.0 (length cs - 1) 0 (omega arith) (omega arith))))
      ∙ ap (λ z. unended_lem piece ∷ z) (sym (none_left rest (let e = ap length (after ∙ drop_all (length piece) cs (omega arith)) in e)))

pub first_piece : {F : Type 0} (g : Mut F (Bor ℕ × Unit {0}) Bool) (f f' : F) (cs piece rest : List ℕ)
    → (cs ≡ piece ++ rest) × ((i : ℕ) × (length piece ≡ min (i + 1) (length cs)) × ((p : ℕ → Bool) → ComputesKey g p f → ComputesKey g p f' × IsFirstMatchOrLen p cs i)) × (0 < length cs)
    → ((s : F) (a : Bor ℕ × Unit {0}) (r : Bool) (t : F) → Called g s a r t → r ≡ eqb a.0.now 10) → lines_of cs ≡ unended_lem piece ∷ lines_of rest
first_piece g f f' cs piece rest (whole, (i, long, first), some) answers =
    cut cs piece rest whole i long some (first (λ c. eqb c 10) (answers_always g (λ a r. r ≡ eqb a.0.now 10) f answers)).1 (cases_lt i (length cs))
