-- Each written line, without its line feed, and the frame that a net reads from it.
use Rattle.std.proofs.Common.{◌≡◌, ℕ, ◌%◌, ◌<◌, true, ◌&&◌, eqb, ltb, List, [], ◌∷◌, ◌++◌, length, Ok, Err, refl, ap, ◌∙◌, arith}
use Rattle.std.proofs.lemmas.List.{append_assoc, length-append}
use Rattle.std.proofs.lemmas.Bool.{cond-true}
use Rattle.model.specs.declared.blocks.AcceptBlock.{AcceptBlock}
use Rattle.model.specs.declared.blocks.MapBlock.{MapBlock}
use Rattle.model.specs.declared.faults.Fault.TheVariants.{NotADigit, OddDigits}
use Rattle.text.specs.Numbers.{spelled}
use Rattle.text.proofs.Backs.{length-spelled}
use Rattle.frames.specs.declared.frame.Frame.TheVariants.{Accept, Map, Over, Enter}
use Rattle.frames.specs.declared.frame.Kinds.TheVariants.{Net}
use Rattle.frames.specs.Frames.{frame_read}
use Rattle.frames.specs.Lines.{all_digits, bytes_of, line_read}
use Rattle.loading.specs.Laws.{unbroken}
use Rattle.writing.specs.Texts.{enter_line, accept_line, map_line}
use Rattle.roundtrip.specs.Storing.{GoodAccept, GoodMap}
use Rattle.roundtrip.proofs.Spelled.{digits_spelled, unbroken-spelled, byte_spelled, word_bytes, word-spelled, word_sum, word_value}

-- a line of digits, even in number, reads as its bytes do
read_back : (cs bs : List ℕ) (n : ℕ) → all_digits cs ≡ true → length cs ≡ n → (eqb (n % 2) 0 && ltb 0 n) ≡ true → bytes_of cs ≡ bs → line_read Net cs ≡ frame_read Net bs
read_back cs bs n d l t e =
    cond-true (all_digits cs) _ (Err NotADigit) d
    ∙ cond-true (eqb (length cs % 2) 0 && ltb 0 (length cs)) _ (Err OddDigits) (ap (λ m. eqb (m % 2) 0 && ltb 0 m) l ∙ t)
    ∙ ap (frame_read Net) e

no_digits : all_digits [] ≡ true
unfolding all_digits
no_digits = refl

no_bytes : bytes_of [] ≡ []
unfolding bytes_of
no_bytes = refl

-- enter
abbrev pub enter_body : ℕ → List ℕ
enter_body n = spelled 2 0x45 ++ (spelled 2 n ++ [])

pub enter_ends : (n : ℕ) (rest : List ℕ) → enter_line n ++ rest ≡ enter_body n ++ 10 ∷ rest
enter_ends n rest = simp append_assoc

pub enter_unbroken : (n : ℕ) → unbroken (enter_body n) ≡ true
enter_unbroken n = unbroken-spelled 2 0x45 (spelled 2 n ++ []) ∙ unbroken-spelled 2 n []

pub enter_reads : (n : ℕ) → n < 256 → line_read Net (enter_body n) ≡ Ok (Enter n)
enter_reads n h =
    read_back (enter_body n) (0x45 ∷ n ∷ []) 4 (digits_spelled 2 0x45 (spelled 2 n ++ []) ∙ digits_spelled 2 n [] ∙ no_digits)
    (omega (arith, length-append (spelled 2 0x45) (spelled 2 n ++ []), length-append (spelled 2 n) [], length-spelled 2 0x45, length-spelled 2 n)) refl
    (byte_spelled 0x45 (spelled 2 n ++ []) (omega arith) ∙ ap (λ l. 0x45 ∷ l) (byte_spelled n [] h ∙ ap (λ l. n ∷ l) no_bytes))

-- over
abbrev pub over_body : ℕ → ℕ → List ℕ
over_body n d = spelled 2 0x4f ++ (spelled 2 n ++ (spelled 2 d ++ []))

pub over_ends : (n d : ℕ) (rest : List ℕ) → (spelled 2 0x4f ++ (spelled 2 n ++ (spelled 2 d ++ (10 ∷ [])))) ++ rest ≡ over_body n d ++ 10 ∷ rest
over_ends n d rest = simp append_assoc

pub over-unbroken : (n d : ℕ) → unbroken (over_body n d) ≡ true
over-unbroken n d = unbroken-spelled 2 0x4f (spelled 2 n ++ (spelled 2 d ++ [])) ∙ unbroken-spelled 2 n (spelled 2 d ++ []) ∙ unbroken-spelled 2 d []

pub over_reads : (n d : ℕ) → n < 256 → d < 256 → line_read Net (over_body n d) ≡ Ok (Over n d)
over_reads n d h i =
    let t1 = spelled 2 d ++ [] in
    let t2 = spelled 2 n ++ t1 in
    read_back (over_body n d) (0x4f ∷ n ∷ d ∷ []) 6 (digits_spelled 2 0x4f t2 ∙ digits_spelled 2 n t1 ∙ digits_spelled 2 d [] ∙ no_digits)
    (omega (arith, length-append (spelled 2 0x4f) t2, length-append (spelled 2 n) t1, length-append (spelled 2 d) [], length-spelled 2 0x4f, length-spelled 2 n, length-spelled 2 d)) refl
    (byte_spelled 0x4f t2 (omega arith) ∙ ap (λ l. 0x4f ∷ l) (byte_spelled n t1 h ∙ ap (λ l. n ∷ l) (byte_spelled d [] i ∙ ap (λ l. d ∷ l) no_bytes)))

-- accept
abbrev pub accept_body : AcceptBlock → List ℕ
accept_body b = spelled 2 0x41 ++ (spelled 2 b.node ++ (spelled 16 b.lo ++ (spelled 16 b.hi ++ [])))

pub accept_ends : (b : AcceptBlock) (rest : List ℕ) → accept_line b ++ rest ≡ accept_body b ++ 10 ∷ rest
accept_ends b rest = simp append_assoc

module _ (b : AcceptBlock) where
  abbrev a1 : List ℕ
  a1 = spelled 16 b.hi ++ []

  abbrev a2 : List ℕ
  a2 = spelled 16 b.lo ++ a1

  abbrev a3 : List ℕ
  a3 = spelled 2 b.node ++ a2

  pub accept_unbroken : unbroken (accept_body b) ≡ true
  accept_unbroken = unbroken-spelled 2 0x41 a3 ∙ unbroken-spelled 2 b.node a2 ∙ unbroken-spelled 16 b.lo a1 ∙ unbroken-spelled 16 b.hi []

  accept_bytes : b.node < 256 → bytes_of (accept_body b) ≡ 0x41 ∷ b.node ∷ (word_bytes b.lo ++ (word_bytes b.hi ++ []))
  accept_bytes h =
      byte_spelled 0x41 a3 (omega arith)
      ∙ ap (λ l. 0x41 ∷ l) (byte_spelled b.node a2 h
      ∙ ap (λ l. b.node ∷ l) (word-spelled b.lo a1 ∙ ap (λ l. word_bytes b.lo ++ l) (word-spelled b.hi [] ∙ ap (λ l. word_bytes b.hi ++ l) no_bytes)))

  pub accept_reads : GoodAccept b → line_read Net (accept_body b) ≡ Ok (Accept b)
  accept_reads g =
      let n = g.node_known in
      let r = g.rises in
      let t = g.low in
      read_back (accept_body b) (0x41 ∷ b.node ∷ (word_bytes b.lo ++ (word_bytes b.hi ++ []))) 36
      (digits_spelled 2 0x41 a3 ∙ digits_spelled 2 b.node a2 ∙ digits_spelled 16 b.lo a1 ∙ digits_spelled 16 b.hi [] ∙ no_digits)
      (omega (arith, length-append (spelled 2 0x41) a3, length-append (spelled 2 b.node) a2, length-append (spelled 16 b.lo) a1, length-append (spelled 16 b.hi) [], length-spelled 2 0x41, length-spelled 2 b.node, length-spelled 16 b.lo, length-spelled 16 b.hi)) refl
      (accept_bytes (omega arith))
      ∙ ap (λ v. Ok (Accept (record { node = b.node; lo = v; hi = word_sum b.hi }))) (word_value b.lo (omega arith))
      ∙ ap (λ v. Ok (Accept (record { node = b.node; lo = b.lo; hi = v }))) (word_value b.hi t)

-- map
abbrev pub map_body : MapBlock → List ℕ
map_body b = spelled 2 0x4d ++ (spelled 2 b.node ++ (spelled 16 b.lo ++ (spelled 16 b.hi ++ (spelled 2 b.destination ++ (spelled 16 b.base ++ [])))))

pub map_ends : (b : MapBlock) (rest : List ℕ) → map_line b ++ rest ≡ map_body b ++ 10 ∷ rest
map_ends b rest = simp append_assoc

module _ (b : MapBlock) where
  abbrev m1 : List ℕ
  m1 = spelled 16 b.base ++ []

  abbrev m2 : List ℕ
  m2 = spelled 2 b.destination ++ m1

  abbrev m3 : List ℕ
  m3 = spelled 16 b.hi ++ m2

  abbrev m4 : List ℕ
  m4 = spelled 16 b.lo ++ m3

  abbrev m5 : List ℕ
  m5 = spelled 2 b.node ++ m4

  pub map-unbroken : unbroken (map_body b) ≡ true
  map-unbroken =
      unbroken-spelled 2 0x4d m5 ∙ unbroken-spelled 2 b.node m4 ∙ unbroken-spelled 16 b.lo m3 ∙ unbroken-spelled 16 b.hi m2
      ∙ unbroken-spelled 2 b.destination m1 ∙ unbroken-spelled 16 b.base []

  abbrev map_in_bytes : List ℕ
  map_in_bytes = 0x4d ∷ b.node ∷ (word_bytes b.lo ++ (word_bytes b.hi ++ (b.destination ∷ (word_bytes b.base ++ []))))

  map_bytes : b.node < 256 → b.destination < 256 → bytes_of (map_body b) ≡ map_in_bytes
  map_bytes h i =
      byte_spelled 0x4d m5 (omega arith)
      ∙ ap (λ l. 0x4d ∷ l) (byte_spelled b.node m4 h
      ∙ ap (λ l. b.node ∷ l) (word-spelled b.lo m3
      ∙ ap (λ l. word_bytes b.lo ++ l) (word-spelled b.hi m2
      ∙ ap (λ l. word_bytes b.hi ++ l) (byte_spelled b.destination m1 i
      ∙ ap (λ l. b.destination ∷ l) (word-spelled b.base [] ∙ ap (λ l. word_bytes b.base ++ l) no_bytes)))))

  pub map_reads : GoodMap b → line_read Net (map_body b) ≡ Ok (Map b)
  map_reads g =
      let n = g.node_known in
      let d = g.destination_known in
      let r = g.rises in
      let t = g.low in
      let f = g.target_fits in
      read_back (map_body b) map_in_bytes 54
      (digits_spelled 2 0x4d m5 ∙ digits_spelled 2 b.node m4 ∙ digits_spelled 16 b.lo m3 ∙ digits_spelled 16 b.hi m2 ∙ digits_spelled 2 b.destination m1
      ∙ digits_spelled 16 b.base [] ∙ no_digits)
      (omega (
        arith,
        length-append (spelled 2 0x4d) m5,
        length-append (spelled 2 b.node) m4,
        length-append (spelled 16 b.lo) m3,
        length-append (spelled 16 b.hi) m2,
        length-append (spelled 2 b.destination) m1,
        length-append (spelled 16 b.base) [],
        length-spelled 2 0x4d,
        length-spelled 2 b.node,
        length-spelled 16 b.lo,
        length-spelled 16 b.hi,
        length-spelled 2 b.destination,
        length-spelled 16 b.base,
      )) refl
      (map_bytes (omega arith) (omega arith))
      ∙ ap (λ v. Ok (Map (record { node = b.node; lo = v; hi = word_sum b.hi; destination = b.destination; base = word_sum b.base }))) (word_value b.lo (omega arith))
      ∙ ap (λ v. Ok (Map (record { node = b.node; lo = b.lo; hi = v; destination = b.destination; base = word_sum b.base }))) (word_value b.hi t)
      ∙ ap (λ v. Ok (Map (record { node = b.node; lo = b.lo; hi = b.hi; destination = b.destination; base = v }))) (word_value b.base (omega arith))
